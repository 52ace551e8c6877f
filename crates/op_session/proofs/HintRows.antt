-- A file's row with another hint, from 1 to the stripe, may be spelled; and the row put.
use Rattle.std.proofs.Common.{◌≡◌, ℕ, zero, suc, ◌+◌, ◌<◌, ◌≤◌, ◌^◌, Bool, true, false, cond, nat_lt, ◌&&◌, ◌≢◌, [], refl, sym, ap, subst, ◌∙◌, inr, arith}
use Rattle.std.specs.Prelude.{IsTrue, Some}
use Rattle.std.proofs.lemmas.Bool.{and_parts, ltb-false}
use Rattle.byte_fields.specs.Fields.{file_size, layout, number_2, number_4, used_layout, within}
use Rattle.byte_fields.proofs.InRange.{both, fits_2, within_fits}
use Rattle.fs_base.specs.declared.layout.Layout.{Layout}
use Rattle.fs_base.specs.declared.reply.FileInfo.{FileInfo}
use Rattle.inode_record.specs.Inode.{file_part, is_inode, spelled_inode}
use Rattle.inode_record.specs.declared.inode.InodePart.{InodePart}
use Rattle.inode_record.specs.declared.inode.InodePart.TheVariants as parts
use Rattle.inode_record.specs.declared.inode.InodeRow.{InodeRow}
use Rattle.inode_record.proofs.InRange.{fits_row, is_part, row_fits}
use Rattle.key_schema.specs.Keys.{spelled_key}
use Rattle.key_schema.specs.declared.key.Key.TheVariants as keys
use Rattle.row_tree.specs.Steps.{hinted_row, part_hinted}
use Rattle.row_tree.specs.TreeOf.{node_part}
use Rattle.row_tree.specs.Values.{spelled_value}
use Rattle.tree_model.specs.Sessions.{file_of}
use Rattle.txn_task.specs.Transactions.{Transaction}
use Rattle.txn_task.specs.Writes.{set_write}
use Rattle.op_session.specs.Ending.{PutsHint}

-- ---- the row

-- a part that is a file
pub record IsFilePart (id : ℕ) (part : InodePart) (file : FileInfo) : Type 0 where
  pub is : part ≡ parts.File file.length file.truncs file.layout file.hint
  pub inode : file.inode ≡ id

abbrev info : ℕ → ℕ → ℕ → Layout → ℕ → FileInfo
info id length truncs used hint = record { inode = id; length = length; truncs = truncs; layout = used; hint = hint }

pub file_parts : (id : ℕ) (part : InodePart) (file : FileInfo) → file_of id (node_part part) ≡ Some file → IsFilePart id part file
file_parts id (parts.Dir parent chunk stripe) file is = absurd (cc)
file_parts id (parts.File length truncs layout hint) file is = by is
  where
    same : (a f : FileInfo) → Some a ≡ Some f → f ≡ a
    same a f e = cc

    by : Some (info id length truncs layout hint) ≡ Some file → IsFilePart id (parts.File length truncs layout hint) file
    by e = subst (IsFilePart id (parts.File length truncs layout hint)) (sym (same (info id length truncs layout hint) file e)) (record { is = refl; inode = refl })
file_parts id (parts.Link target) file is = absurd (cc)

part_fits : (length truncs : ℕ) (used : Layout) (old hint : ℕ) → is_part (parts.File length truncs used old) ≡ true → hint < 2 ^ 16 → 1 ≤ hint → hint ≤ used.stripe → is_part (parts.File length truncs used hint) ≡ true
unfolding file_part used_layout
part_fits length truncs used old hint fits small from to =
    let size = and_parts (file_size.fits length) (number_4.fits truncs && (layout.fits used && (within number_2 1 used.stripe).fits old)) fits in
    let count = and_parts (number_4.fits truncs) (layout.fits used && (within number_2 1 used.stripe).fits old) size.1 in
    let places = and_parts (layout.fits used) ((within number_2 1 used.stripe).fits old) count.1 in
    both size.0 (both count.0 (both places.0 (within_fits number_2 1 used.stripe hint (fits_2 hint small) from to)))

pub hinted_fits : (row : InodeRow) (file : FileInfo) (hint : ℕ) → row.part ≡ parts.File file.length file.truncs file.layout file.hint → IsTrue (is_inode row) → hint < 2 ^ 16 → 1 ≤ hint → hint ≤ file.layout.stripe → IsTrue (is_inode (hinted_row hint row))
hinted_fits row file hint is fits small from to =
    let each = fits_row row fits in
    row_fits (hinted_row hint row) each.0
    (subst (λ (p : InodePart). is_part (part_hinted hint p) ≡ true) (sym is)
    (part_fits file.length file.truncs file.layout file.hint hint (subst (λ (p : InodePart). is_part p ≡ true) is each.1) small from to))

-- the hint that it has
pub same_hint : (row : InodeRow) (file : FileInfo) → row.part ≡ parts.File file.length file.truncs file.layout file.hint → hinted_row file.hint row ≡ row
same_hint row file is =
    ap (λ (p : InodePart). record row { part = part_hinted file.hint p }) is
    ∙ ap (λ (p : InodePart). record row { part = p }) (sym is)

-- ---- the row put

pub puts_other : (t u : Transaction) (id old hint : ℕ) (row new : InodeRow) → t.writes ≡ [] → hint ≢ old → new ≡ hinted_row hint row
    → u ≡ record t { writes = set_write (spelled_key (keys.Inode id)) (Some (spelled_inode new)) t.writes } → PutsHint id old hint row t u
unfolding spelled_value
puts_other t u id old hint row new none other is after =
    inr (
      other,
      after
          ∙ ap (λ ws. record t { writes = set_write (spelled_key (keys.Inode id)) (Some (spelled_inode new)) ws }) none
          ∙ ap (λ (r : InodeRow). record t { writes = set_write (spelled_key (keys.Inode id)) (Some (spelled_inode r)) [] }) is,
    )
