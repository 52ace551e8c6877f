-- What is put for an entry that moves: the puts one after another, that each changes its row, and the rows that they make.
use Rattle.std.proofs.Common.{◌≡◌, ◌≢◌, ℕ, ◌<◌, ◌^◌, ◌==◌, Bool, true, false, cond, List, ◌∷◌, refl, sym, ap, ◌∙◌, eq-eqb, eqb-true, ne_eqb}
use Rattle.std.specs.Prelude.{IsTrue, Option, Some, None}
use Rattle.std.specs.Option.{option_map}
use Rattle.std.specs.FinMap.{get, insert, remove}
use Rattle.std.proofs.lemmas.Bool.{and_parts}
use Rattle.byte_fields.specs.Fields.{inode_id}
use Rattle.byte_fields.proofs.InRange.{both, id_fits}
use Rattle.conflict_sets.specs.declared.sets.ReadSet.{ReadSet}
use Rattle.fs_base.specs.Config.{Settings}
use Rattle.fs_base.specs.Names.{is_name}
use Rattle.fs_base.specs.declared.kind.Kind.TheVariants as kinds
use Rattle.inode_record.specs.Inode.{dir_part, is_inode, spelled_inode}
use Rattle.inode_record.specs.declared.inode.InodePart.{InodePart}
use Rattle.inode_record.specs.declared.inode.InodePart.TheVariants as parts
use Rattle.inode_record.specs.declared.inode.InodeRow.{InodeRow}
use Rattle.inode_record.proofs.InRange as inode_range
use Rattle.inode_record.proofs.InRange.{is_part}
use Rattle.key_schema.specs.Keys.{spelled_key}
use Rattle.key_schema.specs.declared.key.Key.{Key}
use Rattle.key_schema.specs.declared.key.Key.TheVariants as keys
use Rattle.row_records.specs.Rows.{spelled_dent}
use Rattle.row_records.specs.declared.rows.DentRow.{DentRow}
use Rattle.row_records.proofs.InRange.{entry_fits}
use Rattle.row_tree.specs.Steps.{reparented, under, with_move}
use Rattle.row_tree.specs.TypedRows.{TypedRows, kind_of, parent_of}
use Rattle.row_tree.specs.Values.{Value, DentValue, InodeValue, spelled_value}
use Rattle.row_tree.specs.WellFormed.{IsWellFormed}
use Rattle.row_tree.proofs.Adding.{parent_at_row}
use Rattle.tree_model.proofs.MapLaws.{ids, same_some, set_present, some_injective}
use Rattle.txn_task.specs.Agreeing.{Agrees}
use Rattle.txn_task.specs.Transactions.{Transaction}
use Rattle.txn_task.specs.Writes.{set_write}
use Rattle.path_walk.specs.Directories.{IsEntryRead, IsNameRead, IsRowRead}
use Rattle.path_walk.specs.Puts.{ArePuts, IsPut, put_writes, with_puts}
use Rattle.path_walk.proofs.RowPutLaws.{entry_taken, row_fits}
use Rattle.op_rename.specs.Puts.{PutsMore, dir_puts, moved_puts}
use Rattle.op_rename.specs.Replace.{IsOtherNode}
use Rattle.op_rename.specs.declared.place.Spots.{Spots}

-- ---- one after another

abbrev with_put : Transaction → Key → Option Value → Transaction
with_put t key value = record t { writes = set_write (spelled_key key) (option_map spelled_value value) t.writes }

module _ (t a u : Transaction) (spots : Spots) (e : DentRow) where
  abbrev from_key : Key
  from_key = keys.Dent spots.from.dir spots.from.name

  abbrev to_key : Key
  to_key = keys.Dent spots.to.dir spots.to.name

  pub puts_moved : a ≡ record t { writes = set_write (spelled_key (keys.Dent spots.from.dir spots.from.name)) None t.writes }
      → u ≡ record a { writes = set_write (spelled_key (keys.Dent spots.to.dir spots.to.name)) (Some (spelled_dent e)) a.writes } → PutsMore (moved_puts spots e) t u
  unfolding spelled_value
  puts_moved first second before is =
      second ∙ ap (λ (x : Transaction). with_put x to_key (Some (DentValue e))) (first ∙ ap (λ ws. record t { writes = set_write (spelled_key from_key) None ws }) is)

  module _ (row : InodeRow) where
    abbrev by_dirs : List (Key × Option Value) → Bool → List (Key × Option Value)
    by_dirs before b = cond b (moved_puts spots e before) ((keys.Inode e.inode, Some (InodeValue (under spots.to.dir row))) ∷ moved_puts spots e before)

    pub puts_inside : PutsMore (moved_puts spots e) t u → spots.from.dir ≡ spots.to.dir → PutsMore (dir_puts spots e row) t u
    puts_inside more same before is = more before is ∙ ap (λ b. record t { writes = put_writes (by_dirs before b) }) (sym (eq-eqb spots.from.dir spots.to.dir same))

    pub puts_across : PutsMore (moved_puts spots e) t a → spots.from.dir ≢ spots.to.dir → (new : InodeRow) → new ≡ under spots.to.dir row
        → u ≡ record a { writes = set_write (spelled_key (keys.Inode e.inode)) (Some (spelled_inode new)) a.writes } → PutsMore (dir_puts spots e row) t u
    unfolding spelled_value
    puts_across more other new is_new second before is =
        second
        ∙ ap (λ (r : InodeRow). record a { writes = set_write (spelled_key (keys.Inode e.inode)) (Some (spelled_inode r)) a.writes }) is_new
        ∙ ap (λ (x : Transaction). with_put x (keys.Inode e.inode) (Some (InodeValue (under spots.to.dir row)))) (more before is)
        ∙ ap (λ b. record t { writes = put_writes (by_dirs before b) }) (sym (ne_eqb spots.from.dir spots.to.dir other))

-- ---- a directory's row with another parent

under_same : (p : ℕ) (part : InodePart) → parent_of part ≡ Some p → reparented p part ≡ part
under_same p (parts.Dir parent chunk stripe) is = let same : parent ≡ p = some_injective parent p is in λ i. parts.Dir (sym same i) chunk stripe
under_same p (parts.File length truncs layout hint) is = refl
under_same p (parts.Link target) is = refl

pub under_leaf : (p : ℕ) (part : InodePart) → kind_of part ≢ kinds.Dir → reparented p part ≡ part
under_leaf p (parts.Dir parent chunk stripe) no_dir = absurd (no_dir refl)
under_leaf p (parts.File length truncs layout hint) no_dir = refl
under_leaf p (parts.Link target) no_dir = refl

under_parent : (p : ℕ) (part : InodePart) → kind_of part ≡ kinds.Dir → parent_of (reparented p part) ≡ Some p
under_parent p (parts.Dir parent chunk stripe) k = refl
under_parent p (parts.File length truncs layout hint) k = cc
under_parent p (parts.Link target) k = cc

part_fits : (p : ℕ) (part : InodePart) → p < 2 ^ 36 → is_part part ≡ true → is_part (reparented p part) ≡ true
unfolding dir_part
part_fits p (parts.Dir parent c s) small fits = both (id_fits p small) (and_parts (inode_id.fits parent) _ fits).1
part_fits p (parts.File length truncs layout hint) small fits = fits
part_fits p (parts.Link target) small fits = fits

under_fits : (p : ℕ) (row : InodeRow) → p < 2 ^ 36 → IsTrue (is_inode row) → IsTrue (is_inode (under p row))
under_fits p row small fits = let has = inode_range.fits_row row fits in inode_range.row_fits (under p row) has.0 (part_fits p row.part small has.1)

-- ---- each put changes its row

abbrev inode_in : ℕ → Option Value → ℕ
inode_in d (Some (DentValue e)) = e.inode
inode_in d _ = d

abbrev parent_in : Option Value → Option ℕ
parent_in (Some (InodeValue row)) = parent_of row.part
parent_in _ = None

module _ (C : Settings) (reads : ReadSet) (spots : Spots) (e : DentRow) where
  -- another entry stood there, or none
  stood : (o : Option DentRow) → IsOtherNode e o → option_map DentValue o ≢ Some (DentValue e)
  stood None other same = absurd (cc)
  stood (Some old) other same = other (ap (inode_in e.inode) same)

  module _ (entry : IsEntryRead reads spots.from.dir spots.from.name e) (from_low : spots.from.dir < 2 ^ 36) (from_named : IsTrue (is_name spots.from.name)) (low : spots.to.dir < 2 ^ 36) (named : IsTrue (is_name spots.to.name)) (small : e.inode < 2 ^ 36) where
    pub moved_are : (taken : Option DentRow) → IsNameRead reads spots.to.dir spots.to.name taken → IsOtherNode e taken → (before : List (Key × Option Value)) → ArePuts C reads before → ArePuts C reads (moved_puts spots e before)
    moved_are taken read other before are = (
      record {
        valid = (low, named);
        no_kept = refl;
        changes = λ S good agrees. ((refl, entry_fits e.inode e.kind small), (λ same. stood taken other (sym (ap (option_map DentValue) (read.there S agrees)) ∙ same)));
      },
      (entry_taken C reads spots.from.dir spots.from.name from_low from_named e entry.there, are),
    )

    module _ (row : InodeRow) (is : IsRowRead reads e.inode row) (is_dir : e.kind ≡ kinds.Dir) where
      row_dir : (S : TypedRows) → IsWellFormed C S → Agrees S reads → kind_of row.part ≡ kinds.Dir
      row_dir S good agrees =
          let target = (good.entry spots.from.dir spots.from.name e (entry.there S agrees)).target in
          ap (λ (r : InodeRow). kind_of r.part) (same_some row target.0 (is.there S agrees) target.1) ∙ target.2 ∙ is_dir

      pub row_parent : (S : TypedRows) → IsWellFormed C S → Agrees S reads → parent_of row.part ≡ Some spots.from.dir
      row_parent S good agrees = sym (parent_at_row S e.inode row (is.there S agrees)) ∙ (good.entry spots.from.dir spots.from.name e (entry.there S agrees)).inside is_dir

      across_put : spots.from.dir ≢ spots.to.dir → IsPut C reads (keys.Inode e.inode) (Some (InodeValue (under spots.to.dir row)))
      across_put other = record {
        valid = small;
        no_kept = refl;
        changes = λ S good agrees. (
          (refl, under_fits spots.to.dir row low (row_fits reads e.inode row is.there S agrees)),
          (λ same.
              let now = ap parent_in (sym (ap (option_map InodeValue) (is.there S agrees)) ∙ same) in
              other (some_injective spots.from.dir spots.to.dir (sym (row_parent S good agrees) ∙ now ∙ under_parent spots.to.dir row.part (row_dir S good agrees)))),
        );
      }

      pub dir_are : (before : List (Key × Option Value)) → ArePuts C reads (moved_puts spots e before) → ArePuts C reads (dir_puts spots e row before)
      dir_are before are = by (spots.from.dir == spots.to.dir) refl
        where
          by : (b : Bool) → (spots.from.dir == spots.to.dir) ≡ b → ArePuts C reads (cond b (moved_puts spots e before) ((keys.Inode e.inode, Some (InodeValue (under spots.to.dir row))) ∷ moved_puts spots e before))
          by true same = are
          by false other = (across_put (λ q. let clash : false ≡ true = sym other ∙ eq-eqb spots.from.dir spots.to.dir q in cc), are)

-- ---- the rows that they make

module _ (S : TypedRows) (spots : Spots) (e : DentRow) (row : InodeRow) (before : List (Key × Option Value)) where
  abbrev base : TypedRows
  base = with_puts S before

  pub made_moved : get (with_puts S before).inodes e.inode ≡ Some (under spots.to.dir row)
      → with_puts S (moved_puts spots e before) ≡ with_move (with_puts S before) spots.from.dir spots.from.name e row spots.to.dir spots.to.name
  made_moved is = λ i. record base {
    inodes = sym (set_present ids (base).inodes e.inode (Some (under spots.to.dir row)) is) i;
    dents = insert (remove (base).dents (spots.from.dir, spots.from.name)) (spots.to.dir, spots.to.name) e;
  }

  pub made_dir : get (with_puts S before).inodes e.inode ≡ Some row → parent_of row.part ≡ Some spots.from.dir
      → with_puts S (dir_puts spots e row before) ≡ with_move (with_puts S before) spots.from.dir spots.from.name e row spots.to.dir spots.to.name
  made_dir is parent = by (spots.from.dir == spots.to.dir) refl
    where
      by : (b : Bool) → (spots.from.dir == spots.to.dir) ≡ b
          → with_puts S (cond b (moved_puts spots e before) ((keys.Inode e.inode, Some (InodeValue (under spots.to.dir row))) ∷ moved_puts spots e before))
          ≡ with_move (with_puts S before) spots.from.dir spots.from.name e row spots.to.dir spots.to.name
      by true same =
          made_moved (is ∙ ap (λ (p : InodePart). Some (record row { part = p })) (sym (under_same spots.to.dir row.part (parent ∙ ap Some (eqb-true spots.from.dir spots.to.dir same)))))
      by false other = refl

-- more puts on top of what was put
pub puts_then : (t a u : Transaction) (more : List (Key × Option Value) → List (Key × Option Value)) (before : List (Key × Option Value)) → a ≡ record t { writes = put_writes before } → PutsMore more a u
    → u ≡ record t { writes = put_writes (more before) }
puts_then t a u more before first second = second before (ap (λ (x : Transaction). x.writes) first) ∙ ap (λ (x : Transaction). record x { writes = put_writes (more before) }) first
