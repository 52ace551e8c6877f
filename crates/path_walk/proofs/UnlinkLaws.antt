-- An entry less of a node that is no directory: what is put makes what unlink makes.
use Rattle.std.proofs.Common.{◌≡◌, ◌≢◌, ℕ, zero, suc, ◌-◌, ◌<◌, ◌≤◌, ◌^◌, nat_le, Bool, true, false, cond, List, refl, sym, ap, ◌∙◌, arith, eq-eqb, leb-true, leb-false}
use Rattle.std.specs.Prelude.{IsTrue, Option, Some, None}
use Rattle.std.specs.FinMap.{get}
use Rattle.byte_fields.specs.Fields.{time}
use Rattle.conflict_sets.specs.declared.sets.ReadSet.{ReadSet}
use Rattle.fs_base.specs.Config.{Settings}
use Rattle.fs_base.specs.Names.{is_name}
use Rattle.fs_base.specs.declared.kind.Kind.{Kind}
use Rattle.fs_base.specs.declared.kind.Kind.TheVariants as kinds
use Rattle.fs_base.specs.declared.reply.Reply.TheVariants.{Done}
use Rattle.inode_record.specs.declared.inode.InodeRow.{InodeRow}
use Rattle.key_schema.specs.declared.key.Key.{Key}
use Rattle.row_records.specs.declared.rows.DentRow.{DentRow}
use Rattle.row_records.specs.declared.rows.GcRow.TheVariants.{Waiting}
use Rattle.row_tree.specs.Steps.{recounted}
use Rattle.row_tree.specs.TreeOf.{tree_of}
use Rattle.row_tree.specs.TypedRows.{TypedRows, entries_to, is_to, kind_of}
use Rattle.row_tree.specs.Values.{Value}
use Rattle.row_tree.specs.WellFormed.{IsWellFormed}
use Rattle.row_tree.proofs.Detaching.{unlink_goes, unlink_stays, unlink_waits}
use Rattle.row_tree.proofs.Told.{other_links}
use Rattle.tree_model.specs.declared.walk.Walked.TheVariants.{AtParent}
use Rattle.tree_model.specs.Effects.{Makes}
use Rattle.tree_model.specs.Linking.{unlink_at}
use Rattle.tree_model.specs.Maps.{set}
use Rattle.tree_model.proofs.MapLaws.{get-set_other, ids, names, none_of_count, same_some}
use Rattle.txn_task.specs.Agreeing.{Agrees}
use Rattle.path_walk.specs.Directories.{IsEntryRead, IsRowRead}
use Rattle.path_walk.specs.Puts.{ArePuts, with_puts}
use Rattle.path_walk.specs.RowPuts.{last_puts, left_puts, unlinked_puts}
use Rattle.path_walk.proofs.RowPutLaws.{entry_taken, links_within, node_taken, row_fits, row_put, waiting_put}

-- a node counts the entry that leads to it
module _ (C : Settings) (S : TypedRows) (good : IsWellFormed C S) (dir : ℕ) (name : List ℕ) (e : DentRow) (at : get S.dents (dir, name) ≡ Some e) (row : InodeRow) (there : get S.inodes e.inode ≡ Some row) where
  pub counted_links : kind_of row.part ≢ kinds.Dir → 1 ≤ row.links
  counted_links other = by (entries_to S e.inode) refl
    where
      by : (n : ℕ) → entries_to S e.inode ≡ n → 1 ≤ row.links
      by zero none =
          let passed : false ≡ true = sym (none_of_count names (is_to e.inode) S.dents (dir, name) e none at) ∙ eq-eqb e.inode e.inode refl in
          absurd (cc)
      by (suc n) some = let c : row.links ≡ suc n = other_links C S good e.inode row there other ∙ some in omega arith

  pub entry_links : e.kind ≢ kinds.Dir → 1 ≤ row.links
  entry_links other =
      let target = (good.entry dir name e at).target in
      counted_links (λ k. other (sym (ap (λ (r : InodeRow). kind_of r.part) (same_some row target.0 there target.1) ∙ target.2) ∙ k))

module _ (stamp dir : ℕ) (name : List ℕ) (e : DentRow) (row : InodeRow) where
  abbrev last : Kind → List (Key × Option Value)
  last k = last_puts dir name e.inode k (recounted stamp 0 row)

  abbrev left : List (Key × Option Value)
  left = left_puts dir name e.inode (recounted stamp (row.links - 1) row)

  -- ---- the other rows stay

  last_dents : (S : TypedRows) (k : Kind) → (with_puts S (last k)).dents ≡ set S.dents (dir, name) None
  last_dents S kinds.Dir = refl
  last_dents S kinds.File = refl
  last_dents S kinds.Link = refl

  pub unlinked_dents : (S : TypedRows) → (with_puts S (unlinked_puts stamp dir name e row)).dents ≡ set S.dents (dir, name) None
  unlinked_dents S = by (nat_le 2 row.links)
    where
      by : (b : Bool) → (with_puts S (cond b left (last e.kind))).dents ≡ set S.dents (dir, name) None
      by true = refl
      by false = last_dents S e.kind

  last_inodes : (S : TypedRows) (k : Kind) (id : ℕ) → id ≢ e.inode → get (with_puts S (last k)).inodes id ≡ get S.inodes id
  last_inodes S kinds.Dir id other = get-set_other ids S.inodes e.inode None id other
  last_inodes S kinds.File id other = get-set_other ids S.inodes e.inode (Some (recounted stamp 0 row)) id other
  last_inodes S kinds.Link id other = get-set_other ids S.inodes e.inode None id other

  pub unlinked_inodes : (S : TypedRows) (id : ℕ) → id ≢ e.inode → get (with_puts S (unlinked_puts stamp dir name e row)).inodes id ≡ get S.inodes id
  unlinked_inodes S id other = by (nat_le 2 row.links)
    where
      by : (b : Bool) → get (with_puts S (cond b left (last e.kind))).inodes id ≡ get S.inodes id
      by true = get-set_other ids S.inodes e.inode (Some (recounted stamp (row.links - 1) row)) id other
      by false = last_inodes S e.kind id other

  -- ---- what is made

  module _ (C : Settings) (no_dir : e.kind ≢ kinds.Dir) where
    abbrev IsMade : TypedRows → List (Key × Option Value) → Type 0
    IsMade S puts = IsWellFormed C (with_puts S puts) × (unlink_at (tree_of S) stamp (AtParent dir name) ≡ Makes (tree_of (with_puts S puts)) Done)

    module _ (S : TypedRows) (good : IsWellFormed C S) (at : get S.dents (dir, name) ≡ Some e) (there : get S.inodes e.inode ≡ Some row) where
      one_left : row.links < 2 → row.links ≡ 1
      one_left few = let some = entry_links C S good dir name e at row there no_dir in omega arith

      last_made : row.links < 2 → (k : Kind) → e.kind ≡ k → IsMade S (last k)
      last_made few kinds.Dir is = absurd (no_dir is)
      last_made few kinds.File is = unlink_waits C S good stamp dir name e at row there no_dir (one_left few) is
      last_made few kinds.Link is = unlink_goes C S good stamp dir name e at row there no_dir (one_left few) is

      pub unlinked_made : IsWellFormed C (with_puts S (unlinked_puts stamp dir name e row))
          × (unlink_at (tree_of S) stamp (AtParent dir name) ≡ Makes (tree_of (with_puts S (unlinked_puts stamp dir name e row))) Done)
      unlinked_made = by (nat_le 2 row.links) refl
        where
          by : (b : Bool) → nat_le 2 row.links ≡ b → IsMade S (cond b left (last e.kind))
          by true more = unlink_stays C S good stamp dir name e at row there no_dir (leb-true 2 row.links more)
          by false few = last_made (leb-false 2 row.links few) e.kind refl

    -- ---- each put changes its row

    module _ (reads : ReadSet) (entry : IsEntryRead reads dir name e) (is : IsRowRead reads e.inode row) (small : e.inode < 2 ^ 36) (low : dir < 2 ^ 36) (named : IsTrue (is_name name)) (time_ok : IsTrue (time.fits stamp)) where
      -- no file waits that an entry leads to
      not_waiting : (S : TypedRows) → IsWellFormed C S → Agrees S reads → row.links ≡ 1 → get S.doomed e.inode ≢ Some Waiting
      not_waiting S good agrees one at =
          let doom = (good.doomed e.inode Waiting at).0 in
          let same : row.links ≡ doom.0.links = ap (λ (r : InodeRow). r.links) (same_some row doom.0 (is.there S agrees) doom.1) in
          let zero : doom.0.links ≡ 0 = doom.3 in
          omega arith

      one : (S : TypedRows) → IsWellFormed C S → Agrees S reads → row.links < 2 → row.links ≡ 1
      one S good agrees few = one_left S good (entry.there S agrees) (is.there S agrees) few

      gone_are : ArePuts C reads (last kinds.Link)
      gone_are = (node_taken C reads e.inode small (λ S good agrees. (row, is.there S agrees)), (entry_taken C reads dir name low named e entry.there, tt))

      last_are : row.links < 2 → (k : Kind) → ArePuts C reads (last k)
      last_are few kinds.Dir = gone_are
      last_are few kinds.Link = gone_are
      last_are few kinds.File = (
        waiting_put C reads e.inode small (λ S good agrees. not_waiting S good agrees (one S good agrees few)),
        (
          row_put C reads e.inode small row is.there stamp 0 time_ok (λ S good agrees. let some = one S good agrees few in (omega arith, (λ q. omega arith))),
          (entry_taken C reads dir name low named e entry.there, tt),
        ),
      )

      pub unlinked_are : ArePuts C reads (unlinked_puts stamp dir name e row)
      unlinked_are = by (nat_le 2 row.links) refl
        where
          by : (b : Bool) → nat_le 2 row.links ≡ b → ArePuts C reads (cond b left (last e.kind))
          by true more =
              let some : 2 ≤ row.links = leb-true 2 row.links more in (
                row_put C reads e.inode small row is.there stamp (row.links - 1) time_ok
                    (λ S good agrees. let most = links_within row (row_fits reads e.inode row is.there S agrees) in (omega arith, (λ q. omega arith))),
                (entry_taken C reads dir name low named e entry.there, tt),
              )
          by false few = last_are (leb-false 2 row.links few) e.kind
