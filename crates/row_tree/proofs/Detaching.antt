-- An entry taken away: what unlink and rmdir come to by what the rows have, and the rows without it.
use Rattle.std.proofs.Common.{◌≡◌, ◌≢◌, ℕ, ◌-◌, ◌≤◌, ◌==◌, Bool, true, false, not, cond, List, refl, sym, ap, ◌∙◌, inl, inr, arith, eq-eqb, ne_eqb, eqb-true}
use Rattle.std.specs.Prelude.{Option, Some, None}
use Rattle.std.specs.FinMap.{get, insert}
use Rattle.fs_base.specs.Config.{Settings}
use Rattle.fs_base.specs.declared.code.Code.TheVariants as codes
use Rattle.fs_base.specs.declared.kind.Kind.TheVariants as kinds
use Rattle.fs_base.specs.declared.reply.Reply.TheVariants.{Done}
use Rattle.inode_record.specs.declared.inode.InodePart.{InodePart}
use Rattle.inode_record.specs.declared.inode.InodePart.TheVariants as parts
use Rattle.inode_record.specs.declared.inode.InodeRow.{InodeRow}
use Rattle.row_records.specs.declared.rows.DentRow.{DentRow}
use Rattle.row_records.specs.declared.rows.GcRow.TheVariants.{Waiting}
use Rattle.tree_model.specs.declared.kept.Doom.TheVariants as dooms
use Rattle.tree_model.specs.declared.node.Node.{Node}
use Rattle.tree_model.specs.declared.walk.Walked.TheVariants.{AtParent}
use Rattle.tree_model.specs.Attributes.{count_to}
use Rattle.tree_model.specs.Effects.{Effect, Makes, refuses}
use Rattle.tree_model.specs.Finding.{if_there}
use Rattle.tree_model.specs.Linking.{without_dir, without_entry, with_touched, let_go, unlink_part, unlink_entry, unlink_at, is_empty_dir, rmdir_part, rmdir_entry, rmdir_at}
use Rattle.tree_model.specs.Tree.{Tree}
use Rattle.tree_model.proofs.Lasts.{last_entry}
use Rattle.tree_model.proofs.MapLaws.{ids, names, some_or_none, not_some, same_some, found_passes, passes_each, map_values-set}
use Rattle.row_tree.specs.Steps.{MayRelink, MayRemove, count_if, recounted, with_entry, without_node}
use Rattle.row_tree.specs.TreeOf.{tree_of, node_of, node_part, doom_of}
use Rattle.row_tree.specs.TypedRows.{TypedRows, kind_of, entries_to}
use Rattle.row_tree.specs.WellFormed.{IsWellFormed, HasKind}
use Rattle.row_tree.proofs.Relinking.{relinks, tree_with_entry}
use Rattle.row_tree.proofs.Removing.{removes_node, same_kind, tree_without_node}
use Rattle.row_tree.proofs.Telling.{entry_is, node_is}
use Rattle.row_tree.proofs.Told.{count_told, other_links}

-- what is no directory has no entry
pub no_entry_in : (C : Settings) (S : TypedRows) → IsWellFormed C S → (dir : ℕ) (name : List ℕ) → (HasKind S dir kinds.Dir → ⊥) → get S.dents (dir, name) ≡ None
no_entry_in C S good dir name not_dir = elim (some_or_none (get S.dents (dir, name))) [
  | inl none ↦ none
  | inr at ↦ absurd (not_dir ((good.entry dir name at.0 at.1).parent))
]

-- a directory is empty in the tree exactly where no row lies in it
pub empty_told : (S : TypedRows) (dir : ℕ) → ((name : List ℕ) → get S.dents (dir, name) ≡ None) → is_empty_dir (tree_of S) dir ≡ true
empty_told S dir none = passes_each names (λ (key : ℕ × List ℕ) (id : ℕ). not (key.0 == dir)) (tree_of S).entries (λ key id is. by key id (key.0 == dir) refl is)
  where
    by : (key : ℕ × List ℕ) (id : ℕ) (b : Bool) → (key.0 == dir) ≡ b → get (tree_of S).entries key ≡ Some id → not b ≡ true
    by key id false e is = refl
    by key id true e is =
        let empty : get S.dents key ≡ None = ap (λ (x : ℕ). get S.dents (x, key.1)) (eqb-true key.0 dir e) ∙ none key.1 in
        absurd (not_some id (entry_is S key.0 key.1 None empty) is)

pub used_told : (S : TypedRows) (dir : ℕ) (name : List ℕ) (e : DentRow) → get S.dents (dir, name) ≡ Some e → is_empty_dir (tree_of S) dir ≡ false
used_told S dir name e is = by (is_empty_dir (tree_of S) dir) refl
  where
    by : (b : Bool) → is_empty_dir (tree_of S) dir ≡ b → b ≡ false
    by false h = refl
    by true h =
        let passes : not (dir == dir) ≡ true = found_passes names (λ (key : ℕ × List ℕ) (id : ℕ). not (key.0 == dir)) (tree_of S).entries h (dir, name) e.inode (entry_is S dir name (Some e) is) in
        let clash : false ≡ true = sym (ap not (eq-eqb dir dir refl)) ∙ passes in cc

module _ (C : Settings) (S : TypedRows) (good : IsWellFormed C S) (stamp dir : ℕ) (name : List ℕ) where
  abbrev tree : Tree
  tree = tree_of S

  pub rmdir_absent : get S.dents (dir, name) ≡ None → rmdir_at (tree_of S) (AtParent dir name) ≡ refuses codes.NotFound
  rmdir_absent none = ap (rmdir_entry (tree_of S) dir name) (entry_is S dir name None none)

  pub unlink_absent : get S.dents (dir, name) ≡ None → unlink_at (tree_of S) stamp (AtParent dir name) ≡ refuses codes.NotFound
  unlink_absent none = ap (unlink_entry (tree_of S) stamp dir name) (entry_is S dir name None none)

  module _ (e : DentRow) (at : get S.dents (dir, name) ≡ Some e) where
    pub target : HasKind S e.inode e.kind
    target = (good.entry dir name e at).target

    not_root : e.inode ≢ 0
    not_root = (good.entry dir name e at).not_root

    rmdir_target : rmdir_at (tree_of S) (AtParent dir name) ≡ rmdir_part (tree_of S) dir name e.inode (node_part target.0.part)
    rmdir_target =
        ap (rmdir_entry (tree_of S) dir name) (entry_is S dir name (Some e) at)
        ∙ ap (λ (o : Option Node). if_there o (λ node. rmdir_part (tree_of S) dir name e.inode node.part)) (node_is S e.inode (Some target.0) target.1)

    pub unlink_target : unlink_at (tree_of S) stamp (AtParent dir name) ≡ unlink_part (tree_of S) stamp dir name e.inode (node_of target.0) (node_part target.0.part)
    unlink_target =
        ap (unlink_entry (tree_of S) stamp dir name) (entry_is S dir name (Some e) at)
        ∙ ap (λ (o : Option Node). if_there o (λ node. unlink_part (tree_of S) stamp dir name e.inode node node.part)) (node_is S e.inode (Some target.0) target.1)

    pub rmdir_other : e.kind ≢ kinds.Dir → rmdir_at (tree_of S) (AtParent dir name) ≡ refuses codes.NotDir
    rmdir_other not_dir = rmdir_target ∙ by_part target.0.part (λ k. not_dir (sym target.2 ∙ k))
      where
        by_part : (part : InodePart) → kind_of part ≢ kinds.Dir → rmdir_part (tree_of S) dir name e.inode (node_part part) ≡ refuses codes.NotDir
        by_part (parts.Dir parent chunk stripe) never = absurd (never refl)
        by_part (parts.File length truncs layout hint) never = refl
        by_part (parts.Link path) never = refl

    pub unlink_dir : e.kind ≡ kinds.Dir → unlink_at (tree_of S) stamp (AtParent dir name) ≡ refuses codes.IsDir
    unlink_dir is_dir = unlink_target ∙ by_part target.0.part (target.2 ∙ is_dir)
      where
        by_part : (part : InodePart) → kind_of part ≡ kinds.Dir → unlink_part (tree_of S) stamp dir name e.inode (node_of target.0) (node_part part) ≡ refuses codes.IsDir
        by_part (parts.Dir parent chunk stripe) k = refl
        by_part (parts.File length truncs layout hint) k = cc
        by_part (parts.Link path) k = cc

    module _ (is_dir : e.kind ≡ kinds.Dir) where
      abbrev by_empty : Bool → Effect
      by_empty b = cond b (Makes (without_dir (tree_of S) dir name e.inode) Done) (refuses codes.NotEmpty)

      rmdir_dir : rmdir_at (tree_of S) (AtParent dir name) ≡ by_empty (is_empty_dir (tree_of S) e.inode)
      rmdir_dir = rmdir_target ∙ by_part target.0.part (target.2 ∙ is_dir)
        where
          by_part : (part : InodePart) → kind_of part ≡ kinds.Dir → rmdir_part (tree_of S) dir name e.inode (node_part part) ≡ by_empty (is_empty_dir (tree_of S) e.inode)
          by_part (parts.Dir parent chunk stripe) k = refl
          by_part (parts.File length truncs layout hint) k = cc
          by_part (parts.Link path) k = cc

      pub rmdir_used : (other : List ℕ) (f : DentRow) → get S.dents (e.inode, other) ≡ Some f → rmdir_at (tree_of S) (AtParent dir name) ≡ refuses codes.NotEmpty
      rmdir_used other f is = rmdir_dir ∙ ap by_empty (used_told S e.inode other f is)

      pub rmdir_empty : ((other : List ℕ) → get S.dents (e.inode, other) ≡ None)
          → IsWellFormed C (without_node S dir name e) × (rmdir_at (tree_of S) (AtParent dir name) ≡ Makes (tree_of (without_node S dir name e)) Done)
      rmdir_empty none =
          let linked = good.linked e.inode target.0 target.1 not_root in
          let may : MayRemove S dir name e = record { entry = at; only = sym linked.count ∙ linked.dir (target.2 ∙ is_dir); no_file = λ f. let clash : kinds.File ≡ kinds.Dir = sym f ∙ is_dir in cc; empty = none } in (
            removes_node C S good dir name e may,
            rmdir_dir ∙ ap by_empty (empty_told S e.inode none) ∙ ap (λ (T : Tree). Makes T Done) (sym (tree_without_node S dir name e)),
          )

    module _ (row : InodeRow) (there : get S.inodes e.inode ≡ Some row) (no_dir : e.kind ≢ kinds.Dir) where
      kind_is : kind_of row.part ≡ e.kind
      kind_is = ap (λ (r : InodeRow). kind_of r.part) (same_some row target.0 there target.1) ∙ target.2

      part_no_dir : kind_of row.part ≢ kinds.Dir
      part_no_dir k = no_dir (sym kind_is ∙ k)

      row_count : row.links ≡ entries_to S e.inode
      row_count = other_links C S good e.inode row there part_no_dir

      -- no entry lies in what is no directory
      pub nothing_in : (other : List ℕ) → get S.dents (e.inode, other) ≡ None
      nothing_in other = no_entry_in C S good e.inode other (λ has. no_dir (same_kind S e.inode e.kind kinds.Dir target has))

      abbrev by_last : Bool → Effect
      by_last b = Makes (cond b (let_go (without_entry (tree_of S) dir name) stamp e.inode (node_of row) (node_part row.part)) (with_touched (without_entry (tree_of S) dir name) stamp e.inode (node_of row))) Done

      unlink_made : unlink_at (tree_of S) stamp (AtParent dir name) ≡ by_last (row.links == 1)
      unlink_made =
          unlink_target
          ∙ ap (λ (r : InodeRow). unlink_part (tree_of S) stamp dir name e.inode (node_of r) (node_part r.part)) (same_some target.0 row target.1 there)
          ∙ by_part row.part refl
          ∙ ap by_last (last_entry (tree_of S) dir name e.inode (entry_is S dir name (Some e) at) ∙ ap (λ n. n == 1) (count_told S e.inode ∙ sym row_count))
        where
          by_part : (part : InodePart) → row.part ≡ part → unlink_part (tree_of S) stamp dir name e.inode (node_of row) (node_part part) ≡ by_last (count_to (without_entry (tree_of S) dir name) e.inode == 0)
          by_part (parts.Dir parent chunk stripe) is = absurd (part_no_dir (ap kind_of is))
          by_part (parts.File length truncs layout hint) is = refl
          by_part (parts.Link path) is = refl

      -- other entries are left
      pub unlink_stays : 2 ≤ row.links → IsWellFormed C (with_entry S dir name None e.inode (recounted stamp (row.links - 1) row) S.doomed)
          × (unlink_at (tree_of S) stamp (AtParent dir name) ≡ Makes (tree_of (with_entry S dir name None e.inode (recounted stamp (row.links - 1) row) S.doomed)) Done)
      unlink_stays more =
          let may : MayRelink S dir name None e.inode row (recounted stamp (row.links - 1) row) S.doomed = record {
            there = there;
            linked = omega arith;
            no_dir = part_no_dir;
            part = refl;
            was = λ f is. ap (λ (r : DentRow). r.inode) (same_some f e is at);
            is = λ f is. absurd (not_some f refl is);
            count = let one = ap count_if at in omega arith;
            fate = inl (omega arith, refl);
          } in (
            relinks C S good dir name None e.inode row (recounted stamp (row.links - 1) row) S.doomed may,
            unlink_made ∙ ap by_last (ne_eqb row.links 1 (λ q. omega arith)) ∙ ap (λ (T : Tree). Makes T Done) (sym (tree_with_entry S dir name None e.inode (recounted stamp (row.links - 1) row) S.doomed)),
          )

      -- the last entry of a file: it waits
      pub unlink_waits : row.links ≡ 1 → e.kind ≡ kinds.File → IsWellFormed C (with_entry S dir name None e.inode (recounted stamp 0 row) (insert S.doomed e.inode Waiting))
          × (unlink_at (tree_of S) stamp (AtParent dir name) ≡ Makes (tree_of (with_entry S dir name None e.inode (recounted stamp 0 row) (insert S.doomed e.inode Waiting))) Done)
      unlink_waits one file =
          let may : MayRelink S dir name None e.inode row (recounted stamp 0 row) (insert S.doomed e.inode Waiting) = record {
            there = there;
            linked = omega arith;
            no_dir = part_no_dir;
            part = refl;
            was = λ f is. ap (λ (r : DentRow). r.inode) (same_some f e is at);
            is = λ f is. absurd (not_some f refl is);
            count = let entry = ap count_if at in omega arith;
            fate = inr (refl, kind_is ∙ file, refl);
          } in (
            relinks C S good dir name None e.inode row (recounted stamp 0 row) (insert S.doomed e.inode Waiting) may,
            unlink_made ∙ ap by_last (eq-eqb row.links 1 one) ∙ by_part row.part refl ∙ ap (λ (T : Tree). Makes T Done) (sym waiting_tree),
          )
        where
          waiting_tree : tree_of (with_entry S dir name None e.inode (recounted stamp 0 row) (insert S.doomed e.inode Waiting))
              ≡ record (with_touched (without_entry (tree_of S) dir name) stamp e.inode (node_of row)) { doomed = insert (tree_of S).doomed e.inode dooms.Waiting }
          waiting_tree =
              tree_with_entry S dir name None e.inode (recounted stamp 0 row) (insert S.doomed e.inode Waiting)
              ∙ (λ i. record (with_touched (without_entry (tree_of S) dir name) stamp e.inode (node_of row)) { doomed = map_values-set ids doom_of S.doomed e.inode (Some Waiting) i })

          by_part : (part : InodePart) → row.part ≡ part
              → Makes (let_go (without_entry (tree_of S) dir name) stamp e.inode (node_of row) (node_part part)) Done
              ≡ Makes (record (with_touched (without_entry (tree_of S) dir name) stamp e.inode (node_of row)) { doomed = insert (tree_of S).doomed e.inode dooms.Waiting }) Done
          by_part (parts.Dir parent chunk stripe) is = absurd (part_no_dir (ap kind_of is))
          by_part (parts.File length truncs layout hint) is = refl
          by_part (parts.Link path) is = let clash : kinds.Link ≡ kinds.File = sym (ap kind_of is) ∙ kind_is ∙ file in absurd (cc)

      -- the last entry of a link: it is gone
      pub unlink_goes : row.links ≡ 1 → e.kind ≡ kinds.Link → IsWellFormed C (without_node S dir name e) × (unlink_at (tree_of S) stamp (AtParent dir name) ≡ Makes (tree_of (without_node S dir name e)) Done)
      unlink_goes one link =
          let may : MayRemove S dir name e = record { entry = at; only = sym row_count ∙ one; no_file = λ f. let clash : kinds.File ≡ kinds.Link = sym f ∙ link in cc; empty = nothing_in } in (
            removes_node C S good dir name e may,
            unlink_made ∙ ap by_last (eq-eqb row.links 1 one) ∙ by_part row.part refl ∙ ap (λ (T : Tree). Makes T Done) (sym (tree_without_node S dir name e)),
          )
        where
          by_part : (part : InodePart) → row.part ≡ part → Makes (let_go (without_entry (tree_of S) dir name) stamp e.inode (node_of row) (node_part part)) Done ≡ Makes (without_dir (tree_of S) dir name e.inode) Done
          by_part (parts.Dir parent chunk stripe) is = absurd (part_no_dir (ap kind_of is))
          by_part (parts.File length truncs layout hint) is = let clash : kinds.File ≡ kinds.Link = sym (ap kind_of is) ∙ kind_is ∙ link in absurd (cc)
          by_part (parts.Link path) is = refl
