-- An entry moved: what rename comes to by what the rows have, and the rows behind it.
use Rattle.std.proofs.Common.{◌≡◌, ◌≢◌, ℕ, Bool, true, false, cond, List, refl, sym, ap, ◌∙◌, eq-eqb, ne_eqb}
use Rattle.std.specs.Prelude.{Option, Some, None}
use Rattle.std.specs.FinMap.{get}
use Rattle.fs_base.specs.Config.{Settings}
use Rattle.fs_base.specs.declared.code.Code.TheVariants as codes
use Rattle.fs_base.specs.declared.kind.Kind.TheVariants as kinds
use Rattle.fs_base.specs.declared.reply.Reply.TheVariants.{Done}
use Rattle.inode_record.specs.declared.inode.InodePart.{InodePart}
use Rattle.inode_record.specs.declared.inode.InodePart.TheVariants as parts
use Rattle.inode_record.specs.declared.inode.InodeRow.{InodeRow}
use Rattle.row_records.specs.declared.rows.DentRow.{DentRow}
use Rattle.tree_model.specs.declared.node.Node.{Node}
use Rattle.tree_model.specs.declared.walk.Walked.TheVariants.{AtParent}
use Rattle.tree_model.specs.Below.{IsBelow}
use Rattle.tree_model.specs.Effects.{Effect, Leaves, Makes, Settles, refuses}
use Rattle.tree_model.specs.Finding.{if_there}
use Rattle.tree_model.specs.Linking.{is_empty_dir, unlink_at, unlink_part, without_dir}
use Rattle.tree_model.specs.Moving.{dir_over, goes_below, is_below, move_entry, move_in, move_over, move_to, move_under, moved, other_over, rename_at}
use Rattle.tree_model.specs.Tree.{Tree}
use Rattle.row_tree.specs.Steps.{IsPathAround, MayMove, MayRemove, with_move, without_node}
use Rattle.row_tree.specs.TreeOf.{tree_of, node_of, node_part}
use Rattle.row_tree.specs.TypedRows.{TypedRows, kind_of}
use Rattle.row_tree.specs.WellFormed.{HasKind, IsWellFormed}
use Rattle.tree_model.proofs.MapLaws.{same_some}
use Rattle.row_tree.proofs.Ancestors.{not_below}
use Rattle.row_tree.proofs.Below.{below_decided}
use Rattle.row_tree.proofs.Detaching.{empty_told, target, unlink_target, used_told}
use Rattle.row_tree.proofs.Moving.{moves_entry, tree_with_move}
use Rattle.row_tree.proofs.Replacing.{replaces_node, tree_with_replaced}
use Rattle.row_tree.proofs.Telling.{entry_is, node_is}

-- the entry at its new place, in the tree that another change has made
abbrev pub then_moved : (ℕ × List ℕ) → (ℕ × List ℕ) → ℕ → Effect → Effect
then_moved from to id (Leaves reply) = Leaves reply
then_moved from to id (Makes V reply) = Makes (moved V from to id) reply
then_moved from to id (Settles V) = Settles V

-- a file or link takes the place of what unlink takes away
over_unlinked : (T : Tree) (stamp : ℕ) (from to : ℕ × List ℕ) (id old : ℕ) (node : Node) (part : InodePart) → kind_of part ≢ kinds.Dir
    → other_over T stamp from to id old node (node_part part) ≡ then_moved from to id (unlink_part T stamp to.0 to.1 old node (node_part part))
over_unlinked T stamp from to id old node (parts.Dir parent chunk stripe) other = absurd (other refl)
over_unlinked T stamp from to id old node (parts.File length truncs layout hint) other = refl
over_unlinked T stamp from to id old node (parts.Link path) other = refl

module _ (C : Settings) (S : TypedRows) (good : IsWellFormed C S) (stamp : ℕ) (from to : ℕ × List ℕ) where
  abbrev wanted : Effect
  wanted = rename_at (tree_of S) stamp (AtParent from.0 from.1) (AtParent to.0 to.1)

  pub rename_absent : get S.dents from ≡ None → rename_at (tree_of S) stamp (AtParent from.0 from.1) (AtParent to.0 to.1) ≡ refuses codes.NotFound
  rename_absent none = ap (move_entry (tree_of S) stamp from (AtParent to.0 to.1)) (entry_is S from.0 from.1 None none)

  module _ (e : DentRow) (at : get S.dents from ≡ Some e) where
    pub source : HasKind S e.inode e.kind
    source = (good.entry from.0 from.1 e at).target

    abbrev part : InodePart
    part = (source).0.part

    by_place : rename_at (tree_of S) stamp (AtParent from.0 from.1) (AtParent to.0 to.1) ≡ move_under (tree_of S) stamp from to e.inode (node_part (source).0.part) (get (tree_of S).nodes to.0)
    by_place =
        ap (move_entry (tree_of S) stamp from (AtParent to.0 to.1)) (entry_is S from.0 from.1 (Some e) at)
        ∙ ap (λ (o : Option Node). if_there o (λ node. move_under (tree_of S) stamp from to e.inode node.part (get (tree_of S).nodes to.0))) (node_is S e.inode (Some (source).0) (source).1)

    module _ (row : InodeRow) (there : get S.inodes to.0 ≡ Some row) where
      in_row : rename_at (tree_of S) stamp (AtParent from.0 from.1) (AtParent to.0 to.1) ≡ move_in (tree_of S) stamp from to e.inode (node_part (source).0.part) (node_part row.part)
      in_row = by_place ∙ ap (move_under (tree_of S) stamp from to e.inode (node_part (source).0.part)) (node_is S to.0 (Some row) there)

      pub rename_beside : kind_of row.part ≢ kinds.Dir → rename_at (tree_of S) stamp (AtParent from.0 from.1) (AtParent to.0 to.1) ≡ refuses codes.NotDir
      rename_beside other = in_row ∙ by_part row.part other
        where
          by_part : (p : InodePart) → kind_of p ≢ kinds.Dir → move_in (tree_of S) stamp from to e.inode (node_part (source).0.part) (node_part p) ≡ refuses codes.NotDir
          by_part (parts.Dir parent chunk stripe) never = absurd (never refl)
          by_part (parts.File length truncs layout hint) never = refl
          by_part (parts.Link path) never = refl

    pub rename_nowhere : get S.inodes to.0 ≡ None → rename_at (tree_of S) stamp (AtParent from.0 from.1) (AtParent to.0 to.1) ≡ refuses codes.NotDir
    rename_nowhere none = by_place ∙ ap (move_under (tree_of S) stamp from to e.inode (node_part (source).0.part)) (node_is S to.0 None none)

    module _ (dir : HasKind S to.0 kinds.Dir) where
      to_place : rename_at (tree_of S) stamp (AtParent from.0 from.1) (AtParent to.0 to.1) ≡ move_to (tree_of S) stamp from to e.inode (node_part (source).0.part) (get (tree_of S).entries to)
      to_place = in_row dir.0 dir.1 ∙ by_part dir.0.part dir.2
        where
          by_part : (p : InodePart) → kind_of p ≡ kinds.Dir
              → move_in (tree_of S) stamp from to e.inode (node_part (source).0.part) (node_part p) ≡ move_to (tree_of S) stamp from to e.inode (node_part (source).0.part) (get (tree_of S).entries to)
          by_part (parts.Dir parent chunk stripe) k = refl
          by_part (parts.File length truncs layout hint) k = cc
          by_part (parts.Link path) k = cc

      -- a directory that lies above its new place; one that doesn't, and what is no directory
      below : e.kind ≡ kinds.Dir → IsBelow (tree_of S) e.inode to.0 → goes_below (tree_of S) e.inode (node_part (source).0.part) to.0 ≡ true
      below is_dir is = by_part (source).0.part ((source).2 ∙ is_dir)
        where
          by_part : (p : InodePart) → kind_of p ≡ kinds.Dir → goes_below (tree_of S) e.inode (node_part p) to.0 ≡ true
          by_part (parts.Dir parent chunk stripe) k = (below_decided C S good e.inode to.0 dir).1 is
          by_part (parts.File length truncs layout hint) k = cc
          by_part (parts.Link path) k = cc

      module _ (around : e.kind ≡ kinds.Dir → (path : List ℕ) × IsPathAround S e.inode to.0 path) where
        not_above : (b : Bool) → is_below (tree_of S) e.inode to.0 ≡ b → (path : List ℕ) × IsPathAround S e.inode to.0 path → b ≡ false
        not_above false is way = refl
        not_above true is way = absurd (not_below C S good e.inode to.0 way.0 way.1 ((below_decided C S good e.inode to.0 dir).0 is))

        beside : goes_below (tree_of S) e.inode (node_part (source).0.part) to.0 ≡ false
        beside = by_part (source).0.part (source).2
          where
            by_part : (p : InodePart) → kind_of p ≡ e.kind → goes_below (tree_of S) e.inode (node_part p) to.0 ≡ false
            by_part (parts.Dir parent chunk stripe) k = not_above (is_below (tree_of S) e.inode to.0) refl (around (sym k))
            by_part (parts.File length truncs layout hint) k = refl
            by_part (parts.Link path) k = refl

        -- to a free name
        pub rename_free : get S.dents to ≡ None
            → IsWellFormed C (with_move S from.0 from.1 e (source).0 to.0 to.1) × (rename_at (tree_of S) stamp (AtParent from.0 from.1) (AtParent to.0 to.1) ≡ Makes (tree_of (with_move S from.0 from.1 e (source).0 to.0 to.1)) Done)
        rename_free free =
            let may : MayMove S from.0 from.1 e (source).0 to.0 to.1 = record { entry = at; there = (source).1; parent = dir; free = free; around = around } in (
              moves_entry C S good from.0 from.1 e (source).0 to.0 to.1 may,
              to_place
                  ∙ ap (move_to (tree_of S) stamp from to e.inode (node_part (source).0.part)) (entry_is S to.0 to.1 None free)
                  ∙ ap (λ b. cond b (refuses codes.IntoItself) (Makes (moved (tree_of S) from to e.inode) Done)) beside
                  ∙ ap (λ (T : Tree). Makes T Done) (sym (tree_with_move C S good from.0 from.1 e (source).0 to.0 to.1 may)),
            )

        module _ (f : DentRow) (taken : get S.dents to ≡ Some f) (other : f.inode ≢ e.inode) where
          old : HasKind S f.inode f.kind
          old = (good.entry to.0 to.1 f taken).target

          over_it : rename_at (tree_of S) stamp (AtParent from.0 from.1) (AtParent to.0 to.1) ≡ move_over (tree_of S) stamp from to e.inode f.inode (node_part (source).0.part) (node_of (old).0)
          over_it =
              to_place
              ∙ ap (move_to (tree_of S) stamp from to e.inode (node_part (source).0.part)) (entry_is S to.0 to.1 (Some f) taken)
              ∙ ap (λ b. cond b (Makes (tree_of S) Done) (cond (goes_below (tree_of S) e.inode (node_part (source).0.part) to.0) (refuses codes.IntoItself) (if_there (get (tree_of S).nodes f.inode) (move_over (tree_of S) stamp from to e.inode f.inode (node_part (source).0.part))))) (ne_eqb f.inode e.inode other)
              ∙ ap (λ b. cond b (refuses codes.IntoItself) (if_there (get (tree_of S).nodes f.inode) (move_over (tree_of S) stamp from to e.inode f.inode (node_part (source).0.part)))) beside
              ∙ ap (λ (o : Option Node). if_there o (move_over (tree_of S) stamp from to e.inode f.inode (node_part (source).0.part))) (node_is S f.inode (Some (old).0) (old).1)

          -- a directory, by what stands there
          module _ (is_dir : e.kind ≡ kinds.Dir) where
            dir_over_it : rename_at (tree_of S) stamp (AtParent from.0 from.1) (AtParent to.0 to.1) ≡ dir_over (tree_of S) from to e.inode f.inode (node_part (old).0.part)
            dir_over_it = over_it ∙ by_part (source).0.part ((source).2 ∙ is_dir)
              where
                by_part : (p : InodePart) → kind_of p ≡ kinds.Dir
                    → move_over (tree_of S) stamp from to e.inode f.inode (node_part p) (node_of (old).0) ≡ dir_over (tree_of S) from to e.inode f.inode (node_part (old).0.part)
                by_part (parts.Dir parent chunk stripe) k = refl
                by_part (parts.File length truncs layout hint) k = cc
                by_part (parts.Link path) k = cc

            pub rename_not_dir : f.kind ≢ kinds.Dir → rename_at (tree_of S) stamp (AtParent from.0 from.1) (AtParent to.0 to.1) ≡ refuses codes.NotDir
            rename_not_dir never = dir_over_it ∙ by_part (old).0.part (λ k. never (sym (old).2 ∙ k))
              where
                by_part : (p : InodePart) → kind_of p ≢ kinds.Dir → dir_over (tree_of S) from to e.inode f.inode (node_part p) ≡ refuses codes.NotDir
                by_part (parts.Dir parent chunk stripe) k = absurd (k refl)
                by_part (parts.File length truncs layout hint) k = refl
                by_part (parts.Link path) k = refl

            abbrev by_empty : Bool → Effect
            by_empty b = cond b (Makes (moved (without_dir (tree_of S) to.0 to.1 f.inode) from to e.inode) Done) (refuses codes.NotEmpty)

            module _ (both : f.kind ≡ kinds.Dir) where
              over_dir : rename_at (tree_of S) stamp (AtParent from.0 from.1) (AtParent to.0 to.1) ≡ by_empty (is_empty_dir (tree_of S) f.inode)
              over_dir = dir_over_it ∙ by_part (old).0.part ((old).2 ∙ both)
                where
                  by_part : (p : InodePart) → kind_of p ≡ kinds.Dir → dir_over (tree_of S) from to e.inode f.inode (node_part p) ≡ by_empty (is_empty_dir (tree_of S) f.inode)
                  by_part (parts.Dir parent chunk stripe) k = refl
                  by_part (parts.File length truncs layout hint) k = cc
                  by_part (parts.Link path) k = cc

              pub rename_used : (name : List ℕ) (g : DentRow) → get S.dents (f.inode, name) ≡ Some g → rename_at (tree_of S) stamp (AtParent from.0 from.1) (AtParent to.0 to.1) ≡ refuses codes.NotEmpty
              rename_used name g is = over_dir ∙ ap by_empty (used_told S f.inode name g is)

              -- an empty directory is replaced
              pub rename_empty : ((name : List ℕ) → get S.dents (f.inode, name) ≡ None)
                  → IsWellFormed C (with_move (without_node S to.0 to.1 f) from.0 from.1 e (source).0 to.0 to.1)
                  × (rename_at (tree_of S) stamp (AtParent from.0 from.1) (AtParent to.0 to.1) ≡ Makes (tree_of (with_move (without_node S to.0 to.1 f) from.0 from.1 e (source).0 to.0 to.1)) Done)
              rename_empty none =
                  let linked = good.linked f.inode (old).0 (old).1 ((good.entry to.0 to.1 f taken).not_root) in
                  let gone : MayRemove S to.0 to.1 f = record { entry = taken; only = sym linked.count ∙ linked.dir ((old).2 ∙ both); no_file = λ k. let clash : kinds.File ≡ kinds.Dir = sym k ∙ both in cc; empty = none } in (
                    replaces_node C S good from.0 from.1 e (source).0 to.0 to.1 f at (source).1 gone other around,
                    over_dir ∙ ap by_empty (empty_told S f.inode none) ∙ ap (λ (T : Tree). Makes T Done) (sym (tree_with_replaced C S good from.0 from.1 e (source).0 to.0 to.1 f at (source).1 gone other around)),
                  )

          -- a file or link, by what stands there
          module _ (no_dir : e.kind ≢ kinds.Dir) where
            other_over_it : rename_at (tree_of S) stamp (AtParent from.0 from.1) (AtParent to.0 to.1) ≡ other_over (tree_of S) stamp from to e.inode f.inode (node_of (old).0) (node_part (old).0.part)
            other_over_it = over_it ∙ by_part (source).0.part (λ k. no_dir (sym (source).2 ∙ k))
              where
                by_part : (p : InodePart) → kind_of p ≢ kinds.Dir
                    → move_over (tree_of S) stamp from to e.inode f.inode (node_part p) (node_of (old).0) ≡ other_over (tree_of S) stamp from to e.inode f.inode (node_of (old).0) (node_part (old).0.part)
                by_part (parts.Dir parent chunk stripe) k = absurd (k refl)
                by_part (parts.File length truncs layout hint) k = refl
                by_part (parts.Link path) k = refl

            pub rename_is_dir : f.kind ≡ kinds.Dir → rename_at (tree_of S) stamp (AtParent from.0 from.1) (AtParent to.0 to.1) ≡ refuses codes.IsDir
            rename_is_dir is_dir = other_over_it ∙ by_part (old).0.part ((old).2 ∙ is_dir)
              where
                by_part : (p : InodePart) → kind_of p ≡ kinds.Dir → other_over (tree_of S) stamp from to e.inode f.inode (node_of (old).0) (node_part p) ≡ refuses codes.IsDir
                by_part (parts.Dir parent chunk stripe) k = refl
                by_part (parts.File length truncs layout hint) k = cc
                by_part (parts.Link path) k = cc

            -- it takes the place of what unlink leaves
            pub rename_unlinked : f.kind ≢ kinds.Dir → (R : TypedRows) → IsWellFormed C R → unlink_at (tree_of S) stamp (AtParent to.0 to.1) ≡ Makes (tree_of R) Done → MayMove R from.0 from.1 e (source).0 to.0 to.1
                → IsWellFormed C (with_move R from.0 from.1 e (source).0 to.0 to.1)
                × (rename_at (tree_of S) stamp (AtParent from.0 from.1) (AtParent to.0 to.1) ≡ Makes (tree_of (with_move R from.0 from.1 e (source).0 to.0 to.1)) Done)
            rename_unlinked never R fine unlinks may = (
              moves_entry C R fine from.0 from.1 e (source).0 to.0 to.1 may,
              other_over_it
                  ∙ over_unlinked (tree_of S) stamp from to e.inode f.inode (node_of (old).0) (old).0.part (λ k. never (sym (old).2 ∙ k))
                  ∙ ap (λ (r : InodeRow). then_moved from to e.inode (unlink_part (tree_of S) stamp to.0 to.1 f.inode (node_of r) (node_part r.part)))
                  (same_some (old).0 (target C S good stamp to.0 to.1 f taken).0 (old).1 (target C S good stamp to.0 to.1 f taken).1)
                  ∙ ap (then_moved from to e.inode) (sym (unlink_target C S good stamp to.0 to.1 f taken) ∙ unlinks)
                  ∙ ap (λ (T : Tree). Makes T Done) (sym (tree_with_move C R fine from.0 from.1 e (source).0 to.0 to.1 may)),
            )

    module _ (dir : HasKind S to.0 kinds.Dir) (f : DentRow) (taken : get S.dents to ≡ Some f) where
      -- two names of one node stay as they are
      pub rename_same : f.inode ≡ e.inode → rename_at (tree_of S) stamp (AtParent from.0 from.1) (AtParent to.0 to.1) ≡ Makes (tree_of S) Done
      rename_same same =
          to_place dir
          ∙ ap (move_to (tree_of S) stamp from to e.inode (node_part (source).0.part)) (entry_is S to.0 to.1 (Some f) taken)
          ∙ ap (λ b. cond b (Makes (tree_of S) Done) (cond (goes_below (tree_of S) e.inode (node_part (source).0.part) to.0) (refuses codes.IntoItself) (if_there (get (tree_of S).nodes f.inode) (move_over (tree_of S) stamp from to e.inode f.inode (node_part (source).0.part))))) (eq-eqb f.inode e.inode same)

      -- a directory doesn't come below itself, whatever else stands there
      pub rename_into_taken : e.kind ≡ kinds.Dir → f.inode ≢ e.inode → IsBelow (tree_of S) e.inode to.0 → rename_at (tree_of S) stamp (AtParent from.0 from.1) (AtParent to.0 to.1) ≡ refuses codes.IntoItself
      rename_into_taken is_dir other above =
          to_place dir
          ∙ ap (move_to (tree_of S) stamp from to e.inode (node_part (source).0.part)) (entry_is S to.0 to.1 (Some f) taken)
          ∙ ap (λ b. cond b (Makes (tree_of S) Done) (cond (goes_below (tree_of S) e.inode (node_part (source).0.part) to.0) (refuses codes.IntoItself) (if_there (get (tree_of S).nodes f.inode) (move_over (tree_of S) stamp from to e.inode f.inode (node_part (source).0.part))))) (ne_eqb f.inode e.inode other)
          ∙ ap (λ b. cond b (refuses codes.IntoItself) (if_there (get (tree_of S).nodes f.inode) (move_over (tree_of S) stamp from to e.inode f.inode (node_part (source).0.part)))) (below dir is_dir above)

    pub rename_into_free : (dir : HasKind S to.0 kinds.Dir) → e.kind ≡ kinds.Dir → get S.dents to ≡ None → IsBelow (tree_of S) e.inode to.0 → rename_at (tree_of S) stamp (AtParent from.0 from.1) (AtParent to.0 to.1) ≡ refuses codes.IntoItself
    rename_into_free dir is_dir free above =
        to_place dir
        ∙ ap (move_to (tree_of S) stamp from to e.inode (node_part (source).0.part)) (entry_is S to.0 to.1 None free)
        ∙ ap (λ b. cond b (refuses codes.IntoItself) (Makes (moved (tree_of S) from to e.inode) Done)) (below dir is_dir above)
