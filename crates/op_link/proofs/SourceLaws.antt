-- A walk that comes to a node that is no directory has come by an entry; what the node's row has then.
use Rattle.std.proofs.Common.{◌≡◌, ◌≢◌, ℕ, zero, suc, ◌≤◌, Bool, true, false, cond, List, [], ◌∷◌, ◌++◌, refl, sym, ap, subst, ◌∙◌}
use Rattle.std.specs.Prelude.{Option, Some, None, Result, Ok, Err, if◌then◌else◌}
use Rattle.std.specs.FinMap.{get}
use Rattle.conflict_sets.specs.declared.sets.ReadSet.{ReadSet}
use Rattle.fs_base.specs.Config.{Settings}
use Rattle.fs_base.specs.Paths.{path_of}
use Rattle.fs_base.specs.declared.code.Code.{Code}
use Rattle.fs_base.specs.declared.code.Code.TheVariants.{LinkLoop}
use Rattle.fs_base.specs.declared.kind.Kind.{Kind}
use Rattle.fs_base.specs.declared.kind.Kind.TheVariants as kinds
use Rattle.fs_base.specs.declared.path.Path.{Path}
use Rattle.inode_record.specs.declared.inode.InodePart.{InodePart}
use Rattle.inode_record.specs.declared.inode.InodePart.TheVariants as parts
use Rattle.inode_record.specs.declared.inode.InodeRow.{InodeRow}
use Rattle.row_records.specs.declared.rows.DentRow.{DentRow}
use Rattle.row_tree.specs.TreeOf.{tree_of, node_of, node_part}
use Rattle.row_tree.specs.TypedRows.{TypedRows, kind_of}
use Rattle.row_tree.specs.WellFormed.{IsWellFormed}
use Rattle.row_tree.proofs.Telling.{entry_is, node_is}
use Rattle.tree_model.specs.declared.node.Node.{Node}
use Rattle.tree_model.specs.declared.node.NodePart.{NodePart}
use Rattle.tree_model.specs.declared.node.NodePart.TheVariants.{Dir, File, Link}
use Rattle.tree_model.specs.declared.walk.WalkEnd.{WalkEnd}
use Rattle.tree_model.specs.declared.walk.WalkEnd.TheVariants.{Follow, NoFollow, Parent}
use Rattle.tree_model.specs.declared.walk.Walked.{Walked}
use Rattle.tree_model.specs.declared.walk.Walked.TheVariants.{At, AtParent, Stopped}
use Rattle.tree_model.specs.Tree.{Tree}
use Rattle.tree_model.specs.Walk.{Trip, Behind, Inode, Entry, stay, visiting, ends_at, at_file, is_last_of_parent, is_last_unfollowed, on_target, at_link, at_part, at_node, at_entry, down, walk, if_dir, from_base}
use Rattle.tree_model.proofs.MapLaws.{not_some, some_injective}
use Rattle.path_walk.specs.Stages.{trip_at}
use Rattle.path_walk.specs.Walks.{HasEnd}
use Rattle.path_walk.specs.declared.stage.Stage.{Stage}
use Rattle.path_walk.specs.declared.stage.Stage.TheVariants as stages
use Rattle.path_walk.proofs.UnlinkLaws.{counted_links}
use Rattle.path_walk.proofs.WalkLaws.{same_end}
use Rattle.op_link.specs.Ending.{HasSource, IsLeaf, IsNoDir}

-- ---- in the tree

-- what an end at a node that is no directory says
abbrev LeafAt : Tree → Walked → Type 0
LeafAt T (At id kinds.Dir) = Unit {0}
LeafAt T (At id kinds.File) = IsLeaf T id
LeafAt T (At id kinds.Link) = IsLeaf T id
LeafAt T walked = Unit {0}

ends_leaf : (T : Tree) (end : WalkEnd) (here : ℕ) → LeafAt T (ends_at end here)
ends_leaf T Parent here = tt
ends_leaf T Follow here = tt
ends_leaf T NoFollow here = tt

file_leaf : (T : Tree) (id : ℕ) (names : List (List ℕ)) → IsLeaf T id → LeafAt T (at_file id names)
file_leaf T id [] leaf = leaf
file_leaf T id (name ∷ names) leaf = tt

-- behind a link the walk ends so as well
abbrev LeadsToLeaves : Tree → Behind → Type 0
LeadsToLeaves T follow = (id here : ℕ) (target : List ℕ) (names : List (List ℕ)) → LeafAt T (follow id here target names).end

module _ (T : Tree) (follow : Behind) (leads : LeadsToLeaves T follow) (end : WalkEnd) where
  link_leaf : (here id : ℕ) (target : List ℕ) (names : List (List ℕ)) → IsLeaf T id → LeafAt T (at_link follow end here id target names).end
  link_leaf here id target names leaf = by_last (is_last_unfollowed end names)
    where
      by_last : (b : Bool) → LeafAt T (cond b (stay (At id kinds.Link)) (follow id here target names)).end
      by_last true = leaf
      by_last false = leads id here target names

  part_leaf : (here id : ℕ) (names : List (List ℕ)) (below : Trip) (part : NodePart) → (IsNoDir part → IsLeaf T id) → LeafAt T below.end → LeafAt T (at_part follow end here id names below part).end
  part_leaf here id names below (Dir layout) leaf rest = rest
  part_leaf here id names below (File length truncs layout hint) leaf rest = file_leaf T id names (leaf tt)
  part_leaf here id names below (Link target) leaf rest = link_leaf here id target names (leaf tt)

  node_leaf : (here id : ℕ) (name : List ℕ) (names : List (List ℕ)) (below : Trip) (o : Option Node) → get T.entries (here, name) ≡ Some id → get T.nodes id ≡ o → LeafAt T below.end → LeafAt T (at_node follow end here id names below o).end
  node_leaf here id name names below None entry is rest = tt
  node_leaf here id name names below (Some node) entry is rest =
      part_leaf here id names below node.part (λ other. record { dir = here; name = name; node = node; entry = entry; there = is; no_dir = other }) rest

  entry_leaf : (here : ℕ) (name : List ℕ) (names : List (List ℕ)) (below : ℕ → Trip) (o : Option ℕ) → get T.entries (here, name) ≡ o → ((id : ℕ) → LeafAt T (below id).end) → LeafAt T (at_entry follow T end here names below o).end
  entry_leaf here name names below None is rest = tt
  entry_leaf here name names below (Some id) is rest = node_leaf here id name names (below id) (get T.nodes id) is refl (rest id)

  down_leaf : (names : List (List ℕ)) (here : ℕ) → LeafAt T (down follow T end names here).end
  down_leaf [] here = ends_leaf T end here
  down_leaf (name ∷ names) here = by_last (is_last_of_parent end names) (entry_leaf here name names (down follow T end names) (get T.entries (here, name)) refl (λ id. down_leaf names id))
    where
      by_last : (b : Bool) → LeafAt T (at_entry follow T end here names (down follow T end names) (get T.entries (here, name))).end
          → LeafAt T (cond b (stay (AtParent here name)) (visiting (Entry here name) (at_entry follow T end here names (down follow T end names) (get T.entries (here, name))))).end
      by_last true rest = tt
      by_last false rest = rest

walk_leaf : (left : ℕ) (T : Tree) (end : WalkEnd) (names : List (List ℕ)) (here : ℕ) → LeafAt T (walk left T end names here).end
walk_leaf zero T end names here = down_leaf T (λ _ _ _ _. stay (Stopped LinkLoop)) (λ id from target others. tt) end names here
walk_leaf (suc left) T end names here =
    down_leaf T (λ id from target others. visiting (Inode id) (on_target (walk left T end) from others (path_of target)))
    (λ id from target others. by_path from others (λ path. walk_leaf left T end (path.names ++ others) (if path.absolute then 0 else from)) (path_of target))
    end names here
  where
    by_path : (from : ℕ) (others : List (List ℕ)) → ((path : Path) → LeafAt T (walk left T end (path.names ++ others) (if path.absolute then 0 else from)).end) → (r : Result Path Code) → LeafAt T (on_target (walk left T end) from others r).end
    by_path from others rest (Err code) = tt
    by_path from others rest (Ok path) = rest path

stage_leaf : (T : Tree) (stage : Stage) → LeafAt T (trip_at stage T).end
stage_leaf T (stages.Refused code) = tt
stage_leaf T (stages.Walking w) = by_base w.at_base
  where
    rest : LeafAt T (walk w.links T w.end w.rest w.here).end
    rest = walk_leaf w.links T w.end w.rest w.here

    by_part : (part : NodePart) → LeafAt T (if_dir part (walk w.links T w.end w.rest w.here)).end
    by_part (Dir layout) = rest
    by_part (File length truncs layout hint) = tt
    by_part (Link target) = tt

    by_node : (o : Option Node) → LeafAt T (from_base o (walk w.links T w.end w.rest w.here)).end
    by_node None = tt
    by_node (Some node) = by_part node.part

    by_base : (b : Bool) → LeafAt T (cond b (visiting (Inode w.here) (from_base (get T.nodes w.here) (walk w.links T w.end w.rest w.here))) (walk w.links T w.end w.rest w.here)).end
    by_base true = by_node (get T.nodes w.here)
    by_base false = rest

leaf_at : (T : Tree) (id : ℕ) (kind : Kind) → kind ≢ kinds.Dir → LeafAt T (At id kind) → IsLeaf T id
leaf_at T id kinds.Dir other leaf = absurd (other refl)
leaf_at T id kinds.File other leaf = leaf
leaf_at T id kinds.Link other leaf = leaf

-- where a way ends there
pub has_source : (stage : Stage) (reads : ReadSet) (walked : Walked) → HasEnd (trip_at stage) reads walked → HasSource reads walked
has_source stage reads walked end id kind is other C S good agrees =
    leaf_at (tree_of S) id kind other
    (subst (LeafAt (tree_of S)) (sym (same_end (trip_at stage) (λ T. stay walked) reads end C S good agrees) ∙ is) (stage_leaf (tree_of S) stage))

-- ---- in rows

no_dir_part : (part : InodePart) → IsNoDir (node_part part) → kind_of part ≢ kinds.Dir
no_dir_part (parts.Dir parent chunk stripe) other k = other
no_dir_part (parts.File length truncs layout hint) other k = cc
no_dir_part (parts.Link target) other k = cc

module _ (C : Settings) (S : TypedRows) (good : IsWellFormed C S) (id : ℕ) (leaf : IsLeaf (tree_of S) id) where
  pub source_there : get S.inodes id ≢ None
  source_there none = not_some leaf.node (node_is S id None none) leaf.there

  module _ (row : InodeRow) (there : get S.inodes id ≡ Some row) where
    pub source_kind : kind_of row.part ≢ kinds.Dir
    source_kind = no_dir_part row.part (subst IsNoDir (sym (ap (λ (n : Node). n.part) (some_injective (node_of row) leaf.node (sym (node_is S id (Some row) there) ∙ leaf.there)))) leaf.no_dir)

    entry_row : (o : Option DentRow) → get S.dents (leaf.dir, leaf.name) ≡ o → (e : DentRow) × (get S.dents (leaf.dir, leaf.name) ≡ Some e) × (e.inode ≡ id)
    entry_row None at = absurd (not_some id (entry_is S leaf.dir leaf.name None at) leaf.entry)
    entry_row (Some e) at = (e, at, some_injective e.inode id (sym (entry_is S leaf.dir leaf.name (Some e) at) ∙ leaf.entry))

    pub source_links : 1 ≤ row.links
    source_links =
        let e = entry_row (get S.dents (leaf.dir, leaf.name)) refl in
        counted_links C S good leaf.dir leaf.name e.0 e.1 row (ap (get S.inodes) e.2 ∙ there) source_kind
