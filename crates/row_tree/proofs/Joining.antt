-- A further entry of a node: what link comes to by what the rows have, and the rows with it.
use Rattle.std.proofs.Common.{◌≡◌, ◌≢◌, ℕ, ◌+◌, ◌≤◌, ◌==◌, Bool, cond, List, refl, sym, ap, ◌∙◌, inl, arith, eq-eqb, ne_eqb}
use Rattle.std.specs.Prelude.{Option, Some, None}
use Rattle.std.specs.Option.{option_map}
use Rattle.std.specs.FinMap.{get}
use Rattle.fs_base.specs.Config.{Settings}
use Rattle.fs_base.specs.declared.code.Code.TheVariants as codes
use Rattle.fs_base.specs.declared.code.Limit.TheVariants.{Links}
use Rattle.fs_base.specs.declared.kind.Kind.TheVariants as kinds
use Rattle.fs_base.specs.declared.reply.Reply.TheVariants.{Done}
use Rattle.inode_record.specs.declared.inode.InodePart.{InodePart}
use Rattle.inode_record.specs.declared.inode.InodePart.TheVariants as parts
use Rattle.inode_record.specs.declared.inode.InodeRow.{InodeRow}
use Rattle.row_records.specs.declared.rows.DentRow.{DentRow}
use Rattle.tree_model.specs.declared.node.Node.{Node}
use Rattle.tree_model.specs.declared.walk.Walked.TheVariants.{AtParent}
use Rattle.tree_model.specs.Attributes.{count_to}
use Rattle.tree_model.specs.Creating.{unless_there}
use Rattle.tree_model.specs.Effects.{Effect, Makes, refuses}
use Rattle.tree_model.specs.Finding.{if_there}
use Rattle.tree_model.specs.Linking.{with_link, link_node, link_in, link_under, link_to}
use Rattle.tree_model.specs.Tree.{Tree}
use Rattle.tree_model.proofs.MapLaws.{not_some, some_injective}
use Rattle.row_tree.specs.Steps.{MayRelink, count_if, recounted, with_entry}
use Rattle.row_tree.specs.TreeOf.{tree_of, node_of, node_part}
use Rattle.row_tree.specs.TypedRows.{TypedRows, kind_of}
use Rattle.row_tree.specs.WellFormed.{IsWellFormed, HasKind}
use Rattle.row_tree.proofs.Detaching.{no_entry_in}
use Rattle.row_tree.proofs.Relinking.{relinks, tree_with_entry}
use Rattle.row_tree.proofs.Telling.{entry_is, node_is}
use Rattle.row_tree.proofs.Told.{count_told, other_links}

module _ (C : Settings) (S : TypedRows) (good : IsWellFormed C S) (stamp id dir : ℕ) (name : List ℕ) where
  abbrev linked_to : Effect
  linked_to = link_to (tree_of S) stamp id (AtParent dir name)

  abbrev under_parent : Option Node → Effect
  under_parent parent = link_under (tree_of S) stamp id dir name parent

  link_free : get S.dents (dir, name) ≡ None → (parent : Option InodeRow) → get S.inodes dir ≡ parent → linked_to ≡ under_parent (option_map node_of parent)
  link_free free parent at =
      ap (λ (o : Option ℕ). unless_there o (under_parent (get (tree_of S).nodes dir))) (entry_is S dir name None free)
      ∙ ap (λ (o : Option Node). under_parent o) (node_is S dir parent at)

  -- the name is taken
  pub link_taken : (e : DentRow) → get S.dents (dir, name) ≡ Some e → linked_to ≡ refuses codes.Exists
  link_taken e is = ap (λ (o : Option ℕ). unless_there o (under_parent (get (tree_of S).nodes dir))) (entry_is S dir name (Some e) is)

  under_other : (parent : Option InodeRow) → get S.inodes dir ≡ parent → (HasKind S dir kinds.Dir → ⊥) → under_parent (option_map node_of parent) ≡ refuses codes.NotDir
  under_other None at not_dir = refl
  under_other (Some row) at not_dir = by row.part refl
    where
      by : (part : InodePart) → row.part ≡ part → link_in (tree_of S) stamp id dir name (node_part row.part) ≡ refuses codes.NotDir
      by (parts.Dir parent chunk stripe) is = absurd (not_dir (row, at, ap kind_of is))
      by (parts.File length truncs layout hint) is = ap (λ (p : InodePart). link_in (tree_of S) stamp id dir name (node_part p)) is
      by (parts.Link target) is = ap (λ (p : InodePart). link_in (tree_of S) stamp id dir name (node_part p)) is

  -- there is no directory
  pub link_nowhere : (HasKind S dir kinds.Dir → ⊥) → linked_to ≡ refuses codes.NotDir
  link_nowhere not_dir = link_free (no_entry_in C S good dir name not_dir) (get S.inodes dir) refl ∙ under_other (get S.inodes dir) refl not_dir

  module _ (parent : HasKind S dir kinds.Dir) (free : get S.dents (dir, name) ≡ None) where
    link_here : linked_to ≡ link_node (tree_of S) stamp id dir name
    link_here = link_free free (Some parent.0) parent.1 ∙ by parent.0.part parent.2
      where
        by : (part : InodePart) → kind_of part ≡ kinds.Dir → link_in (tree_of S) stamp id dir name (node_part part) ≡ link_node (tree_of S) stamp id dir name
        by (parts.Dir above chunk stripe) k = refl
        by (parts.File length truncs layout hint) k = cc
        by (parts.Link target) k = cc

    module _ (row : InodeRow) (there : get S.inodes id ≡ Some row) (no_dir : kind_of row.part ≢ kinds.Dir) where
      abbrev by_limit : Bool → Effect
      by_limit b = cond b (refuses (codes.AtLimit Links)) (Makes (with_link (tree_of S) stamp dir name id (node_of row)) Done)

      link_counted : linked_to ≡ by_limit (row.links == 65535)
      link_counted =
          link_here
          ∙ ap (λ (o : Option Node). if_there o (λ node. cond (count_to (tree_of S) id == 65535) (refuses (codes.AtLimit Links)) (Makes (with_link (tree_of S) stamp dir name id node) Done))) (node_is S id (Some row) there)
          ∙ ap by_limit (ap (λ n. n == 65535) (count_told S id ∙ sym (other_links C S good id row there no_dir)))

      -- no node has more entries
      pub link_full : row.links ≡ 65535 → linked_to ≡ refuses (codes.AtLimit Links)
      link_full full = link_counted ∙ ap by_limit (eq-eqb row.links 65535 full)

      -- the entry that leads to it
      abbrev entry_row : DentRow
      entry_row = record { inode = id; kind = kind_of row.part }

      pub link_one : 1 ≤ row.links → row.links ≢ 65535 → IsWellFormed C (with_entry S dir name (Some (record { inode = id; kind = kind_of row.part })) id (recounted stamp (row.links + 1) row) S.doomed)
          × (linked_to ≡ Makes (tree_of (with_entry S dir name (Some (record { inode = id; kind = kind_of row.part })) id (recounted stamp (row.links + 1) row) S.doomed)) Done)
      link_one some room =
          let may : MayRelink S dir name (Some entry_row) id row (recounted stamp (row.links + 1) row) S.doomed = record {
            there = there;
            linked = some;
            no_dir = no_dir;
            part = refl;
            was = λ f is. absurd (not_some f free is);
            is = λ f is. let same : entry_row ≡ f = some_injective entry_row f is in (sym (ap (λ (r : DentRow). r.inode) same), sym (ap (λ (r : DentRow). r.kind) same), parent);
            count = let none = ap count_if free in omega arith;
            fate = inl (omega arith, refl);
          } in (
            relinks C S good dir name (Some entry_row) id row (recounted stamp (row.links + 1) row) S.doomed may,
            link_counted ∙ ap by_limit (ne_eqb row.links 65535 room) ∙ ap (λ (T : Tree). Makes T Done) (sym (tree_with_entry S dir name (Some entry_row) id (recounted stamp (row.links + 1) row) S.doomed)),
          )
