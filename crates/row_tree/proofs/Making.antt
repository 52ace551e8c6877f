-- A node made in a directory: what the call comes to by what the rows have, and the rows with the node.
use Rattle.std.proofs.Common.{◌≡◌, ℕ, ◌<◌, ◌≤◌, ◌^◌, true, cond, List, refl, sym, ap, subst, ◌∙◌, inl, inr, arith, eq-eqb, ne_eqb}
use Rattle.std.specs.Prelude.{Option, Some, None, unwrap_or, IsTrue}
use Rattle.std.specs.Option.{option_map}
use Rattle.std.specs.FinMap.{get}
use Rattle.fs_base.specs.Config.{Settings, admits}
use Rattle.fs_base.specs.declared.code.Code.TheVariants as codes
use Rattle.fs_base.specs.declared.code.Limit.TheVariants.{Inodes}
use Rattle.fs_base.specs.declared.kind.Kind.TheVariants as kinds
use Rattle.fs_base.specs.declared.layout.DefaultLayout.{DefaultLayout}
use Rattle.fs_base.specs.declared.reply.Reply.TheVariants.{Made}
use Rattle.inode_record.specs.declared.inode.InodePart.{InodePart}
use Rattle.inode_record.specs.declared.inode.InodePart.TheVariants as parts
use Rattle.inode_record.specs.declared.inode.InodeRow.{InodeRow}
use Rattle.row_records.specs.declared.rows.DentRow.{DentRow}
use Rattle.tree_model.specs.declared.new_node.NewNode.{NewNode}
use Rattle.tree_model.specs.declared.node.Node.{Node}
use Rattle.tree_model.specs.declared.node.NodePart.{NodePart}
use Rattle.tree_model.specs.declared.walk.Walked.TheVariants.{AtParent}
use Rattle.tree_model.specs.Creating.{id_of, admits_given, part_for, with_child, add_numbered, add_in, add_child, unless_there, make_at}
use Rattle.tree_model.specs.Effects.{Effect, Makes, refuses}
use Rattle.tree_model.specs.Tree.{next_at, node_with}
use Rattle.tree_model.proofs.MapLaws.{some_or_none, same_some}
use Rattle.row_tree.specs.NewRows.{IsRoom, new_row}
use Rattle.row_tree.specs.Steps.{MayAdd, with_node}
use Rattle.row_tree.specs.TreeOf.{tree_of, node_of, node_part}
use Rattle.row_tree.specs.TypedRows.{TypedRows, kind_of}
use Rattle.row_tree.specs.WellFormed.{IsWellFormed, HasKind, FitsConfig}
use Rattle.row_tree.proofs.Adding.{adds_node, next_is_free, tree_with_node}
use Rattle.row_tree.proofs.Detaching.{no_entry_in}
use Rattle.row_tree.proofs.NewRowLaws.{fits_config, inside, same_part}
use Rattle.row_tree.proofs.Telling.{entry_is, node_is}

-- a row of another kind
pub no_directory : (S : TypedRows) (dir : ℕ) (row : InodeRow) → get S.inodes dir ≡ Some row → ((parent chunk stripe : ℕ) → row.part ≡ parts.Dir parent chunk stripe → ⊥) → HasKind S dir kinds.Dir → ⊥
no_directory S dir row at not_dir has = by row.part refl (ap (λ (r : InodeRow). kind_of r.part) (same_some row has.0 at has.1) ∙ has.2)
  where
    by : (part : InodePart) → row.part ≡ part → kind_of row.part ≡ kinds.Dir → ⊥
    by (parts.Dir parent chunk stripe) is k = not_dir parent chunk stripe is
    by (parts.File length truncs layout hint) is k = let e : kinds.File ≡ kinds.Dir = sym (ap kind_of is) ∙ k in cc
    by (parts.Link target) is k = let e : kinds.Link ≡ kinds.Dir = sym (ap kind_of is) ∙ k in cc

-- the given layout or the directory's default, each admitted
pub chosen_fits : (C : Settings) (given : Option DefaultLayout) (default : DefaultLayout) → admits_given C given ≡ true → admits C default ≡ true → IsTrue (admits C (unwrap_or given default))
chosen_fits C None default given_fits fits = fits
chosen_fits C (Some given) default given_fits fits = given_fits

module _ (C : Settings) (S : TypedRows) (good : IsWellFormed C S) (server stamp : ℕ) (node : NewNode) (dir : ℕ) (name : List ℕ) where
  abbrev in_parent : Option Node → Effect
  in_parent parent = add_child C (tree_of S) server stamp node dir name parent

  abbrev in_a : NodePart → Effect
  in_a part = add_in C (tree_of S) server stamp node dir name part

  abbrev made : Effect
  made = make_at C (tree_of S) server stamp node (AtParent dir name)

  make_free : get S.dents (dir, name) ≡ None → (parent : Option InodeRow) → get S.inodes dir ≡ parent → made ≡ in_parent (option_map node_of parent)
  make_free free parent at = ap (λ (o : Option ℕ). unless_there o (in_parent (get (tree_of S).nodes dir))) (entry_is S dir name None free) ∙ ap in_parent (node_is S dir parent at)

  -- the name is taken
  pub make_taken : (e : DentRow) → get S.dents (dir, name) ≡ Some e → made ≡ refuses codes.Exists
  make_taken e is = ap (λ (o : Option ℕ). unless_there o (in_parent (get (tree_of S).nodes dir))) (entry_is S dir name (Some e) is)

  in_other : (parent : Option InodeRow) → get S.inodes dir ≡ parent → (HasKind S dir kinds.Dir → ⊥) → in_parent (option_map node_of parent) ≡ refuses codes.NotDir
  in_other None at not_dir = refl
  in_other (Some row) at not_dir = by row.part refl
    where
      by : (part : InodePart) → row.part ≡ part → in_a (node_part row.part) ≡ refuses codes.NotDir
      by (parts.Dir parent chunk stripe) is = absurd (not_dir (row, at, ap kind_of is))
      by (parts.File length truncs layout hint) is = ap (λ (p : InodePart). in_a (node_part p)) is
      by (parts.Link target) is = ap (λ (p : InodePart). in_a (node_part p)) is

  -- there is no directory
  pub make_nowhere : (HasKind S dir kinds.Dir → ⊥) → made ≡ refuses codes.NotDir
  make_nowhere not_dir = make_free (no_entry_in C S good dir name not_dir) (get S.inodes dir) refl ∙ in_other (get S.inodes dir) refl not_dir

  module _ (default : DefaultLayout) (number : ℕ) (room : IsRoom S server dir name default number) where
    abbrev layout : DefaultLayout
    layout = unwrap_or node.layout default

    abbrev new : InodeRow
    new = new_row C node stamp (id_of number server) dir (layout)

    -- what is made at a number
    abbrev added : ℕ → Node → Effect
    added number new = Makes (with_child (tree_of S) server dir name new) (Made (id_of number server))

    abbrev new_node : ℕ → Node
    new_node number = node_with node.mode stamp (part_for C node.part (id_of number server) (layout))

    make_here : made ≡ add_numbered C (tree_of S) server stamp node dir name (layout)
    make_here = make_free room.free (Some room.row) room.there ∙ ap (λ (p : InodePart). in_a (node_part p)) room.is_dir

    next_small : next_at S.next server < 2 ^ 32
    next_small = elim (some_or_none (get S.next server)) [
      | inl none ↦ subst (λ m. m < 2 ^ 32) (sym (ap (λ o. unwrap_or o 1) none)) (omega arith)
      | inr has ↦ subst (λ m. m < 2 ^ 32) (sym (ap (λ o. unwrap_or o 1) has.1)) ((good.numbers server has.0 has.1).1)
    ]

    -- no number is left
    pub make_full : 4294967295 ≤ number → made ≡ refuses (codes.AtLimit Inodes)
    make_full full =
        let is = room.next in
        let small = next_small in
        make_here ∙ ap (λ b. cond b (refuses (codes.AtLimit Inodes)) (added (next_at S.next server) (new_node (next_at S.next server)))) (eq-eqb (next_at S.next server) 4294967295 (omega arith))

    module _ (below : number < 4294967295) (few : server < 16) (fits : IsTrue (admits C layout)) where
      may_add : MayAdd C S server dir name (new)
      may_add = record {
        in_range = few;
        room = let is = room.next in omega arith;
        parent = (room.row, room.there, ap kind_of room.is_dir);
        free = room.free;
        one = refl;
        fits = subst (λ (x : ℕ). FitsConfig C (id_of x server) (new).part) (sym room.next) (fits_config C node.part (id_of number server) dir (layout) fits);
        inside = inside C node.part (id_of number server) dir (layout);
      }

      -- no row stands there yet
      pub id_is_free : get S.inodes (id_of number server) ≡ None
      id_is_free = subst (λ (x : ℕ). get S.inodes (id_of x server) ≡ None) room.next (next_is_free C S good server dir name (new) may_add)

      node_is_new : node_of (new) ≡ new_node number
      node_is_new = ap (λ p. record { mode = node.mode; owner = 0; group = 0; atime = stamp; mtime = stamp; ctime = stamp; part = p }) (same_part C node.part (id_of number server) dir (layout))

      pub make_one : IsWellFormed C (with_node S server dir name (new)) × (made ≡ Makes (tree_of (with_node S server dir name (new))) (Made (id_of number server)))
      make_one = (
        adds_node C S good server dir name (new) may_add,
        make_here
            ∙ ap (λ b. cond b (refuses (codes.AtLimit Inodes)) (added (next_at S.next server) (new_node (next_at S.next server)))) (ne_eqb (next_at S.next server) 4294967295 (λ e. let is = room.next in omega arith))
            ∙ ap (λ x. added x (new_node x)) room.next
            ∙ ap (λ x. added number x) (sym node_is_new)
            ∙ ap (λ x. Makes x (Made (id_of number server))) (sym (tree_with_node S server dir name (new))),
      )
