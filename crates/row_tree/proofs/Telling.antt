-- What a look-up in the rows tells of their tree.
use Rattle.std.proofs.Common.{◌≡◌, ◌≢◌, ℕ, zero, suc, true, false, cond, List, ◌∷◌, refl, sym, ap, ◌∙◌}
use Rattle.std.specs.Prelude.{Option, Some, None}
use Rattle.std.specs.Option.{option_map, unwrap_or}
use Rattle.std.specs.Ordering.{nat_cmp}
use Rattle.std.specs.FinMap.{get}
use Rattle.fs_base.specs.Config.{Settings}
use Rattle.fs_base.specs.declared.code.Code.TheVariants.{NotFound, NotDir}
use Rattle.fs_base.specs.declared.kind.Kind.TheVariants as kinds
use Rattle.inode_record.specs.declared.inode.InodePart.{InodePart}
use Rattle.inode_record.specs.declared.inode.InodePart.TheVariants as parts
use Rattle.inode_record.specs.declared.inode.InodeRow.{InodeRow}
use Rattle.row_records.specs.declared.rows.DentRow.{DentRow}
use Rattle.row_records.specs.declared.rows.GcRow.{GcRow}
use Rattle.row_records.specs.declared.rows.KeptRow.{KeptRow}
use Rattle.tree_model.specs.declared.walk.WalkEnd.{WalkEnd}
use Rattle.tree_model.specs.declared.walk.Walked.TheVariants.{AtParent, Stopped}
use Rattle.tree_model.specs.Maps.{dent_cmp, session_cmp}
use Rattle.tree_model.specs.Tree.{Tree, next_at}
use Rattle.tree_model.specs.Walk.{Entry, Trip, Behind, stay, visiting, at_file, is_last_of_parent, at_link, at_part, at_node, at_entry, down, walk, if_dir, from_base}
use Rattle.tree_model.specs.Walking.{follow_of}
use Rattle.tree_model.proofs.MapLaws.{get-map_values}
use Rattle.row_tree.specs.TypedRows.{TypedRows, kind_of}
use Rattle.row_tree.specs.TreeOf.{tree_of, node_of, node_part, kept_of, doom_of}
use Rattle.row_tree.specs.WellFormed.{IsWellFormed}

pub entry_is : (S : TypedRows) (dir : ℕ) (name : List ℕ) (o : Option DentRow) → get S.dents (dir, name) ≡ o → get (tree_of S).entries (dir, name) ≡ option_map (λ e. e.inode) o
entry_is S dir name o is = get-map_values dent_cmp (λ (e : DentRow). e.inode) S.dents (dir, name) ∙ ap (option_map (λ (e : DentRow). e.inode)) is

pub node_is : (S : TypedRows) (id : ℕ) (o : Option InodeRow) → get S.inodes id ≡ o → get (tree_of S).nodes id ≡ option_map node_of o
node_is S id o is = get-map_values nat_cmp node_of S.inodes id ∙ ap (option_map node_of) is

pub kept_is : (S : TypedRows) (client : ℕ) (o : Option KeptRow) → get S.kept client ≡ o → get (tree_of S).kept client ≡ option_map kept_of o
kept_is S client o is = get-map_values nat_cmp kept_of S.kept client ∙ ap (option_map kept_of) is

pub doom_is : (S : TypedRows) (id : ℕ) (o : Option GcRow) → get S.doomed id ≡ o → get (tree_of S).doomed id ≡ option_map doom_of o
doom_is S id o is = get-map_values nat_cmp doom_of S.doomed id ∙ ap (option_map doom_of) is

pub writer_is : (S : TypedRows) (inode client number : ℕ) (o : Option ℕ) → get S.sessions (inode, (client, number)) ≡ o → get (tree_of S).writers (inode, (client, number)) ≡ option_map (λ (stamp : ℕ). tt {0}) o
writer_is S inode client number o is = get-map_values session_cmp (λ (stamp : ℕ). tt {0}) S.sessions (inode, (client, number)) ∙ ap (option_map (λ (stamp : ℕ). tt {0})) is

pub next_is : (S : TypedRows) (server : ℕ) (o : Option ℕ) → get S.next server ≡ o → next_at (tree_of S).next server ≡ unwrap_or o 1
next_is S server o is = ap (λ o. unwrap_or o 1) is

-- ---- a walk on one name

pub walk_is : (left : ℕ) (T : Tree) (end : WalkEnd) (names : List (List ℕ)) (here : ℕ) → walk left T end names here ≡ down (follow_of left T end) T end names here
walk_is zero T end names here = refl
walk_is (suc left) T end names here = refl

part_dir : (follow : Behind) (end : WalkEnd) (here id : ℕ) (names : List (List ℕ)) (below : Trip) (part : InodePart) → kind_of part ≡ kinds.Dir → at_part follow end here id names below (node_part part) ≡ below
part_dir follow end here id names below (parts.Dir parent chunk stripe) k = refl
part_dir follow end here id names below (parts.File length truncs layout hint) k = cc
part_dir follow end here id names below (parts.Link target) k = cc

part_file : (follow : Behind) (end : WalkEnd) (here id : ℕ) (names : List (List ℕ)) (below : Trip) (part : InodePart) → kind_of part ≡ kinds.File → at_part follow end here id names below (node_part part) ≡ stay (at_file id names)
part_file follow end here id names below (parts.Dir parent chunk stripe) k = cc
part_file follow end here id names below (parts.File length truncs layout hint) k = refl
part_file follow end here id names below (parts.Link target) k = cc

pub link_target : (part : InodePart) → kind_of part ≡ kinds.Link → (target : List ℕ) × (part ≡ parts.Link target)
link_target (parts.Dir parent chunk stripe) k = cc
link_target (parts.File length truncs layout hint) k = cc
link_target (parts.Link target) k = (target, refl)

module _ (C : Settings) (S : TypedRows) (good : IsWellFormed C S) (left : ℕ) (end : WalkEnd) (here : ℕ) (name : List ℕ) (names : List (List ℕ)) where
  abbrev follow : Behind
  follow = follow_of left (tree_of S) end

  abbrev below : ℕ → Trip
  below = down (follow_of left (tree_of S) end) (tree_of S) end names

  abbrev after : Option ℕ → Trip
  after o = visiting (Entry here name) (at_entry (follow_of left (tree_of S) end) (tree_of S) end here names (down (follow_of left (tree_of S) end) (tree_of S) end names) o)

  pub walk_parent : is_last_of_parent end names ≡ true → walk left (tree_of S) end (name ∷ names) here ≡ stay (AtParent here name)
  walk_parent last = walk_is left (tree_of S) end (name ∷ names) here ∙ ap (λ b. cond b (stay (AtParent here name)) (after (get (tree_of S).entries (here, name)))) last

  module _ (more : is_last_of_parent end names ≡ false) where
    walk_entry : (o : Option ℕ) → get (tree_of S).entries (here, name) ≡ o → walk left (tree_of S) end (name ∷ names) here ≡ after o
    walk_entry o is = walk_is left (tree_of S) end (name ∷ names) here ∙ ap (λ b. cond b (stay (AtParent here name)) (after (get (tree_of S).entries (here, name)))) more ∙ ap (λ o. after o) is

    -- the name is looked at first
    pub walk_reads : (rest : Trip) × (walk left (tree_of S) end (name ∷ names) here ≡ visiting (Entry here name) rest)
    walk_reads = (at_entry follow (tree_of S) end here names below (get (tree_of S).entries (here, name)), walk_entry (get (tree_of S).entries (here, name)) refl)

    pub walk_absent : get S.dents (here, name) ≡ None → walk left (tree_of S) end (name ∷ names) here ≡ visiting (Entry here name) (stay (Stopped NotFound))
    walk_absent is = walk_entry None (entry_is S here name None is)

    -- the entry's target, by its row
    walk_target : (e : DentRow) → get S.dents (here, name) ≡ Some e → (row : InodeRow) → get S.inodes e.inode ≡ Some row → walk left (tree_of S) end (name ∷ names) here ≡ visiting (Entry here name) (at_part follow end here e.inode names (below e.inode) (node_part row.part))
    walk_target e is row at =
        walk_entry (Some e.inode) (entry_is S here name (Some e) is)
        ∙ ap (λ o. visiting (Entry here name) (at_node follow end here e.inode names (below e.inode) o)) (node_is S e.inode (Some row) at)

    pub walk_dir : (e : DentRow) → get S.dents (here, name) ≡ Some e → e.kind ≡ kinds.Dir → walk left (tree_of S) end (name ∷ names) here ≡ visiting (Entry here name) (walk left (tree_of S) end names e.inode)
    walk_dir e is dir =
        let has = (good.entry here name e is).target in
        walk_target e is has.0 has.1 ∙ ap (visiting (Entry here name)) (part_dir follow end here e.inode names (below e.inode) has.0.part (has.2 ∙ dir) ∙ sym (walk_is left (tree_of S) end names e.inode))

    pub walk_file : (e : DentRow) → get S.dents (here, name) ≡ Some e → e.kind ≡ kinds.File → walk left (tree_of S) end (name ∷ names) here ≡ visiting (Entry here name) (stay (at_file e.inode names))
    walk_file e is file =
        let has = (good.entry here name e is).target in
        walk_target e is has.0 has.1 ∙ ap (visiting (Entry here name)) (part_file follow end here e.inode names (below e.inode) has.0.part (has.2 ∙ file))

    pub walk_link : (e : DentRow) → get S.dents (here, name) ≡ Some e → (row : InodeRow) → get S.inodes e.inode ≡ Some row → (target : List ℕ) → row.part ≡ parts.Link target → walk left (tree_of S) end (name ∷ names) here ≡ visiting (Entry here name) (at_link (follow_of left (tree_of S) end) end here e.inode target names)
    walk_link e is row at target part =
        walk_target e is row at ∙ ap (λ (p : InodePart). visiting (Entry here name) (at_part follow end here e.inode names (below e.inode) (node_part p))) part

    -- a link whose row isn't read: some target stands there
    pub walk_some_link : (e : DentRow) → get S.dents (here, name) ≡ Some e → e.kind ≡ kinds.Link → (target : List ℕ) × (walk left (tree_of S) end (name ∷ names) here ≡ visiting (Entry here name) (at_link (follow_of left (tree_of S) end) end here e.inode target names))
    walk_some_link e is link =
        let has = (good.entry here name e is).target in
        let target = link_target has.0.part (has.2 ∙ link) in
        (target.0, walk_link e is has.0 has.1 target.0 target.1)

-- ---- where a walk starts

module _ (S : TypedRows) (base : ℕ) (trip : Trip) where
  pub base_absent : get S.inodes base ≡ None → from_base (get (tree_of S).nodes base) trip ≡ stay (Stopped NotFound)
  base_absent none = ap (λ o. from_base o trip) (node_is S base None none)

  module _ (row : InodeRow) (is : get S.inodes base ≡ Some row) where
    pub base_dir : kind_of row.part ≡ kinds.Dir → from_base (get (tree_of S).nodes base) trip ≡ trip
    base_dir dir = ap (λ o. from_base o trip) (node_is S base (Some row) is) ∙ by row.part dir
      where
        by : (part : InodePart) → kind_of part ≡ kinds.Dir → if_dir (node_part part) trip ≡ trip
        by (parts.Dir parent chunk stripe) k = refl
        by (parts.File length truncs layout hint) k = cc
        by (parts.Link target) k = cc

    pub base_other : kind_of row.part ≢ kinds.Dir → from_base (get (tree_of S).nodes base) trip ≡ stay (Stopped NotDir)
    base_other other = ap (λ o. from_base o trip) (node_is S base (Some row) is) ∙ by row.part other
      where
        by : (part : InodePart) → kind_of part ≢ kinds.Dir → if_dir (node_part part) trip ≡ stay (Stopped NotDir)
        by (parts.Dir parent chunk stripe) k = absurd (k refl)
        by (parts.File length truncs layout hint) k = refl
        by (parts.Link target) k = refl
