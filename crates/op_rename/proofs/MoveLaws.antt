-- What a rename owes once both entries are known.
use Rattle.std.proofs.Common.{◌≡◌, ◌≢◌, ℕ, ◌<◌, ◌^◌, Bool, true, false, cond, List, [], ◌∷◌, ◌++◌, refl, sym, ap, subst, ◌∙◌, inl, inr, arith, eq-eqb, ne_eqb}
use Rattle.std.specs.Prelude.{IsTrue, Option, Some, None}
use Rattle.std.specs.Option.{option_map}
use Rattle.std.specs.FinMap.{get}
use Rattle.byte_fields.specs.Fields.{time}
use Rattle.conflict_sets.specs.declared.sets.ReadSet.{ReadSet}
use Rattle.fs_base.specs.Config.{Settings}
use Rattle.fs_base.specs.Names.{is_name}
use Rattle.fs_base.specs.declared.code.Code.TheVariants as codes
use Rattle.fs_base.specs.declared.kind.Kind.{Kind}
use Rattle.fs_base.specs.declared.kind.Kind.TheVariants as kinds
use Rattle.fs_base.specs.declared.reply.Reply.TheVariants.{Done, Refused}
use Rattle.inode_record.specs.declared.inode.InodePart.{InodePart}
use Rattle.inode_record.specs.declared.inode.InodePart.TheVariants as parts
use Rattle.inode_record.specs.declared.inode.InodeRow.{InodeRow}
use Rattle.key_schema.specs.Ranges.{dir_prefix, raised}
use Rattle.key_schema.specs.declared.key.Key.{Key}
use Rattle.key_schema.specs.declared.key.Key.TheVariants as keys
use Rattle.row_records.proofs.InRange.{done_fits}
use Rattle.row_records.specs.declared.rows.DentRow.{DentRow}
use Rattle.row_tree.specs.Steps.{IsPathAround, MayMove, with_move}
use Rattle.row_tree.specs.TreeOf.{tree_of, node_part}
use Rattle.row_tree.specs.TypedRows.{TypedRows, kind_of, parent_of}
use Rattle.row_tree.specs.Values.{Value}
use Rattle.row_tree.specs.WellFormed.{HasKind, IsWellFormed}
use Rattle.row_tree.proofs.Ancestors.{not_below}
use Rattle.row_tree.proofs.Below.{below_decided}
use Rattle.row_tree.proofs.Detaching.{empty_told, used_told}
use Rattle.row_tree.proofs.Removing.{same_kind}
use Rattle.row_tree.proofs.Renaming.{rename_empty, rename_free, rename_into_free, rename_into_taken, rename_is_dir, rename_not_dir, rename_same, rename_unlinked, rename_used, source}
use Rattle.row_tree.proofs.Telling.{node_is}
use Rattle.tree_model.specs.declared.node.Node.{Node}
use Rattle.tree_model.specs.declared.walk.Walked.TheVariants.{AtParent}
use Rattle.tree_model.specs.Effects.{Effect, Makes, at_length, refuses}
use Rattle.tree_model.specs.Linking.{is_empty_dir}
use Rattle.tree_model.specs.Moving.{is_below, rename_at}
use Rattle.tree_model.specs.Tree.{Tree}
use Rattle.tree_model.proofs.MapLaws.{get-set_other, get-set_same, ids, names, not_some, same_some, some_injective}
use Rattle.txn_task.specs.Agreeing.{Agrees}
use Rattle.txn_task.specs.Transactions.{Transaction}
use Rattle.txn_task.specs.Wanted.{AsksFirst, IsFirstRead, IsKeyRead, IsUnread}
use Rattle.txn_task.specs.declared.messages.Ask.{Ask}
use Rattle.txn_task.specs.declared.messages.Ask.TheVariants as asks
use Rattle.txn_task.specs.declared.messages.Asked.{Asked}
use Rattle.txn_task.specs.declared.messages.OpStep.TheVariants as steps
use Rattle.path_walk.specs.Areas.{Area, AreRead, FirstRow, IsNextOf, OneKey}
use Rattle.path_walk.specs.Climbing.{climbed}
use Rattle.path_walk.specs.Directories.{IsRowRead}
use Rattle.path_walk.specs.Footprint.{beside_part, dir_moved, in_dir, kind_moved, moved_at, other_moved, unless_dir}
use Rattle.path_walk.specs.Owed.{HasDone, HasRead, KeepsAreas}
use Rattle.path_walk.specs.Puts.{ArePuts, put_writes, with_puts}
use Rattle.path_walk.specs.RowPuts.{unlinked_puts}
use Rattle.path_walk.proofs.AreaLaws.{no_areas, read_both}
use Rattle.path_walk.proofs.NameLaws.{in_directory}
use Rattle.path_walk.proofs.PutLaws.{puts_done}
use Rattle.path_walk.proofs.RowPutLaws.{entry_taken, node_taken}
use Rattle.path_walk.proofs.StepLaws.{areas_on, asks_for, asks_key, may_behind, read_behind, tells}
use Rattle.path_walk.proofs.UnlinkLaws.{unlinked_are, unlinked_dents, unlinked_inodes, unlinked_made}
use Rattle.op_rename.specs.Climb.{IsClimbStep}
use Rattle.op_rename.specs.Ending.{IsMoveStep}
use Rattle.op_rename.specs.Puts.{cleared_puts, dir_puts, moved_puts}
use Rattle.op_rename.specs.Replace.{AreEntriesRead, GoesBeside, IsPlaceCleared, IsInRange, IsOtherNode}
use Rattle.op_rename.specs.Replace.{IsSameNode}
use Rattle.op_rename.specs.declared.climb.Climb.TheVariants as climbs
use Rattle.op_rename.specs.declared.place.Spots.{Spots}
use Rattle.op_rename.proofs.MovePuts.{dir_are, made_dir, made_moved, moved_are, row_parent, under_leaf}

next_before : (reads : ReadSet) (xs ys : List Area) (ask : Ask) → IsNextOf reads xs ask → IsNextOf reads (xs ++ ys) ask
next_before reads [] ys ask next = absurd next
next_before reads (x ∷ xs) ys ask (inl here) = inl here
next_before reads (x ∷ xs) ys ask (inr later) = inr (later.0, next_before reads xs ys ask later.1)

beside_dir : (part : InodePart) (areas : List Area) → kind_of part ≡ kinds.Dir → beside_part (node_part part) areas ≡ []
beside_dir (parts.Dir parent chunk stripe) areas k = refl
beside_dir (parts.File length truncs layout hint) areas k = cc
beside_dir (parts.Link target) areas k = cc

beside_leaf : (part : InodePart) (areas : List Area) → kind_of part ≢ kinds.Dir → beside_part (node_part part) areas ≡ areas
beside_leaf (parts.Dir parent chunk stripe) areas k = absurd (k refl)
beside_leaf (parts.File length truncs layout hint) areas k = refl
beside_leaf (parts.Link target) areas k = refl

abbrev first_of : ℕ → Area
first_of id = FirstRow (dir_prefix id) (raised (dir_prefix id))

module _ (spots : Spots) (stamp : ℕ) (e : DentRow) (taken : Option DentRow) where
  abbrev from : ℕ × List ℕ
  from = (spots.from.dir, spots.from.name)

  abbrev to : ℕ × List ℕ
  to = (spots.to.dir, spots.to.name)

  abbrev old_id : Option ℕ
  old_id = option_map (λ (x : DentRow). x.inode) taken

  abbrev areas : Tree → List Area
  areas T = moved_at T e.kind e.inode spots.to.dir (option_map (λ (x : DentRow). x.inode) taken)

  abbrev outcome : Tree → Effect
  outcome T = rename_at T stamp (AtParent spots.from.dir spots.from.name) (AtParent spots.to.dir spots.to.name)

  -- ---- both entries lead to one node

  same_areas : (T : Tree) (o : Option DentRow) → IsSameNode e o → moved_at T e.kind e.inode spots.to.dir (option_map (λ (x : DentRow). x.inode) o) ≡ []
  same_areas T None same = absurd same
  same_areas T (Some old) same = ap (λ b. cond b [] (kind_moved T e.kind e.inode spots.to.dir (Some old.inode))) (eq-eqb old.inode e.inode same)

  pub same_done : (t : Transaction) → t.writes ≡ [] → AreEntriesRead t.reads spots e taken → IsSameNode e taken → (asked : List Asked) → asked ≡ [] → IsMoveStep spots stamp e taken t t (steps.Commit Done asked)
  same_done t none known same asked empty C =
      puts_done C areas outcome t t Done asked []
      (λ S good agrees. subst (AreRead t.reads) (sym (same_areas (tree_of S) taken same)) tt)
      tt (λ i. record t { writes = none i }) done_fits empty
      (λ S good agrees. (good, ap (at_length 0) (by_taken S good agrees taken ((known.taken_read).there S agrees) same)))
    where
      by_taken : (S : TypedRows) → IsWellFormed C S → Agrees S t.reads → (o : Option DentRow) → get S.dents to ≡ o → IsSameNode e o → outcome (tree_of S) ≡ Makes (tree_of S) Done
      by_taken S good agrees None at same = absurd same
      by_taken S good agrees (Some old) at same =
          rename_same C S good stamp from to e ((known.entry_read).there S agrees) ((known.dir).row, (known.dir).there S agrees, (known.dir).is_dir) old at same

  -- ---- another node stands there, or none

  module _ (reads : ReadSet) (known : AreEntriesRead reads spots e taken) (other : IsOtherNode e taken) where
    other_areas : (T : Tree) → areas T ≡ kind_moved T e.kind e.inode spots.to.dir old_id
    other_areas T = by taken other
      where
        by : (o : Option DentRow) → IsOtherNode e o → moved_at T e.kind e.inode spots.to.dir (option_map (λ (x : DentRow). x.inode) o) ≡ kind_moved T e.kind e.inode spots.to.dir (option_map (λ (x : DentRow). x.inode) o)
        by None h = refl
        by (Some old) h = ap (λ b. cond b [] (kind_moved T e.kind e.inode spots.to.dir (Some old.inode))) (ne_eqb old.inode e.inode h)

    module _ (S : TypedRows) (agrees : Agrees S reads) where
      entry_at : get S.dents from ≡ Some e
      entry_at = (known.entry_read).there S agrees

      dir_at : HasKind S spots.to.dir kinds.Dir
      dir_at = ((known.dir).row, (known.dir).there S agrees, (known.dir).is_dir)

    -- ---- a directory

    module _ (is_dir : e.kind ≡ kinds.Dir) where
      abbrev then_moved : Tree → Bool → List Area
      then_moved T b = climbed T e.inode spots.to.dir ++ cond b [] (dir_moved T e.inode old_id)

      dir_areas : (T : Tree) → areas T ≡ then_moved T (is_below T e.inode spots.to.dir)
      dir_areas T = other_areas T ∙ ap (λ (k : Kind). kind_moved T k e.inode spots.to.dir old_id) is_dir

  module _ (t : Transaction) (none : t.writes ≡ []) (known : AreEntriesRead t.reads spots e taken) (other : IsOtherNode e taken) (is_dir : e.kind ≡ kinds.Dir) where
    pub asks_up : (key : Key) → IsClimbStep (climbs.Ask key) t.reads e.inode spots.to.dir → IsMoveStep spots stamp e taken t t (steps.Ask (asks.Get key))
    asks_up key step C =
        asks_for C areas outcome t none (asks.Get key) step.0
        (λ S good agrees.
        subst (λ (l : List Area). IsNextOf t.reads l (asks.Get key)) (sym (dir_areas t.reads known other is_dir (tree_of S)))
        (next_before t.reads (climbed (tree_of S) e.inode spots.to.dir) (cond (is_below (tree_of S) e.inode spots.to.dir) [] (dir_moved (tree_of S) e.inode old_id)) (asks.Get key) (step.1 C S good agrees)))

    pub into_itself : IsClimbStep climbs.Found t.reads e.inode spots.to.dir → IsMoveStep spots stamp e taken t t (steps.Reply (Refused codes.IntoItself))
    into_itself step C = tells C areas outcome t none (Refused codes.IntoItself) all_read told
      where
        all_read : HasRead C areas t.reads
        all_read S good agrees =
            let below = (below_decided C S good e.inode spots.to.dir (dir_at t.reads known other S agrees)).1 ((step C).1 S good agrees) in
            subst (AreRead t.reads) (sym (dir_areas t.reads known other is_dir (tree_of S) ∙ ap (then_moved t.reads known other is_dir (tree_of S)) below))
            (read_both t.reads (climbed (tree_of S) e.inode spots.to.dir) [] ((step C).0 S good agrees) tt)

        told : (S : TypedRows) → IsWellFormed C S → Agrees S t.reads → outcome (tree_of S) ≡ refuses codes.IntoItself
        told S good agrees = by taken ((known.taken_read).there S agrees) other
          where
            by : (o : Option DentRow) → get S.dents to ≡ o → IsOtherNode e o → outcome (tree_of S) ≡ refuses codes.IntoItself
            by None free h = rename_into_free C S good stamp from to e (entry_at t.reads known other S agrees) (dir_at t.reads known other S agrees) is_dir free ((step C).1 S good agrees)
            by (Some old) at h = rename_into_taken C S good stamp from to e (entry_at t.reads known other S agrees) (dir_at t.reads known other S agrees) old at is_dir h ((step C).1 S good agrees)

  -- ---- a directory that doesn't come below itself

  module _ (reads : ReadSet) (known : AreEntriesRead reads spots e taken) (other : IsOtherNode e taken) (goes : GoesBeside reads spots e) (C : Settings) where
    around : (S : TypedRows) → IsWellFormed C S → Agrees S reads → e.kind ≡ kinds.Dir → (path : List ℕ) × IsPathAround S e.inode spots.to.dir path
    around S good agrees k = goes.beside C S good agrees

    not_there : (S : TypedRows) → IsWellFormed C S → Agrees S reads → is_below (tree_of S) e.inode spots.to.dir ≡ false
    not_there S good agrees = by (is_below (tree_of S) e.inode spots.to.dir) refl
      where
        by : (b : Bool) → is_below (tree_of S) e.inode spots.to.dir ≡ b → is_below (tree_of S) e.inode spots.to.dir ≡ false
        by false is = is
        by true is =
            let way = goes.beside C S good agrees in
            absurd (not_below C S good e.inode spots.to.dir way.0 way.1 ((below_decided C S good e.inode spots.to.dir (dir_at reads known other S agrees)).0 is))

    behind_way : KeepsAreas C areas (λ T. dir_moved T e.inode (option_map (λ (x : DentRow). x.inode) taken)) reads
    behind_way S good agrees = (
      climbed (tree_of S) e.inode spots.to.dir,
      goes.way_read C S good agrees,
      dir_areas reads known other goes.is_dir (tree_of S) ∙ ap (then_moved reads known other goes.is_dir (tree_of S)) (not_there S good agrees),
    )

-- ---- a directory, and what stands in its way

module _ (spots : Spots) (stamp : ℕ) (e old : DentRow) where
  abbrev inside : Tree → List Area
  inside T = first_of old.inode ∷ cond (is_empty_dir T old.inode) (OneKey (keys.Inode e.inode) ∷ []) []

  module _ (reads : ReadSet) (known : AreEntriesRead reads spots e (Some old)) (C : Settings) where
    old_kind : (S : TypedRows) → IsWellFormed C S → Agrees S reads → HasKind S old.inode old.kind
    old_kind S good agrees = (good.entry spots.to.dir spots.to.name old ((known.taken_read).there S agrees)).target

    module _ (other : old.inode ≢ e.inode) (goes : GoesBeside reads spots e) where
      behind_range : old.kind ≡ kinds.Dir → KeepsAreas C (areas spots stamp e (Some old)) inside reads
      behind_range both =
          areas_on C (areas spots stamp e (Some old)) (λ T. dir_moved T e.inode (Some old.inode)) inside reads (behind_way spots stamp e (Some old) reads known other goes C)
          (λ S good agrees.
          let is = old_kind S good agrees in
          ([], tt, ap (λ (n : Option Node). in_dir n (inside (tree_of S))) (node_is S old.inode (Some is.0) is.1) ∙ in_directory is.0.part (inside (tree_of S)) (is.2 ∙ both)))

      leaf_read : old.kind ≢ kinds.Dir → HasRead C (areas spots stamp e (Some old)) reads
      leaf_read leaf =
          read_behind C (areas spots stamp e (Some old)) (λ T. dir_moved T e.inode (Some old.inode)) reads (behind_way spots stamp e (Some old) reads known other goes C)
          (λ S good agrees. subst (AreRead reads) (sym (no_areas S old.inode (inside (tree_of S)) (λ has. leaf (same_kind S old.inode old.kind kinds.Dir (old_kind S good agrees) has)))) tt)

  module _ (t : Transaction) (none : t.writes ≡ []) (known : AreEntriesRead t.reads spots e (Some old)) (other : old.inode ≢ e.inode) (goes : GoesBeside t.reads spots e) where
    pub at_leaf : old.kind ≢ kinds.Dir → IsMoveStep spots stamp e (Some old) t t (steps.Reply (Refused codes.NotDir))
    at_leaf leaf C =
        tells C (areas spots stamp e (Some old)) (outcome spots stamp e (Some old)) t none (Refused codes.NotDir) (leaf_read t.reads known C other goes leaf)
        (λ S good agrees.
        rename_not_dir C S good stamp (from spots stamp e (Some old)) (to spots stamp e (Some old)) e ((known.entry_read).there S agrees) (dir_at spots stamp e (Some old) t.reads known other S agrees)
        (around spots stamp e (Some old) t.reads known other goes C S good agrees) old ((known.taken_read).there S agrees) other goes.is_dir leaf)

    module _ (both : old.kind ≡ kinds.Dir) where
      pub asks_range : (ask : Ask) → AsksFirst (dir_prefix old.inode) (raised (dir_prefix old.inode)) t.reads.ranges ask → IsMoveStep spots stamp e (Some old) t t (steps.Ask ask)
      asks_range ask asked C =
          subst (λ (x : Ask). HasDone C (areas spots stamp e (Some old)) (outcome spots stamp e (Some old)) t t (steps.Ask x)) (sym asked.1)
          (asks_for C (areas spots stamp e (Some old)) (outcome spots stamp e (Some old)) t none (asks.Range (dir_prefix old.inode) (raised (dir_prefix old.inode)) 1) (omega arith)
          (may_behind C (areas spots stamp e (Some old)) inside t.reads (asks.Range (dir_prefix old.inode) (raised (dir_prefix old.inode)) 1) (behind_range t.reads known C other goes both)
          (λ S good agrees. inl (refl, refl, refl, asked.0))))

      pub at_used : IsFirstRead t.reads (dir_prefix old.inode) (raised (dir_prefix old.inode)) → ((S : TypedRows) → Agrees S t.reads → (name : List ℕ) × (row : DentRow) × (get S.dents (old.inode, name) ≡ Some row))
          → IsMoveStep spots stamp e (Some old) t t (steps.Reply (Refused codes.NotEmpty))
      at_used seen used C =
          tells C (areas spots stamp e (Some old)) (outcome spots stamp e (Some old)) t none (Refused codes.NotEmpty)
          (read_behind C (areas spots stamp e (Some old)) inside t.reads (behind_range t.reads known C other goes both)
          (λ S good agrees.
          let some = used S agrees in
          subst (AreRead t.reads) (sym (ap (λ b. first_of old.inode ∷ cond b (OneKey (keys.Inode e.inode) ∷ []) []) (used_told S old.inode some.0 some.1 some.2))) (seen, tt)))
          (λ S good agrees.
          let some = used S agrees in
          rename_used C S good stamp (from spots stamp e (Some old)) (to spots stamp e (Some old)) e ((known.entry_read).there S agrees) (dir_at spots stamp e (Some old) t.reads known other S agrees)
          (around spots stamp e (Some old) t.reads known other goes C S good agrees) old ((known.taken_read).there S agrees) other goes.is_dir both some.0 some.1 some.2)

-- ---- a directory that nothing hinders

module _ (spots : Spots) (stamp : ℕ) (e : DentRow) (reads : ReadSet) (goes : GoesBeside reads spots e) (C : Settings) where
  abbrev own : Tree → List Area
  own T = OneKey (keys.Inode e.inode) ∷ []

  behind_cleared : (o : Option DentRow) → AreEntriesRead reads spots e o → IsOtherNode e o → IsPlaceCleared reads o → KeepsAreas C (areas spots stamp e o) own reads
  behind_cleared None known other cleared = behind_way spots stamp e None reads known other goes C
  behind_cleared (Some old) known other cleared =
      areas_on C (areas spots stamp e (Some old)) (inside spots stamp e old) own reads (behind_range spots stamp e old reads known C other goes cleared.0)
      (λ S good agrees. (first_of old.inode ∷ [], (cleared.1, tt), ap (λ b. first_of old.inode ∷ cond b (OneKey (keys.Inode e.inode) ∷ []) []) (empty_told S old.inode (cleared.2 S agrees))))

  cleared_are : (o : Option DentRow) → AreEntriesRead reads spots e o → IsInRange o → spots.to.dir < 2 ^ 36 → IsTrue (is_name spots.to.name) → ArePuts C reads (cleared_puts spots o)
  cleared_are None known small low named = tt
  cleared_are (Some old) known small low named = (
    node_taken C reads old.inode small (λ S good agrees. let is = old_kind spots stamp e old reads known C S good agrees in (is.0, is.1)),
    (entry_taken C reads spots.to.dir spots.to.name low named old (known.taken_read).there, tt),
  )

  module _ (S : TypedRows) (good : IsWellFormed C S) (agrees : Agrees S reads) (row : InodeRow) (is : get S.inodes e.inode ≡ Some row) (entry : get S.dents (spots.from.dir, spots.from.name) ≡ Some e) (parent : parent_of row.part ≡ Some spots.from.dir) where
    abbrev IsCarried : TypedRows → Type 0
    IsCarried U = IsWellFormed C U × (rename_at (tree_of S) stamp (AtParent spots.from.dir spots.from.name) (AtParent spots.to.dir spots.to.name) ≡ Makes (tree_of U) Done)

    abbrev there : HasKind S e.inode e.kind
    there = source C S good stamp (spots.from.dir, spots.from.name) (spots.to.dir, spots.to.name) e entry

    carried : (before : List (Key × Option Value)) → get (with_puts S before).inodes e.inode ≡ Some row
        → IsCarried (with_move (with_puts S before) spots.from.dir spots.from.name e (there).0 spots.to.dir spots.to.name) → IsCarried (with_puts S (dir_puts spots e row before))
    carried before at made =
        subst IsCarried
        (ap (λ (r : InodeRow). with_move (with_puts S before) spots.from.dir spots.from.name e r spots.to.dir spots.to.name) (same_some (there).0 row (there).1 is) ∙ sym (made_dir S spots e row before at parent))
        made

    carries : (o : Option DentRow) → AreEntriesRead reads spots e o → IsOtherNode e o → IsPlaceCleared reads o → IsCarried (with_puts S (dir_puts spots e row (cleared_puts spots o)))
    carries None known other cleared =
        carried [] is
        (rename_free C S good stamp (spots.from.dir, spots.from.name) (spots.to.dir, spots.to.name) e entry (dir_at spots stamp e None reads known other S agrees)
        (around spots stamp e None reads known other goes C S good agrees) ((known.taken_read).there S agrees))
    carries (Some old) known other cleared =
        carried (cleared_puts spots (Some old)) (get-set_other ids S.inodes old.inode None e.inode (λ q. other (sym q)) ∙ is)
        (rename_empty C S good stamp (spots.from.dir, spots.from.name) (spots.to.dir, spots.to.name) e entry (dir_at spots stamp e (Some old) reads known other S agrees)
        (around spots stamp e (Some old) reads known other goes C S good agrees) old ((known.taken_read).there S agrees) other goes.is_dir cleared.0 (cleared.2 S agrees))

module _ (spots : Spots) (stamp : ℕ) (e : DentRow) (taken : Option DentRow) (t : Transaction) (none : t.writes ≡ []) (known : AreEntriesRead t.reads spots e taken) (other : IsOtherNode e taken) (goes : GoesBeside t.reads spots e) (cleared : IsPlaceCleared t.reads taken) where
  pub asks_row : (key : Key) → (key ≡ keys.Inode e.inode) × IsUnread t.reads (keys.Inode e.inode) → IsMoveStep spots stamp e taken t t (steps.Ask (asks.Get key))
  asks_row key unread C =
      asks_key C (areas spots stamp e taken) (outcome spots stamp e taken) t none key (keys.Inode e.inode) (λ T. []) unread (behind_cleared spots stamp e t.reads goes C taken known other cleared)

  row_read : IsKeyRead t.reads (keys.Inode e.inode) → (C : Settings) → HasRead C (areas spots stamp e taken) t.reads
  row_read seen C = read_behind C (areas spots stamp e taken) (own spots stamp e t.reads goes C) t.reads (behind_cleared spots stamp e t.reads goes C taken known other cleared) (λ S good agrees. (seen, tt))

  -- no rows have the entry, and not the node
  pub no_row : IsKeyRead t.reads (keys.Inode e.inode) → ((S : TypedRows) → Agrees S t.reads → get S.inodes e.inode ≡ None) → IsMoveStep spots stamp e taken t t (steps.Reply (Refused codes.NotFound))
  no_row seen absent C =
      tells C (areas spots stamp e taken) (outcome spots stamp e taken) t none (Refused codes.NotFound) (row_read seen C)
      (λ S good agrees. let target = (good.entry spots.from.dir spots.from.name e ((known.entry_read).there S agrees)).target in absurd (not_some target.0 (absent S agrees) target.1))

  pub carried_done : (row : InodeRow) → IsRowRead t.reads e.inode row → spots.from.dir < 2 ^ 36 → IsTrue (is_name spots.from.name) → e.inode < 2 ^ 36 → spots.to.dir < 2 ^ 36 → IsTrue (is_name spots.to.name) → IsInRange taken
      → (u : Transaction) (asked : List Asked) → u ≡ record t { writes = put_writes (dir_puts spots e row (cleared_puts spots taken)) } → asked ≡ [] → IsMoveStep spots stamp e taken t u (steps.Commit Done asked)
  carried_done row is from_low from_named small low named range u asked after empty C =
      puts_done C (areas spots stamp e taken) (outcome spots stamp e taken) t u Done asked (dir_puts spots e row (cleared_puts spots taken)) (row_read is.seen C)
      (dir_are C t.reads spots e known.entry_read from_low from_named low named small row is goes.is_dir (cleared_puts spots taken)
      (moved_are C t.reads spots e known.entry_read from_low from_named low named small taken known.taken_read other (cleared_puts spots taken) (cleared_are spots stamp e t.reads goes C taken known range low named)))
      after done_fits empty
      (λ S good agrees.
      let one = carries spots stamp e t.reads goes C S good agrees row (is.there S agrees) ((known.entry_read).there S agrees)
      (row_parent C t.reads spots e known.entry_read from_low from_named low named small row is goes.is_dir S good agrees) taken known other cleared in
      (one.0, ap (at_length 0) one.1))

-- ---- a file or link

leaf_moved : (T : Tree) (k : Kind) (id dir : ℕ) (taken : Option ℕ) → k ≢ kinds.Dir → kind_moved T k id dir taken ≡ other_moved T taken
leaf_moved T kinds.Dir id dir taken no_dir = absurd (no_dir refl)
leaf_moved T kinds.File id dir taken no_dir = refl
leaf_moved T kinds.Link id dir taken no_dir = refl

module _ (spots : Spots) (stamp : ℕ) (e : DentRow) (no_dir : e.kind ≢ kinds.Dir) where
  leaf_areas : (reads : ReadSet) (o : Option DentRow) → AreEntriesRead reads spots e o → IsOtherNode e o → (T : Tree) → areas spots stamp e o T ≡ other_moved T (option_map (λ (x : DentRow). x.inode) o)
  leaf_areas reads o known other T = other_areas spots stamp e o reads known other T ∙ leaf_moved T e.kind e.inode spots.to.dir (option_map (λ (x : DentRow). x.inode) o) no_dir

  module _ (C : Settings) (S : TypedRows) (good : IsWellFormed C S) (entry : get S.dents (spots.from.dir, spots.from.name) ≡ Some e) (before : List (Key × Option Value)) where
    abbrev node : HasKind S e.inode e.kind
    node = source C S good stamp (spots.from.dir, spots.from.name) (spots.to.dir, spots.to.name) e entry

    abbrev IsLeafMoved : TypedRows → Type 0
    IsLeafMoved U = IsWellFormed C U × (rename_at (tree_of S) stamp (AtParent spots.from.dir spots.from.name) (AtParent spots.to.dir spots.to.name) ≡ Makes (tree_of U) Done)

    -- its row stays
    leaf_made : get (with_puts S before).inodes e.inode ≡ Some (node).0 → IsLeafMoved (with_move (with_puts S before) spots.from.dir spots.from.name e (node).0 spots.to.dir spots.to.name)
        → IsLeafMoved (with_puts S (moved_puts spots e before))
    leaf_made at made =
        let same = under_leaf spots.to.dir (node).0.part (λ k. no_dir (sym (node).2 ∙ k)) in
        subst IsLeafMoved (sym (made_moved S spots e (node).0 before (at ∙ ap (λ (p : InodePart). Some (record (node).0 { part = p })) (sym same)))) made

  module _ (t : Transaction) (from_low : spots.from.dir < 2 ^ 36) (from_named : IsTrue (is_name spots.from.name)) (small : e.inode < 2 ^ 36) (low : spots.to.dir < 2 ^ 36) (named : IsTrue (is_name spots.to.name)) (u : Transaction) (asked : List Asked) (empty : asked ≡ []) where
    pub free_done : AreEntriesRead t.reads spots e None → u ≡ record t { writes = put_writes (moved_puts spots e []) } → IsMoveStep spots stamp e None t u (steps.Commit Done asked)
    free_done known after C =
        puts_done C (areas spots stamp e None) (outcome spots stamp e None) t u Done asked (moved_puts spots e [])
        (λ S good agrees. subst (AreRead t.reads) (sym (leaf_areas t.reads None known tt (tree_of S))) tt)
        (moved_are C t.reads spots e known.entry_read from_low from_named low named small None known.taken_read tt [] tt)
        after done_fits empty
        (λ S good agrees.
        let entry = (known.entry_read).there S agrees in
        let one = leaf_made C S good entry [] (node C S good entry []).1
        (rename_free C S good stamp (spots.from.dir, spots.from.name) (spots.to.dir, spots.to.name) e entry (dir_at spots stamp e None t.reads known tt S agrees) (λ k. absurd (no_dir k)) ((known.taken_read).there S agrees)) in
        (one.0, ap (at_length 0) one.1))

  -- ---- over another one

  module _ (old : DentRow) (other : old.inode ≢ e.inode) where
    module _ (reads : ReadSet) (known : AreEntriesRead reads spots e (Some old)) (C : Settings) where
      old_areas : (wanted : List Area) → ((part : InodePart) → kind_of part ≡ old.kind → beside_part (node_part part) (OneKey (keys.Inode old.inode) ∷ []) ≡ wanted)
          → (S : TypedRows) → IsWellFormed C S → Agrees S reads → areas spots stamp e (Some old) (tree_of S) ≡ wanted
      old_areas wanted by S good agrees =
          let is = old_kind spots stamp e old reads known C S good agrees in
          leaf_areas reads (Some old) known other (tree_of S)
          ∙ ap (λ (o : Option Node). unless_dir o (OneKey (keys.Inode old.inode) ∷ [])) (node_is S old.inode (Some is.0) is.1)
          ∙ by is.0.part is.2

      behind_old : old.kind ≢ kinds.Dir → KeepsAreas C (areas spots stamp e (Some old)) (λ T. OneKey (keys.Inode old.inode) ∷ []) reads
      behind_old leaf S good agrees = ([], tt, old_areas (OneKey (keys.Inode old.inode) ∷ []) (λ part k. beside_leaf part _ (λ d. leaf (sym k ∙ d))) S good agrees)

    module _ (t : Transaction) (known : AreEntriesRead t.reads spots e (Some old)) where
      pub at_dir : t.writes ≡ [] → old.kind ≡ kinds.Dir → IsMoveStep spots stamp e (Some old) t t (steps.Reply (Refused codes.IsDir))
      at_dir none is_dir C =
          tells C (areas spots stamp e (Some old)) (outcome spots stamp e (Some old)) t none (Refused codes.IsDir)
          (λ S good agrees. subst (AreRead t.reads) (sym (old_areas t.reads known C [] (λ part k. beside_dir part _ (k ∙ is_dir)) S good agrees)) tt)
          (λ S good agrees.
          rename_is_dir C S good stamp (spots.from.dir, spots.from.name) (spots.to.dir, spots.to.name) e ((known.entry_read).there S agrees) (dir_at spots stamp e (Some old) t.reads known other S agrees) (λ k. absurd (no_dir k))
          old ((known.taken_read).there S agrees) other no_dir is_dir)

      module _ (leaf : old.kind ≢ kinds.Dir) where
        old_read : IsKeyRead t.reads (keys.Inode old.inode) → (C : Settings) → HasRead C (areas spots stamp e (Some old)) t.reads
        old_read seen C = read_behind C (areas spots stamp e (Some old)) (λ T. OneKey (keys.Inode old.inode) ∷ []) t.reads (behind_old t.reads known C leaf) (λ S good agrees. (seen, tt))

        pub asks_old : t.writes ≡ [] → (key : Key) → (key ≡ keys.Inode old.inode) × IsUnread t.reads (keys.Inode old.inode) → IsMoveStep spots stamp e (Some old) t t (steps.Ask (asks.Get key))
        asks_old none key unread C = asks_key C (areas spots stamp e (Some old)) (outcome spots stamp e (Some old)) t none key (keys.Inode old.inode) (λ T. []) unread (behind_old t.reads known C leaf)

        pub no_old : t.writes ≡ [] → IsKeyRead t.reads (keys.Inode old.inode) → ((S : TypedRows) → Agrees S t.reads → get S.inodes old.inode ≡ None) → IsMoveStep spots stamp e (Some old) t t (steps.Reply (Refused codes.NotFound))
        no_old none seen absent C =
            tells C (areas spots stamp e (Some old)) (outcome spots stamp e (Some old)) t none (Refused codes.NotFound) (old_read seen C)
            (λ S good agrees. let is = old_kind spots stamp e old t.reads known C S good agrees in absurd (not_some is.0 (absent S agrees) is.1))

        module _ (row : InodeRow) (is : IsRowRead t.reads old.inode row) where
          abbrev gone : List (Key × Option Value)
          gone = unlinked_puts stamp spots.to.dir spots.to.name old row

          -- what unlink leaves, and the entry that moves over
          may : (C : Settings) (S : TypedRows) (good : IsWellFormed C S) (agrees : Agrees S t.reads) → MayMove (with_puts S gone) spots.from.dir spots.from.name e (node C S good ((known.entry_read).there S agrees) gone).0 spots.to.dir spots.to.name
          may C S good agrees =
              let entry = (known.entry_read).there S agrees in
              let taken = (known.taken_read).there S agrees in
              let dir = dir_at spots stamp e (Some old) t.reads known other S agrees in
              let dents = unlinked_dents stamp spots.to.dir spots.to.name old row S in
              record {
                entry = ap (λ m. get m (spots.from.dir, spots.from.name)) dents ∙ get-set_other names S.dents (spots.to.dir, spots.to.name) None (spots.from.dir, spots.from.name) (apart entry taken) ∙ entry;
                there = unlinked_inodes stamp spots.to.dir spots.to.name old row S e.inode (λ q. other (sym q)) ∙ (node C S good entry gone).1;
                parent = (dir.0, unlinked_inodes stamp spots.to.dir spots.to.name old row S spots.to.dir (not_dir dir) ∙ dir.1, dir.2);
                free = ap (λ m. get m (spots.to.dir, spots.to.name)) dents ∙ get-set_same names S.dents (spots.to.dir, spots.to.name) None;
                around = λ k. absurd (no_dir k);
              }
            where
              apart : get S.dents (spots.from.dir, spots.from.name) ≡ Some e → get S.dents (spots.to.dir, spots.to.name) ≡ Some old → ◌≢◌ {A = ℕ × List ℕ} (spots.from.dir, spots.from.name) (spots.to.dir, spots.to.name)
              apart entry taken q = other (sym (ap (λ (x : DentRow). x.inode) (some_injective e old (sym entry ∙ ap (get S.dents) q ∙ taken))))

              not_dir : HasKind S spots.to.dir kinds.Dir → spots.to.dir ≢ old.inode
              not_dir dir q = leaf (same_kind S old.inode old.kind kinds.Dir (old_kind spots stamp e old t.reads known C S good agrees) (subst (λ (x : ℕ). HasKind S x kinds.Dir) q dir))

          pub over_done : IsTrue (time.fits stamp) → spots.from.dir < 2 ^ 36 → IsTrue (is_name spots.from.name) → e.inode < 2 ^ 36 → spots.to.dir < 2 ^ 36 → IsTrue (is_name spots.to.name) → old.inode < 2 ^ 36
              → (u : Transaction) (asked : List Asked) → u ≡ record t { writes = put_writes (moved_puts spots e (unlinked_puts stamp spots.to.dir spots.to.name old row)) } → asked ≡ [] → IsMoveStep spots stamp e (Some old) t u (steps.Commit Done asked)
          over_done time_ok from_low from_named small low named old_small u asked after empty C =
              puts_done C (areas spots stamp e (Some old)) (outcome spots stamp e (Some old)) t u Done asked (moved_puts spots e gone) (old_read is.seen C)
              (moved_are C t.reads spots e known.entry_read from_low from_named low named small (Some old) known.taken_read other gone (unlinked_are stamp spots.to.dir spots.to.name old row C leaf t.reads known.taken_read is old_small low named time_ok))
              after done_fits empty
              (λ S good agrees.
              let entry = (known.entry_read).there S agrees in
              let taken = (known.taken_read).there S agrees in
              let left = unlinked_made stamp spots.to.dir spots.to.name old row C leaf S good taken (is.there S agrees) in
              let one = leaf_made C S good entry gone (may C S good agrees).there
              (rename_unlinked C S good stamp (spots.from.dir, spots.from.name) (spots.to.dir, spots.to.name) e entry (dir_at spots stamp e (Some old) t.reads known other S agrees) (λ k. absurd (no_dir k))
              old taken other no_dir leaf (with_puts S gone) left.0 left.1 (may C S good agrees)) in
              (one.0, ap (at_length 0) one.1))
