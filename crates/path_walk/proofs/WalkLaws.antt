-- What each step of a walk comes to.
use Rattle.std.proofs.Common.{◌≡◌, ◌≢◌, ℕ, zero, suc, ◌+◌, true, false, cond, List, [], ◌∷◌, ◌++◌, refl, sym, ap, subst, ◌∙◌, arith}
use Rattle.std.specs.Prelude.{Some, None, Result, Ok, Err, IfOk, OnOk, drop}
use Rattle.std.specs.FinMap.{get}
use Rattle.conflict_sets.specs.declared.sets.ReadSet.{ReadSet}
use Rattle.fs_base.specs.Config.{Settings}
use Rattle.fs_base.specs.Paths.{path_of}
use Rattle.fs_base.specs.declared.code.Code.{Code}
use Rattle.fs_base.specs.declared.code.Code.TheVariants.{NotFound, NotDir, LinkLoop}
use Rattle.fs_base.specs.declared.kind.Kind.TheVariants as kinds
use Rattle.fs_base.specs.declared.path.Path.{Path}
use Rattle.inode_record.specs.declared.inode.InodePart.{InodePart}
use Rattle.inode_record.specs.declared.inode.InodePart.TheVariants as parts
use Rattle.inode_record.specs.declared.inode.InodeRow.{InodeRow}
use Rattle.key_schema.specs.declared.key.Key.TheVariants as keys
use Rattle.row_records.specs.declared.rows.DentRow.{DentRow}
use Rattle.row_tree.specs.TreeOf.{tree_of}
use Rattle.row_tree.specs.TypedRows.{TypedRows, kind_of}
use Rattle.row_tree.specs.WellFormed.{IsWellFormed}
use Rattle.row_tree.proofs.Telling as telling
use Rattle.tree_model.specs.declared.walk.Walked.{Walked}
use Rattle.tree_model.specs.declared.walk.Walked.TheVariants.{At, AtParent, Stopped}
use Rattle.tree_model.specs.Tree.{Tree}
use Rattle.tree_model.specs.Walk.{Visit, Inode, Entry, Trip, stay, visiting, ends_at, at_file, is_last_of_parent, is_last_unfollowed, on_target, walk, from_base}
use Rattle.tree_model.specs.Walking.{follow_of}
use Rattle.txn_task.specs.Agreeing.{Agrees}
use Rattle.txn_task.specs.Wanted.{IsKeyRead}
use Rattle.path_walk.specs.declared.walk.Move.{Move}
use Rattle.path_walk.specs.declared.walk.Move.TheVariants.{Stop, Down, Followed}
use Rattle.path_walk.specs.declared.walk.Walk.{Walk}
use Rattle.path_walk.specs.declared.walk.WalkStep.{WalkStep}
use Rattle.path_walk.specs.declared.walk.WalkStep.TheVariants as steps
use Rattle.path_walk.specs.Walks.{trip_of, after_visits, AreVisitsRead, LooksAt, KeepsTrip, HasEnd, IsWalkStep, IsEnd, IsWalkMove, IsAtLink, IsFollowStep}

pub keeps_self : (trip : Tree → Trip) (reads : ReadSet) → KeepsTrip trip trip reads
keeps_self trip reads C S good agrees = ([], tt, refl)

after_both : (xs ys : List Visit) (trip : Trip) → after_visits (xs ++ ys) trip ≡ after_visits xs (after_visits ys trip)
after_both [] ys trip = refl
after_both (x ∷ xs) ys trip = ap (visiting x) (after_both xs ys trip)

seen_both : (reads : ReadSet) (xs ys : List Visit) → AreVisitsRead reads xs → AreVisitsRead reads ys → AreVisitsRead reads (xs ++ ys)
seen_both reads [] ys first second = second
seen_both reads (x ∷ xs) ys first second = (first.0, seen_both reads xs ys first.1 second)

-- on from where a walk has come
pub keeps_on : (a b c : Tree → Trip) (reads : ReadSet) → KeepsTrip a b reads → KeepsTrip b c reads → KeepsTrip a c reads
keeps_on a b c reads first second C S good agrees =
    let x = first C S good agrees in
    let y = second C S good agrees in
    (x.0 ++ y.0, seen_both reads x.0 y.0 x.1 y.1, x.2 ∙ ap (after_visits x.0) y.2 ∙ sym (after_both x.0 y.0 (c (tree_of S))))

end_after : (visits : List Visit) (trip : Trip) → (after_visits visits trip).end ≡ trip.end
end_after [] trip = refl
end_after (visit ∷ visits) trip = end_after visits trip

-- where it ends is where it ended before
pub same_end : (old new : Tree → Trip) (reads : ReadSet) → KeepsTrip old new reads → (C : Settings) (S : TypedRows) → IsWellFormed C S → Agrees S reads → (new (tree_of S)).end ≡ (old (tree_of S)).end
same_end old new reads keeps C S good agrees =
    let k = keeps C S good agrees in
    sym (ap (λ (x : Trip). x.end) k.2 ∙ end_after k.0 (new (tree_of S)))

-- an answer that says where the walk ends
pub end_step : (w : Walk) (reads : ReadSet) (end : Walked) → HasEnd (trip_of w) reads end → (step : WalkStep) → IsEnd step end → IsWalkStep step w reads
end_step w reads end has (steps.Ask ask) is = absurd is
end_step w reads end has (steps.At id kind) is = subst (HasEnd (trip_of w) reads) is has
end_step w reads end has (steps.Parent id name) is = subst (HasEnd (trip_of w) reads) is has
end_step w reads end has (steps.NoName id) is = subst (HasEnd (trip_of w) reads) is has
end_step w reads end has (steps.Refused code) is = subst (HasEnd (trip_of w) reads) is has

-- ---- past the base

abbrev from_here : Walk → Tree → Trip
from_here w T = walk w.links T w.end w.rest w.here

past_base : (w : Walk) (T : Tree) → w.at_base ≡ false → trip_of w T ≡ walk w.links T w.end w.rest w.here
past_base w T base = ap (λ b. cond b (visiting (Inode w.here) (from_base (get T.nodes w.here) (from_here w T))) (from_here w T)) base

-- with this next name
trip_at : (w : Walk) (T : Tree) (name : List ℕ) (tail : List (List ℕ)) → w.at_base ≡ false → w.rest ≡ name ∷ tail → trip_of w T ≡ walk w.links T w.end (name ∷ tail) w.here
trip_at w T name tail base rest = past_base w T base ∙ ap (λ names. walk w.links T w.end names w.here) rest

-- no name is left
pub none_left : (w : Walk) (reads : ReadSet) → w.at_base ≡ false → w.rest ≡ [] → HasEnd (trip_of w) reads (ends_at w.end w.here)
none_left w reads base rest C S good agrees =
    ([], tt, past_base w (tree_of S) base ∙ ap (λ names. walk w.links (tree_of S) w.end names w.here) rest ∙ telling.walk_is w.links (tree_of S) w.end [] w.here)

module _ (w : Walk) (reads : ReadSet) (name : List ℕ) (tail : List (List ℕ)) (base : w.at_base ≡ false) (rest : w.rest ≡ name ∷ tail) where
  pub parent_comes : is_last_of_parent w.end tail ≡ true → HasEnd (trip_of w) reads (AtParent w.here name)
  parent_comes last C S good agrees = ([], tt, trip_at w (tree_of S) name tail base rest ∙ telling.walk_parent C S good w.links w.end w.here name tail last)

  module _ (more : is_last_of_parent w.end tail ≡ false) where
    pub looks_at_entry : LooksAt (trip_of w) reads (keys.Dent w.here name)
    looks_at_entry C S good agrees =
        let reads_it = telling.walk_reads C S good w.links w.end w.here name tail more in
        ([], Entry w.here name, reads_it.0, tt, refl, trip_at w (tree_of S) name tail base rest ∙ reads_it.1)

    module _ (seen : IsKeyRead reads (keys.Dent w.here name)) where
      pub absent_comes : ((S : TypedRows) → Agrees S reads → get S.dents (w.here, name) ≡ None) → HasEnd (trip_of w) reads (Stopped NotFound)
      absent_comes none C S good agrees = (
        Entry w.here name ∷ [],
        (seen, tt),
        trip_at w (tree_of S) name tail base rest ∙ telling.walk_absent C S good w.links w.end w.here name tail more (none S agrees),
      )

      module _ (e : DentRow) (is : (S : TypedRows) → Agrees S reads → get S.dents (w.here, name) ≡ Some e) where
        file_comes : e.kind ≡ kinds.File → HasEnd (trip_of w) reads (at_file e.inode tail)
        file_comes file C S good agrees = (
          Entry w.here name ∷ [],
          (seen, tt),
          trip_at w (tree_of S) name tail base rest ∙ telling.walk_file C S good w.links w.end w.here name tail more e (is S agrees) file,
        )

        pub file_step : e.kind ≡ kinds.File → (step : WalkStep) → IsEnd step (at_file e.inode tail) → IsWalkStep step w reads
        file_step file step end = end_step w reads (at_file e.inode tail) (file_comes file) step end

        pub dir_comes : e.kind ≡ kinds.Dir → (new : Walk) → new.at_base ≡ false → new.links ≡ w.links → new.end ≡ w.end → new.rest ≡ tail → new.here ≡ e.inode → KeepsTrip (trip_of w) (trip_of new) reads
        dir_comes dir new base' links end rest' here C S good agrees = (
          Entry w.here name ∷ [],
          (seen, tt),
          trip_at w (tree_of S) name tail base rest
              ∙ telling.walk_dir C S good w.links w.end w.here name tail more e (is S agrees) dir
              ∙ ap (visiting (Entry w.here name)) (sym (past_base new (tree_of S) base' ∙ (λ i. walk (links i) (tree_of S) (end i) (rest' i) (here i)))),
        )

        -- a link at the end that isn't followed
        pub link_stays : e.kind ≡ kinds.Link → is_last_unfollowed w.end tail ≡ true → HasEnd (trip_of w) reads (At e.inode kinds.Link)
        link_stays link at C S good agrees =
            let comes = telling.walk_some_link C S good w.links w.end w.here name tail more e (is S agrees) link in (
              Entry w.here name ∷ [],
              (seen, tt),
              trip_at w (tree_of S) name tail base rest
                  ∙ comes.1
                  ∙ ap (λ b. visiting (Entry w.here name) (cond b (stay (At e.inode kinds.Link)) (follow_of w.links (tree_of S) w.end e.inode w.here comes.0 tail))) at,
            )

-- ---- behind a link

one_left : (n : ℕ) → n ≢ 0 → (m : ℕ) × (n ≡ suc m)
one_left zero h = absurd (h refl)
one_left (suc m) h = (m, refl)

module _ (w : Walk) (reads : ReadSet) (id : ℕ) (base : w.at_base ≡ false) (link : IsAtLink w reads id) where
  abbrev entry_of : DentRow
  entry_of = record { inode = id; kind = kinds.Link }

  abbrev behind : Settings → (S : TypedRows) → ℕ → List ℕ → Trip
  behind C S left target = visiting (Entry w.here link.name) (follow_of left (tree_of S) w.end id w.here target link.tail)

  link_row : (C : Settings) (S : TypedRows) → IsWellFormed C S → Agrees S reads → (row : InodeRow) × (get S.inodes id ≡ Some row) × (kind_of row.part ≡ kinds.Link)
  link_row C S good agrees = (good.entry w.here link.name entry_of (link.entry S agrees)).target

  follows : (C : Settings) (S : TypedRows) (target : List ℕ) → cond (is_last_unfollowed w.end link.tail) (stay (At id kinds.Link)) (follow_of w.links (tree_of S) w.end id w.here target link.tail) ≡ follow_of w.links (tree_of S) w.end id w.here target link.tail
  follows C S target = ap (λ b. cond b (stay (At id kinds.Link)) (follow_of w.links (tree_of S) w.end id w.here target link.tail)) link.followed

  some_link : (C : Settings) (S : TypedRows) → IsWellFormed C S → Agrees S reads → (target : List ℕ) × (trip_of w (tree_of S) ≡ behind C S w.links target)
  some_link C S good agrees =
      let comes = telling.walk_some_link C S good w.links w.end w.here link.name link.tail link.more entry_of (link.entry S agrees) refl in
      (comes.0, trip_at w (tree_of S) link.name link.tail base link.rest ∙ comes.1 ∙ ap (visiting (Entry w.here link.name)) (follows C S comes.0))

  pub loop_comes : w.links ≡ 0 → HasEnd (trip_of w) reads (Stopped LinkLoop)
  loop_comes no_more C S good agrees =
      let at = some_link C S good agrees in
      (Entry w.here link.name ∷ [], (link.seen, tt), at.1 ∙ ap (λ n. behind C S n at.0) no_more)

  pub looks_at_link : w.links ≢ 0 → LooksAt (trip_of w) reads (keys.Inode id)
  looks_at_link some C S good agrees =
      let at = some_link C S good agrees in
      let left = one_left w.links some in (
        Entry w.here link.name ∷ [],
        Inode id,
        on_target (walk left.0 (tree_of S) w.end) w.here link.tail (path_of at.0),
        (link.seen, tt),
        refl,
        at.1 ∙ ap (λ n. behind C S n at.0) left.1,
      )

  -- no well-formed rows have no link there
  pub absent_never : ((S : TypedRows) → Agrees S reads → get S.inodes id ≡ None) → (walked : Walked) → HasEnd (trip_of w) reads walked
  absent_never none walked C S good agrees = let at = link_row C S good agrees in let e : None ≡ Some at.0 = sym (none S agrees) ∙ at.1 in absurd (cc)

  module _ (row : InodeRow) (is : (S : TypedRows) → Agrees S reads → get S.inodes id ≡ Some row) where
    pub other_never : ((target : List ℕ) → row.part ≡ parts.Link target → ⊥) → (walked : Walked) → HasEnd (trip_of w) reads walked
    other_never not_link walked C S good agrees =
        let at = link_row C S good agrees in
        let e : Some row ≡ Some at.0 = sym (is S agrees) ∙ at.1 in
        let same : row ≡ at.0 = cc in
        let target = telling.link_target row.part (ap (λ (r : InodeRow). kind_of r.part) same ∙ at.2) in
        absurd (not_link target.0 target.1)

    module _ (seen : IsKeyRead reads (keys.Inode id)) (target : List ℕ) (part : row.part ≡ parts.Link target) where
      link_comes : (C : Settings) (S : TypedRows) → IsWellFormed C S → Agrees S reads → trip_of w (tree_of S) ≡ behind C S w.links target
      link_comes C S good agrees =
          trip_at w (tree_of S) link.name link.tail base link.rest
          ∙ telling.walk_link C S good w.links w.end w.here link.name link.tail link.more entry_of (link.entry S agrees) row (is S agrees) target part
          ∙ ap (visiting (Entry w.here link.name)) (follows C S target)

      -- a target that is no path
      pub fault_comes : w.links ≢ 0 → (code : Code) → path_of target ≡ Err code → HasEnd (trip_of w) reads (Stopped code)
      fault_comes some code fault C S good agrees =
          let left = one_left w.links some in (
            Entry w.here link.name ∷ Inode id ∷ [],
            (link.seen, (seen, tt)),
            link_comes C S good agrees
                ∙ ap (λ n. behind C S n target) left.1
                ∙ ap (λ r. visiting (Entry w.here link.name) (visiting (Inode id) (on_target (walk left.0 (tree_of S) w.end) w.here link.tail r))) fault,
          )

      pub follow_comes : (path : Path) → path_of target ≡ Ok path → (new : Walk) → new.at_base ≡ false → new.links + 1 ≡ w.links → new.end ≡ w.end → new.rest ≡ path.names ++ link.tail → new.here ≡ cond path.absolute 0 w.here
          → KeepsTrip (trip_of w) (trip_of new) reads
      follow_comes path reads_as new base' links end rest' here C S good agrees = (
        Entry w.here link.name ∷ Inode id ∷ [],
        (link.seen, (seen, tt)),
        link_comes C S good agrees
            ∙ ap (λ n. behind C S n target) (more_links new.links w.links links)
            ∙ ap (λ r. visiting (Entry w.here link.name) (visiting (Inode id) (on_target (walk new.links (tree_of S) w.end) w.here link.tail r))) reads_as
            ∙ ap (λ x. visiting (Entry w.here link.name) (visiting (Inode id) x)) (sym (past_base new (tree_of S) base' ∙ (λ i. walk new.links (tree_of S) (end i) (rest' i) (here i)))),
      )
        where
          more_links : (a b : ℕ) → a + 1 ≡ b → b ≡ suc a
          more_links a b e = omega arith

      module _ (some : w.links ≢ 0) (new : Walk) where
        keeps_followed : (m : Move) → IsFollowStep m w new target → KeepsTrip (trip_of w) (trip_of new) reads
        keeps_followed (Stop step) f = subst (λ (x : Walk). KeepsTrip (trip_of w) (trip_of x) reads) (sym f.3) (keeps_self (trip_of w) reads)
        keeps_followed Down f = absurd f
        keeps_followed Followed f = follow_comes f.0 f.1 new (f.2.at_base ∙ base) f.2.links f.2.end (f.2.rest ∙ ap (λ names. f.0.names ++ drop 1 names) link.rest) f.2.here

        moves_followed : (m : Move) → IsFollowStep m w new target → IsWalkMove m w new reads
        moves_followed (Stop step) f = subst (λ (x : WalkStep). IsWalkStep x new reads) (sym f.2) (subst (λ (x : Walk). HasEnd (trip_of x) reads (Stopped f.0)) (sym f.3) (fault_comes some f.0 f.1))
        moves_followed Down f = absurd f
        moves_followed Followed f = f.2.links

        pub followed_keeps : {E : Type 0} (r : Result Move E) → IfOk r (λ m. IsFollowStep m w new target) → OnOk r (KeepsTrip (trip_of w) (trip_of new) reads)
        followed_keeps (Ok m) f = keeps_followed m f
        followed_keeps (Err e) f = tt

        pub followed_moves : {E : Type 0} (r : Result Move E) → IfOk r (λ m. IsFollowStep m w new target) → IfOk r (λ m. IsWalkMove m w new reads)
        followed_moves (Ok m) f = moves_followed m f
        followed_moves (Err e) f = tt

-- ---- the base

module _ (w : Walk) (base : w.at_base ≡ true) where
  at_base : (T : Tree) → trip_of w T ≡ visiting (Inode w.here) (from_base (get T.nodes w.here) (from_here w T))
  at_base T = ap (λ b. cond b (visiting (Inode w.here) (from_base (get T.nodes w.here) (from_here w T))) (from_here w T)) base

  pub looks_at_base : (reads : ReadSet) → LooksAt (trip_of w) reads (keys.Inode w.here)
  looks_at_base reads C S good agrees = ([], Inode w.here, from_base (get (tree_of S).nodes w.here) (from_here w (tree_of S)), tt, refl, at_base (tree_of S))

  module _ (reads : ReadSet) (seen : IsKeyRead reads (keys.Inode w.here)) where
    pub base_absent : ((S : TypedRows) → Agrees S reads → get S.inodes w.here ≡ None) → HasEnd (trip_of w) reads (Stopped NotFound)
    base_absent none C S good agrees = (
      Inode w.here ∷ [],
      (seen, tt),
      at_base (tree_of S) ∙ ap (visiting (Inode w.here)) (telling.base_absent S w.here (from_here w (tree_of S)) (none S agrees)),
    )

    module _ (row : InodeRow) (is : (S : TypedRows) → Agrees S reads → get S.inodes w.here ≡ Some row) where
      pub base_dir : kind_of row.part ≡ kinds.Dir → (new : Walk) → new ≡ record w { at_base = false } → KeepsTrip (trip_of w) (trip_of new) reads
      base_dir dir new on C S good agrees = (
        Inode w.here ∷ [],
        (seen, tt),
        at_base (tree_of S)
            ∙ ap (visiting (Inode w.here)) (telling.base_dir S w.here (from_here w (tree_of S)) row (is S agrees) dir ∙ sym (ap (λ (x : Walk). trip_of x (tree_of S)) on)),
      )

      pub base_other : ((parent chunk stripe : ℕ) → row.part ≡ parts.Dir parent chunk stripe → ⊥) → HasEnd (trip_of w) reads (Stopped NotDir)
      base_other other C S good agrees = (
        Inode w.here ∷ [],
        (seen, tt),
        at_base (tree_of S) ∙ ap (visiting (Inode w.here)) (telling.base_other S w.here (from_here w (tree_of S)) row (is S agrees) (no_dir row.part other)),
      )
        where
          no_dir : (part : InodePart) → ((parent chunk stripe : ℕ) → part ≡ parts.Dir parent chunk stripe → ⊥) → kind_of part ≢ kinds.Dir
          no_dir (parts.Dir parent chunk stripe) other k = other parent chunk stripe refl
          no_dir (parts.File length truncs layout hint) other k = cc
          no_dir (parts.Link target) other k = cc
