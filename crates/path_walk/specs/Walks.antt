-- What a walk under way comes to, and what its steps say.
use Rattle.std.specs.Prelude.{◌≡◌, ℕ, ◌+◌, false, cond, length, List, [], ◌∷◌, ◌++◌, drop, Option, Some, None, Ok, Err, if◌then◌else◌}
use Rattle.std.specs.FinMap.{get}
use Rattle.conflict_sets.specs.declared.sets.ReadSet.{ReadSet}
use Rattle.fs_base.specs.Config.{Settings}
use Rattle.fs_base.specs.Paths.{path_of}
use Rattle.fs_base.specs.declared.call.Place.{Place}
use Rattle.fs_base.specs.declared.code.Code.{Code}
use Rattle.fs_base.specs.declared.code.Code.TheVariants.{BadPath, BadName}
use Rattle.fs_base.specs.declared.kind.Kind.TheVariants as kinds
use Rattle.fs_base.specs.declared.path.Path.{Path}
use Rattle.key_schema.specs.declared.key.Key.{Key}
use Rattle.key_schema.specs.declared.key.Key.TheVariants as keys
use Rattle.row_tree.specs.TreeOf.{tree_of}
use Rattle.row_tree.specs.TypedRows.{TypedRows}
use Rattle.row_tree.specs.WellFormed.{IsWellFormed}
use Rattle.tree_model.specs.declared.walk.WalkEnd.{WalkEnd}
use Rattle.tree_model.specs.declared.walk.Walked.{Walked}
use Rattle.tree_model.specs.declared.walk.Walked.TheVariants as walked
use Rattle.tree_model.specs.Tree.{Tree}
use Rattle.tree_model.specs.Walk.{Visit, Inode, Trip, stay, visiting, from_base, walk, travel, is_last_of_parent, is_last_unfollowed}
use Rattle.txn_task.specs.Agreeing.{Agrees}
use Rattle.txn_task.specs.Wanted.{IsUnread, IsKeyRead}
use Rattle.txn_task.specs.declared.messages.Ask.{Ask}
use Rattle.txn_task.specs.declared.messages.Ask.TheVariants as asks
use Rattle.path_walk.specs.Areas.{key_of_visit}
use Rattle.path_walk.specs.declared.walk.Walk.{Walk}
use Rattle.path_walk.specs.declared.walk.Move.{Move}
use Rattle.path_walk.specs.declared.walk.Move.TheVariants.{Stop, Down, Followed}
use Rattle.path_walk.specs.declared.walk.WalkError.{WalkError}
use Rattle.path_walk.specs.declared.walk.WalkError.TheVariants as errors
use Rattle.path_walk.specs.declared.walk.WalkStep.{WalkStep}
use Rattle.path_walk.specs.declared.walk.WalkStep.TheVariants as steps

-- the rest of the walk, from where it stands
abbrev pub trip_of : Walk → Tree → Trip
trip_of w T =
    cond w.at_base
    (visiting (Inode w.here) (from_base (get T.nodes w.here) (walk w.links T w.end w.rest w.here)))
    (walk w.links T w.end w.rest w.here)

abbrev pub after_visits : List Visit → Trip → Trip
after_visits [] trip = trip
after_visits (visit ∷ visits) trip = visiting visit (after_visits visits trip)

-- each of these was read
abbrev pub AreVisitsRead : ReadSet → List Visit → Type 0
AreVisitsRead reads [] = Unit {0}
AreVisitsRead reads (visit ∷ visits) = IsKeyRead reads (key_of_visit visit) × AreVisitsRead reads visits

-- in all well-formed rows that agree with the reads: what was looked at was read, and the rest is the same
-- way
abbrev pub KeepsTrip : (Tree → Trip) → (Tree → Trip) → ReadSet → Type 0
KeepsTrip old new reads =
    (C : Settings) (S : TypedRows) → IsWellFormed C S → Agrees S reads → (visits : List Visit)
    × AreVisitsRead reads visits × (old (tree_of S) ≡ after_visits visits (new (tree_of S)))

-- in all of them the way ends so, and all that is looked at on it was read
abbrev pub HasEnd : (Tree → Trip) → ReadSet → Walked → Type 0
HasEnd trip reads end = KeepsTrip trip (λ T. stay end) reads

-- in all of them the key is looked at next
abbrev pub LooksAt : (Tree → Trip) → ReadSet → Key → Type 0
LooksAt trip reads key =
    (C : Settings) (S : TypedRows) → IsWellFormed C S → Agrees S reads
    → (visits : List Visit) × (visit : Visit) × (rest : Trip) × AreVisitsRead reads visits
    × (key_of_visit visit ≡ key) × (trip (tree_of S) ≡ after_visits visits (visiting visit rest))

-- a key that wasn't read, and that is looked at next
abbrev pub IsTripAsk : (Tree → Trip) → ReadSet → Ask → Type 0
IsTripAsk trip reads (asks.Get key) = IsUnread reads key × LooksAt trip reads key
IsTripAsk trip reads ask = ⊥

-- the answer of a walk: the ask for what it looks at next, or where it ends
abbrev pub IsWalkStep : WalkStep → Walk → ReadSet → Type 0
IsWalkStep (steps.Ask ask) w reads = IsTripAsk (trip_of w) reads ask
IsWalkStep (steps.At id kind) w reads = HasEnd (trip_of w) reads (walked.At id kind)
IsWalkStep (steps.Parent id name) w reads = HasEnd (trip_of w) reads (walked.AtParent id name)
IsWalkStep (steps.NoName id) w reads = HasEnd (trip_of w) reads (walked.NoName id)
IsWalkStep (steps.Refused code) w reads = HasEnd (trip_of w) reads (walked.Stopped code)

-- ---- how a walk begins

-- the walk of the path that the place's text reads as
abbrev pub IsStart : Walk → Place → WalkEnd → Type 0
IsStart w place end =
    (path : Path) × (path_of place.text ≡ Ok path) × ((T : Tree) → trip_of w T ≡ travel T place.base path end)

-- the refusal that an error stands for: want of memory stands for none
abbrev pub walk_refusal : WalkError → Option Code
walk_refusal errors.BadPath = Some BadPath
walk_refusal errors.BadName = Some BadName
walk_refusal errors.Memory = None

-- ---- what one name of a walk comes to

-- the answer that says that a walk ends so
abbrev pub IsEnd : WalkStep → Walked → Type 0
IsEnd (steps.Ask ask) end = ⊥
IsEnd (steps.At id kind) end = end ≡ walked.At id kind
IsEnd (steps.Parent id name) end = end ≡ walked.AtParent id name
IsEnd (steps.NoName id) end = end ≡ walked.NoName id
IsEnd (steps.Refused code) end = end ≡ walked.Stopped code

abbrev pub IsWalkMove : Move → Walk → Walk → ReadSet → Type 0
IsWalkMove (Stop step) old new reads = IsWalkStep step new reads
IsWalkMove Down old new reads = (length new.rest + 1 ≡ length old.rest) × (new.links ≡ old.links)
IsWalkMove Followed old new reads = new.links + 1 ≡ old.links

-- the next name leads to this link, which is to be followed
pub record IsAtLink (w : Walk) (reads : ReadSet) (id : ℕ) : Type 0 where
  pub name : List ℕ
  pub tail : List (List ℕ)
  pub rest : w.rest ≡ name ∷ tail
  pub more : is_last_of_parent w.end tail ≡ false
  pub followed : is_last_unfollowed w.end tail ≡ false
  pub seen : IsKeyRead reads (keys.Dent w.here name)
  pub entry : (S : TypedRows) → Agrees S reads
      → get S.dents (w.here, name) ≡ Some (record { inode = id; kind = kinds.Link })

-- on at the names of the target and those that are left, with a link less to follow
pub record IsOnPath (old new : Walk) (path : Path) : Type 0 where
  pub end : new.end ≡ old.end
  pub at_base : new.at_base ≡ old.at_base
  pub links : new.links + 1 ≡ old.links
  pub here : new.here ≡ (if path.absolute then 0 else old.here)
  pub rest : new.rest ≡ path.names ++ drop 1 old.rest

-- the target's fault, or on at its path
abbrev pub IsFollowStep : Move → Walk → Walk → List ℕ → Type 0
IsFollowStep (Stop step) old new target =
    (code : Code) × (path_of target ≡ Err code) × (step ≡ steps.Refused code) × (new ≡ old)
IsFollowStep Down old new target = ⊥
IsFollowStep Followed old new target = (path : Path) × (path_of target ≡ Ok path) × IsOnPath old new path
