-- How far a call has come on its way, whatever it does at the end.
use Rattle.std.specs.Prelude.{◌≡◌, List, Option, None}
use Rattle.conflict_sets.specs.declared.sets.ReadSet.{ReadSet}
use Rattle.fs_base.specs.declared.code.Code.{Code}
use Rattle.tree_model.specs.declared.walk.Walked.{Walked}
use Rattle.tree_model.specs.declared.walk.Walked.TheVariants.{Stopped}
use Rattle.tree_model.specs.Effects.{Effect}
use Rattle.tree_model.specs.Tree.{Tree}
use Rattle.tree_model.specs.Walk.{Trip, stay}
use Rattle.path_walk.specs.Areas.{Area, trip_areas}
use Rattle.path_walk.specs.declared.stage.Reached.{Reached}
use Rattle.path_walk.specs.declared.stage.Reached.TheVariants.{Ask, End}
use Rattle.path_walk.specs.declared.stage.Stage.{Stage}
use Rattle.path_walk.specs.declared.stage.Stage.TheVariants.{Refused, Walking}
use Rattle.path_walk.specs.Walks.{trip_of, HasEnd, IsTripAsk}

-- the rest of the way: refused words stop it where it begins
abbrev pub trip_at : Stage → Tree → Trip
trip_at (Refused code) T = stay (Stopped code)
trip_at (Walking walk) T = trip_of walk T

-- words that are refused stay so, and a walk goes on
abbrev pub IsSameKind : Stage → Stage → Type 0
IsSameKind (Refused code) (Refused other) = Unit {0}
IsSameKind (Walking walk) (Walking other) = Unit {0}
IsSameKind old new = ⊥

-- a call is under way only where no fault was given
abbrev pub IsFaultless : Option Code → Stage → Type 0
IsFaultless fault (Refused code) = Unit {0}
IsFaultless fault (Walking walk) = fault ≡ None

-- a key that has to be read first, or where the way ends
abbrev pub IsReached : Reached → (Tree → Trip) → ReadSet → Type 0
IsReached (Ask ask) trip reads = IsTripAsk trip reads ask
IsReached (End walked) trip reads = HasEnd trip reads walked

-- what a call does where its way ends, and what it reads on the way and there
abbrev pub does : (Tree → Walked → Effect) → (Tree → Trip) → Tree → Effect
does effect trip T = effect T (trip T).end

abbrev pub looks : (Tree → Walked → List Area) → (Tree → Trip) → Tree → List Area
looks at trip T = trip_areas (trip T) (at T)
