-- What clauses say of a board and its passes.
use Rattle.std.specs.Prelude.{◌≡◌, ℕ, List, map}
use Rattle.hist_board.specs.Rule.{frame_of}
use Rattle.hist_board.specs.Passes.{MayWork, Turned, SeesOn, AllSeen}
use Rattle.hist_board.specs.declared.held.Held.{Ghosts}
use Rattle.hist_board.specs.declared.view.View.{View}
use Rattle.hist_board.specs.declared.board.Board.{Board}
use Rattle.hist_board.specs.declared.pass.Pass.{Pass}

module _ {S I F : Type 0} where
  -- the objects that the board was made of, by which it is named
  abbrev pub made_of : Board S I F → List S
  made_of board = board.table.shared.key.value.items

module _ {S I F : Type 0} {held : Ghosts S I F} where
  -- what the pass has seen, its errands, and the frame and kinds that it names
  abbrev pub view_of : Pass S I F held → View I F
  view_of pass = pass.seat.me.0

  -- It is a pass of this board, and names the frame of the board's objects and their kinds, in order. No step
  -- can tell the latter, so each call asks it and keeps it.
  abbrev pub IsPassOf : Board S I F → Pass S I F held → Type 0
  IsPassOf board pass =
      (pass.seat.table_id ≡ board.table.shared.table_id)
      × ((view_of pass).frame ≡ frame_of held.frame (made_of board))
      × ((view_of pass).kinds ≡ map held.kind (made_of board))

  -- the pass may do this work at this object: the work takes each object that may be lent, and keeps the rule
  abbrev pub MayWorkAt : {R : Type 0} → Pass S I F held → ℕ → (S → Type 0) → (S → R → S → Type 0) → Type 0
  MayWorkAt pass object may gives = MayWork held.history held.frame held.kind held.errands held.fits
      (view_of pass) object may gives

  -- the pass had a turn at this object, in which the work gave this answer
  abbrev pub HasTurned : {R : Type 0} → Pass S I F held → ℕ → (S → R → S → Type 0) → R → Pass S I F held
      → Type 0
  HasTurned before object gives answer after = Turned held.history held.frame held.kind held.errands held.fits
      (view_of before) object gives answer (view_of after)

  -- the objects are the board's: their histories fit, and go on from what the last pass had seen
  abbrev pub HasClosed : Pass S I F held → List S → Type 0
  HasClosed last objects =
      (view : View I F) × SeesOn held.errands (view_of last) view
      × AllSeen held.history held.frame held.kind held.fits view objects
