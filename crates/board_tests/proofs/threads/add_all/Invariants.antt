use Rattle.std.proofs.Common.{◌≡◌, true}
use Rattle.board_tests.specs.Errands.{numbers_of, numbers_below}
use Rattle.hist_board.specs.Rule.{seen_at}
use Rattle.hist_board.specs.Calls.{view_of, IsPassOf}
use Rattle.board_tests.proofs.threads.add_all.Given as goal

abbrev pub invariant-loop-number : goal.invariant-loop-number
invariant-loop-number g l =
    IsPassOf l.board l.pass
    × ((view_of l.pass).errands ≡ (view_of l.initial.pass).errands)
    × ((view_of l.pass).kinds ≡ (view_of l.initial.pass).kinds)
    × (l.all ≡ true → numbers_of l.client (seen_at (view_of l.pass) 0) ≡ numbers_below l.number)
