use Rattle.std.proofs.Common.{◌≡◌, ℕ, ◌<◌, length, max, get_or}
use Rattle.hist_board.proofs.pass.longest.Given as goal

abbrev pub invariant-loop-i : goal.invariant-loop-i
invariant-loop-i l = (length l.lengths ≡ 17)
    × ((o : ℕ) → o < l.i → get_or l.lengths o 0 ≡ max (get_or l.first o 0) (get_or l.second o 0))
