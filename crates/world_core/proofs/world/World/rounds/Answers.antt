use Rattle.std.proofs.Common.{ℕ, suc, true, ◌≡◌, ◌∙◌, rules, subst, arith}
use Rattle.seat_turns.specs.Left.{AreSeatsAhead, has_left}
use Rattle.world_core.proofs.world.World.rounds.Goals as goal

pub loop-done-preserved : goal.loop-done-preserved
loop-done-preserved c =
    let left : has_left c.loop-done.self.seats ≡ true = search rules in
    (c.round.ensures.plan ∙ c.loop-done.invariant.0, c.in_ok-round.ensures.alive c.loop-done.invariant.1, c.in_ok-round.ensures.ahead c.loop-done._done c.loop-done.invariant.2, (suc c.loop-done.invariant.3.0, (c.loop-done.self, c.loop-done.invariant.3.1, left, c.in_ok-round.ensures.round)))

pub enough_rounds-requires-clause-ahead : goal.enough_rounds-requires-clause-ahead
enough_rounds-requires-clause-ahead c = let all : c.loop-done._done ≡ 4000 = omega arith in subst (λ (n : ℕ). AreSeatsAhead n c.loop-done.self.seats) all c.loop-done.invariant.2
