use Rattle.std.proofs.Common.{◌≡◌, ◌<◌, ◌≤◌, ◌∙◌, ℕ, length, ap, rules, subst}
use Rattle.world_core.specs.Order.{IsRoundTo}
use Rattle.world_core.specs.World.{WorldView}
use Rattle.seat_turns.proofs.Ahead.{ahead_more}
use Rattle.world_core.proofs.Closing.{same_seats}
use Rattle.world_core.proofs.OrderLaws.{op_ahead, round_on}
use Rattle.world_core.proofs.world.World.round.Goals as goal

pub op-requires : goal.op-requires
op-requires c =
    let kept : length c.loop-client.self.seats ≡ length c.args.self.now.seats = same_seats c.loop-client.self c.args.self.now c.loop-client.invariant.0 in
    let view : length c.self.inside.seats.items ≡ length c.args.self.now.seats = ap (λ (w : WorldView). length w.seats) c.self.view_is in
    search (rules, kept, view)

pub loop-client-preserved : goal.loop-client-preserved
loop-client-preserved c =
    let kept : length c.loop-client.self.seats ≡ length c.args.self.now.seats = same_seats c.loop-client.self c.args.self.now c.loop-client.invariant.0 in
    let view : length c.self.inside.seats.items ≡ length c.args.self.now.seats = ap (λ (w : WorldView). length w.seats) c.self.view_is in
    let within : c.loop-client.client < length c.loop-client.self.seats = search (rules, kept, view) in (
      c.in_ok-op.ensures.plan ∙ c.loop-client.invariant.0,
      (λ before. c.in_ok-op.ensures.alive),
      (λ rounds h. op_ahead rounds c.loop-client.client c.loop-client.self c.op.new.self c.in_ok-op.field-0 within c.in_ok-op.ensures.plan c.in_ok-op.ensures.turn (c.loop-client.invariant.2 rounds h)),
      round_on c.args.self.now c.loop-client.self c.op.new.self c.loop-client.client c.in_ok-op.field-0 c.loop-client.invariant.3 c.in_ok-op.ensures.turn,
    )

pub returns-clause-ahead : goal.returns-clause-ahead
returns-clause-ahead c =
    let kept : length c.loop-client.self.seats ≡ length c.args.self.now.seats = same_seats c.loop-client.self c.args.self.now c.loop-client.invariant.0 in
    let view : length c.self.inside.seats.items ≡ length c.args.self.now.seats = ap (λ (w : WorldView). length w.seats) c.self.view_is in
    let all : length c.loop-client.self.seats ≤ c.loop-client.client = search (rules, kept, view) in
    λ rounds h. ahead_more rounds c.loop-client.client c.loop-client.self.seats all (c.loop-client.invariant.2 rounds h)

pub returns-clause-round : goal.returns-clause-round
returns-clause-round c =
    let view : length c.self.inside.seats.items ≡ length c.args.self.now.seats = ap (λ (w : WorldView). length w.seats) c.self.view_is in
    let end : c.loop-client.client ≡ length c.args.self.now.seats = search (rules, view) in
    subst (λ (n : ℕ). IsRoundTo c.args.self.now c.loop-client.self n) end c.loop-client.invariant.3
