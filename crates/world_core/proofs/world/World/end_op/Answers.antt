use Rattle.std.proofs.Common.{◌≡◌, ◌≢◌, ◌<◌, ℕ, Some, length, refl, sym, ap, subst, ◌∙◌}
use Rattle.std.specs.Prelude.{slice_get}
use Rattle.world_core.specs.World.{WorldView}
use Rattle.seat_turns.specs.declared.seats.Seat.{Seat}
use Rattle.seat_turns.proofs.Ahead.{ends_one, ops_apart, ops_same, stays, stays_on}
use Rattle.world_core.proofs.OrderLaws.{operation, turn_goes, turns_on}
use Rattle.world_core.proofs.Closing.{same_seats}
use Rattle.seat_turns.proofs.Seating.{seat_there}
use Rattle.world_core.proofs.world.World.end_op.Goals as goal

pub loop-init : goal.loop-init
loop-init c = (refl, stays c.args.self.now.seats c.args.client, (0, refl))

pub turn-requires : goal.turn-requires
turn-requires c = subst (λ (n : ℕ). c.args.client < n) (sym (same_seats c.loop.self c.args.self.now c.loop.invariant.0)) c.requires

pub loop-preserved : goal.loop-preserved
loop-preserved c =
    let within : c.args.client < length c.loop.self.seats = subst (λ (n : ℕ). c.args.client < n) (sym (same_seats c.loop.self c.args.self.now c.loop.invariant.0)) c.requires in
    let here : c.args.client < length c.self.inside.seats.items = subst (λ (w : WorldView). c.args.client < length w.seats) (sym c.self.view_is) c.requires in
    let same : length c.self-in-loop.inside.seats.items ≡ length c.args.self.now.seats = ap (λ (w : WorldView). length w.seats) c.self-in-loop.view_is ∙ same_seats c.turn.new.self c.args.self.now (c.turn.ensures.plan ∙ c.loop.invariant.0) in
    let there : c.args.client < length c.self-in-loop.inside.seats.items = subst (λ (n : ℕ). c.args.client < n) (sym same) c.requires in
    let at_x : slice_get c.args.self.now.seats c.args.client ≡ Some c.index.result.now = ap (λ (w : WorldView). slice_get w.seats c.args.client) (sym c.self.view_is) ∙ seat_there c.self.inside.seats.items c.from.result c.args.client c.index.result.now c.from.ensures here c.index.ensures in
    let at_y : slice_get c.turn.new.self.seats c.args.client ≡ Some c.index-in-loop.result.now
    = ap (λ (w : WorldView). slice_get w.seats c.args.client) (sym c.self-in-loop.view_is) ∙ seat_there c.self-in-loop.inside.seats.items c.from-in-loop.result c.args.client c.index-in-loop.result.now c.from-in-loop.ensures there c.index-in-loop.ensures in (
      c.turn.ensures.plan ∙ c.loop.invariant.0,
      stays_on c.args.self.now.seats c.loop.self.seats c.turn.new.self.seats c.args.client within (same_seats c.loop.self c.args.self.now c.loop.invariant.0) c.loop.invariant.1 (turn_goes c.loop.self c.turn.new.self c.args.client c.in_ok-turn.field-0 c.in_ok-turn.ensures.turn)
          (ops_same c.args.self.now.seats c.turn.new.self.seats c.args.client c.index.result.now c.index-in-loop.result.now c.ended_ops-before.result c.ended_ops.result at_x at_y c.ended_ops-before.ensures c.ended_ops.ensures c.if-ended_ops-before.false),
      turns_on c.args.self.now c.loop.self c.turn.new.self c.args.client c.in_ok-turn.field-0 c.loop.invariant.2 c.in_ok-turn.ensures.turn,
    )

pub returns-then-ended_ops-before-clause-ended : goal.returns-then-ended_ops-before-clause-ended
returns-then-ended_ops-before-clause-ended c =
    let within : c.args.client < length c.loop.self.seats = subst (λ (n : ℕ). c.args.client < n) (sym (same_seats c.loop.self c.args.self.now c.loop.invariant.0)) c.requires in
    let here : c.args.client < length c.self.inside.seats.items = subst (λ (w : WorldView). c.args.client < length w.seats) (sym c.self.view_is) c.requires in
    let same : length c.self-in-loop.inside.seats.items ≡ length c.args.self.now.seats = ap (λ (w : WorldView). length w.seats) c.self-in-loop.view_is ∙ same_seats c.turn.new.self c.args.self.now (c.turn.ensures.plan ∙ c.loop.invariant.0) in
    let there : c.args.client < length c.self-in-loop.inside.seats.items = subst (λ (n : ℕ). c.args.client < n) (sym same) c.requires in
    let at_x : slice_get c.args.self.now.seats c.args.client ≡ Some c.index.result.now = ap (λ (w : WorldView). slice_get w.seats c.args.client) (sym c.self.view_is) ∙ seat_there c.self.inside.seats.items c.from.result c.args.client c.index.result.now c.from.ensures here c.index.ensures in
    let at_y : slice_get c.turn.new.self.seats c.args.client ≡ Some c.index-in-loop.result.now
    = ap (λ (w : WorldView). slice_get w.seats c.args.client) (sym c.self-in-loop.view_is) ∙ seat_there c.self-in-loop.inside.seats.items c.from-in-loop.result c.args.client c.index-in-loop.result.now c.from-in-loop.ensures there c.index-in-loop.ensures in
    let more : (before after : Seat) → slice_get c.args.self.now.seats c.args.client ≡ Some before → slice_get c.turn.new.self.seats c.args.client ≡ Some after → after.client.op ≢ before.client.op
    = ops_apart c.args.self.now.seats c.turn.new.self.seats c.args.client c.index.result.now c.index-in-loop.result.now c.ended_ops-before.result c.ended_ops.result at_x at_y c.ended_ops-before.ensures c.ended_ops.ensures c.if-ended_ops-before.true in (
      ends_one c.args.self.now.seats c.loop.self.seats c.turn.new.self.seats c.args.client within (same_seats c.loop.self c.args.self.now c.loop.invariant.0) c.loop.invariant.1 (turn_goes c.loop.self c.turn.new.self c.args.client c.in_ok-turn.field-0 c.in_ok-turn.ensures.turn) more,
      operation c.args.self.now c.loop.self c.turn.new.self c.args.client c.in_ok-turn.field-0 c.requires within c.loop.invariant.1 c.loop.invariant.2 c.in_ok-turn.ensures.turn more,
    )
