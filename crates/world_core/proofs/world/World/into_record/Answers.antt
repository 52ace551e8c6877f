use Rattle.std.proofs.Common.{sym, subst, IfOk}
use Rattle.run_record.specs.Right.{IsRightRecord}
use Rattle.seat_turns.specs.Seats.{HaveEnded}
use Rattle.world_core.specs.World.{WorldView, plan_of_world}
use Rattle.seat_turns.proofs.Ahead.{have_ended}
use Rattle.world_core.specs.Order.{IsWorldRecord}
use Rattle.world_core.proofs.Closing.{few_kept, right_run}
use Rattle.world_core.proofs.OrderLaws.{kept_of}
use Rattle.world_core.proofs.world.World.into_record.Goals as goal

pub record_of-requires-clause-few : goal.record_of-requires-clause-few
record_of-requires-clause-few c =
    few_kept _ c.self.invariant c.if-self.false (subst (λ (w : WorldView). HaveEnded w.seats) (sym c.self.view_is) (have_ended c.args.self.seats c.requires)) c.sound_store.ensures.few

pub returns-clause-right : goal.returns-clause-right
returns-clause-right c =
    subst (λ (w : WorldView). IfOk c.record_of.result (λ run. IsRightRecord (plan_of_world w) run))
    c.self.view_is
    (right_run _ c.record_of.result c.self.invariant c.if-self.false (subst (λ (w : WorldView). HaveEnded w.seats) (sym c.self.view_is) (have_ended c.args.self.seats c.requires)) c.sound_store.ensures.sound
    c.record_of.ensures.config c.record_of.ensures.clients c.record_of.ensures.receipts c.record_of.ensures.entries c.record_of.ensures.summary)

pub returns-clause-kept : goal.returns-clause-kept
returns-clause-kept c = subst (λ (w : WorldView). IfOk c.record_of.result (λ run. IsWorldRecord w run)) c.self.view_is (kept_of _ c.record_of.result c.record_of.ensures.receipts c.record_of.ensures.entries)
