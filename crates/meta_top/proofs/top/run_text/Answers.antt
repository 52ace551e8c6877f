use Rattle.std.proofs.Common.{subst}
use Rattle.std.proofs.lemmas.Result.{IfOk-weaker}
use Rattle.client_core.specs.declared.plan.Plan.{Plan}
use Rattle.run_record.specs.Right.{IsRightRecord}
use Rattle.meta_top.proofs.Alone.{run_of}
use Rattle.meta_top.proofs.top.run_text.Goals as goal

pub returns : goal.returns
returns c =
    IfOk-weaker c.write_replies.result _ _
    (λ text written.
    run_of c.args.plan c.in_ok-run.run' text.items c.in_ok-world.world c.requires (subst (λ (plan : Plan). IsRightRecord plan c.in_ok-run.run') c.in_ok-world.ensures.plan c.in_ok-run.ensures.right)
    (record { plan_is = c.in_ok-world.ensures.plan; seats = c.in_ok-world.ensures.seats; counts = c.in_ok-world.ensures.counts; none = c.in_ok-world.ensures.none }) c.in_ok-run.ensures.order written)
    c.write_replies.ensures
