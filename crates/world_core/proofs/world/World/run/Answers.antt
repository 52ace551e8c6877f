use Rattle.std.proofs.Common.{◌∙◌, subst, IfOk}
use Rattle.std.proofs.lemmas.Result.{IfOk-weaker}
use Rattle.client_core.specs.declared.plan.Plan.{Plan}
use Rattle.run_record.specs.Right.{IsRightRecord}
use Rattle.world_core.specs.Order.{IsWorldRecord, IsOrdered}
use Rattle.world_core.specs.World.{WorldView}
use Rattle.world_core.proofs.world.World.run.Goals as goal

pub returns-clause-right : goal.returns-clause-right
returns-clause-right c = subst (λ (plan : Plan). IfOk c.into_record.result (λ run. IsRightRecord plan run)) (c.rounds.ensures.plan ∙ c.take_schedule.ensures.plan) c.into_record.ensures.right

pub returns-clause-order : goal.returns-clause-order
returns-clause-order c =
    IfOk-weaker c.into_record.result (λ run. IsWorldRecord c.rounds.new.self run) (λ run. (last : WorldView) × IsOrdered c.args.self last × IsWorldRecord last run)
    (λ run kept. (
      c.rounds.new.self,
      record {
        mid = c.take_schedule.new.self;
        items = c.in_ok-take_schedule.ensures.items;
        count = c.in_ok-rounds.ensures.rounds.0;
        rounds = c.in_ok-rounds.ensures.rounds.1;
        none = c.in_ok-rounds.ensures.left;
      },
      kept,
    ))
    c.into_record.ensures.kept
