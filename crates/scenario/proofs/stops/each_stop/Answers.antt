use Rattle.std.proofs.Common.{rules, arith, length-append, ◌∷◌, []}
use Rattle.std.proofs.lemmas.Result.{err_from_is_err_and}
use Rattle.std.proofs.lemmas.List.Elements.{All-append}
use Rattle.client_core.specs.Plans.{IsStop}
use Rattle.fs_base.proofs.Each.{each_more, each_refused, each_done}
use Rattle.serde_json.specs.View.{view}
use Rattle.scenario.specs.Broken.{broken_of}
use Rattle.scenario.specs.Stops.{stop_of}
use Rattle.scenario.proofs.stops.each_stop.Goals as goal

pub loop-value-preserved : goal.loop-value-preserved
loop-value-preserved c =
    record {
      count = rw c.in_ok-push.ensures.ok (omega (arith, length-append c.loop-value.stops (c.in_ok-stop.stop ∷ []), c.loop-value.invariant.count));
      valid = rw c.in_ok-push.ensures.ok (All-append (IsStop c.args.servers) c.loop-value.stops (c.in_ok-stop.stop ∷ []) c.loop-value.invariant.valid (search (rules, c.in_ok-stop.ensures.valid)));
      so_far = rw c.in_ok-push.ensures.ok (each_more (λ _ d. stop_of c.args.servers d) view c.loop-value.stops c.loop-value.value-index c.args.values.now c.value-item.result c.in_ok-stop.stop _ c.loop-value-test.true (rw (← c.value-item.is) c.in_ok-stop.ensures.gives) c.loop-value.invariant.so_far);
    }

pub returns-in_err-stop-clause-gives : goal.returns-in_err-stop-clause-gives
returns-in_err-stop-clause-gives c =
    let p = err_from_is_err_and c.from_residual.result c.from_residual.ensures.1 in
    rw (p.1, p.2) (each_refused (λ _ d. stop_of c.args.servers d) view c.loop-value.stops c.loop-value.value-index c.args.values.now c.value-item.result (broken_of c.in_err-stop.field-0.0) _ c.loop-value-test.true (rw (← c.value-item.is) c.in_err-stop.ensures.gives) c.loop-value.invariant.so_far)

pub returns-clause-gives : goal.returns-clause-gives
returns-clause-gives c = each_done (λ _ d. stop_of c.args.servers d) view c.loop-value.stops c.loop-value.value-index c.args.values.now _ c.loop-value-test.false c.loop-value.invariant.so_far
