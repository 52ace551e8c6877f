use Rattle.std.proofs.Common.{rules, ◌∷◌, []}
use Rattle.std.proofs.lemmas.Result.{err_from_is_err_and}
use Rattle.std.proofs.lemmas.List.Elements.{All-append}
use Rattle.client_core.specs.Plans.{NamesClient}
use Rattle.fs_base.proofs.Each.{each_more, each_refused, each_done}
use Rattle.serde_json.specs.View.{view}
use Rattle.scenario.specs.Broken.{broken_of}
use Rattle.scenario.specs.Schedule.{item_of}
use Rattle.scenario.proofs.schedule.items_of.Goals as goal

pub loop-value-preserved : goal.loop-value-preserved
loop-value-preserved c =
    record {
      valid = rw c.in_ok-push.ensures.ok (All-append (NamesClient c.args.count) c.loop-value.items (c.in_ok-item.item ∷ []) c.loop-value.invariant.valid (search (rules, c.in_ok-item.ensures.valid)));
      so_far = rw c.in_ok-push.ensures.ok (each_more (λ _ d. item_of c.args.count d) view c.loop-value.items c.loop-value.value-index c.args.values.now c.value-item.result c.in_ok-item.item _ c.loop-value-test.true (rw (← c.value-item.is) c.in_ok-item.ensures.gives) c.loop-value.invariant.so_far);
    }

pub returns-in_err-item-clause-gives : goal.returns-in_err-item-clause-gives
returns-in_err-item-clause-gives c =
    let p = err_from_is_err_and c.from_residual.result c.from_residual.ensures.1 in
    rw (p.1, p.2) (each_refused (λ _ d. item_of c.args.count d) view c.loop-value.items c.loop-value.value-index c.args.values.now c.value-item.result (broken_of c.in_err-item.field-0.0) _ c.loop-value-test.true (rw (← c.value-item.is) c.in_err-item.ensures.gives) c.loop-value.invariant.so_far)

pub returns-clause-gives : goal.returns-clause-gives
returns-clause-gives c = each_done (λ _ d. item_of c.args.count d) view c.loop-value.items c.loop-value.value-index c.args.values.now _ c.loop-value-test.false c.loop-value.invariant.so_far
