use Rattle.std.proofs.Common.{rules, arith, length-append, ◌∷◌, []}
use Rattle.std.proofs.lemmas.Result.{err_from_is_err_and}
use Rattle.std.proofs.lemmas.List.Elements.{All-append}
use Rattle.fs_base.proofs.Each.{each_more, each_refused, each_done}
use Rattle.serde_json.specs.View.{view}
use Rattle.scenario.specs.Broken.{broken_of}
use Rattle.client_core.specs.Plans.{HasId, IsScript}
use Rattle.scenario.specs.Scenario.{script_of}
use Rattle.scenario.proofs.read.scripts_of.Goals as goal

pub loop-value-preserved : goal.loop-value-preserved
loop-value-preserved c =
    record {
      count = rw c.in_ok-push.ensures.ok (omega (arith, length-append c.loop-value.scripts (c.in_ok-script.script ∷ []), c.loop-value.invariant.count));
      valid = rw c.in_ok-push.ensures.ok (All-append (IsScript c.args.servers) c.loop-value.scripts (c.in_ok-script.script ∷ []) c.loop-value.invariant.valid (search (rules, c.in_ok-script.ensures.valid)));
      named = rw c.in_ok-push.ensures.ok (All-append HasId c.loop-value.scripts (c.in_ok-script.script ∷ []) c.loop-value.invariant.named (search (rules, c.in_ok-script.ensures.named)));
      so_far = rw c.in_ok-push.ensures.ok (each_more (script_of c.args.servers) view c.loop-value.scripts c.loop-value.value-index c.args.values.now c.value-item.result c.in_ok-script.script _ c.loop-value-test.true (rw (← c.value-item.is, ← c.loop-value.invariant.count, ← c.len-ordinal.ensures) c.in_ok-script.ensures.gives) c.loop-value.invariant.so_far);
    }

pub returns-in_err-script-clause-gives : goal.returns-in_err-script-clause-gives
returns-in_err-script-clause-gives c =
    let p = err_from_is_err_and c.from_residual.result c.from_residual.ensures.1 in
    rw (p.1, p.2) (each_refused (script_of c.args.servers) view c.loop-value.scripts c.loop-value.value-index c.args.values.now c.value-item.result (broken_of c.in_err-script.field-0.0) _ c.loop-value-test.true (rw (← c.value-item.is, ← c.loop-value.invariant.count, ← c.len-ordinal.ensures) c.in_err-script.ensures.gives) c.loop-value.invariant.so_far)

pub returns-clause-gives : goal.returns-clause-gives
returns-clause-gives c = each_done (script_of c.args.servers) view c.loop-value.scripts c.loop-value.value-index c.args.values.now _ c.loop-value-test.false c.loop-value.invariant.so_far
