use Rattle.std.proofs.Common.{refl, sym, ap, ◌∙◌}
use Rattle.std.proofs.lemmas.Result.{err_from_is_err_and}
use Rattle.byte_fields.specs.Fields.{client}
use Rattle.byte_fields.specs.Outcome.{left_of}
use Rattle.byte_fields.proofs.Lists.{items_first, items_more, items_refused, items_break, items_done, last_added}
use Rattle.row_records.specs.Calls.{ascends}
use Rattle.row_records.proofs.lists.clients_of.Goals as goal

pub loop-init : goal.loop-init
loop-init c = rw c.new-items.ensures (refl, items_first client ascends c.args.count c.args.cursor.now)

pub loop-preserved : goal.loop-preserved
loop-preserved c =
    rw c.in_ok-push.ensures.ok (sym (last_added c.loop.items c.in_ok-item.item), items_more client ascends c.loop.items c.loop.counter c.args.count c.loop.cursor c.client.new.self c.in_ok-item.item _ c.loop-test.true c.in_ok-item.ensures.gives (ap (λ b. ascends b c.in_ok-item.item) (sym c.loop.invariant.0) ∙ (sym c.ascends.ensures ∙ c.if-not-ascends.false)) c.loop.invariant.1)

pub returns-in_err-item : goal.returns-in_err-item
returns-in_err-item c =
    let p = err_from_is_err_and c.from_residual.result c.from_residual.ensures.1 in
    rw (p.1, p.2) (items_refused client ascends c.loop.items c.loop.counter c.args.count c.loop.cursor (left_of c.in_err-item.field-0.0) _ c.loop-test.true c.in_err-item.ensures.gives c.loop.invariant.1)

pub returns-then-not-ascends : goal.returns-then-not-ascends
returns-then-not-ascends c =
    let no = ap (λ b. ascends b c.in_ok-item.item) (sym c.loop.invariant.0) ∙ (sym c.ascends.ensures ∙ c.if-not-ascends.true) in
    rw c.left-left.ensures (items_break client ascends c.loop.items c.loop.counter c.args.count c.loop.cursor c.client.new.self c.in_ok-item.item _ c.loop-test.true c.in_ok-item.ensures.gives no c.loop.invariant.1)

pub returns : goal.returns
returns c = items_done client ascends c.loop.items c.loop.counter c.args.count c.loop.cursor _ c.loop-test.false c.loop.invariant.1
