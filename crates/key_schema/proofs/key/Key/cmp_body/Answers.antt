use Rattle.std.proofs.Common.{◌∙◌}
use Rattle.key_schema.proofs.Orders.{session_order}
use Rattle.key_schema.proofs.key.Key.cmp_body.Goals as goal

-- src/order.rt:28:5
pub returns-in-Session-Session : goal.returns-in-Session-Session
returns-in-Session-Session c = λ same.
    c.then-in-Session-Session.ensures
    ∙ session_order c.args.self.now c.args.other.now _ _ _ _ _ _ c.cmp_ids-in-Session-Session.result c.cmp_holders.result c.in-Session-Session.is-0 c.in-Session-Session.is-1 c.cmp_ids-in-Session-Session.ensures c.cmp_holders.ensures
