use Rattle.std.proofs.Common.{sym, ◌∙◌}
use Rattle.std.specs.Int.{w64, to_be_bytes}
use Rattle.std.specs.Ordering.{nat_cmp, ordering_then}
use Rattle.std.specs.Cmp.Lexicographic.{slice_cmp}
use Rattle.key_schema.proofs.Orders.{after_client}
use Rattle.key_schema.proofs.order.cmp_holders.Goals as goal

-- src/order.rt:50:1
pub returns : goal.returns
returns c =
    c.then.ensures
    ∙ ((λ i. ordering_then (c.cmp-clients.ensures i) (c.cmp.ensures i))
    ∙ ((λ i. ordering_then (slice_cmp nat_cmp (c.to_be_bytes.ensures i) (c.to_be_bytes-2.ensures i)) (slice_cmp nat_cmp (c.to_be_bytes-3.ensures i) (c.to_be_bytes-4.ensures i)))
    ∙ sym (after_client c.args.a c.args.b (to_be_bytes w64 c.args.m) (to_be_bytes w64 c.args.n))))
