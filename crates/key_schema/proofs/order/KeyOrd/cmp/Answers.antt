use Rattle.std.proofs.Common.{◌∙◌}
use Rattle.std.specs.Ordering.{nat_cmp}
use Rattle.std.specs.Cmp.Lexicographic.{slice_cmp}
use Rattle.key_schema.proofs.Orders.{by_letters}
use Rattle.key_schema.proofs.order.KeyOrd.cmp.Goals as goal

-- src/order.rt:94:5
pub returns : goal.returns
returns c =
    c.then.ensures
    ∙ by_letters c.args.self.now c.args.other.now c.cmp-letters.result c.cmp_body.result
    (c.cmp-letters.ensures ∙ (λ i. slice_cmp nat_cmp (c.letters.ensures i) (c.letters-2.ensures i))) c.cmp_body.ensures
