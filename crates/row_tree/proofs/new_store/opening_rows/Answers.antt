use Rattle.std.proofs.Common.{rules}
use Rattle.row_tree.specs.Opening.{HasLimits}
use Rattle.row_tree.proofs.OpeningBytes.{opening_tree, limits_are}
use Rattle.row_tree.proofs.new_store.opening_rows.Goals as goal

-- src/new_store.rt:31:1
pub returns-clause-tree : goal.returns-clause-tree
returns-clause-tree c =
    let limits : HasLimits c.args.config.now =
    limits_are c.args.config.now c.chunk-chunk.result c.stripe-stripe.result c.chains-chains.result
    c.chunk-chunk.ensures.value c.stripe-stripe.ensures.value c.chains-chains.ensures.value
    (c.chunk-chunk.ensures.from, c.chunk-chunk.ensures.to) (c.stripe-stripe.ensures.from, c.stripe-stripe.ensures.to) c.chains-chains.ensures.to in
    opening_tree c.args.config.now c.push.new.self limits (search rules)
