use Rattle.std.proofs.Common.{◌∙◌, ap}
use Rattle.std.proofs.lemmas.Result.{IfOk-weaker}
use Rattle.conflict_sets.specs.Rows.{rows_between}
use Rattle.kv_store.specs.Versions.{rows_of}
use Rattle.kv_store.proofs.RangeLemmas.{forward, rows_of_range}
use Rattle.kv_store.proofs.rows.between.Goals as goal

pub range-requires : goal.range-requires
range-requires c = forward c.args.lo.now c.args.hi.now _ _ c.in_ok-lo.ensures c.in_ok-hi.ensures c.requires

pub returns-clause-rows : goal.returns-clause-rows
returns-clause-rows c =
    let rows = rows_of c.args.version c.args.chains.now.entries in
    IfOk-weaker c.first_rows.result _ _
    (λ found h. h ∙ (rows_of_range c.args.version c.args.limit c.in_ok-lo.lo c.in_ok-hi.hi c.args.chains.now.entries c.range.result (c.range.ensures.between tt)
    ∙ (ap (λ k. rows_between rows k c.in_ok-hi.hi c.args.limit) c.in_ok-lo.ensures ∙ ap (λ k. rows_between rows c.args.lo.now k c.args.limit) c.in_ok-hi.ensures)))
    c.first_rows.ensures
