use Rattle.std.proofs.Common.{◌≡◌, ◌∙◌, ap, true}
use Rattle.std.specs.Ordering.{is_gt}
use Rattle.conflict_sets.specs.Keys.{key_cmp}
use Rattle.kv_store.proofs.RangeLemmas.{tested, is_greater, forward, between_none, part_up_to}
use Rattle.kv_store.proofs.later.after_row.Goals as goal

pub returns-then-is_gt-clause-outside : goal.returns-then-is_gt-clause-outside
returns-then-is_gt-clause-outside c =
    let greater : is_gt (key_cmp c.args.lo.now c.args.last.now) ≡ true
    = tested c.args.lo.now c.args.last.now _ _ _ (c.compare.ensures ∙ (ap (λ k. key_cmp k c.as_slice-2.result.now) c.as_slice.ensures ∙ ap (key_cmp c.args.lo.now) c.as_slice-2.ensures)) c.is_gt.ensures c.if-is_gt.true in
    λ key from until. between_none c.args.lo.now c.args.last.now key (is_greater c.args.lo.now c.args.last.now greater) from until

pub range-requires : goal.range-requires
range-requires c =
    forward c.args.lo.now c.args.last.now _ _ (ap (λ r. r.now) c.new.ensures.start) (ap (λ r. r.now) c.new.ensures.end)
    (tested c.args.lo.now c.args.last.now _ _ _ (c.compare.ensures ∙ (ap (λ k. key_cmp k c.as_slice-2.result.now) c.as_slice.ensures ∙ ap (key_cmp c.args.lo.now) c.as_slice-2.ensures)) c.is_gt.ensures c.if-is_gt.false)

pub returns-clause-outside : goal.returns-clause-outside
returns-clause-outside c =
    λ key from until. part_up_to c.args.version c.after_all.result c.args.lo.now c.args.last.now _ _ c.args.chains.now.entries c.range.result key
    (ap (λ r. r.now) c.new.ensures.start) (ap (λ r. r.now) c.new.ensures.end) (c.range.ensures.between tt) c.after_all.ensures.outside from until
