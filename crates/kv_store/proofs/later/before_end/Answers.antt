use Rattle.std.proofs.Common.{◌≡◌, ◌∙◌, ap, refl, true}
use Rattle.std.specs.Ordering.{is_gt}
use Rattle.conflict_sets.specs.Keys.{key_cmp}
use Rattle.kv_store.proofs.HoldLemmas.{inside_from, inside_until}
use Rattle.kv_store.proofs.RangeLemmas.{tested, is_greater, forward, between_none, part_inside}
use Rattle.kv_store.proofs.later.before_end.Goals as goal

pub returns-then-is_gt-clause-outside : goal.returns-then-is_gt-clause-outside
returns-then-is_gt-clause-outside c =
    let lo = c.args.lo.now in
    let hi = c.args.hi.now in
    let greater : is_gt (key_cmp lo hi) ≡ true
    = tested lo hi _ _ _ (c.compare.ensures ∙ (ap (λ k. key_cmp k c.as_slice-2.result.now) c.as_slice.ensures ∙ ap (key_cmp lo) c.as_slice-2.ensures)) c.is_gt.ensures c.if-is_gt.true in
    λ key h. between_none lo hi key (is_greater lo hi greater) (inside_from lo hi key h) (inside_until lo hi key h)

pub range-requires : goal.range-requires
range-requires c =
    forward c.args.lo.now c.args.hi.now _ _ refl refl
    (tested c.args.lo.now c.args.hi.now _ _ _ (c.compare.ensures ∙ (ap (λ k. key_cmp k c.as_slice-2.result.now) c.as_slice.ensures ∙ ap (key_cmp c.args.lo.now) c.as_slice-2.ensures)) c.is_gt.ensures c.if-is_gt.false)

pub returns-clause-outside : goal.returns-clause-outside
returns-clause-outside c =
    λ key h. part_inside c.args.version c.after_all.result c.args.lo.now c.args.hi.now c.args.chains.now.entries c.range.result key (c.range.ensures.between tt) c.after_all.ensures.outside h
