use Rattle.std.proofs.Common.{◌∙◌, sym, ap, arith}
use Rattle.std.specs.Ordering.{is_le}
use Rattle.conflict_sets.specs.Keys.{key_cmp}
use Rattle.txn_task.proofs.WriteLaws.{before_more, place_end}
use Rattle.txn_task.proofs.writes.place_of.Goals as goal

pub loop-place-preserved : goal.loop-place-preserved
loop-place-preserved c =
    before_more c.args.key.now c.args.writes.now c.loop-place.place c.index-writes-place.result (omega arith) (sym c.index-writes-place.is)
    (ap is_le (ap (key_cmp c.args.key.now) (sym c.as_slice.ensures) ∙ sym c.compare.ensures) ∙ (sym c.is_le.ensures ∙ c.if-is_le.false)) c.loop-place.invariant

pub returns : goal.returns
returns c = place_end c.args.key.now c.args.writes.now c.loop-place.place (omega arith) c.loop-place.invariant
