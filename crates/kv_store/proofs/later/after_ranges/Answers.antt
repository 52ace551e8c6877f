use Rattle.std.proofs.Common.{arith, sym}
use Rattle.conflict_sets.specs.Reads.{range_holds}
use Rattle.conflict_sets.specs.declared.sets.RangeRead.{RangeRead}
use Rattle.kv_store.specs.Versions.{chain_at}
use Rattle.kv_store.proofs.ChainLemmas.{AreOutside_narrower}
use Rattle.kv_store.proofs.HoldLemmas.{any_more}
use Rattle.kv_store.proofs.later.after_ranges.Goals as goal

pub loop-read-preserved : goal.loop-read-preserved
loop-read-preserved c =
    record {
      outside = λ key t.
          any_more (λ (read : RangeRead). range_holds read key) c.args.reads.now c.loop-read.read-index c.read-item.result (omega arith) (sym c.read-item.is) t
          (λ u. AreOutside_narrower c.args.version c.loop-read.first c.args.version c.after_range-first.result (chain_at c.args.chains.now.entries key) (omega arith) c.after_range-first.ensures.until (c.loop-read.invariant.outside key u))
          (λ u. c.after_range-first.ensures.outside key u);
      later = c.after_range-first.ensures.later;
      until = omega (arith, c.after_range-first.ensures.until, c.loop-read.invariant.until);
    }
