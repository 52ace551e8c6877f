use Rattle.std.proofs.Common.{arith, sym, subst}
use Rattle.std.specs.Ordering.{is_eq}
use Rattle.conflict_sets.specs.Keys.{key_cmp}
use Rattle.conflict_sets.specs.declared.sets.KeyRead.{KeyRead}
use Rattle.kv_store.specs.Chains.{AreOutside}
use Rattle.kv_store.specs.Versions.{chain_at}
use Rattle.kv_store.proofs.ChainLemmas.{AreOutside_narrower}
use Rattle.kv_store.proofs.HoldLemmas.{any_more, same_key}
use Rattle.kv_store.proofs.later.after_keys.Goals as goal

pub loop-read-preserved : goal.loop-read-preserved
loop-read-preserved c =
    record {
      outside = λ key t.
          any_more (λ (read : KeyRead). is_eq (key_cmp key read.key)) c.args.reads.now c.loop-read.read-index c.read-item.result (omega arith) (sym c.read-item.is) t
          (λ u. AreOutside_narrower c.args.version c.loop-read.first c.args.version c.after_key-first.result (chain_at c.args.chains.now.entries key) (omega arith) c.after_key-first.ensures.until (c.loop-read.invariant.outside key u))
          (λ u. subst (λ k. AreOutside c.args.version c.after_key-first.result (chain_at c.args.chains.now.entries k)) (same_key key c.read-item.result.key u) c.after_key-first.ensures.outside);
      later = c.after_key-first.ensures.later;
      until = omega (arith, c.after_key-first.ensures.until, c.loop-read.invariant.until);
    }
