use Rattle.std.proofs.Common.{arith, sym, subst}
use Rattle.std.specs.Map.Iter.{deref_pair}
use Rattle.std.proofs.lemmas.Map.Iter.{rest_more}
use Rattle.kv_store.specs.Versions.{AllOutside}
use Rattle.kv_store.proofs.ChainLemmas.{AreOutside_narrower}
use Rattle.kv_store.proofs.later.after_all.Goals as goal

pub loop-key-preserved : goal.loop-key-preserved
loop-key-preserved c =
    record {
      can = tt;
      finite = tt;
      outside = λ until l h.
          c.loop-key.invariant.outside until (omega (arith, l, c.first_after-first.ensures.until))
          (subst (AllOutside c.args.version until) (sym (rest_more deref_pair c.loop-key._key-iterator c.next.new.self c.next.result (c.in-Some._key, c.in-Some.chain) c.in-Some.is c.next.ensures.steps))
          (AreOutside_narrower c.args.version c.first_after-first.result c.args.version until c.in-Some.chain.now (omega arith) l c.first_after-first.ensures.outside, h));
      later = c.first_after-first.ensures.later;
      until = omega (arith, c.first_after-first.ensures.until, c.loop-key.invariant.until);
    }
