use Rattle.std.proofs.Common.{arith, sym}
use Rattle.kv_store.specs.Versions.{chain_at}
use Rattle.kv_store.proofs.WriteLemmas.{cut_more}
use Rattle.kv_store.proofs.chains.take_back.Goals as goal

pub loop-write-preserved : goal.loop-write-preserved
loop-write-preserved c =
    λ key. cut_more c.args.writes.now c.loop-write.write-index c.args.front c.write-item.result key
    (chain_at c.args.chains.now.entries key) (chain_at c.loop-write.chains.entries key) (chain_at c.cut_at.new.chains.entries key)
    (omega arith) (sym c.write-item.is) (c.loop-write.invariant key) (c.cut_at.ensures key)
