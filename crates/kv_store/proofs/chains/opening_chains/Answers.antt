use Rattle.std.proofs.Common.{arith, sym}
use Rattle.kv_store.specs.Versions.{chain_at}
use Rattle.kv_store.proofs.OpeningLemmas.{none_yet, opened_more}
use Rattle.kv_store.proofs.chains.opening_chains.Goals as goal

pub add-requires : goal.add-requires
add-requires c =
    none_yet c.args.rows.now c.loop-row.row-index c.row-item.result (chain_at c.loop-row.chains.entries c.row-item.result.key)
    c.requires (omega arith) (sym c.row-item.is) (c.loop-row.invariant c.row-item.result.key)

pub loop-row-preserved : goal.loop-row-preserved
loop-row-preserved c =
    λ key. opened_more c.args.rows.now c.loop-row.row-index c.row-item.result key (chain_at c.loop-row.chains.entries key) (chain_at c.add.new.chains.entries key)
    c.requires (omega arith) (sym c.row-item.is) (c.loop-row.invariant key) (c.in_ok-add.ensures.ok key)
