use Rattle.std.proofs.Common.{◌≡◌, ◌+◌, ◌∙◌, List, ℕ, arith, sym}
use Rattle.kv_store.specs.Journal.{written_value}
use Rattle.kv_store.specs.Versions.{chain_at, cut_written}
use Rattle.kv_store.proofs.MapLemmas.{on_err}
use Rattle.kv_store.proofs.WriteLemmas.{pushed_more, below_next, cut_back}
use Rattle.kv_store.proofs.chains.push_all.Goals as goal

pub add-requires : goal.add-requires
add-requires c =
    below_next c.args.writes.now c.loop-write.write-index c.write-item.result (c.args.front + 1)
    (chain_at c.args.chains.now.entries c.write-item.result.key) (chain_at c.loop-write.chains.entries c.write-item.result.key)
    c.requires.ascending (omega arith) (sym c.write-item.is) (c.requires.below c.write-item.result.key) (c.loop-write.invariant c.write-item.result.key)

pub returns-in_err-add-clause-err : goal.returns-in_err-add-clause-err
returns-in_err-add-clause-err c =
    let back : (key : List ℕ) → cut_written (written_value c.args.writes.now key) c.args.front (chain_at c.add.new.chains.entries key) ≡ chain_at c.args.chains.now.entries key
    = λ key. cut_back c.args.writes.now c.loop-write.write-index c.args.front key
    (chain_at c.args.chains.now.entries key) (chain_at c.add.new.chains.entries key)
    (c.requires.below key) (c.in_err-add.ensures.err key ∙ c.loop-write.invariant key) in
    on_err _ back

pub loop-write-preserved : goal.loop-write-preserved
loop-write-preserved c =
    λ key. pushed_more c.args.writes.now c.loop-write.write-index c.write-item.result _ (c.args.front + 1) key
    (chain_at c.args.chains.now.entries key) (chain_at c.loop-write.chains.entries key) (chain_at c.add.new.chains.entries key)
    c.requires.ascending (omega arith) (sym c.write-item.is) c.as_ref.ensures.value (c.loop-write.invariant key) (c.in_ok-add.ensures.ok key)
