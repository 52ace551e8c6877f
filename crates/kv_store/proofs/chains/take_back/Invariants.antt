use Rattle.std.proofs.Common.{◌≡◌, ℕ, List, take}
use Rattle.kv_store.specs.Journal.{written_value}
use Rattle.kv_store.specs.Versions.{chain_at, cut_written}
use Rattle.kv_store.proofs.chains.take_back.Given as goal

abbrev pub invariant-loop-write : goal.invariant-loop-write
invariant-loop-write l =
    (key : List ℕ) → chain_at l.chains.entries key ≡ cut_written (written_value (take l.write-index l.writes) key) l.front (chain_at l.fn.chains.entries key)
