use Rattle.std.proofs.Common.{◌≡◌, ◌+◌, ◌++◌, ℕ, List, take}
use Rattle.kv_store.specs.Journal.{written_value}
use Rattle.kv_store.specs.Versions.{written_version, chain_at}
use Rattle.kv_store.proofs.chains.push_all.Given as goal

abbrev pub invariant-loop-write : goal.invariant-loop-write
invariant-loop-write l =
    (key : List ℕ) → chain_at l.chains.entries key ≡ chain_at l.fn.chains.entries key ++ written_version (written_value (take l.write-index l.writes) key) (l.front + 1)
