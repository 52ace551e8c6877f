use Rattle.std.proofs.Common.{◌≡◌, ℕ, List, take}
use Rattle.conflict_sets.specs.Rows.{value_at_key}
use Rattle.kv_store.specs.Versions.{opening_version, chain_at}
use Rattle.kv_store.proofs.chains.opening_chains.Given as goal

abbrev pub invariant-loop-row : goal.invariant-loop-row
invariant-loop-row l = (key : List ℕ) → chain_at l.chains.entries key ≡ opening_version (value_at_key (take l.row-index l.rows) key)
