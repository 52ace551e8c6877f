use Rattle.std.proofs.Common.{◌≡◌, ◌<◌, ◌≤◌, ℕ, List, true, take}
use Rattle.std.specs.List.{list_any}
use Rattle.conflict_sets.specs.Reads.{range_holds}
use Rattle.kv_store.specs.Chains.{AreOutside}
use Rattle.kv_store.specs.Versions.{chain_at}
use Rattle.kv_store.proofs.later.after_ranges.Given as goal

abbrev pub invariant-loop-read : goal.invariant-loop-read
invariant-loop-read l =
    record {
      outside : (key : List ℕ) → list_any (λ read. range_holds read key) (take l.read-index l.reads) ≡ true → AreOutside l.version l.first (chain_at l.chains.entries key);
      later : l.version < l.first;
      until : l.first ≤ l.until;
    }
