use Rattle.std.proofs.Common.{◌≡◌, ◌<◌, ◌≤◌, ℕ, List, true, take}
use Rattle.std.specs.List.{list_any}
use Rattle.std.specs.Ordering.{is_eq}
use Rattle.conflict_sets.specs.Keys.{key_cmp}
use Rattle.kv_store.specs.Chains.{AreOutside}
use Rattle.kv_store.specs.Versions.{chain_at}
use Rattle.kv_store.proofs.later.after_keys.Given as goal

abbrev pub invariant-loop-read : goal.invariant-loop-read
invariant-loop-read l =
    record {
      outside : (key : List ℕ) → list_any (λ read. is_eq (key_cmp key read.key)) (take l.read-index l.reads) ≡ true → AreOutside l.version l.first (chain_at l.chains.entries key);
      later : l.version < l.first;
      until : l.first ≤ l.until;
    }
