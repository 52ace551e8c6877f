use Rattle.std.proofs.Common.{◌<◌, ◌≤◌, ℕ}
use Rattle.kv_store.specs.Versions.{AllOutside}
use Rattle.kv_store.proofs.later.after_all.Given as goal

abbrev pub invariant-loop-key : goal.invariant-loop-key
invariant-loop-key l =
    record {
      can : (goal.iterator-loop-key).can_next l._key-iterator;
      finite : (goal.iterator-loop-key).is_finite l._key-iterator;
      outside : (until : ℕ) → until ≤ l.first → AllOutside l.version until l._key-iterator → AllOutside l.version until l.fn.chains;
      later : l.version < l.first;
      until : l.first ≤ l.until;
    }
