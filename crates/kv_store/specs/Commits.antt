-- A journal of optimistic commits.
use Rattle.std.specs.Prelude.{◌≡◌, ℕ, ◌≤◌, List, [], ◌∷◌, ◌++◌, None, length}
use Rattle.conflict_sets.specs.Reads.{RowsAgree}
use Rattle.fs_base.specs.declared.row.Row.{Row}
use Rattle.conflict_sets.specs.declared.sets.ReadSet.{ReadSet}
use Rattle.conflict_sets.specs.declared.sets.WriteSet.{WriteSet}
use Rattle.kv_store.specs.Journal.{rows_at, first_later}

-- Each entry is sound. It read what stood at its snapshot, and nobody wrote any of that between then and its
-- place.
-- done are the entries before.
abbrev pub IsCommitted : {E : Type 0} → (E → ReadSet) → (E → WriteSet) → (E → Type 0) → List Row → List E
    → List ℕ → List E → Type 0
IsCommitted reads_of writes_of sound opening done snapshots [] = Unit {0}
IsCommitted reads_of writes_of sound opening done [] (entry ∷ entries) = ⊥
IsCommitted reads_of writes_of sound opening done (snapshot ∷ snapshots) (entry ∷ entries) =
    sound entry × (snapshot ≤ length done)
    × RowsAgree (rows_at writes_of opening done snapshot) (reads_of entry)
    × (first_later writes_of done snapshot (reads_of entry) ≡ None)
    × IsCommitted reads_of writes_of sound opening (done ++ entry ∷ []) snapshots entries
