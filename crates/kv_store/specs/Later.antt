-- What the first later write of what was read is, in plain words.
use Rattle.std.specs.Prelude.{◌≡◌, ℕ, ◌+◌, ◌≤◌, ◌<◌, List, Option, Some, None, slice_get}
use Rattle.conflict_sets.specs.Held.{HoldNone, IsLeastHeld}
use Rattle.conflict_sets.specs.declared.sets.ReadSet.{ReadSet}
use Rattle.conflict_sets.specs.declared.sets.WriteSet.{WriteSet}

-- The entry at this place, whose version is one more, wrote a key that the reads hold, and this is the least
-- such
-- key. No entry before it, down to the snapshot, wrote one.
pub record IsFirstLater {E : Type 0} (writes_of : E → WriteSet) (journal : List E) (snapshot : ℕ)
    (reads : ReadSet) (version : ℕ) (key : List ℕ) : Type 0 where
  pub place : ℕ
  pub entry : E
  pub numbered : version ≡ place + 1
  pub later : snapshot ≤ place
  pub there : slice_get journal place ≡ Some entry
  pub least : IsLeastHeld reads (writes_of entry).writes key
  pub before : (earlier : ℕ) (other : E) → snapshot ≤ earlier → earlier < place
      → slice_get journal earlier ≡ Some other → HoldNone reads (writes_of other).writes

-- no later entry wrote a key that the reads hold; or this is the first that did
abbrev pub IsFirstConflict : {E : Type 0} → (E → WriteSet) → List E → ℕ → ReadSet → Option (ℕ × List ℕ)
    → Type 0
IsFirstConflict {E} writes_of journal snapshot reads None =
    (place : ℕ) (entry : E) → snapshot ≤ place → slice_get journal place ≡ Some entry
    → HoldNone reads (writes_of entry).writes
IsFirstConflict writes_of journal snapshot reads (Some found) =
    IsFirstLater writes_of journal snapshot reads found.0 found.1
