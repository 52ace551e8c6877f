-- What was read, or was met as a conflict, against a footprint.
use Rattle.std.specs.Prelude.{◌≡◌, ◌⊎◌, ℕ, true, List, [], ◌∷◌}
use Rattle.conflict_sets.specs.Rows.{is_inside}
use Rattle.conflict_sets.specs.declared.sets.KeyRead.{KeyRead}
use Rattle.conflict_sets.specs.declared.sets.RangeRead.{RangeRead}
use Rattle.conflict_sets.specs.declared.sets.ReadSet.{ReadSet}
use Rattle.key_schema.specs.Keys.{spelled_key}
use Rattle.key_schema.specs.declared.key.Key.{Key}
use Rattle.path_walk.specs.Areas.{Area, OneKey, IsArea, IsRangeArea, IsRangeOf}

-- the key is one of the areas', or lies in a range of theirs
abbrev pub IsKeyTouched : List Area → Key → Type 0
IsKeyTouched areas key =
    IsArea (OneKey key) areas
    ⊎ ((lo : List ℕ) × (hi : List ℕ) × IsRangeArea lo hi areas × (is_inside lo hi (spelled_key key) ≡ true))

abbrev pub AreKeysTouched : List Area → List KeyRead → Type 0
AreKeysTouched areas [] = Unit {0}
AreKeysTouched areas (read ∷ reads) =
    ((key : Key) × (read.key ≡ spelled_key key) × IsArea (OneKey key) areas) × AreKeysTouched areas reads

abbrev pub AreRangesTouched : List Area → List RangeRead → Type 0
AreRangesTouched areas [] = Unit {0}
AreRangesTouched areas (range ∷ ranges) =
    ((lo : List ℕ) × (hi : List ℕ) × IsRangeArea lo hi areas × IsRangeOf range.lo range.hi lo hi)
    × AreRangesTouched areas ranges

-- each key and each range that was read
pub record AreTouched (areas : List Area) (reads : ReadSet) : Type 0 where
  pub keys : AreKeysTouched areas reads.keys
  pub ranges : AreRangesTouched areas reads.ranges
