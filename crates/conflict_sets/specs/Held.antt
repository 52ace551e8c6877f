-- Which of the written keys the reads hold.
use Rattle.std.specs.Prelude.{◌≡◌, ℕ, ◌<◌, List, Some, Bool, true, false, length, slice_get}
use Rattle.std.specs.List.{list_any}
use Rattle.std.specs.Option.{option_map}
use Rattle.std.specs.Ordering.{is_eq, is_le}
use Rattle.conflict_sets.specs.Keys.{key_cmp}
use Rattle.conflict_sets.specs.Reads.{reads_hold, first_held}
use Rattle.conflict_sets.specs.declared.sets.Write.{Write}
use Rattle.conflict_sets.specs.declared.sets.ReadSet.{ReadSet}

-- the key is among the written ones
abbrev pub is_written_key : List Write → List ℕ → Bool
is_written_key writes key = list_any (λ write. is_eq (key_cmp key write.key)) writes

-- the reads hold no key that is written
abbrev pub HoldNone : ReadSet → List Write → Type 0
HoldNone reads writes = (key : List ℕ) → is_written_key writes key ≡ true → reads_hold reads key ≡ false

-- the key is written and held, and no such key comes before it
pub record IsLeastHeld (reads : ReadSet) (writes : List Write) (key : List ℕ) : Type 0 where
  pub written : is_written_key writes key ≡ true
  pub held : reads_hold reads key ≡ true
  pub least : (other : List ℕ) → is_written_key writes other ≡ true → reads_hold reads other ≡ true
      → is_le (key_cmp key other) ≡ true

-- the write at this place is the first whose key is held
pub record HeldAt (reads : ReadSet) (writes : List Write) (place : ℕ) : Type 0 where
  pub within : place < length writes
  pub first : first_held reads writes ≡ option_map (λ w. w.key) (slice_get writes place)

-- the write at this place has the least key that is held
abbrev pub LeastAt : ReadSet → List Write → ℕ → Type 0
LeastAt reads writes place =
    (write : Write) → slice_get writes place ≡ Some write → IsLeastHeld reads writes write.key
