-- Rows: keys in ascending order, each once, with their values.
use Rattle.std.specs.Prelude.{◌≡◌, ℕ, List, [], ◌∷◌, ◌++◌, Option, Some, None, Bool, ◌&&◌, take, filter, if◌then◌else◌}
use Rattle.std.specs.Ordering.{is_lt, is_eq, is_ge}
use Rattle.std.specs.declared.cmp.Ordering.{Ordering}
use Rattle.std.specs.declared.cmp.Ordering.TheVariants.{Less, Equal, Greater}
use Rattle.conflict_sets.specs.Keys.{key_cmp}
use Rattle.fs_base.specs.declared.row.Row.{Row}
use Rattle.conflict_sets.specs.declared.sets.Write.{Write}

-- each key comes after this one
abbrev pub KeysAbove : List ℕ → List Row → Type 0
KeysAbove key [] = Unit {0}
KeysAbove key (row ∷ rows) = (key_cmp key row.key ≡ Less) × KeysAbove key rows

-- each key comes before this one
abbrev pub KeysBefore : List ℕ → List Row → Type 0
KeysBefore key [] = Unit {0}
KeysBefore key (row ∷ rows) = (key_cmp key row.key ≡ Greater) × KeysBefore key rows

-- keys ascend, so each stands once
abbrev pub IsAscending : List Row → Type 0
IsAscending [] = Unit {0}
IsAscending (row ∷ rows) = KeysAbove row.key rows × IsAscending rows

-- the value of a key, if it has one
abbrev pub value_at_key : List Row → List ℕ → Option (List ℕ)
value_at_key [] key = None
value_at_key (row ∷ rows) key = if is_eq (key_cmp key row.key) then Some row.value else value_at_key rows key

-- lo <= key < hi
abbrev pub is_inside : List ℕ → List ℕ → List ℕ → Bool
is_inside lo hi key = is_ge (key_cmp key lo) && is_lt (key_cmp key hi)

-- the first `limit` rows with lo <= key < hi
abbrev pub rows_between : List Row → List ℕ → List ℕ → ℕ → List Row
rows_between rows lo hi limit = take limit (filter (λ row. is_inside lo hi row.key) rows)

-- the row of a key that has a value
abbrev pub row_if_some : List ℕ → Option (List ℕ) → List Row
row_if_some key None = []
row_if_some key (Some value) = record { key = key; value = value } ∷ []

-- before the row, in its place, or after it
abbrev pub placed_row : Ordering → List ℕ → Option (List ℕ) → Row → List Row → List Row → List Row
placed_row Less key value row rows later = row_if_some key value ++ (row ∷ rows)
placed_row Equal key value row rows later = row_if_some key value ++ rows
placed_row Greater key value row rows later = row ∷ later

-- the rows with one key set or removed
abbrev pub with_write : List ℕ → Option (List ℕ) → List Row → List Row
with_write key value [] = row_if_some key value
with_write key value (row ∷ rows) =
    placed_row (key_cmp key row.key) key value row rows (with_write key value rows)

-- the rows after these writes
abbrev pub with_writes : List Row → List Write → List Row
with_writes rows [] = rows
with_writes rows (write ∷ writes) = with_writes (with_write write.key write.value rows) writes
