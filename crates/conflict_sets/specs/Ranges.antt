-- The rows of a range, page by page.
use Rattle.std.specs.Prelude.{ℕ, List, [], ◌∷◌, ◌++◌, Option, Some, None, filter}
use Rattle.conflict_sets.specs.Rows.{is_inside}
use Rattle.fs_base.specs.declared.row.Row.{Row}

-- all rows with lo <= key < hi
abbrev pub range_rows : List Row → List ℕ → List ℕ → List Row
range_rows rows lo hi = filter (λ row. is_inside lo hi row.key) rows

-- the least key after this one
abbrev pub key_after : List ℕ → List ℕ
key_after key = key ++ 0 ∷ []

-- the key of the last row
abbrev pub last_key : List Row → Option (List ℕ)
last_key [] = None
last_key (row ∷ []) = Some row.key
last_key (row ∷ next ∷ rows) = last_key (next ∷ rows)
