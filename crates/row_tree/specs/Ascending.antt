-- Whether each key comes after the one before it.
use Rattle.std.specs.Prelude.{ℕ, ◌&&◌, Bool, true, List, [], ◌∷◌}
use Rattle.std.specs.Ordering.{is_lt}
use Rattle.conflict_sets.specs.Keys.{key_cmp}
use Rattle.fs_base.specs.declared.row.Row.{Row}

abbrev pub rises : List ℕ → List Row → Bool
rises key [] = true
rises key (row ∷ rows) = is_lt (key_cmp key row.key) && rises row.key rows

abbrev pub is_ascending : List Row → Bool
is_ascending [] = true
is_ascending (row ∷ rows) = rises row.key rows
