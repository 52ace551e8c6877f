-- What was read, whether rows still give it, and whether a write meets it.
use Rattle.std.specs.Prelude.{◌≡◌, ℕ, List, [], ◌∷◌, Option, Some, None, Bool, true, false, ◌&&◌, ◌||◌, ◌==◌, length, if◌then◌else◌}
use Rattle.std.specs.List.{list_any}
use Rattle.std.specs.Ordering.{is_lt, is_eq, is_le, is_ge}
use Rattle.conflict_sets.specs.Keys.{key_cmp}
use Rattle.conflict_sets.specs.Rows.{value_at_key, rows_between}
use Rattle.fs_base.specs.declared.row.Row.{Row}
use Rattle.conflict_sets.specs.declared.sets.Write.{Write}
use Rattle.conflict_sets.specs.declared.sets.KeyRead.{KeyRead}
use Rattle.conflict_sets.specs.declared.sets.RangeRead.{RangeRead}
use Rattle.conflict_sets.specs.declared.sets.ReadSet.{ReadSet}

-- each key read has the value read
abbrev pub KeysAgree : List Row → List KeyRead → Type 0
KeysAgree rows [] = Unit {0}
KeysAgree rows (read ∷ reads) = (value_at_key rows read.key ≡ read.value) × KeysAgree rows reads

-- each range read gives the rows read
abbrev pub RangesAgree : List Row → List RangeRead → Type 0
RangesAgree rows [] = Unit {0}
RangesAgree rows (read ∷ reads) =
    (rows_between rows read.lo read.hi read.limit ≡ read.rows) × RangesAgree rows reads

-- the rows give what was read
pub record RowsAgree (rows : List Row) (reads : ReadSet) : Type 0 where
  pub keys : KeysAgree rows reads.keys
  pub ranges : RangesAgree rows reads.ranges

-- the key is at most that of the last row
abbrev pub is_up_to_last : List Row → List ℕ → Bool
is_up_to_last [] key = false
is_up_to_last (row ∷ []) key = is_le (key_cmp key row.key)
is_up_to_last (row ∷ next ∷ rows) key = is_up_to_last (next ∷ rows) key

-- A range with as many rows as its limit holds the keys from lo to its last row, any other those up to hi. So
-- with a limit of 0 it holds none.
abbrev pub range_holds : RangeRead → List ℕ → Bool
range_holds read key =
    is_ge (key_cmp key read.lo) && is_lt (key_cmp key read.hi)
    && (if length read.rows == read.limit then is_up_to_last read.rows key else true)

-- the key was read, or lies in a range that was
abbrev pub reads_hold : ReadSet → List ℕ → Bool
reads_hold reads key =
    list_any (λ read. is_eq (key_cmp key read.key)) reads.keys || list_any (λ read. range_holds read key)
    reads.ranges

-- the first written key that the reads hold
abbrev pub first_held : ReadSet → List Write → Option (List ℕ)
first_held reads [] = None
first_held reads (write ∷ writes) =
    if reads_hold reads write.key then Some write.key else first_held reads writes
