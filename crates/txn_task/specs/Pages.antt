-- Which of the ranges read are pages of a range, where its next page starts, and whether its first row was
-- read.
use Rattle.std.specs.Prelude.{◌≡◌, ℕ, ◌==◌, ◌&&◌, Bool, List, [], ◌∷◌, ◌++◌, length, Option, Some, None, option_and_then, if◌then◌else◌}
use Rattle.std.specs.List.{find}
use Rattle.std.specs.Ordering.{is_eq, is_le}
use Rattle.conflict_sets.specs.Keys.{key_cmp}
use Rattle.conflict_sets.specs.Ranges.{last_key, key_after, range_rows}
use Rattle.conflict_sets.specs.Reads as bytes
use Rattle.conflict_sets.specs.Rows.{IsAscending}
use Rattle.conflict_sets.specs.declared.sets.RangeRead.{RangeRead}
use Rattle.conflict_sets.specs.declared.sets.ReadSet.{ReadSet}
use Rattle.fs_base.specs.declared.row.Row.{Row}
use Rattle.fs_base.specs.declared.limits.TheConstants.{PAGE_ROWS}
use Rattle.txn_task.specs.declared.messages.Ask.{Ask}
use Rattle.txn_task.specs.declared.messages.Ask.TheVariants as asks

-- a range read with these bounds and this limit
abbrev pub reads_range : List ℕ → List ℕ → ℕ → RangeRead → Bool
reads_range lo hi limit range =
    range.limit == limit && (is_eq (key_cmp range.lo lo) && is_eq (key_cmp range.hi hi))

-- ---- the first row

-- the first read of the range that wants one row
abbrev pub first_read : List ℕ → List ℕ → List RangeRead → Option RangeRead
first_read lo hi ranges = find (reads_range lo hi 1) ranges

-- ---- pages of 128 rows

-- right after a key that isn't before lo
abbrev pub start_behind : List ℕ → List ℕ → Option (List ℕ)
start_behind lo key = if is_le (key_cmp lo key) then Some (key_after key) else None

-- behind the last row of a full page that starts at lo
abbrev pub start_after : List ℕ → List Row → Option (List ℕ)
start_after lo rows =
    if length rows == PAGE_ROWS then option_and_then (start_behind lo) (last_key rows) else None

-- A range is the page that is expected where it starts there and ends at hi. Then the next starts behind it,
-- if it is
-- full; any other range changes nothing.
abbrev pub page_behind : List ℕ → Option (List ℕ) → RangeRead → Option (List ℕ)
page_behind hi None range = None
page_behind hi (Some start) range =
    if reads_range start hi PAGE_ROWS range then start_after start range.rows else Some start

-- where the next page starts once these ranges were read; none is to come where all were
abbrev pub next_page : List ℕ → Option (List ℕ) → List RangeRead → Option (List ℕ)
next_page hi start [] = start
next_page hi start (range ∷ ranges) = next_page hi (page_behind hi start range) ranges

-- the rows of a range that is the page expected
abbrev pub rows_of_page : List ℕ → Option (List ℕ) → RangeRead → List Row
rows_of_page hi None range = []
rows_of_page hi (Some start) range = if reads_range start hi PAGE_ROWS range then range.rows else []

-- the rows of the pages among the ranges, in order
abbrev pub page_rows : List ℕ → Option (List ℕ) → List RangeRead → List Row
page_rows hi start [] = []
page_rows hi start (range ∷ ranges) =
    rows_of_page hi start range ++ page_rows hi (page_behind hi start range) ranges

-- the ask is the next page of the range
abbrev pub AsksPage : List ℕ → List ℕ → List RangeRead → Ask → Type 0
AsksPage lo hi ranges ask =
    (start : List ℕ) × (next_page hi (Some lo) ranges ≡ Some start) × (ask ≡ asks.Range start hi PAGE_ROWS)

-- the next page is to be asked for, or all rows that agree have those of the pages in the range
abbrev pub IsWantPages : Option Ask → ReadSet → List ℕ → List ℕ → Type 0
IsWantPages (Some ask) reads lo hi = AsksPage lo hi reads.ranges ask
IsWantPages None reads lo hi =
    (next_page hi (Some lo) reads.ranges ≡ None)
    × ((rows : List Row) → IsAscending rows → bytes.RowsAgree rows reads
    → range_rows rows lo hi ≡ page_rows hi (Some lo) reads.ranges)
