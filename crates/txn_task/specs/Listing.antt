-- A directory's entries, and what the pages read so far tell of them.
use Rattle.std.specs.Prelude.{◌≡◌, ℕ, List, [], ◌∷◌, ◌++◌, map, Option, Some, None}
use Rattle.conflict_sets.specs.declared.sets.ReadSet.{ReadSet}
use Rattle.fs_base.specs.declared.reply.DirEntry.{DirEntry}
use Rattle.fs_base.specs.declared.row.Row.{Row}
use Rattle.key_schema.specs.Keys.{IsKeyOf, IsValidKey}
use Rattle.key_schema.specs.Ranges.{dir_prefix, raised}
use Rattle.key_schema.specs.declared.key.Key.TheVariants as keys
use Rattle.row_records.specs.declared.rows.DentRow.{DentRow}
use Rattle.row_tree.specs.Spelling.{spelled_dent_row}
use Rattle.row_tree.specs.Told.{listed_entry}
use Rattle.row_tree.specs.TypedRows.{TypedRows, dir_rows}
use Rattle.row_tree.specs.Values.{DentValue, IsValue}
use Rattle.txn_task.specs.Agreeing.{Agrees}
use Rattle.txn_task.specs.Pages.{AsksPage, next_page}
use Rattle.txn_task.specs.declared.list.WantList.{WantList}
use Rattle.txn_task.specs.declared.list.WantList.TheVariants as lists

-- what may stand in a directory
abbrev pub AreEntries : ℕ → List (List ℕ × DentRow) → Type 0
AreEntries dir [] = Unit {0}
AreEntries dir (e ∷ es) = (IsValidKey (keys.Dent dir e.0) × IsValue (DentValue e.1)) × AreEntries dir es

-- the name in the key of an entry is found
abbrev pub IsNameOf : List ℕ → Option (List ℕ) → Type 0
IsNameOf bytes found = (dir : ℕ) (name : List ℕ) → IsKeyOf bytes (keys.Dent dir name) → found ≡ Some name

-- the entry of a directory's row is found
abbrev pub IsEntryOf : Row → Option DirEntry → Type 0
IsEntryOf row found =
    (dir : ℕ) (e : List ℕ × DentRow) → AreEntries dir (e ∷ []) → row ≡ spelled_dent_row dir e
    → found ≡ Some (listed_entry e)

-- where the rows are a directory's, their entries are added
abbrev pub AddsEntries : List Row → List DirEntry → List DirEntry → Type 0
AddsEntries rows old new =
    (dir : ℕ) (es : List (List ℕ × DentRow)) → AreEntries dir es → rows ≡ map (spelled_dent_row dir) es
    → new ≡ old ++ map listed_entry es

-- the next page is to be asked for, or all rows that agree have these entries in the directory
abbrev pub IsWantList : WantList → ReadSet → ℕ → Type 0
IsWantList (lists.Ask ask) reads dir = AsksPage (dir_prefix dir) (raised (dir_prefix dir)) reads.ranges ask
IsWantList (lists.All names) reads dir =
    (next_page (raised (dir_prefix dir)) (Some (dir_prefix dir)) reads.ranges ≡ None)
    × ((S : TypedRows) → Agrees S reads → names ≡ map listed_entry (dir_rows S dir))
