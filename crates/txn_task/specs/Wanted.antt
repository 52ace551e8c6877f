-- What an attempt's reads tell of the rows that agree with them.
use Rattle.std.specs.Prelude.{◌≡◌, ℕ, List, [], ◌∷◌, Option, Some, None, Result, Ok, Err}
use Rattle.std.specs.FinMap.{get}
use Rattle.conflict_sets.specs.Ranges.{range_rows}
use Rattle.conflict_sets.specs.Reads as bytes
use Rattle.conflict_sets.specs.declared.sets.RangeRead.{RangeRead}
use Rattle.conflict_sets.specs.declared.sets.ReadSet.{ReadSet}
use Rattle.fs_base.specs.declared.row.Row.{Row}
use Rattle.key_schema.specs.Keys.{spelled_key}
use Rattle.key_schema.specs.Ranges.{dir_prefix, raised}
use Rattle.key_schema.specs.declared.key.Key.{Key}
use Rattle.row_records.specs.declared.rows.DentRow.{DentRow}
use Rattle.row_tree.specs.TypedRows.{TypedRows}
use Rattle.txn_task.specs.Agreeing.{Agrees}
use Rattle.txn_task.specs.Pages.{first_read}
use Rattle.txn_task.specs.Writes.{read_of}
use Rattle.txn_task.specs.declared.first.WantFirst.{WantFirst}
use Rattle.txn_task.specs.declared.first.WantFirst.TheVariants as firsts
use Rattle.txn_task.specs.declared.messages.Ask.{Ask}
use Rattle.txn_task.specs.declared.messages.Ask.TheVariants as asks
use Rattle.txn_task.specs.declared.want.Want.{Want}
use Rattle.txn_task.specs.declared.want.Want.TheVariants as wants

-- ---- a key

-- the key wasn't read, or it was
abbrev pub IsUnread : ReadSet → Key → Type 0
IsUnread reads key = read_of reads.keys (spelled_key key) ≡ None

abbrev pub IsKeyRead : ReadSet → Key → Type 0
IsKeyRead reads key = (value : Option (List ℕ)) × (read_of reads.keys (spelled_key key) ≡ Some value)

-- what stands at a key: it wasn't read; or it was, and all rows that agree have nothing there, or this
abbrev pub IsWant : {X : Type 0} → Want X → ReadSet → Key → (TypedRows → Option X) → Type 0
IsWant (wants.Ask asked) reads key look = (asked ≡ key) × IsUnread reads key
IsWant wants.Absent reads key look = IsKeyRead reads key × ((S : TypedRows) → Agrees S reads → look S ≡ None)
IsWant (wants.There row) reads key look =
    IsKeyRead reads key × ((S : TypedRows) → Agrees S reads → look S ≡ Some row)

-- what reading a row gave, but for want of memory
abbrev pub IsRowReading : {X : Type 0} → Result X ℕ → Option X → Type 0
IsRowReading answer None = (place : ℕ) × (answer ≡ Err place)
IsRowReading answer (Some row) = answer ≡ Ok row

-- ---- the first row of a range

-- the first row of the range was read
abbrev pub IsFirstRead : ReadSet → List ℕ → List ℕ → Type 0
IsFirstRead reads lo hi = (range : RangeRead) × (first_read lo hi reads.ranges ≡ Some range)

-- it wasn't, and the ask is to
abbrev pub AsksFirst : List ℕ → List ℕ → List RangeRead → Ask → Type 0
AsksFirst lo hi ranges ask = (first_read lo hi ranges ≡ None) × (ask ≡ asks.Range lo hi 1)

-- rows in a range: the first is to be asked for; or it was read, and all rows that agree have none there, or
-- some
abbrev pub IsWantFirst : WantFirst → ReadSet → List ℕ → List ℕ → Type 0
IsWantFirst (firsts.Ask ask) reads lo hi = AsksFirst lo hi reads.ranges ask
IsWantFirst firsts.Empty reads lo hi =
    IsFirstRead reads lo hi × ((rows : List Row) → bytes.RowsAgree rows reads → range_rows rows lo hi ≡ [])
IsWantFirst firsts.Used reads lo hi =
    IsFirstRead reads lo hi
    × ((rows : List Row) → bytes.RowsAgree rows reads → (row : Row) × (more : List Row)
    × (range_rows rows lo hi ≡ row ∷ more))

-- the same of a directory's entries
abbrev pub IsWantRange : WantFirst → ReadSet → ℕ → Type 0
IsWantRange (firsts.Ask ask) reads dir = AsksFirst (dir_prefix dir) (raised (dir_prefix dir)) reads.ranges ask
IsWantRange firsts.Empty reads dir =
    IsFirstRead reads (dir_prefix dir) (raised (dir_prefix dir))
    × ((S : TypedRows) → Agrees S reads → (name : List ℕ) → get S.dents (dir, name) ≡ None)
IsWantRange firsts.Used reads dir =
    IsFirstRead reads (dir_prefix dir) (raised (dir_prefix dir))
    × ((S : TypedRows) → Agrees S reads → (name : List ℕ) × (row : DentRow)
    × (get S.dents (dir, name) ≡ Some row))
