-- Rows of bytes, and the typed rows that they spell.
use Rattle.std.specs.Prelude.{◌≡◌, ℕ, ◌<◌, List, [], ◌∷◌, Option, Some, None}
use Rattle.std.specs.Option.{option_map}
use Rattle.conflict_sets.specs.Rows.{value_at_key}
use Rattle.fs_base.specs.declared.row.Row.{Row}
use Rattle.fs_base.specs.declared.limits.TheConstants.{INODE_IDS}
use Rattle.key_schema.specs.Keys.{spelled_key, IsValidKey}
use Rattle.key_schema.specs.declared.key.Key.{Key}
use Rattle.key_schema.specs.declared.key.Key.TheVariants as keys
use Rattle.row_records.specs.declared.rows.DentRow.{DentRow}
use Rattle.row_records.specs.declared.rows.GcRow.{GcRow}
use Rattle.row_tree.specs.TypedRows.{TypedRows, value_at, of_form}
use Rattle.row_tree.specs.Values.{Value, DentValue, GcValue, spelled_value, IsValue}

-- within one form of row no two values have one spelling
abbrev pub OneValueEach : Type 0
OneValueEach =
    (k : Key) (v w : Value) → of_form k v ≡ Some v → of_form k w ≡ Some w → IsValue v → IsValue w
    → spelled_value v ≡ spelled_value w → v ≡ w

-- the bytes spell these rows and nothing else, and the rows have valid keys and values alone
pub record Spells (R : List Row) (S : TypedRows) : Type 0 where
  pub at : (k : Key) → IsValidKey k → value_at_key R (spelled_key k) ≡ option_map spelled_value (value_at S k)
  pub only : (b v : List ℕ) → value_at_key R b ≡ Some v → (k : Key) × IsValidKey k × (b ≡ spelled_key k)
  pub fits : (k : Key) (v : Value) → value_at S k ≡ Some v → IsValidKey k × IsValue v

-- what may be written at a key: nothing, or a value of the key's form within its ranges
abbrev pub IsValueOf : Key → Option Value → Type 0
IsValueOf k None = Unit {0}
IsValueOf k (Some v) = (of_form k v ≡ Some v) × IsValue v

-- a directory's row as bytes
abbrev pub spelled_dent_row : ℕ → List ℕ × DentRow → Row
spelled_dent_row d e = record { key = spelled_key (keys.Dent d e.0); value = spelled_value (DentValue e.1) }

-- the row of a file that is being deleted, as bytes
abbrev pub spelled_gc_row : ℕ × GcRow → Row
spelled_gc_row e = record { key = spelled_key (keys.Gc e.0); value = spelled_value (GcValue e.1) }

abbrev pub AreGcRows : List (ℕ × GcRow) → Type 0
AreGcRows [] = Unit {0}
AreGcRows (e ∷ es) = ((e.0 < INODE_IDS) × IsValue (GcValue e.1)) × AreGcRows es
