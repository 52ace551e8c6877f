-- What reads tell of typed rows, and what writes make of them.
use Rattle.std.specs.Prelude.{◌≡◌, List, [], ◌∷◌}
use Rattle.conflict_sets.specs.Reads as bytes
use Rattle.conflict_sets.specs.Rows.{IsAscending, with_writes}
use Rattle.conflict_sets.specs.Writes.{AreAscending}
use Rattle.conflict_sets.specs.declared.sets.ReadSet.{ReadSet}
use Rattle.conflict_sets.specs.declared.sets.Write.{Write}
use Rattle.fs_base.specs.declared.row.Row.{Row}
use Rattle.key_schema.specs.Keys.{spelled_key, IsValidKey}
use Rattle.key_schema.specs.declared.key.Key.{Key}
use Rattle.row_tree.specs.Spelling.{Spells}
use Rattle.row_tree.specs.TypedRows.{TypedRows}

-- typed rows that agree with what was read: some rows of bytes that spell them do
pub record Agrees (S : TypedRows) (reads : ReadSet) : Type 0 where
  pub rows : List Row
  pub ascending : IsAscending rows
  pub spells : Spells rows S
  pub agrees : bytes.RowsAgree rows reads

-- each written key is the spelling of a valid key
abbrev pub HaveValidKeys : List Write → Type 0
HaveValidKeys [] = Unit {0}
HaveValidKeys (write ∷ writes) =
    ((key : Key) × IsValidKey key × (write.key ≡ spelled_key key)) × HaveValidKeys writes

-- writes of valid keys, in the order of keys
pub record AreWrites (writes : List Write) : Type 0 where
  pub ascending : AreAscending writes
  pub valid : HaveValidKeys writes

-- the writes make U of S: they do so in all rows of bytes that spell S
pub record LeadsTo (writes : List Write) (S U : TypedRows) : Type 0 where
  pub writes_are : AreWrites writes
  pub leads : (rows : List Row) → IsAscending rows → Spells rows S → Spells (with_writes rows writes) U
