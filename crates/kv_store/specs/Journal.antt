-- The rows at each version of a journal, and the first later write of what was read.
use Rattle.std.specs.Prelude.{ℕ, ◌+◌, List, [], ◌∷◌, Option, Some, None, take, drop, if◌then◌else◌}
use Rattle.std.specs.Ordering.{is_eq}
use Rattle.conflict_sets.specs.Keys.{key_cmp}
use Rattle.conflict_sets.specs.Rows.{with_writes}
use Rattle.conflict_sets.specs.Reads.{RowsAgree, first_held}
use Rattle.fs_base.specs.declared.row.Row.{Row}
use Rattle.conflict_sets.specs.declared.sets.Write.{Write}
use Rattle.conflict_sets.specs.declared.sets.ReadSet.{ReadSet}
use Rattle.conflict_sets.specs.declared.sets.WriteSet.{WriteSet}

-- the rows after these entries
abbrev pub after_all : {E : Type 0} → (E → WriteSet) → List Row → List E → List Row
after_all writes_of rows [] = rows
after_all writes_of rows (entry ∷ entries) =
    after_all writes_of (with_writes rows (writes_of entry).writes) entries

-- the opening rows with the writes of the first n entries
abbrev pub rows_at : {E : Type 0} → (E → WriteSet) → List Row → List E → ℕ → List Row
rows_at writes_of opening journal n = after_all writes_of opening (take n journal)

-- this entry, if it wrote a key that is held, or a later one
abbrev pub this_or : Option (List ℕ) → ℕ → Option (ℕ × List ℕ) → Option (ℕ × List ℕ)
this_or None version later = later
this_or (Some key) version later = Some (version, key)

-- the first of these entries, which stand after this version, that wrote a key that the reads hold, with its
-- least such key
abbrev pub later_from : {E : Type 0} → (E → WriteSet) → ReadSet → ℕ → List E → Option (ℕ × List ℕ)
later_from writes_of reads version [] = None
later_from writes_of reads version (entry ∷ entries) =
    this_or (first_held reads (writes_of entry).writes) (version + 1)
    (later_from writes_of reads (version + 1) entries)

-- of the entries behind a snapshot
abbrev pub first_later : {E : Type 0} → (E → WriteSet) → List E → ℕ → ReadSet → Option (ℕ × List ℕ)
first_later writes_of journal snapshot reads = later_from writes_of reads snapshot (drop snapshot journal)

-- this value, or else that
abbrev pub or_else : {X : Type 0} → Option X → Option X → Option X
or_else (Some x) other = Some x
or_else None other = other

-- what the writes make of a key, if they write it
abbrev pub written_value : List Write → List ℕ → Option (Option (List ℕ))
written_value [] key = None
written_value (write ∷ writes) key =
    or_else (written_value writes key) (if is_eq (key_cmp key write.key) then Some write.value else None)

-- the version that last wrote a key, 0 for the opening rows
abbrev pub is_written : Option (Option (List ℕ)) → ℕ → ℕ → ℕ
is_written None version before = before
is_written (Some value) version before = version

abbrev pub writer_from : {E : Type 0} → (E → WriteSet) → List ℕ → ℕ → ℕ → List E → ℕ
writer_from writes_of key version writer [] = writer
writer_from writes_of key version writer (entry ∷ entries) =
    writer_from writes_of key (version + 1)
    (is_written (written_value (writes_of entry).writes key) (version + 1) writer) entries

abbrev pub last_writer : {E : Type 0} → (E → WriteSet) → List E → ℕ → List ℕ → ℕ
last_writer writes_of journal n key = writer_from writes_of key 0 0 (take n journal)

-- each entry is sound, and agreed with the rows before it
abbrev pub IsAgreedJournal : {E : Type 0} → (E → ReadSet) → (E → WriteSet) → (E → Type 0) → List Row → List E
    → Type 0
IsAgreedJournal reads_of writes_of sound rows [] = Unit {0}
IsAgreedJournal reads_of writes_of sound rows (entry ∷ entries) =
    sound entry × RowsAgree rows (reads_of entry)
    × IsAgreedJournal reads_of writes_of sound (with_writes rows (writes_of entry).writes) entries
