-- The versions of each key, as a function of the opening rows and the entries.
use Rattle.std.specs.Prelude.{◌≡◌, ℕ, ◌+◌, List, [], ◌∷◌, ◌++◌, Option, Some, None, Bool, unwrap_or, if◌then◌else◌}
use Rattle.std.specs.Map.{lookup}
use Rattle.std.specs.Ordering.{is_eq}
use Rattle.conflict_sets.specs.Keys.{key_cmp}
use Rattle.conflict_sets.specs.Rows.{value_at_key, row_if_some}
use Rattle.conflict_sets.specs.declared.sets.WriteSet.{WriteSet}
use Rattle.fs_base.specs.declared.row.Row.{Row}
use Rattle.kv_store.specs.declared.chain.Version.{Version}
use Rattle.kv_store.specs.Journal.{written_value}
use Rattle.kv_store.specs.Chains.{AreOutside, up_to, last_of, value_of}

-- the version that the opening rows give a key, if they have it
abbrev pub opening_version : Option (List ℕ) → List Version
opening_version None = []
opening_version (Some value) = record { version = 0; value = Some value } ∷ []

-- the version that an entry gives a key, if it wrote it
abbrev pub written_version : Option (Option (List ℕ)) → ℕ → List Version
written_version None version = []
written_version (Some value) version = record { version = version; value = value } ∷ []

-- those of these entries, which stand after this version
abbrev pub chain_from : {E : Type 0} → (E → WriteSet) → List ℕ → ℕ → List E → List Version
chain_from writes_of key version [] = []
chain_from writes_of key version (entry ∷ entries) =
    written_version (written_value (writes_of entry).writes key) (version + 1)
    ++ chain_from writes_of key (version + 1) entries

-- all versions of a key, oldest first: that of the opening rows, and those of the entries that wrote it
abbrev pub chain_of : {E : Type 0} → (E → WriteSet) → List Row → List E → List ℕ → List Version
chain_of writes_of opening journal key =
    opening_version (value_at_key opening key) ++ chain_from writes_of key 0 journal

-- the chain that an ordered map has at a key
abbrev pub chain_at : List (List ℕ × List Version) → List ℕ → List Version
chain_at chains key = unwrap_or (lookup (λ other. is_eq (key_cmp key other)) chains) []

-- the chain with one version more, where this is its key
abbrev pub with_version : Bool → ℕ → Option (List ℕ) → List Version → List Version
with_version here version value chain =
    if here then chain ++ record { version = version; value = value } ∷ [] else chain

-- the chain up to this version, where this is its key
abbrev pub cut_where : Bool → ℕ → List Version → List Version
cut_where here version chain = if here then up_to version chain else chain

-- the chain up to this version, where its key was written
abbrev pub cut_written : Option (Option (List ℕ)) → ℕ → List Version → List Version
cut_written None version chain = chain
cut_written (Some value) version chain = up_to version chain

-- each key has its versions
abbrev pub KeepsChains : {E : Type 0} → (E → WriteSet) → List Row → List E → List (List ℕ × List Version)
    → Type 0
KeepsChains writes_of opening journal chains =
    (key : List ℕ) → chain_at chains key ≡ chain_of writes_of opening journal key

-- the rows of these keys at a version
abbrev pub rows_of : ℕ → List (List ℕ × List Version) → List Row
rows_of version [] = []
rows_of version (entry ∷ chains) =
    row_if_some entry.0 (value_of (last_of (up_to version entry.1))) ++ rows_of version chains

-- no chain has a version after the one and before the other
abbrev pub AllOutside : ℕ → ℕ → List (List ℕ × List Version) → Type 0
AllOutside after before [] = Unit {0}
AllOutside after before (entry ∷ chains) = AreOutside after before entry.1 × AllOutside after before chains
