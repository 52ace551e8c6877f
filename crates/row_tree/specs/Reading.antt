-- What a row of bytes puts into typed rows, or that it is none.
use Rattle.std.specs.Prelude.{◌≡◌, ℕ, List, Some}
use Rattle.fs_base.specs.declared.row.Row.{Row}
use Rattle.key_schema.specs.Keys.{IsKeyOf}
use Rattle.key_schema.specs.declared.key.Key.{Key}
use Rattle.key_schema.specs.declared.key.Key.TheVariants as keys
use Rattle.row_tree.specs.Spelling.{IsValueOf}
use Rattle.row_tree.specs.TypedRows.{TypedRows, write}
use Rattle.row_tree.specs.Values.{Value, spelled_value}

-- the value that these bytes spell is put at the key
abbrev pub Puts : TypedRows → TypedRows → Key → List ℕ → Type 0
Puts old new key bytes =
    (v : Value) × IsValueOf key (Some v) × (spelled_value v ≡ bytes) × (new ≡ write old key (Some v))

-- the bytes spell no value of the key's form
abbrev pub HasNoValue : Key → List ℕ → Type 0
HasNoValue key bytes = (v : Value) → IsValueOf key (Some v) → spelled_value v ≡ bytes → ⊥

-- the row is put at its key
abbrev pub PutsRow : TypedRows → TypedRows → Row → Type 0
PutsRow old new row = (key : Key) × IsKeyOf row.key key × Puts old new key row.value

-- no key and value are spelled so
abbrev pub IsNoRow : Row → Type 0
IsNoRow row = (key : Key) → IsKeyOf row.key key → HasNoValue key row.value

-- a value of this form is read without memory: an inode's may hold a target, a kept reply any text
abbrev pub ReadsFreely : Key → Type 0
ReadsFreely (keys.Alloc server) = Unit {0}
ReadsFreely (keys.Dent dir name) = Unit {0}
ReadsFreely (keys.Gc id) = Unit {0}
ReadsFreely (keys.Idem client) = ⊥
ReadsFreely (keys.Inode id) = ⊥
ReadsFreely (keys.Session inode client number) = Unit {0}
