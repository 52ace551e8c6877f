-- The bytes of a key, which keys are valid, and the ranges of keys.
use Rattle.std.specs.Prelude.{◌≡◌, ℕ, ◌<◌, ◌≤◌, ◌^◌, List, [], ◌∷◌, ◌++◌, IsTrue, codes, Option, Some, None}
use Rattle.std.specs.Int.{w64, w128, to_le_bytes, to_be_bytes}
use Rattle.fs_base.specs.Names.{is_name}
use Rattle.fs_base.specs.declared.ids.ClientId.{ClientId}
use Rattle.fs_base.specs.declared.limits.TheConstants.{INODE_IDS, SERVERS}
use Rattle.key_schema.specs.declared.key.Key.{Key}
use Rattle.key_schema.specs.declared.key.Key.TheVariants as keys

-- four letters tell the form
abbrev pub letters : Key → List ℕ
letters (keys.Alloc server) = codes "ALOC"
letters (keys.Dent parent name) = codes "DENT"
letters (keys.Gc id) = codes "GCOL"
letters (keys.Idem client) = codes "IDEM"
letters (keys.Inode id) = codes "INOD"
letters (keys.Session inode client number) = codes "SESS"

-- ids least significant byte first, clients and session numbers most significant byte first
abbrev pub body : Key → List ℕ
body (keys.Alloc server) = server ∷ []
body (keys.Dent parent name) = to_le_bytes w64 parent ++ name
body (keys.Gc id) = to_le_bytes w64 id
body (keys.Idem client) = to_be_bytes w128 client.0
body (keys.Inode id) = to_le_bytes w64 id
body (keys.Session inode client number) =
    to_le_bytes w64 inode ++ (to_be_bytes w128 client.0 ++ to_be_bytes w64 number)

unfoldable pub spelled_key : Key → List ℕ
spelled_key key = letters key ++ body key

-- a client, and a session's number from 1
abbrev pub IsHolder : ClientId → ℕ → Type 0
IsHolder client number = (client.0 < 2 ^ 128) × (1 ≤ number) × (number < 2 ^ 64)

-- each number is in its range, and a name is one
abbrev pub IsValidKey : Key → Type 0
IsValidKey (keys.Alloc server) = server < SERVERS
IsValidKey (keys.Dent parent name) = (parent < INODE_IDS) × IsTrue (is_name name)
IsValidKey (keys.Gc id) = id < INODE_IDS
IsValidKey (keys.Idem client) = client.0 < 2 ^ 128
IsValidKey (keys.Inode id) = id < INODE_IDS
IsValidKey (keys.Session inode client number) = (inode < INODE_IDS) × IsHolder client number

-- each number fits its bytes
abbrev pub IsSpellable : Key → Type 0
IsSpellable (keys.Alloc server) = Unit {0}
IsSpellable (keys.Dent parent name) = parent < 2 ^ 64
IsSpellable (keys.Gc id) = id < 2 ^ 64
IsSpellable (keys.Idem client) = client.0 < 2 ^ 128
IsSpellable (keys.Inode id) = id < 2 ^ 64
IsSpellable (keys.Session inode client number) = (inode < 2 ^ 64) × (client.0 < 2 ^ 128) × (number < 2 ^ 64)

-- keys with one spelling are one key
abbrev pub OneKeyEach : Type 0
OneKeyEach = (a b : Key) → IsSpellable a → IsSpellable b → spelled_key a ≡ spelled_key b → a ≡ b

-- the bytes are those of this valid key
abbrev pub IsKeyOf : List ℕ → Key → Type 0
IsKeyOf bytes key = IsValidKey key × (spelled_key key ≡ bytes)

abbrev pub IsNoKey : List ℕ → Type 0
IsNoKey bytes = (key : Key) → IsKeyOf bytes key → ⊥

-- what is read of a form: its key of these bytes, or none where it has none
abbrev pub IsForm : {X : Type 0} → List ℕ → (X → Key) → Option Key → Type 0
IsForm bytes form None = (x : _) → IsKeyOf bytes (form x) → ⊥
IsForm bytes form (Some key) = IsKeyOf bytes key

-- the bytes are no key of the five forms without a name
abbrev pub IsNameless : List ℕ → Type 0
IsNameless bytes =
    ((server : ℕ) → IsKeyOf bytes (keys.Alloc server) → ⊥)
    × ((id : ℕ) → IsKeyOf bytes (keys.Gc id) → ⊥)
    × ((client : ClientId) → IsKeyOf bytes (keys.Idem client) → ⊥)
    × ((id : ℕ) → IsKeyOf bytes (keys.Inode id) → ⊥)
    × ((x : ℕ × ClientId × ℕ) → IsKeyOf bytes (keys.Session x.0 x.1 x.2) → ⊥)
