-- The order of keys, and the ranges of the keys that begin alike.
use Rattle.std.specs.Prelude.{◌≡◌, ℕ, ◌+◌, ◌&&◌, ◌↔◌, Bool, IsTrue, List, [], ◌∷◌, ◌++◌, codes}
use Rattle.std.specs.Int.{w64, to_le_bytes}
use Rattle.std.specs.Ordering.{nat_cmp, is_ge, is_lt}
use Rattle.std.specs.declared.cmp.Ordering.{Ordering}
use Rattle.std.specs.Cmp.Lexicographic.{slice_cmp}
use Rattle.fs_base.specs.declared.ids.ClientId.{ClientId}
use Rattle.key_schema.specs.declared.key.Key.{Key}
use Rattle.key_schema.specs.declared.key.Key.TheVariants as keys
use Rattle.key_schema.specs.Keys.{IsValidKey, spelled_key}

-- keys are ordered by their bytes, the first that differs decides
abbrev pub key_order : Key → Key → Ordering
key_order a b = slice_cmp nat_cmp (spelled_key a) (spelled_key b)

-- from lo on, and below hi
abbrev pub is_between : List ℕ → List ℕ → List ℕ → Bool
is_between lo hi bytes = is_ge (slice_cmp nat_cmp bytes lo) && is_lt (slice_cmp nat_cmp bytes hi)

-- with the last byte raised by one
abbrev pub raised : List ℕ → List ℕ
raised [] = []
raised (b ∷ []) = (b + 1) ∷ []
raised (b ∷ c ∷ bs) = b ∷ raised (c ∷ bs)

-- how the keys of a directory's entries begin, and those of an inode's sessions
abbrev pub dir_prefix : ℕ → List ℕ
dir_prefix id = codes "DENT" ++ to_le_bytes w64 id

abbrev pub session_prefix : ℕ → List ℕ
session_prefix id = codes "SESS" ++ to_le_bytes w64 id

-- how the keys of all sessions begin, and those of all files that are being deleted
abbrev pub all_sessions : List ℕ
all_sessions = codes "SESS"

abbrev pub all_doomed : List ℕ
all_doomed = codes "GCOL"

-- an entry of the directory, a session at the inode
abbrev pub IsDentOf : ℕ → Key → Type 0
IsDentOf id key = (name : List ℕ) × (key ≡ keys.Dent id name)

abbrev pub IsSessionOf : ℕ → Key → Type 0
IsSessionOf id key = (client : ClientId) × (number : ℕ) × (key ≡ keys.Session id client number)

-- the range holds these valid keys and no others
abbrev pub HoldsExactly : List ℕ → List ℕ → (Key → Type 0) → Type 0
HoldsExactly lo hi Wanted =
    (key : Key) → IsValidKey key → IsTrue (is_between lo hi (spelled_key key)) ↔ Wanted key
