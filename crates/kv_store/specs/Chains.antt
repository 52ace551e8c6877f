-- The versions of one key, with its values: oldest first.
use Rattle.std.specs.Prelude.{ℕ, ◌<◌, ◌≤◌, ◌+◌, List, [], ◌∷◌, Option, Some, None, leb, length, take, drop, if◌then◌else◌}
use Rattle.kv_store.specs.declared.chain.Version.{Version}

-- all come before this version
abbrev pub AreBelow : ℕ → List Version → Type 0
AreBelow version [] = Unit {0}
AreBelow version (earlier ∷ chain) = (earlier.version < version) × AreBelow version chain

-- all come after this version
abbrev pub AreVersionsAbove : ℕ → List Version → Type 0
AreVersionsAbove version [] = Unit {0}
AreVersionsAbove version (later ∷ chain) = (version < later.version) × AreVersionsAbove version chain

-- versions rise
abbrev pub AreVersionsRising : List Version → Type 0
AreVersionsRising [] = Unit {0}
AreVersionsRising (first ∷ chain) = AreVersionsAbove first.version chain × AreVersionsRising chain

-- those that are at most this version
abbrev pub up_to : ℕ → List Version → List Version
up_to version [] = []
up_to version (first ∷ chain) =
    if leb first.version version then first ∷ up_to version chain else up_to version chain

abbrev pub last_of : List Version → Option Version
last_of [] = None
last_of (last ∷ []) = Some last
last_of (first ∷ next ∷ chain) = last_of (next ∷ chain)

-- the value of a key whose last version this is
abbrev pub value_of : Option Version → Option (List ℕ)
value_of None = None
value_of (Some last) = last.value

-- its number, 0 where there is none
abbrev pub number_of : Option Version → ℕ
number_of None = 0
number_of (Some last) = last.version

-- none of them comes after the one version and before the other
abbrev pub AreOutside : ℕ → ℕ → List Version → Type 0
AreOutside after before [] = Unit {0}
AreOutside after before (first ∷ chain) =
    (after < first.version → before ≤ first.version) × AreOutside after before chain

-- this many versions are at most the one, and the others come after it
pub record IsSplit (chain : List Version) (version place : ℕ) : Type 0 where
  pub within : place ≤ length chain
  pub below : AreBelow (version + 1) (take place chain)
  pub above : AreVersionsAbove version (drop place chain)
