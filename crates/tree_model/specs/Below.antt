-- What is reached by going down entries.
use Rattle.std.specs.Prelude.{◌≡◌, ℕ, List, [], ◌∷◌, Option, Some, None}
use Rattle.std.specs.FinMap.{get}
use Rattle.tree_model.specs.Tree.{Tree}

-- down the entries of these names
abbrev pub descend_at : (ℕ → Option ℕ) → Option ℕ → Option ℕ
descend_at go None = None
descend_at go (Some id) = go id

abbrev pub descend : Tree → List (List ℕ) → ℕ → Option ℕ
descend T [] a = Some a
descend T (name ∷ names) a = descend_at (descend T names) (get T.entries (a, name))

-- b is a, or is reached from a by going down entries
abbrev pub IsBelow : Tree → ℕ → ℕ → Type 0
IsBelow T a b = (names : List (List ℕ)) × (descend T names a ≡ Some b)
