-- Lines of words.
use Rattle.std.specs.Prelude.{ℕ, List, [], ◌∷◌, ◌++◌, Option, Some, None, codes, decimal}

-- a space after each word
abbrev pub spaced : List (List ℕ) → List ℕ
spaced [] = []
spaced (word ∷ words) = word ++ (32 ∷ spaced words)

-- a space between words
abbrev pub joined : List (List ℕ) → List ℕ
joined [] = []
joined (word ∷ []) = word
joined (word ∷ next ∷ words) = word ++ (32 ∷ joined (next ∷ words))

-- the same, and a line feed
abbrev pub line : List (List ℕ) → List ℕ
line [] = 10 ∷ []
line (word ∷ []) = word ++ 10 ∷ []
line (word ∷ next ∷ words) = word ++ (32 ∷ line (next ∷ words))

-- a name with its equals sign, and a number
abbrev pub setting : List ℕ → ℕ → List ℕ
setting name n = name ++ decimal n

-- a number, or `-` where there is none
abbrev pub number_word : Option ℕ → List ℕ
number_word (Some n) = decimal n
number_word None = codes "-"
