-- Lower-case hexadecimal.
use Rattle.std.specs.Prelude.{ℕ, ◌+◌, ◌/◌, ◌%◌, List, [], ◌∷◌, codes, nat_lt, if◌then◌else◌}
use Rattle.std.specs.List.{flat_map}

-- `0` to `9`, and then `a` to `f`
abbrev pub hex_digit : ℕ → ℕ
hex_digit n = if nat_lt n 10 then 48 + n else 87 + n

-- the more significant digit first
abbrev pub hex_byte : ℕ → List ℕ
hex_byte b = hex_digit (b / 16) ∷ hex_digit (b % 16) ∷ []

-- bytes as a word: two digits each, and `.` where there is no byte
abbrev pub hex_word : List ℕ → List ℕ
hex_word [] = codes "."
hex_word (b ∷ bs) = flat_map hex_byte (b ∷ bs)
