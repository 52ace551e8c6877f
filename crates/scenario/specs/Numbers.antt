-- Whole numbers at keys that may be missing.
use Rattle.std.specs.Prelude.{ℕ, List, nat_le, nat_lt, ◌&&◌, Bool, Option, Some, None, unwrap_or, option_and_then, Result, Ok, Err, if◌then◌else◌}
use Rattle.fs_base.specs.Gives.{◌>>=◌}
use Rattle.serde_json.specs.Data.{Data}
use Rattle.serde_json.specs.Find.{get, as_number, as_u64}
use Rattle.scenario.specs.Broken.{not_built}
use Rattle.scenario.specs.declared.broken.Broken.{Broken}

abbrev pub whole_number : Data → Option ℕ
whole_number d = option_and_then as_u64 (as_number d)

-- where the key must be there
abbrev pub whole_number_at : List ℕ → Data → Option ℕ
whole_number_at name d = option_and_then whole_number (get name d)

-- a number that was read and that the test takes
abbrev pub in_range : (ℕ → Bool) → Option ℕ → Result (Option ℕ) Broken
in_range fits None = Err not_built
in_range fits (Some n) = if fits n then Ok (Some n) else Err not_built

-- nothing where nothing stands; what stands there must be a whole number in the range
abbrev pub number_in : (ℕ → Bool) → Option Data → Result (Option ℕ) Broken
number_in fits None = Ok None
number_in fits (Some d) = in_range fits (whole_number d)

-- a number below the limit
abbrev pub number_at : List ℕ → ℕ → Data → Result (Option ℕ) Broken
number_at name limit d = number_in (λ n. nat_lt n limit) (get name d)

abbrev pub number_or : List ℕ → ℕ → ℕ → Data → Result ℕ Broken
number_or name limit default d = number_at name limit d >>= λ n. Ok (unwrap_or n default)

-- a number from 1 to the greatest
abbrev pub count_or : List ℕ → ℕ → ℕ → Data → Result ℕ Broken
count_or name greatest default d =
    number_in (λ n. nat_le 1 n && nat_le n greatest) (get name d) >>= λ n. Ok (unwrap_or n default)
