-- Why a call of the outside failed: its count of faults rose.
use Rattle.std.specs.Prelude.{ℕ, ◌+◌, ◌-◌, ◌^◌, ◌≤◌, min, Result, Ok, Err, OnErr}

-- one more, which stops at the greatest u64
abbrev pub raised_count : ℕ → ℕ
raised_count count = min (count + 1) (2 ^ 64 - 1)

-- the count rose, or stands at its greatest
abbrev pub Rose : ℕ → ℕ → Type 0
Rose before now = raised_count before ≤ now

-- the count never falls, and an error comes only where it rose
pub record HasIoCause {T E : Type 0} (before now : ℕ) (result : Result T E) : Type 0 where
  pub later : before ≤ now
  pub failed : OnErr result (Rose before now)

-- the count of faults after a call: each error raises it by one
abbrev pub count_after : {T E : Type 0} → ℕ → Result T E → ℕ
count_after before (Ok _) = before
count_after before (Err _) = raised_count before
