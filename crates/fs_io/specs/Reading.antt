-- What is read of a source up to its end, or up to where a read stops.
use Rattle.std.specs.Prelude.{◌≡◌, ℕ, ◌<◌, ◌≤◌, List, length, Option, Result, Ok, Err}
use Rattle.std.specs.Io.KnownBytes.{Consumes, IsAtEnd}
use Rattle.fs_io.specs.Causes.{Rose}
use Rattle.fs_io.specs.declared.reading.ReadAllError.{ReadAllError}
use Rattle.fs_io.specs.declared.reading.ReadAllError.TheVariants as errors

-- these bytes came, they are within the limit, and no more are left
pub record ReadsToEnd (old new : Option (List ℕ)) (bytes : List ℕ) (limit : ℕ) : Type 0 where
  pub came : Consumes old new bytes
  pub ended : IsAtEnd new
  pub within : length bytes ≤ limit

-- more bytes came than the limit
abbrev pub PassesLimit : Option (List ℕ) → Option (List ℕ) → ℕ → Type 0
PassesLimit old new limit = (bytes : List ℕ) × Consumes old new bytes × (limit < length bytes)

-- no more bytes came than the limit
abbrev pub StopsWithin : Option (List ℕ) → Option (List ℕ) → ℕ → Type 0
StopsWithin old new limit = (bytes : List ℕ) × Consumes old new bytes × (length bytes ≤ limit)

-- a read that failed is told: the count of faults rose there, and else it is as it was
abbrev pub TellsFault : {T : Type 0} → ℕ → ℕ → Result T ReadAllError → Type 0
TellsFault before now (Ok value) = now ≡ before
TellsFault before now (Err errors.ReadFault) = Rose before now
TellsFault before now (Err errors.TooLong) = now ≡ before
TellsFault before now (Err errors.Memory) = now ≡ before
