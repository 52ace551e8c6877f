-- What the errors stand for.
use Rattle.std.specs.Prelude.{ℕ, Option, Some, None, Result, IfErr, IsSome}
use Rattle.byte_fields.specs.declared.error.FieldError.{FieldError}
use Rattle.byte_fields.specs.declared.error.FieldError.TheVariants as fields
use Rattle.byte_fields.specs.declared.error.RowError.{RowError}
use Rattle.byte_fields.specs.declared.error.RowError.TheVariants as rows

-- how many bytes are left where the field that doesn't read begins
abbrev pub left_of : FieldError → Option ℕ
left_of (fields.Unread left) = Some left
left_of fields.Memory = None

-- the place in the whole bytes
abbrev pub fault_place : RowError → Option ℕ
fault_place (rows.NotARecord place) = Some place
fault_place rows.Memory = None

-- an error is the refusal of the bytes, and never want of memory
abbrev pub NeedsNoMemory : {X E F : Type 0} → (E → Option F) → Result X E → Type 0
NeedsNoMemory why result = IfErr result (λ e. IsSome (why e))
