-- What clients have left, and how it grows less.
use Rattle.std.specs.Prelude.{◌≡◌, ◌≢◌, ◌⊎◌, ◌≤◌, ℕ, ◌+◌, List, length, slice_get, Some, Bool, not}
use Rattle.std.specs.List.{list_any}
use Rattle.client_core.specs.Client.{has_ended}
use Rattle.seat_turns.specs.declared.seats.Seat.{Seat}

-- some client has something left
abbrev pub has_left : List Seat → Bool
has_left seats = list_any (λ seat. not (has_ended seat.client)) seats

-- no operation of any other client has ended
abbrev pub KeepsOthers : List Seat → List Seat → ℕ → Type 0
KeepsOthers old new client =
    (j : ℕ) → j ≢ client → (before after : Seat) → slice_get old j ≡ Some before → slice_get new j ≡ Some after
    → after.client.op ≡ before.client.op

-- as many as before, or one more
abbrev pub IsOneMore : ℕ → ℕ → Type 0
IsOneMore before after = (after ≡ before) ⊎ (after ≡ before + 1)

-- a turn of a client: at most one more of its operations has ended, and none of another's
pub record SeatsGoOn (old new : List Seat) (client : ℕ) : Type 0 where
  pub others : KeepsOthers old new client
  pub own : (before after : Seat) → slice_get old client ≡ Some before → slice_get new client ≡ Some after
      → IsOneMore before.client.op after.client.op

-- no operation of the client has ended
pub record Stays (old new : List Seat) (client : ℕ) : Type 0 where
  pub others : KeepsOthers old new client
  pub own : (before after : Seat) → slice_get old client ≡ Some before → slice_get new client ≡ Some after
      → after.client.op ≡ before.client.op

-- a whole operation of a client: one more has ended, and none of another's
pub record EndsOne (old new : List Seat) (client : ℕ) : Type 0 where
  pub others : KeepsOthers old new client
  pub own : (before after : Seat) → slice_get old client ≡ Some before → slice_get new client ≡ Some after
      → after.client.op ≡ before.client.op + 1

-- so many operations of the client have ended, or all
abbrev pub IsSeatAhead : ℕ → Seat → Type 0
IsSeatAhead rounds seat = (rounds ≤ seat.client.op) ⊎ (length seat.client.script.ops ≤ seat.client.op)

abbrev pub AreSeatsAhead : ℕ → List Seat → Type 0
AreSeatsAhead rounds seats = (k : ℕ) (seat : Seat) → slice_get seats k ≡ Some seat → IsSeatAhead rounds seat
