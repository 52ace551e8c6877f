-- What stands at a place of a list.
use Rattle.std.proofs.Common.{◌≡◌, ℕ, zero, suc, ◌<◌, List, [], ◌∷◌, Option, Some, None, length, refl, sym, arith}
use Rattle.std.specs.Prelude.{option_map, slice_get}
use Rattle.std.proofs.lemmas.Option.{same_Some}
use Rattle.seat_turns.specs.declared.seats.Seat.{Seat}

pub there : {X : Type 0} (xs : List X) (k : ℕ) → k < length xs → (x : X) × (slice_get xs k ≡ Some x)
there [] k l = absurd (omega arith)
there (x ∷ xs) zero l = (x, refl)
there (x ∷ xs) (suc k) l = there xs k (omega arith)

-- a client that is there afterwards was there before
pub come_from : (change : Seat → Seat) (before : Option Seat) (after : Seat) → option_map change before ≡ Some after → (seat : Seat) × (before ≡ Some seat) × (after ≡ change seat)
come_from change None after at = absurd (let no : None ≡ Some after = at in cc)
come_from change (Some seat) after at = (seat, refl, same_Some after (change seat) (sym at))
