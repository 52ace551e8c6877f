-- A stop of a server, client by client.
use Rattle.std.proofs.Common.{◌≡◌, ◌≢◌, ℕ, ◌+◌, ◌<◌, ◌≤◌, inl, inr, List, Option, Some, None, length, set, get_or, refl, sym, ap, subst, ◌∙◌, arith, option_map}
use Rattle.std.specs.Prelude.{slice_get}
use Rattle.std.proofs.lemmas.Bool.{cases_eq}
use Rattle.std.proofs.lemmas.List.{length-set}
use Rattle.std.proofs.lemmas.Option.{slice_get_within}
use Rattle.seat_turns.specs.Events.{lost_at}
use Rattle.seat_turns.specs.Seats.{scripts_of_seats}
use Rattle.seat_turns.specs.declared.seats.Seat.{Seat}
use Rattle.seat_turns.proofs.Seating.{apart, scripts_there, seat_there, set_here}

module _ (server stop : ℕ) (old : List Seat) where
  abbrev lost : Seat → Seat
  lost seat = lost_at server stop seat seat.work

  -- the first k clients have learned of it
  pub record AreLostTo (k : ℕ) (seats : List Seat) : Type 0 where
    pub many : length seats ≡ length old
    pub scripts : scripts_of_seats seats ≡ scripts_of_seats old
    pub before : (j : ℕ) → j < k → slice_get seats j ≡ option_map lost (slice_get old j)
    pub behind : (j : ℕ) → k ≤ j → slice_get seats j ≡ slice_get old j

  pub lost_first : AreLostTo 0 old
  lost_first = record { many = refl; scripts = refl; before = λ j l. absurd (omega arith); behind = λ j l. refl }

  module _ (k : ℕ) (seats : List Seat) (x : Seat) (so_far : AreLostTo k seats) (within : k < length seats) (is : x ≡ get_or seats k x) where
    pub next_is : slice_get old k ≡ Some x
    next_is = sym (so_far.behind k (omega arith)) ∙ seat_there seats k k x refl within is

    pub scripts_next : (y : Seat) → y.client.script ≡ x.client.script → scripts_of_seats (set seats k y) ≡ scripts_of_seats old
    scripts_next y script = scripts_there seats k k x y refl within is script ∙ so_far.scripts

    pub lost_next : (y : Seat) → y.client.script ≡ x.client.script → y ≡ lost x → AreLostTo (k + 1) (set seats k y)
    lost_next y script now =
        record {
          many = length-set seats k y ∙ so_far.many;
          scripts = scripts_next y script;
          before = before;
          behind = λ j l. apart seats k k x y refl within is j (λ same. omega (arith, same)) ∙ so_far.behind j (omega arith);
        }
      where
        before : (j : ℕ) → j < k + 1 → slice_get (set seats k y) j ≡ option_map lost (slice_get old j)
        before j l = elim (cases_eq j k) [
          | inl same ↦
              ap (slice_get (set seats k y)) same ∙ (set_here seats k y within ∙ (ap Some now
              ∙ (sym (ap (option_map lost) next_is) ∙ ap (λ n. option_map lost (slice_get old n)) (sym same))))
          | inr other ↦ apart seats k k x y refl within is j other ∙ so_far.before j (omega arith)
        ]

  pub lost_all : (n : ℕ) (seats : List Seat) → length old ≤ n → AreLostTo n seats → (k : ℕ) → slice_get seats k ≡ option_map lost (slice_get old k)
  lost_all n seats all h k = by_old (slice_get old k) refl
    where
      by_new : slice_get old k ≡ None → (o : Option Seat) → slice_get seats k ≡ o → slice_get seats k ≡ option_map lost (slice_get old k)
      by_new was None at = at ∙ sym (ap (option_map lost) was)
      by_new was (Some x) at = h.before k (let l : k < length seats = slice_get_within seats k x at in omega (arith, h.many))

      by_old : (o : Option Seat) → slice_get old k ≡ o → slice_get seats k ≡ option_map lost (slice_get old k)
      by_old None was = by_new was (slice_get seats k) refl
      by_old (Some x) was = h.before k (let l : k < length old = slice_get_within old k x was in omega arith)
