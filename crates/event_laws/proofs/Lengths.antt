-- What is among the elements of a list, and the journal's length at the newest event that passes a test.
use Rattle.std.proofs.Common.{◌≡◌, ◌≢◌, ℕ, ◌⊎◌, Bool, true, false, List, [], ◌∷◌, ◌++◌, Some, inl, inr, length, refl, sym, ap, subst, ◌∙◌, ◌&&◌}
use Rattle.std.specs.Prelude.{MatchBool, slice_get}
use Rattle.std.proofs.lemmas.Bool.{cases_Bool, eq-eqb, ne_eqb}
use Rattle.world_core.specs.EventList.{Event}
use Rattle.seat_turns.specs.declared.seats.Seat.{Seat}
use Rattle.event_laws.specs.Moments.{IsAmong, IsLengthAt, has_seat, is_of}

-- ---- elements

pub among_push : {X : Type 0} (xs : List X) (x y : X) → IsAmong x (xs ++ y ∷ []) → (IsAmong x xs) ⊎ (x ≡ y)
among_push [] x y h = elim h [ inl same ↦ inr same | inr none ↦ absurd none ]
among_push (z ∷ xs) x y h = elim h [
  | inl same ↦ inl (inl same)
  | inr rest ↦ elim (among_push xs x y rest) [ inl old ↦ inl (inr old) | inr new ↦ inr new ]
]

-- ---- tests

module _ (test : Seat → Bool) (event : Event) where
  -- of the event's own client
  pub of_own : (seat : Seat) → slice_get event.before.seats event.client ≡ Some seat → is_of test event.client event ≡ test seat
  of_own seat at = ap (λ b. b && has_seat test (slice_get event.before.seats event.client)) (eq-eqb event.client event.client refl) ∙ ap (has_seat test) at

  pub of_other : (k : ℕ) → event.client ≢ k → is_of test k event ≡ false
  of_other k apart = ap (λ b. b && has_seat test (slice_get event.before.seats k)) (ne_eqb event.client k apart)

-- ---- lengths

module _ (test : Event → Bool) (event : Event) (earlier : List Event) (count : ℕ) where
  abbrev by_test : Bool → Type 0
  by_test b = MatchBool b (count ≡ length event.before.objects.store.journal) (IsLengthAt test earlier count)

  pub at_newest : test event ≡ true → count ≡ length event.before.objects.store.journal → IsLengthAt test (event ∷ earlier) count
  at_newest is h = subst by_test (sym is) h

  pub at_earlier : test event ≡ false → IsLengthAt test earlier count → IsLengthAt test (event ∷ earlier) count
  at_earlier is h = subst by_test (sym is) h

  pub of_newest : test event ≡ true → IsLengthAt test (event ∷ earlier) count → count ≡ length event.before.objects.store.journal
  of_newest is h = subst by_test is h

  pub of_earlier : test event ≡ false → IsLengthAt test (event ∷ earlier) count → IsLengthAt test earlier count
  of_earlier is h = subst by_test is h

-- there is one such length
pub same_length : (test : Event → Bool) (events : List Event) (a b : ℕ) → IsLengthAt test events a → IsLengthAt test events b → a ≡ b
same_length test [] a b x y = absurd x
same_length test (event ∷ earlier) a b x y = elim (cases_Bool (test event)) [
  | inl is ↦ of_newest test event earlier a is x ∙ sym (of_newest test event earlier b is y)
  | inr is ↦ same_length test earlier a b (of_earlier test event earlier a is x) (of_earlier test event earlier b is y)
]
