-- What holds of each client, from a world in which nothing has happened on, event by event.
use Rattle.std.proofs.Common.{◌≡◌, ◌≢◌, ℕ, zero, suc, List, [], ◌∷◌, Option, Some, None, inl, inr, sym, ap, subst, ◌∙◌}
use Rattle.std.specs.Prelude.{slice_get}
use Rattle.std.proofs.lemmas.Bool.{cases_eq}
use Rattle.std.proofs.lemmas.Option.{same_Some}
use Rattle.fs_base.specs.Config.{Settings}
use Rattle.client_core.specs.declared.plan.Plan.{Plan}
use Rattle.client_core.specs.declared.plan.Script.{Script}
use Rattle.world_core.specs.EventList.{AreEvents, Event}
use Rattle.seat_turns.specs.Events.{after_stop}
use Rattle.seat_turns.specs.Seats.{new_seat, seats_of}
use Rattle.world_core.specs.World.{HasGone, IsOpening, WorldView, plan_of_world}
use Rattle.seat_turns.specs.declared.seats.Seat.{Seat}
use Rattle.event_laws.proofs.Places.{come_from, there}

-- a client that has done nothing
opened : (C : Settings) (scripts : List Script) (k : ℕ) (seat : Seat) → slice_get (seats_of C scripts) k ≡ Some seat → (script : Script) × (seat ≡ new_seat C script)
opened C [] k seat at = absurd (let no : None ≡ Some seat = at in cc)
opened C (script ∷ scripts) zero seat at = (script, same_Some seat (new_seat C script) (sym at))
opened C (script ∷ scripts) (suc k) seat at = opened C scripts k seat at

-- what a client has at the opening, keeps in its own events and in those of others, behind which a stop may come
module _ (P : List Event → ℕ → Seat → Type 0) (plan : Plan) (first : WorldView) (opening : IsOpening plan first) (fresh : (k : ℕ) (script : Script) → P [] k (new_seat plan.config script))
    (own : (event : Event) (earlier : List Event) (seat later : Seat) → HasGone event.before event.after event.client → slice_get event.before.seats event.client ≡ Some seat → slice_get event.after.seats event.client ≡ Some later → P earlier event.client seat → P (event ∷ earlier) event.client later)
    (other : (event : Event) (earlier : List Event) (server : ℕ) (stop : Option ℕ) (k : ℕ) (seat : Seat) → event.client ≢ k → P earlier k seat → P (event ∷ earlier) k (after_stop server stop seat)) where
  abbrev AreSo : List Event → WorldView → Type 0
  AreSo events w = (k : ℕ) (seat : Seat) → slice_get w.seats k ≡ Some seat → P events k seat

  one_more : (event : Event) (earlier : List Event) → HasGone event.before event.after event.client → AreSo earlier event.before → AreSo (event ∷ earlier) event.after
  one_more event earlier gone are k seat at =
      elim (cases_eq event.client k) [ inl same ↦ mine same | inr apart ↦ others apart ]
    where
      before : (b : Seat) × (slice_get event.before.seats event.client ≡ Some b)
      before = there event.before.seats event.client gone.within

      others : event.client ≢ k → P (event ∷ earlier) k seat
      others apart =
          let from : (s : Seat) × (slice_get event.before.seats k ≡ Some s) × (seat ≡ after_stop gone.event.server gone.event.stop s)
          = come_from (after_stop gone.event.server gone.event.stop) (slice_get event.before.seats k) seat (sym (gone.event.others k (λ e. apart (sym e))) ∙ at) in
          subst (P (event ∷ earlier) k) (sym from.2) (other event earlier gone.event.server gone.event.stop k from.0 apart (are k from.0 from.1))

      mine : event.client ≡ k → P (event ∷ earlier) k seat
      mine same = subst (λ n. slice_get event.after.seats n ≡ Some seat → P (event ∷ earlier) n seat) same (λ a. own event earlier before.0 seat gone before.1 a (are event.client before.0 before.1)) at

  pub along : (events : List Event) (last : WorldView) → AreEvents first events last → (k : ℕ) (seat : Seat) → slice_get last.seats k ≡ Some seat → P events k seat
  along [] last h k seat at =
      let here : slice_get (seats_of plan.config plan.clients) k ≡ Some seat = subst (λ (seats : List Seat). slice_get seats k ≡ Some seat) (ap (λ (w : WorldView). w.seats) h ∙ opening.seats) at in
      let new : (script : Script) × (seat ≡ new_seat plan.config script) = opened plan.config plan.clients k seat here in
      subst (P [] k) (sym new.1) (fresh k new.0)
  along (event ∷ earlier) last h k seat at = one_more event earlier h.1 (λ j s at_s. along earlier event.before h.2 j s at_s) k seat (subst (λ (w : WorldView). slice_get w.seats k ≡ Some seat) (sym h.0) at)

-- the plan stays
pub plan_along : (first : WorldView) (events : List Event) (last : WorldView) → AreEvents first events last → plan_of_world last ≡ plan_of_world first
plan_along first [] last h = ap plan_of_world h
plan_along first (event ∷ earlier) last h = ap plan_of_world (sym h.0) ∙ (h.1.same_plan ∙ plan_along first earlier event.before h.2)
