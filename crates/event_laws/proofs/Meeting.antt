-- Each conflict of a request under way was met in an event of its call.
use Rattle.std.proofs.Common.{◌≡◌, ℕ, List, ◌∷◌, Option, Some, None, inl, inr, length, refl, sym, ap, subst, ◌∙◌}
use Rattle.std.specs.Prelude.{slice_get}
use Rattle.key_schema.specs.declared.key.Key.{Key}
use Rattle.txn_task.specs.declared.messages.Answer.TheVariants as answers
use Rattle.client_core.specs.declared.plan.Plan.{Plan}
use Rattle.request_run.specs.Entries.{entries_of}
use Rattle.world_core.specs.EventList.{AreEvents, Event}
use Rattle.seat_turns.specs.Events.{IsEvent}
use Rattle.seat_turns.specs.Ready.{is_done}
use Rattle.world_core.specs.World.{IsOpening, WorldView}
use Rattle.seat_turns.specs.declared.seats.Seat.{Seat}
use Rattle.seat_turns.specs.declared.seats.Work.{Work}
use Rattle.event_laws.specs.Moments.{IsAmong, IsMetIn, is_at_rest, is_free}
use Rattle.event_laws.proofs.Along.{along}
use Rattle.event_laws.proofs.Lengths.{among_push, of_other, of_own}
use Rattle.event_laws.proofs.OneEvent.{IsAsked, IsRefused, after_conflicts, asked, work_after}
use Rattle.event_laws.proofs.Stopped.{stop_work}

-- so it is of a client's request, if it has one
abbrev pub IsSeatMet : ℕ × Key → List Event → ℕ → Seat → Type 0
IsSeatMet pair events client seat = (work : Work) → seat.work ≡ Some work → IsAmong pair work.task.conflicts → IsMetIn client pair events

module _ (pair : ℕ × Key) (event : Event) (earlier : List Event) (seat later : Seat) (was : slice_get event.before.seats event.client ≡ Some seat) (is : slice_get event.after.seats event.client ≡ Some later)
    (server : ℕ) (stop : Option ℕ) (e : IsEvent event.before.config event.before.attempts event.client server stop (entries_of event.before.objects.store.journal) (entries_of event.after.objects.store.journal) seat later) (so_far : IsSeatMet pair earlier event.client seat) where
  abbrev count : ℕ
  count = length (entries_of event.before.objects.store.journal)

  -- met before
  before_by : (w : Option Work) (again : Option ℕ) → seat.work ≡ w → IsAsked count w again e.exchanged.work → IsAmong pair e.exchanged.work.task.conflicts → IsMetIn event.client pair (event ∷ earlier)
  before_by None again under h among = absurd (subst (IsAmong pair) h.2 among)
  before_by (Some w) again under h among = inr (of_own is_free event seat was ∙ ap (λ (x : Option Work). is_at_rest x seat.again) under, so_far w under (subst (λ (x : Work). IsAmong pair x.task.conflicts) h among))

  before_met : IsAmong pair e.exchanged.work.task.conflicts → IsMetIn event.client pair (event ∷ earlier)
  before_met among = before_by seat.work seat.again refl (asked event.before.config event.before.attempts count seat e.sent seat.work seat.again e.exchanged.work refl e.at_work e.exchanged.there) among

  -- met in this event
  now_met : IsRefused e.exchanged.work.task e.exchanged.task.conflicts e.exchanged.work.ask e.exchanged.exchange.answer → IsAmong pair e.exchanged.task.conflicts → IsMetIn event.client pair (event ∷ earlier)
  now_met refused among = elim (among_push e.exchanged.work.task.conflicts pair refused.pair (subst (IsAmong pair) refused.more among)) [
    | inl old ↦ before_met old
    | inr same ↦ inl (record {
      own = refl;
      entry = refused.entry;
      asked = record { seat = seat; later = later; was = was; is = is; server = server; stop = stop; turn = e; ask_is = refused.commits; answer_is = refused.told ∙ ap (λ (p : ℕ × Key). answers.Conflict p.0 p.1) (sym same) };
    })
  ]

  -- of the request whose ask was answered
  pub event_met : IsAmong pair e.exchanged.task.conflicts → IsMetIn event.client pair (event ∷ earlier)
  event_met among =
      elim (after_conflicts event.before.config (entries_of event.before.objects.store.journal) (entries_of event.after.objects.store.journal) e.exchanged.work.task e.exchanged.task e.exchanged.work.ask e.exchanged.next e.exchanged.exchange.answer e.exchanged.exchange.answered e.exchanged.exchange.asks) [
        | inl same ↦ before_met (subst (IsAmong pair) same among)
        | inr refused ↦ now_met refused among
      ]

  pub seat_met : IsSeatMet pair (event ∷ earlier) event.client later
  seat_met work under among =
      let same : work ≡ record e.exchanged.work { task = e.exchanged.task; ask = e.exchanged.next }
      = work_after event.before.config event.client e.sent later (record e.exchanged.work { task = e.exchanged.task; ask = e.exchanged.next }) work stop (is_done e.exchanged.next) e.exchanged.comes under in
      event_met (subst (λ (x : Work). IsAmong pair x.task.conflicts) same among)

pub seats_met : (pair : ℕ × Key) (plan : Plan) (first : WorldView) → IsOpening plan first → (events : List Event) (last : WorldView) → AreEvents first events last → (k : ℕ) (seat : Seat) → slice_get last.seats k ≡ Some seat → IsSeatMet pair events k seat
seats_met pair plan first opening =
    along (IsSeatMet pair) plan first opening
    (λ k script work under. absurd (let none : None ≡ Some work = under in cc))
    (λ event earlier seat later gone was is so_far. seat_met pair event earlier seat later was is gone.event.server gone.event.stop (gone.event.own seat later was is) so_far)
    (λ event earlier server stop k seat apart so_far work under among. inr (of_other is_free event k apart, so_far work (stop_work server stop seat work under) among))
