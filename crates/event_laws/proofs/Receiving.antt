-- Each receipt was told in an event.
use Rattle.std.proofs.Common.{◌≡◌, ℕ, ◌⊎◌, List, [], ◌∷◌, ◌++◌, Option, Some, inl, inr, length, refl, sym, ap, subst, ◌∙◌}
use Rattle.std.specs.Prelude.{slice_get}
use Rattle.run_record.specs.declared.run.Listed.{Listed}
use Rattle.request_run.specs.Entries.{entries_of}
use Rattle.world_core.specs.EventList.{Event}
use Rattle.seat_turns.specs.Events.{IsEvent}
use Rattle.seat_turns.specs.Ready.{is_done}
use Rattle.world_core.specs.World.{HasGone}
use Rattle.seat_turns.specs.declared.seats.Seat.{Seat}
use Rattle.event_laws.specs.Laws.{ReceiptsAreTold}
use Rattle.event_laws.specs.Moments.{HasTold, IsAmong, IsToldIn}
use Rattle.event_laws.proofs.Along.{along}
use Rattle.event_laws.proofs.Lengths.{among_push}
use Rattle.event_laws.proofs.OneEvent.{receipts_after, sent_receipts}
use Rattle.event_laws.proofs.Stopped.{stop_receipts}

-- the client's own event
told_by : (event : Event) (server : ℕ) (stop : Option ℕ) (seat later : Seat) (listed : Listed) → slice_get event.before.seats event.client ≡ Some seat → slice_get event.after.seats event.client ≡ Some later
    → IsEvent event.before.config event.before.attempts event.client server stop (entries_of event.before.objects.store.journal) (entries_of event.after.objects.store.journal) seat later
    → IsAmong listed later.receipts → HasTold event listed ⊎ IsAmong listed seat.receipts
told_by event server stop seat later listed was is e among =
    let sent : e.sent.receipts ≡ seat.receipts = sent_receipts event.before.config event.before.attempts (length (entries_of event.before.objects.store.journal)) seat e.sent seat.work seat.again e.at_work in
    elim (receipts_after event.before.config event.client e.sent later (record e.exchanged.work { task = e.exchanged.task; ask = e.exchanged.next }) stop (is_done e.exchanged.next) e.exchanged.comes) [
      | inl same ↦ inr (subst (IsAmong listed) (same ∙ sent) among)
      | inr more ↦ by_one more.0 (more.1 ∙ ap (λ (l : List Listed). l ++ more.0 ∷ []) sent)
    ]
  where
    by_one : (new : Listed) → later.receipts ≡ seat.receipts ++ new ∷ [] → HasTold event listed ⊎ IsAmong listed seat.receipts
    by_one new is_more = elim (among_push seat.receipts listed new (subst (IsAmong listed) is_more among)) [
      | inl old ↦ inr old
      | inr same ↦ inl (record { seat = seat; later = later; was = was; is = is; more = is_more ∙ ap (λ (l : Listed). seat.receipts ++ l ∷ []) (sym same) })
    ]

abbrev AreTold : Listed → List Event → ℕ → Seat → Type 0
AreTold listed events client seat = IsAmong listed seat.receipts → IsToldIn client listed events

own : (listed : Listed) (event : Event) (earlier : List Event) (seat later : Seat) → HasGone event.before event.after event.client → slice_get event.before.seats event.client ≡ Some seat → slice_get event.after.seats event.client ≡ Some later
    → AreTold listed earlier event.client seat → AreTold listed (event ∷ earlier) event.client later
own listed event earlier seat later gone was is so_far among = elim (told_by event gone.event.server gone.event.stop seat later listed was is (gone.event.own seat later was is) among) [
  | inl told ↦ inl (refl, told)
  | inr old ↦ inr (so_far old)
]

pub receipts_told : ReceiptsAreTold
receipts_told plan first last events opening h client seat listed at =
    along (AreTold listed) plan first opening (λ k script among. among) (own listed) (λ event earlier server stop k s apart so_far among. inr (so_far (subst (IsAmong listed) (stop_receipts server stop s) among))) events last h client seat at
