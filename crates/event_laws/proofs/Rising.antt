-- A reply is as new as all that was learned before its call began.
use Rattle.std.proofs.Common.{◌≡◌, ℕ, ◌≤◌, ◌+◌, Bool, true, false, cond, List, [], ◌∷◌, ◌++◌, Some, inl, inr, length, ap, subst, ◌∙◌, arith}
use Rattle.std.specs.Prelude.{slice_get}
use Rattle.std.proofs.lemmas.Bool.{cases_Bool}
use Rattle.std.proofs.lemmas.List.{length_push}
use Rattle.fs_base.specs.declared.ids.ClientId.{ClientId}
use Rattle.run_record.specs.Outcomes.{seen_by}
use Rattle.run_record.specs.Receipts.{Rises, front_of, fronts_of, outcome_of, newest_seen}
use Rattle.run_record.specs.declared.run.Listed.{Listed}
use Rattle.run_record.proofs.OneMore.{version_after-push}
use Rattle.request_run.specs.Entries.{entries_of}
use Rattle.request_run.proofs.Rows.{length_entries}
use Rattle.world_core.specs.EventList.{AreEvents, Event}
use Rattle.seat_turns.specs.Kept.{IsSeat}
use Rattle.world_core.specs.Objects.{IsStep, Objects}
use Rattle.world_core.specs.World.{HasGone, WorldView}
use Rattle.seat_turns.specs.declared.seats.Seat.{Seat}
use Rattle.event_laws.proofs.Places.{there}
use Rattle.event_laws.specs.Laws.{RepliesRise}
use Rattle.event_laws.specs.Moments.{HasTold, IsAmong, IsLengthAt, begins_call, events_before}
use Rattle.event_laws.proofs.Lengths.{of_earlier, of_newest}
use Rattle.event_laws.proofs.Telling.{fronts_begin}

-- ---- the journal grows

step_grows : (before after : Objects) (client : ClientId) → IsStep before after client → length before.store.journal ≤ length after.store.journal
step_grows before after client (inl same) = let e : length after.store.journal ≡ length before.store.journal = ap (λ (o : Objects). length o.store.journal) same in omega arith
step_grows before after client (inr more) =
    let e : length after.store.journal ≡ length (before.store.journal ++ record { entry = more.0 } ∷ []) = ap (λ (o : Objects). length o.store.journal) more.1 in
    omega (arith, length_push before.store.journal (record { entry = more.0 }))

pub event_grows : (event : Event) → HasGone event.before event.after event.client → length event.before.objects.store.journal ≤ length event.after.objects.store.journal
event_grows event gone =
    let seat : (s : Seat) × (slice_get event.before.seats event.client ≡ Some s) = there event.before.seats event.client gone.within in
    step_grows event.before.objects event.after.objects seat.0.client.script.id (gone.objects seat.0 seat.1)

-- ---- the last receipt

last_rises : (floor : ℕ) (receipts : List Listed) (listed : Listed) → Rises floor (receipts ++ listed ∷ []) → front_of listed.fronts ≤ listed.receipt.version
last_rises floor [] listed h = h.1
last_rises floor (first ∷ rest) listed h = last_rises (seen_by (outcome_of first.receipt)) rest listed h.2

module _ (event : Event) (listed : Listed) (gone : HasGone event.before event.after event.client) (told : HasTold event listed) where
  seat_told : IsSeat event.after.config event.after.attempts event.after.stops (entries_of event.after.objects.store.journal) event.client told.later
  seat_told = (gone.world.seated gone.alive).all event.client told.later told.is

  pub seen_within : seen_by (outcome_of listed.receipt) ≤ length event.after.objects.store.journal
  seen_within =
      let within : newest_seen 0 told.later.receipts ≤ length (entries_of event.after.objects.store.journal) = seat_told.past.within in
      let last : newest_seen 0 told.later.receipts ≡ seen_by (outcome_of listed.receipt) = ap (newest_seen 0) told.more ∙ version_after-push 0 told.seat.receipts listed in
      let count : length (entries_of event.after.objects.store.journal) ≡ length event.after.objects.store.journal = length_entries event.after.objects.store.journal in
      omega arith

  pub front_below : front_of listed.fronts ≤ listed.receipt.version
  front_below = last_rises 0 told.seat.receipts listed (subst (Rises 0) told.more seat_told.past.rises)

-- ---- all that was learned

seen_before : (first : WorldView) (events : List Event) (last : WorldView) → AreEvents first events last → (before : Event) (learned : Listed) → IsAmong before events → HasTold before learned
    → seen_by (outcome_of learned.receipt) ≤ length last.objects.store.journal
seen_before first [] last h before learned among told = absurd among
seen_before first (event ∷ earlier) last h before learned among told =
    let end : length event.after.objects.store.journal ≡ length last.objects.store.journal = ap (λ (w : WorldView). length w.objects.store.journal) h.0 in
    elim among [ inl same ↦ subst (λ n. seen_by (outcome_of learned.receipt) ≤ n) end (here same) | inr rest ↦ (let far : seen_by (outcome_of learned.receipt) ≤ length event.before.objects.store.journal = seen_before first earlier event.before h.2 before learned rest told in let more : length event.before.objects.store.journal ≤ length event.after.objects.store.journal = event_grows event h.1 in omega arith) ]
  where
    here : before ≡ event → seen_by (outcome_of learned.receipt) ≤ length event.after.objects.store.journal
    here same = seen_within event learned h.1 (subst (λ (x : Event). HasTold x learned) same told)

-- where the newest event that passes the test is this one, or an earlier one
module _ (test : Event → Bool) (event : Event) (earlier : List Event) (front : ℕ) (at : IsLengthAt test (event ∷ earlier) front) (before : Event) (learned : Listed) (among : IsAmong before (events_before test (event ∷ earlier))) where
  by_test : (b : Bool) → test event ≡ b → IsAmong before (cond b earlier (events_before test earlier))
  by_test b is = subst (λ c. IsAmong before (cond c earlier (events_before test earlier))) is among

  newest : test event ≡ true → (IsAmong before earlier → seen_by (outcome_of learned.receipt) ≤ length event.before.objects.store.journal) → seen_by (outcome_of learned.receipt) ≤ front
  newest is seen =
      let begun : front ≡ length event.before.objects.store.journal = of_newest test event earlier front is at in
      let within : seen_by (outcome_of learned.receipt) ≤ length event.before.objects.store.journal = seen (by_test true is) in
      omega arith

  older : test event ≡ false → (IsLengthAt test earlier front → IsAmong before (events_before test earlier) → seen_by (outcome_of learned.receipt) ≤ front) → seen_by (outcome_of learned.receipt) ≤ front
  older is seen = seen (of_earlier test event earlier front is at) (by_test false is)

seen_first : (test : Event → Bool) (first : WorldView) (events : List Event) (last : WorldView) → AreEvents first events last → (front : ℕ) → IsLengthAt test events front → (before : Event) (learned : Listed)
    → IsAmong before (events_before test events) → HasTold before learned → seen_by (outcome_of learned.receipt) ≤ front
seen_first test first [] last h front at before learned among told = absurd at
seen_first test first (event ∷ earlier) last h front at before learned among told = elim (cases_Bool (test event)) [
  | inl is ↦ newest test event earlier front at before learned among is (λ here. seen_before first earlier event.before h.2 before learned here told)
  | inr is ↦ older test event earlier front at before learned among is (λ length_at here. seen_first test first earlier event.before h.2 front length_at before learned here told)
]

pub replies_rising : RepliesRise
replies_rising plan event earlier listed ends told before learned among other =
    let began : (front : ℕ) × IsLengthAt (begins_call event.client) (event ∷ earlier) front × (listed.fronts ≡ fronts_of plan.config front) = fronts_begin plan event earlier listed ends told in
    let seen : seen_by (outcome_of learned.receipt) ≤ began.0 = seen_first (begins_call event.client) ends.first (event ∷ earlier) event.after ends.events began.0 began.1 before learned among other in
    let front : front_of listed.fronts ≡ began.0 = ap front_of began.2 in
    let below : front_of listed.fronts ≤ listed.receipt.version = front_below event listed ends.events.1 told in
    omega arith
