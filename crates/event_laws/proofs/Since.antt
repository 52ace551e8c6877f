-- What a request under way has from the events since its call began.
use Rattle.std.proofs.Common.{◌≡◌, ◌≢◌, ℕ, true, false, List, ◌∷◌, Option, Some, None, inl, inr, length, refl, sym, ap, subst, ◌∙◌}
use Rattle.std.specs.Prelude.{MatchBool, slice_get}
use Rattle.std.proofs.lemmas.Bool.{cases_Bool}
use Rattle.client_core.specs.declared.plan.Plan.{Plan}
use Rattle.request_run.specs.Entries.{entries_of}
use Rattle.request_run.proofs.Rows.{length_entries}
use Rattle.world_core.specs.EventList.{AreEvents, Event}
use Rattle.seat_turns.specs.Events.{IsEvent, after_stop}
use Rattle.seat_turns.specs.Ready.{is_done}
use Rattle.world_core.specs.World.{IsOpening, WorldView}
use Rattle.seat_turns.specs.declared.seats.Seat.{Seat}
use Rattle.seat_turns.specs.declared.seats.Work.{Work}
use Rattle.event_laws.specs.Moments.{IsLengthAt, begins_attempt, begins_call, is_at_rest, is_begin, is_beginning, is_free}
use Rattle.event_laws.proofs.Along.{along}
use Rattle.event_laws.proofs.Lengths.{at_earlier, at_newest, of_other, of_own}
use Rattle.event_laws.proofs.OneEvent.{IsAsked, IsSnapshot, after_snapshot, asked, asked_next, front_after, work_after}
use Rattle.event_laws.proofs.Stopped.{call_front, stop_front, stop_work}

-- the front is where the client's call began, and the snapshot where its attempt did
pub record IsSince (events : List Event) (client front snapshot : ℕ) : Type 0 where
  pub call : IsLengthAt (begins_call client) events front
  pub attempt : IsLengthAt (begins_attempt client) events snapshot

-- so it is of the call under way, if there is one, and of the request that is being served for it
pub record IsSeatSince (events : List Event) (client : ℕ) (seat : Seat) : Type 0 where
  pub call : (front : ℕ) → call_front seat.work seat.again ≡ Some front → IsLengthAt (begins_call client) events front
  pub attempt : (work : Work) → seat.work ≡ Some work → IsLengthAt (begins_attempt client) events work.task.snapshot

-- ---- one event more

module _ (event : Event) (earlier : List Event) (seat : Seat) (at : slice_get event.before.seats event.client ≡ Some seat) (since : IsSeatSince earlier event.client seat) where
  abbrev count : ℕ
  count = length (entries_of event.before.objects.store.journal)

  call_now : (w : Option Work) (again : Option ℕ) → seat.work ≡ w → seat.again ≡ again → (work : Work) → IsAsked count w again work → IsLengthAt (begins_call event.client) (event ∷ earlier) work.front
  call_now None None is waits work h =
      at_newest (begins_call event.client) event earlier work.front (of_own is_free event seat at ∙ (ap (λ (x : Option Work). is_at_rest x seat.again) is ∙ ap (is_at_rest None) waits))
      (h.1 ∙ length_entries event.before.objects.store.journal)
  call_now None (Some front) is waits work h =
      at_earlier (begins_call event.client) event earlier work.front (of_own is_free event seat at ∙ (ap (λ (x : Option Work). is_at_rest x seat.again) is ∙ ap (is_at_rest None) waits))
      (subst (IsLengthAt (begins_call event.client) earlier) (sym h.1) (since.call front (ap (λ (x : Option Work). call_front x seat.again) is ∙ waits)))
  call_now (Some w) again is waits work h =
      at_earlier (begins_call event.client) event earlier work.front (of_own is_free event seat at ∙ ap (λ (x : Option Work). is_at_rest x seat.again) is)
      (subst (λ (x : Work). IsLengthAt (begins_call event.client) earlier x.front) (sym h) (since.call w.front (ap (λ (x : Option Work). call_front x seat.again) is)))

  -- the event's ask is a Begin
  fresh_now : (work : Work) (snapshot : ℕ) → begins_attempt event.client event ≡ is_begin work.ask → is_begin work.ask ≡ true → IsSnapshot count work.task.snapshot snapshot work.ask
      → IsLengthAt (begins_attempt event.client) (event ∷ earlier) snapshot
  fresh_now work snapshot test is h =
      at_newest (begins_attempt event.client) event earlier snapshot (test ∙ is)
      (subst (λ b. MatchBool b (snapshot ≡ count) (snapshot ≡ work.task.snapshot)) is h ∙ length_entries event.before.objects.store.journal)

  attempt_by : (w : Option Work) (again : Option ℕ) → seat.work ≡ w → (work : Work) (snapshot : ℕ) → IsAsked count w again work → begins_attempt event.client event ≡ is_begin work.ask → IsSnapshot count work.task.snapshot snapshot work.ask
      → IsLengthAt (begins_attempt event.client) (event ∷ earlier) snapshot
  attempt_by None again is work snapshot h test told = fresh_now work snapshot test (ap is_begin h.0) told
  attempt_by (Some w) again is work snapshot h test told =
      elim (cases_Bool (is_begin work.ask)) [ inl fresh ↦ fresh_now work snapshot test fresh told | inr kept ↦ as_before kept ]
    where
      as_before : is_begin work.ask ≡ false → IsLengthAt (begins_attempt event.client) (event ∷ earlier) snapshot
      as_before none =
          let stays : snapshot ≡ work.task.snapshot = subst (λ b. MatchBool b (snapshot ≡ count) (snapshot ≡ work.task.snapshot)) none told in
          let same : snapshot ≡ w.task.snapshot = stays ∙ ap (λ (x : Work). x.task.snapshot) h in
          at_earlier (begins_attempt event.client) event earlier snapshot (test ∙ none) (subst (IsLengthAt (begins_attempt event.client) earlier) (sym same) (since.attempt w is))

  attempt_now : (work : Work) (snapshot : ℕ) → IsAsked count seat.work seat.again work → IsSnapshot count work.task.snapshot snapshot work.ask → IsLengthAt (begins_attempt event.client) (event ∷ earlier) snapshot
  attempt_now work snapshot h told = attempt_by seat.work seat.again refl work snapshot h (of_own is_beginning event seat at ∙ ap is_begin (sym (asked_next count seat.work seat.again work h))) told

  -- of the request whose ask was answered, and its task after the answer
  pub event_since : (server : ℕ) (stop : Option ℕ) (later : Seat) (e : IsEvent event.before.config event.before.attempts event.client server stop (entries_of event.before.objects.store.journal) (entries_of event.after.objects.store.journal) seat later)
      → IsSince (event ∷ earlier) event.client e.exchanged.work.front e.exchanged.task.snapshot
  event_since server stop later e =
      let h : IsAsked count seat.work seat.again e.exchanged.work = asked event.before.config event.before.attempts count seat e.sent seat.work seat.again e.exchanged.work refl e.at_work e.exchanged.there in
      record {
        call = call_now seat.work seat.again refl refl e.exchanged.work h;
        attempt = attempt_now e.exchanged.work e.exchanged.task.snapshot h
            (after_snapshot event.before.config (entries_of event.before.objects.store.journal) (entries_of event.after.objects.store.journal) e.exchanged.work.task e.exchanged.task e.exchanged.work.ask e.exchanged.next e.exchanged.exchange.answer e.exchanged.exchange.answered e.exchanged.exchange.asks);
      }

  pub seat_since : (server : ℕ) (stop : Option ℕ) (later : Seat) → IsEvent event.before.config event.before.attempts event.client server stop (entries_of event.before.objects.store.journal) (entries_of event.after.objects.store.journal) seat later
      → IsSeatSince (event ∷ earlier) event.client later
  seat_since server stop later e =
      let now : Work = record e.exchanged.work { task = e.exchanged.task; ask = e.exchanged.next } in
      let since_now : IsSince (event ∷ earlier) event.client e.exchanged.work.front e.exchanged.task.snapshot = event_since server stop later e in
      record {
        call = λ front under. subst (IsLengthAt (begins_call event.client) (event ∷ earlier))
            (sym (front_after event.before.config event.client e.sent later now front stop (is_done e.exchanged.next) e.exchanged.comes under)) since_now.call;
        attempt = λ work under. subst (λ (x : Work). IsLengthAt (begins_attempt event.client) (event ∷ earlier) x.task.snapshot)
            (sym (work_after event.before.config event.client e.sent later now work stop (is_done e.exchanged.next) e.exchanged.comes under)) since_now.attempt;
      }

-- ---- from the opening on

pub seats_since : (plan : Plan) (first : WorldView) → IsOpening plan first → (events : List Event) (last : WorldView) → AreEvents first events last → (k : ℕ) (seat : Seat) → slice_get last.seats k ≡ Some seat → IsSeatSince events k seat
seats_since plan first opening =
    along IsSeatSince plan first opening
    (λ k script. record {
      call = λ front under. absurd (let none : None ≡ Some front = under in cc);
      attempt = λ work under. absurd (let none : None ≡ Some work = under in cc);
    })
    (λ event earlier seat later gone was is since. seat_since event earlier seat was since gone.event.server gone.event.stop later (gone.event.own seat later was is))
    other
  where
    other : (event : Event) (earlier : List Event) (server : ℕ) (stop : Option ℕ) (k : ℕ) (seat : Seat) → event.client ≢ k → IsSeatSince earlier k seat → IsSeatSince (event ∷ earlier) k (after_stop server stop seat)
    other event earlier server stop k seat apart since = record {
      call = λ front under. at_earlier (begins_call k) event earlier front (of_other is_free event k apart) (since.call front (sym (stop_front server stop seat) ∙ under));
      attempt = λ work under. at_earlier (begins_attempt k) event earlier work.task.snapshot (of_other is_beginning event k apart) (since.attempt work (stop_work server stop seat work under));
    }
