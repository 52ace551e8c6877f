-- The laws of what one event tells, after all that came before it.
use Rattle.std.proofs.Common.{◌≡◌, ℕ, ◌<◌, ◌≤◌, ◌+◌, false, List, [], ◌∷◌, ◌++◌, Option, Some, length, refl, sym, ap, subst, ◌∙◌, arith}
use Rattle.std.specs.Prelude.{MatchBool, slice_get}
use Rattle.std.proofs.lemmas.Option.{same_Some, slice_get_within}
use Rattle.fs_base.specs.Config.{Settings}
use Rattle.key_schema.specs.Keys.{spelled_key}
use Rattle.key_schema.specs.declared.key.Key.{Key}
use Rattle.kv_store.specs.Later.{IsFirstConflict, IsFirstLater}
use Rattle.kv_store.proofs.LaterLemmas.{first_later_first}
use Rattle.txn_task.specs.declared.messages.Answer.{Answer}
use Rattle.txn_task.specs.declared.messages.Answer.TheVariants as answers
use Rattle.txn_task.specs.declared.messages.Ask.{Ask}
use Rattle.txn_task.specs.declared.messages.Ask.TheVariants as asks
use Rattle.txn_task.specs.declared.messages.Entry.{Entry}
use Rattle.txn_task.specs.declared.outcome.Outcome.{Outcome}
use Rattle.meta_task.specs.Task.{HasOrigin, TaskView, learnt}
use Rattle.client_core.specs.declared.plan.Plan.{Plan}
use Rattle.run_record.specs.Legal.{writes_of}
use Rattle.run_record.specs.Receipts.{fronts_of, outcome_of}
use Rattle.run_record.specs.declared.run.Listed.{Listed}
use Rattle.request_run.specs.Answered.{IsAnswer}
use Rattle.request_run.specs.Entries.{entries_of}
use Rattle.request_run.proofs.Rows.{length_entries}
use Rattle.world_core.specs.EventList.{Event}
use Rattle.seat_turns.specs.Events.{IsEvent}
use Rattle.seat_turns.specs.Ready.{is_done}
use Rattle.seat_turns.specs.declared.seats.Seat.{Seat}
use Rattle.event_laws.proofs.Places.{there}
use Rattle.world_core.proofs.Closing.{same_seats}
use Rattle.event_laws.specs.Laws.{BeginsAreFresh, ConflictsAreLater, ConflictsWereMet, IsNewestEvent, EventsAsk, FrontsBeginCalls, IsLaterWrite, UncommittedRepliesAreBegun, UndisturbedAttemptsMeetNone}
use Rattle.event_laws.specs.Moments.{HasAsked, IsAmong, IsLengthAt, IsMetIn, begins_attempt, begins_call, is_begin}
use Rattle.event_laws.proofs.Along.{plan_along}
use Rattle.event_laws.proofs.Lengths.{same_length}
use Rattle.event_laws.proofs.Meeting.{event_met, seats_met}
use Rattle.event_laws.proofs.Since.{IsSeatSince, IsSince, event_since, seats_since}
use Rattle.event_laws.proofs.OneEvent.{HasListed, IsSnapshot, after_snapshot, asked, asked_next, begun_answer, done_origin, done_snapshot, listed_after, receipt_outcome, sent_receipts, uncommitted}

abbrev journal_before : Event → List Entry
journal_before event = entries_of event.before.objects.store.journal

abbrev journal_after : Event → List Entry
journal_after event = entries_of event.after.objects.store.journal

abbrev IsEventOf : Event → ℕ → Option ℕ → Seat → Seat → Type 0
IsEventOf event server stop seat later = IsEvent event.before.config event.before.attempts event.client server stop (journal_before event) (journal_after event) seat later

-- ---- the ask

pub asked_once : EventsAsk
asked_once event seat gone at =
    let same : length event.after.seats ≡ length event.before.seats = same_seats event.after event.before gone.same_plan in
    let later : (s : Seat) × (slice_get event.after.seats event.client ≡ Some s) = there event.after.seats event.client (subst (λ n. event.client < n) (sym same) gone.within) in
    let e : IsEventOf event gone.event.server gone.event.stop seat later.0 = gone.event.own seat later.0 at later.1 in
    let count : ℕ = length (journal_before event) in (
      e.exchanged.exchange.answer,
      record {
        seat = seat;
        later = later.0;
        was = at;
        is = later.1;
        server = gone.event.server;
        stop = gone.event.stop;
        turn = e;
        ask_is = asked_next count seat.work seat.again e.exchanged.work (asked event.before.config event.before.attempts count seat e.sent seat.work seat.again e.exchanged.work refl e.at_work e.exchanged.there);
        answer_is = refl;
      },
    )

-- ---- a Begin

pub begins_fresh : BeginsAreFresh
begins_fresh event answer a =
    let at_ask : IsAnswer event.before.config (journal_before event) (journal_after event) a.turn.exchanged.work.task.snapshot asks.Begin a.turn.exchanged.exchange.answer
    = subst (λ (x : Ask). IsAnswer event.before.config (journal_before event) (journal_after event) a.turn.exchanged.work.task.snapshot x a.turn.exchanged.exchange.answer) a.ask_is a.turn.exchanged.exchange.answered in
    let told : a.turn.exchanged.exchange.answer ≡ answers.Begun (length (journal_before event))
    = begun_answer event.before.config (journal_before event) (journal_after event) a.turn.exchanged.work.task.snapshot a.turn.exchanged.exchange.answer at_ask in
    sym a.answer_is ∙ (told ∙ ap (λ n. answers.Begun n) (length_entries event.before.objects.store.journal))

-- ---- what the event had before it

module _ (plan : Plan) (event : Event) (earlier : List Event) (ends : IsNewestEvent plan event earlier) where
  since_at : (seat : Seat) → slice_get event.before.seats event.client ≡ Some seat → IsSeatSince earlier event.client seat
  since_at seat at = seats_since plan ends.first ends.opening earlier event.before ends.events.2 event.client seat at

  since_now : (server : ℕ) (stop : Option ℕ) (seat later : Seat) → slice_get event.before.seats event.client ≡ Some seat → (e : IsEventOf event server stop seat later) → IsSince (event ∷ earlier) event.client e.exchanged.work.front e.exchanged.task.snapshot
  since_now server stop seat later at e = event_since event earlier seat at (since_at seat at) server stop later e

  same_config : event.before.config ≡ plan.config
  same_config = ap (λ (p : Plan). p.config) (plan_along ends.first earlier event.before ends.events.2 ∙ ends.opening.plan_is)

  -- ---- a receipt

  listed_of : (listed : Listed) (server : ℕ) (stop : Option ℕ) (seat later : Seat) (e : IsEventOf event server stop seat later) → later.receipts ≡ seat.receipts ++ listed ∷ []
      → HasListed event.before.config event.client e.sent later (record e.exchanged.work { task = e.exchanged.task; ask = e.exchanged.next }) listed (is_done e.exchanged.next)
  listed_of listed server stop seat later e more =
      listed_after event.before.config event.client e.sent later (record e.exchanged.work { task = e.exchanged.task; ask = e.exchanged.next }) listed stop (is_done e.exchanged.next) e.exchanged.comes
      (more ∙ ap (λ (l : List Listed). l ++ listed ∷ []) (sym (sent_receipts event.before.config event.before.attempts (length (journal_before event)) seat e.sent seat.work seat.again e.at_work)))

  fronts_by : (listed : Listed) (server : ℕ) (stop : Option ℕ) (seat later : Seat) → slice_get event.before.seats event.client ≡ Some seat → IsEventOf event server stop seat later → later.receipts ≡ seat.receipts ++ listed ∷ []
      → (front : ℕ) × IsLengthAt (begins_call event.client) (event ∷ earlier) front × (listed.fronts ≡ fronts_of plan.config front)
  fronts_by listed server stop seat later at e more =
      (e.exchanged.work.front, (since_now server stop seat later at e).call, (listed_of listed server stop seat later e more).fronts ∙ ap (λ (C : Settings). fronts_of C e.exchanged.work.front) same_config)

  -- where the outcome comes from that the receipt tells
  record IsTold (listed : Listed) (old new : TaskView) (answer : Answer) : Type 0 where
    outcome : Outcome
    is : outcome_of listed.receipt ≡ outcome
    origin : HasOrigin old (learnt old answer) answer outcome
    conflicts : outcome.conflicts ≡ new.conflicts

  told_of : (listed : Listed) (server : ℕ) (stop : Option ℕ) (seat later : Seat) (e : IsEventOf event server stop seat later) → later.receipts ≡ seat.receipts ++ listed ∷ [] → IsTold listed e.exchanged.work.task e.exchanged.task e.exchanged.exchange.answer
  told_of listed server stop seat later e more =
      let h : HasListed event.before.config event.client e.sent later (record e.exchanged.work { task = e.exchanged.task; ask = e.exchanged.next }) listed (is_done e.exchanged.next) = listed_of listed server stop seat later e more in
      let origin : (outcome : Outcome) × (e.exchanged.task.outcome ≡ Some outcome) × HasOrigin e.exchanged.work.task (learnt e.exchanged.work.task e.exchanged.exchange.answer) e.exchanged.exchange.answer outcome × (outcome.conflicts ≡ e.exchanged.task.conflicts)
      = done_origin e.exchanged.work.task e.exchanged.task e.exchanged.exchange.answer e.exchanged.next h.ended e.exchanged.exchange.asks in
      let same : h.learned.outcome ≡ origin.0 = same_Some h.learned.outcome origin.0 (sym h.learned.is ∙ origin.1) in
      record {
        outcome = origin.0;
        is = ap outcome_of h.receipt ∙ (receipt_outcome e.sent.client e.exchanged.work.server h.learned.outcome e.sent.client.request h.learned.receipt h.learned.told ∙ same);
        origin = origin.2;
        conflicts = origin.3;
      }

  -- no entry has the reply
  begun_by : (listed : Listed) (server : ℕ) (stop : Option ℕ) (seat later : Seat) → slice_get event.before.seats event.client ≡ Some seat → IsEventOf event server stop seat later → later.receipts ≡ seat.receipts ++ listed ∷ [] → listed.receipt.committed ≡ false
      → IsLengthAt (begins_attempt event.client) (event ∷ earlier) listed.receipt.version
  begun_by listed server stop seat later at e more none =
      let told : IsTold listed e.exchanged.work.task e.exchanged.task e.exchanged.exchange.answer = told_of listed server stop seat later e more in
      let unmade : told.outcome.committed ≡ false = sym (ap (λ (o : Outcome). o.committed) told.is) ∙ none in
      let version : listed.receipt.version ≡ e.exchanged.task.snapshot
      = ap (λ (o : Outcome). o.version) told.is
      ∙ (uncommitted e.exchanged.work.task (learnt e.exchanged.work.task e.exchanged.exchange.answer) e.exchanged.exchange.answer told.outcome told.origin unmade
      ∙ done_snapshot e.exchanged.work.task e.exchanged.task e.exchanged.exchange.answer e.exchanged.next e.exchanged.exchange.asks) in
      subst (IsLengthAt (begins_attempt event.client) (event ∷ earlier)) (sym version) (since_now server stop seat later at e).attempt

  -- its conflicts are those that were met
  met_by : (listed : Listed) (pair : ℕ × Key) (server : ℕ) (stop : Option ℕ) (seat later : Seat) → slice_get event.before.seats event.client ≡ Some seat → slice_get event.after.seats event.client ≡ Some later → IsEventOf event server stop seat later → later.receipts ≡ seat.receipts ++ listed ∷ []
      → IsAmong pair listed.receipt.conflicts → IsMetIn event.client pair (event ∷ earlier)
  met_by listed pair server stop seat later was is e more among =
      let told : IsTold listed e.exchanged.work.task e.exchanged.task e.exchanged.exchange.answer = told_of listed server stop seat later e more in
      let pairs : listed.receipt.conflicts ≡ e.exchanged.task.conflicts = ap (λ (o : Outcome). o.conflicts) told.is ∙ told.conflicts in
      event_met pair event earlier seat later was is server stop e (seats_met pair plan ends.first ends.opening earlier event.before ends.events.2 event.client seat was) (subst (IsAmong pair) pairs among)

  -- ---- a conflict

  conflict_by : (entry : Entry) (version : ℕ) (key : Key) → HasAsked event (asks.Commit entry) (answers.Conflict version key) → IsLaterWrite event earlier entry.reads version key
  conflict_by entry version key a =
      let snapshot : ℕ = a.turn.exchanged.work.task.snapshot in
      let at_ask : IsAnswer event.before.config (journal_before event) (journal_after event) snapshot (asks.Commit entry) a.turn.exchanged.exchange.answer
      = subst (λ (x : Ask). IsAnswer event.before.config (journal_before event) (journal_after event) snapshot x a.turn.exchanged.exchange.answer) a.ask_is a.turn.exchanged.exchange.answered in
      let at_answer : IsAnswer event.before.config (journal_before event) (journal_after event) snapshot (asks.Commit entry) (answers.Conflict version key)
      = subst (λ (x : Answer). IsAnswer event.before.config (journal_before event) (journal_after event) snapshot (asks.Commit entry) x) a.answer_is at_ask in
      let told : IsSnapshot (length (journal_before event)) snapshot a.turn.exchanged.task.snapshot a.turn.exchanged.work.ask
      = after_snapshot event.before.config (journal_before event) (journal_after event) a.turn.exchanged.work.task a.turn.exchanged.task a.turn.exchanged.work.ask a.turn.exchanged.next a.turn.exchanged.exchange.answer a.turn.exchanged.exchange.answered a.turn.exchanged.exchange.asks in
      let kept : a.turn.exchanged.task.snapshot ≡ snapshot
      = subst (λ (x : Ask). MatchBool (is_begin x) (a.turn.exchanged.task.snapshot ≡ length (journal_before event)) (a.turn.exchanged.task.snapshot ≡ snapshot)) a.ask_is told in
      let later : IsFirstLater writes_of (journal_before event) snapshot entry.reads version (spelled_key key)
      = subst (λ (o : Option (ℕ × List ℕ)). IsFirstConflict writes_of (journal_before event) snapshot entry.reads o) at_answer.1 (first_later_first writes_of (journal_before event) snapshot entry.reads) in
      let behind : snapshot ≤ later.place = later.later in
      let numbered : version ≡ later.place + 1 = later.numbered in
      let inside : later.place < length (journal_before event) = slice_get_within (journal_before event) later.place later.entry later.there in
      let count : length (journal_before event) ≡ length event.before.objects.store.journal = length_entries event.before.objects.store.journal in
      record {
        snapshot = snapshot;
        begun = subst (IsLengthAt (begins_attempt event.client) (event ∷ earlier)) kept (since_now a.server a.stop a.seat a.later a.was a.turn).attempt;
        first = at_answer.1;
        after = omega arith;
        within = omega arith;
      }

pub fronts_begin : FrontsBeginCalls
fronts_begin plan event earlier listed ends told = fronts_by plan event earlier ends listed ends.events.1.event.server ends.events.1.event.stop told.seat told.later told.was (ends.events.1.event.own told.seat told.later told.was told.is) told.more

pub uncommitted_begun : UncommittedRepliesAreBegun
uncommitted_begun plan event earlier listed ends told none = begun_by plan event earlier ends listed ends.events.1.event.server ends.events.1.event.stop told.seat told.later told.was (ends.events.1.event.own told.seat told.later told.was told.is) told.more none

pub conflicts_met : ConflictsWereMet
conflicts_met plan event earlier listed pair ends told among = met_by plan event earlier ends listed pair ends.events.1.event.server ends.events.1.event.stop told.seat told.later told.was told.is (ends.events.1.event.own told.seat told.later told.was told.is) told.more among

pub conflicts_later : ConflictsAreLater
conflicts_later plan event earlier entry version key ends a = conflict_by plan event earlier ends entry version key a

pub undisturbed : UndisturbedAttemptsMeetNone
undisturbed plan event earlier entry version key ends alone a =
    let later : IsLaterWrite event earlier entry.reads version key = conflicts_later plan event earlier entry version key ends a in
    let same : later.snapshot ≡ length event.before.objects.store.journal = same_length (begins_attempt event.client) (event ∷ earlier) later.snapshot (length event.before.objects.store.journal) later.begun alone in
    let behind : later.snapshot < version = later.after in
    let within : version ≤ length event.before.objects.store.journal = later.within in
    omega arith
