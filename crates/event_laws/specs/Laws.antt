-- What holds of every list of events, as statements.
use Rattle.std.specs.Prelude.{◌≡◌, ◌≤◌, ◌<◌, ℕ, List, ◌∷◌, Some, true, false, length, slice_get, MatchBool}
use Rattle.std.specs.List.{list_any}
use Rattle.conflict_sets.specs.declared.sets.ReadSet.{ReadSet}
use Rattle.key_schema.specs.Keys.{spelled_key}
use Rattle.key_schema.specs.declared.key.Key.{Key}
use Rattle.kv_store.specs.Journal.{first_later}
use Rattle.txn_task.specs.declared.messages.Answer.{Answer}
use Rattle.txn_task.specs.declared.messages.Answer.TheVariants as answers
use Rattle.txn_task.specs.declared.messages.Ask.TheVariants as asks
use Rattle.txn_task.specs.declared.messages.Entry.{Entry}
use Rattle.client_core.specs.declared.plan.Plan.{Plan}
use Rattle.run_record.specs.Legal.{writes_of}
use Rattle.run_record.specs.Outcomes.{seen_by}
use Rattle.run_record.specs.Receipts.{fronts_of, outcome_of}
use Rattle.run_record.specs.declared.run.Listed.{Listed}
use Rattle.request_run.specs.Entries.{entries_of}
use Rattle.world_core.specs.EventList.{AreEvents, Event}
use Rattle.world_core.specs.Order.{IsOrdered}
use Rattle.world_core.specs.World.{HasGone, IsOpening, WorldView}
use Rattle.seat_turns.specs.Servers.{is_due}
use Rattle.seat_turns.specs.declared.seats.Seat.{Seat}
use Rattle.seat_turns.specs.declared.servers.ServerCounts.{ServerCounts}
use Rattle.event_laws.specs.Moments.{HasAsked, HasTold, IsAmong, IsLengthAt, IsMetIn, IsToldIn, asks_server, begins_attempt, begins_call, events_before, makes_entry, next_ask}
use Rattle.event_laws.specs.Stopping.{GoesOnBehind, HasCountedEvents, HasStoppedBehind}

-- ---- lists of events

-- the turns of a run are a list of events
abbrev pub RunsAreEvents : Type 0
RunsAreEvents = (old new : WorldView) → IsOrdered old new → (events : List Event) × AreEvents old events new

-- A list of events since nothing had happened, of which this is the newest. Without the newest ones it is
-- such a list too, so what holds of the newest event holds of each.
pub record IsNewestEvent (plan : Plan) (event : Event) (earlier : List Event) : Type 0 where
  pub first : WorldView
  pub opening : IsOpening plan first
  pub events : AreEvents first (event ∷ earlier) event.after

-- each receipt that a client has kept was told in one of its events
abbrev pub ReceiptsAreTold : Type 0
ReceiptsAreTold =
    (plan : Plan) (first last : WorldView) (events : List Event) → IsOpening plan first
    → AreEvents first events last
    → (client : ℕ) (seat : Seat) (listed : Listed) → slice_get last.seats client ≡ Some seat
    → IsAmong listed seat.receipts → IsToldIn client listed events

-- ---- what is new at an event

-- an event makes one ask, the one that waits, and it is answered
abbrev pub EventsAsk : Type 0
EventsAsk =
    (event : Event) (seat : Seat) → HasGone event.before event.after event.client
    → slice_get event.before.seats event.client ≡ Some seat
    → (answer : Answer) × HasAsked event (next_ask seat.work) answer

-- a Begin is answered with the journal's length
abbrev pub BeginsAreFresh : Type 0
BeginsAreFresh =
    (event : Event) (answer : Answer) → HasAsked event asks.Begin answer
    → answer ≡ answers.Begun (length event.before.objects.store.journal)

-- the fronts of a receipt are the journal's length just before its call's first event, and nothing of the
-- storage nodes
abbrev pub FrontsBeginCalls : Type 0
FrontsBeginCalls =
    (plan : Plan) (event : Event) (earlier : List Event) (listed : Listed) → IsNewestEvent plan event earlier
    → HasTold event listed
    → (front : ℕ) × IsLengthAt (begins_call event.client) (event ∷ earlier) front
    × (listed.fronts ≡ fronts_of plan.config front)

-- what any client had learned before a call began isn't newer than the reply to the call
abbrev pub RepliesRise : Type 0
RepliesRise =
    (plan : Plan) (event : Event) (earlier : List Event) (listed : Listed) → IsNewestEvent plan event earlier
    → HasTold event listed
    → (before : Event) (learned : Listed)
    → IsAmong before (events_before (begins_call event.client) (event ∷ earlier)) → HasTold before learned
    → seen_by (outcome_of learned.receipt) ≤ listed.receipt.version

-- a reply that no entry has is of the journal's length at its request's last Begin
abbrev pub UncommittedRepliesAreBegun : Type 0
UncommittedRepliesAreBegun =
    (plan : Plan) (event : Event) (earlier : List Event) (listed : Listed) → IsNewestEvent plan event earlier
    → HasTold event listed → listed.receipt.committed ≡ false
    → IsLengthAt (begins_attempt event.client) (event ∷ earlier) listed.receipt.version

-- ---- conflicts

-- each conflict of a receipt was met in an event of its call
abbrev pub ConflictsWereMet : Type 0
ConflictsWereMet =
    (plan : Plan) (event : Event) (earlier : List Event) (listed : Listed) (pair : ℕ × Key)
    → IsNewestEvent plan event earlier → HasTold event listed → IsAmong pair listed.receipt.conflicts
    → IsMetIn event.client pair (event ∷ earlier)

-- a conflict is the first later write of what was read, and later than the attempt's Begin
pub record IsLaterWrite (event : Event) (earlier : List Event) (reads : ReadSet) (version : ℕ)
    (key : Key) : Type 0
  where
    pub snapshot : ℕ
    pub begun : IsLengthAt (begins_attempt event.client) (event ∷ earlier) snapshot
    pub first : first_later writes_of (entries_of event.before.objects.store.journal) snapshot reads
        ≡ Some (version, spelled_key key)
    pub after : snapshot < version
    pub within : version ≤ length event.before.objects.store.journal

abbrev pub ConflictsAreLater : Type 0
ConflictsAreLater =
    (plan : Plan) (event : Event) (earlier : List Event) (entry : Entry) (version : ℕ) (key : Key)
    → IsNewestEvent plan event earlier → HasAsked event (asks.Commit entry) (answers.Conflict version key)
    → IsLaterWrite event earlier entry.reads version key

-- an attempt meets none where the journal is as it was at the attempt's Begin
abbrev pub UndisturbedAttemptsMeetNone : Type 0
UndisturbedAttemptsMeetNone =
    (plan : Plan) (event : Event) (earlier : List Event) (entry : Entry) (version : ℕ) (key : Key)
    → IsNewestEvent plan event earlier
    → IsLengthAt (begins_attempt event.client) (event ∷ earlier) (length event.before.objects.store.journal)
    → HasAsked event (asks.Commit entry) (answers.Conflict version key) → ⊥

-- ---- stops

-- what a server has counted is what the events and the journal have of it
abbrev pub CountsAreOfEvents : Type 0
CountsAreOfEvents =
    (plan : Plan) (event : Event) (earlier : List Event) (server : ℕ) (counts : ServerCounts)
    → IsNewestEvent plan event earlier → slice_get event.after.counts server ≡ Some counts
    → HasCountedEvents (event ∷ earlier) event.after server counts

-- an event changes nothing at the servers that it does not ask
abbrev pub UnaskedServersStay : Type 0
UnaskedServersStay =
    (plan : Plan) (event : Event) (earlier : List Event) (server : ℕ) → IsNewestEvent plan event earlier
    → asks_server server event ≡ false
    → slice_get event.after.counts server ≡ slice_get event.before.counts server

-- the server that is asked stops behind the event exactly where the plan has a stop at what it has counted by
-- then
abbrev pub StopsComeWhenDue : Type 0
StopsComeWhenDue =
    (plan : Plan) (event : Event) (earlier : List Event) (server : ℕ) (old new : ServerCounts)
    → IsNewestEvent plan event earlier → asks_server server event ≡ true
    → slice_get event.before.counts server ≡ Some old → slice_get event.after.counts server ≡ Some new
    → MatchBool (list_any (is_due server (makes_entry event) new) plan.stops)
    (HasStoppedBehind event earlier server old new) (GoesOnBehind event old new)
