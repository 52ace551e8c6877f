-- Moments in a list of events: where a call began, where an attempt began, and what an event told.
use Rattle.std.specs.Prelude.{◌≡◌, ◌⊎◌, ℕ, ◌==◌, ◌&&◌, List, [], ◌∷◌, ◌++◌, Option, Some, None, Bool, true, false, length, slice_get, MatchBool, if◌then◌else◌}
use Rattle.key_schema.specs.declared.key.Key.{Key}
use Rattle.txn_task.specs.declared.messages.Answer.{Answer}
use Rattle.txn_task.specs.declared.messages.Answer.TheVariants as answers
use Rattle.txn_task.specs.declared.messages.Ask.{Ask}
use Rattle.txn_task.specs.declared.messages.Ask.TheVariants as asks
use Rattle.txn_task.specs.declared.messages.Entry.{Entry}
use Rattle.run_record.specs.declared.run.Listed.{Listed}
use Rattle.request_run.specs.Entries.{entries_of}
use Rattle.world_core.specs.EventList.{Event}
use Rattle.seat_turns.specs.Events.{IsEvent}
use Rattle.seat_turns.specs.Servers.{has_made}
use Rattle.seat_turns.specs.declared.seats.Seat.{Seat}
use Rattle.seat_turns.specs.declared.seats.Work.{Work}

-- ---- what a client's next event does first

-- it sends the next request, since no call is under way
abbrev pub is_at_rest : Option Work → Option ℕ → Bool
is_at_rest None None = true
is_at_rest work again = false

abbrev pub is_free : Seat → Bool
is_free seat = is_at_rest seat.work seat.again

-- it begins an attempt: of the request that it sends, for the first time or again, or of the one under way
abbrev pub is_begin : Ask → Bool
is_begin asks.Begin = true
is_begin ask = false

abbrev pub next_ask : Option Work → Ask
next_ask None = asks.Begin
next_ask (Some work) = work.ask

abbrev pub is_beginning : Seat → Bool
is_beginning seat = is_begin (next_ask seat.work)

-- ---- the events that do so

abbrev pub has_seat : (Seat → Bool) → Option Seat → Bool
has_seat test None = false
has_seat test (Some seat) = test seat

abbrev pub is_of : (Seat → Bool) → ℕ → Event → Bool
is_of test client event = (event.client == client) && has_seat test (slice_get event.before.seats client)

-- the event is the first of a call of the client
abbrev pub begins_call : ℕ → Event → Bool
begins_call client event = is_of is_free client event

-- the event's ask is a Begin of the client
abbrev pub begins_attempt : ℕ → Event → Bool
begins_attempt client event = is_of is_beginning client event

-- ---- servers

-- the client's request is at this server, or its next one goes there
abbrev pub is_at : ℕ → Seat → Bool
is_at server seat = seat.client.server == server

-- the event's ask is one of this server
abbrev pub asks_server : ℕ → Event → Bool
asks_server server event = has_seat (is_at server) (slice_get event.before.seats event.client)

-- the event has made an entry
abbrev pub makes_entry : Event → Bool
makes_entry event =
    has_made (entries_of event.before.objects.store.journal) (entries_of event.after.objects.store.journal)

-- ---- lists

-- one of these events passes the test, and just before the newest that does the journal had this length
abbrev pub IsLengthAt : (Event → Bool) → List Event → ℕ → Type 0
IsLengthAt test [] count = ⊥
IsLengthAt test (event ∷ earlier) count =
    MatchBool (test event) (count ≡ length event.before.objects.store.journal) (IsLengthAt test earlier count)

-- the events before the newest that passes the test
abbrev pub events_before : (Event → Bool) → List Event → List Event
events_before test [] = []
events_before test (event ∷ earlier) = if test event then earlier else events_before test earlier

-- one of these is this one
abbrev pub IsAmong : {X : Type 0} → X → List X → Type 0
IsAmong one [] = ⊥
IsAmong one (other ∷ others) = (one ≡ other) ⊎ IsAmong one others

-- ---- what an event told

-- the ask was answered so
pub record HasAsked (event : Event) (ask : Ask) (answer : Answer) : Type 0 where
  pub seat : Seat
  pub later : Seat
  pub was : slice_get event.before.seats event.client ≡ Some seat
  pub is : slice_get event.after.seats event.client ≡ Some later
  -- by this server, behind which this stop came
  pub server : ℕ
  pub stop : Option ℕ
  pub turn : IsEvent event.before.config event.before.attempts event.client server stop
      (entries_of event.before.objects.store.journal) (entries_of event.after.objects.store.journal) seat
      later
  pub ask_is : turn.exchanged.work.ask ≡ ask
  pub answer_is : turn.exchanged.exchange.answer ≡ answer

-- the client learned what its call had come to, and kept this receipt
pub record HasTold (event : Event) (listed : Listed) : Type 0 where
  pub seat : Seat
  pub later : Seat
  pub was : slice_get event.before.seats event.client ≡ Some seat
  pub is : slice_get event.after.seats event.client ≡ Some later
  pub more : later.receipts ≡ seat.receipts ++ listed ∷ []

-- the client learned so in one of these events
abbrev pub IsToldIn : ℕ → Listed → List Event → Type 0
IsToldIn client listed [] = ⊥
IsToldIn client listed (event ∷ earlier) =
    ((event.client ≡ client) × HasTold event listed) ⊎ IsToldIn client listed earlier

-- an attempt of the client met this conflict
pub record MeetsConflict (client : ℕ) (pair : ℕ × Key) (event : Event) : Type 0 where
  pub own : event.client ≡ client
  pub entry : Entry
  pub asked : HasAsked event (asks.Commit entry) (answers.Conflict pair.0 pair.1)

-- so it was in one of these events, back to the first of the client's call
abbrev pub IsMetIn : ℕ → ℕ × Key → List Event → Type 0
IsMetIn client pair [] = ⊥
IsMetIn client pair (event ∷ earlier) =
    MeetsConflict client pair event ⊎ ((begins_call client event ≡ false) × IsMetIn client pair earlier)
