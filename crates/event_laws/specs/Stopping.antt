-- What servers count over a list of events, and what a stop does to the clients whose requests were there.
use Rattle.std.specs.Prelude.{◌≡◌, ◌≢◌, ◌⊎◌, ℕ, ◌+◌, List, [], ◌∷◌, ◌++◌, Some, None, true, count_by, slice_get}
use Rattle.run_record.specs.Stops.{entries_by}
use Rattle.request_run.specs.Entries.{entries_of}
use Rattle.world_core.specs.EventList.{Event}
use Rattle.world_core.specs.World.{WorldView}
use Rattle.seat_turns.specs.declared.seats.Seat.{Seat}
use Rattle.seat_turns.specs.declared.seats.Work.{Work}
use Rattle.seat_turns.specs.declared.servers.ServerCounts.{ServerCounts}
use Rattle.event_laws.specs.Moments.{IsLengthAt, asks_server, begins_call}

-- ---- counts

-- so many of the events were asks of the server, and so many of the world's entries are its own
pub record HasCountedEvents (events : List Event) (w : WorldView) (server : ℕ)
    (counts : ServerCounts) : Type 0 where
  pub asks : counts.asks ≡ count_by (asks_server server) events
  pub commits : counts.commits ≡ entries_by server (entries_of w.objects.store.journal)

-- ---- a stop

-- the client is in the world before the event, and there after it
pub record IsSeatOf (event : Event) (client : ℕ) (before after : Seat) : Type 0 where
  pub was : slice_get event.before.seats client ≡ Some before
  pub is : slice_get event.after.seats client ≡ Some after

-- a server works on a request of the client as the event's answer comes
abbrev pub IsServedBy : ℕ → Event → ℕ → Seat → Type 0
IsServedBy server event client seat =
    ((client ≡ event.client) × (asks_server server event ≡ true))
    ⊎ ((client ≢ event.client) × ((work : Work) × (seat.work ≡ Some work) × (work.server ≡ server)))

-- the client has learned of this stop of its server: nothing is kept of what its request had met, and its
-- call goes on from where it began
pub record HasLost (events : List Event) (client server number : ℕ) (before after : Seat) : Type 0 where
  pub gone : after.client.gone ≡ before.client.gone ++ (server, number) ∷ []
  pub work : after.work ≡ None
  pub front : ℕ
  pub again : after.again ≡ Some front
  pub begun : IsLengthAt (begins_call client) events front
  pub receipts : after.receipts ≡ before.receipts

-- The server stops right behind the event, and counts it: each client whose request it worked on has lost it,
-- and each other is as it was, so that no request is there any more.
pub record HasStoppedBehind (event : Event) (earlier : List Event) (server : ℕ)
    (old new : ServerCounts) : Type 0
  where
    pub counted : new.stops ≡ old.stops + 1
    pub lost : (client : ℕ) (before after : Seat) → IsSeatOf event client before after
        → IsServedBy server event client before
        → HasLost (event ∷ earlier) client server new.stops before after
    pub kept : (client : ℕ) (before after : Seat) → IsSeatOf event client before after
        → (IsServedBy server event client before → ⊥) → after ≡ before
    pub none : (client : ℕ) (after : Seat) (work : Work) → slice_get event.after.seats client ≡ Some after
        → after.work ≡ Some work → work.server ≢ server

-- it goes on: each client but the one that asked is as it was, and that one's request isn't taken away
pub record GoesOnBehind (event : Event) (old new : ServerCounts) : Type 0 where
  pub counted : new.stops ≡ old.stops
  pub kept : (client : ℕ) → client ≢ event.client
      → slice_get event.after.seats client ≡ slice_get event.before.seats client
  pub own : (before after : Seat) → IsSeatOf event event.client before after → after.again ≡ None
