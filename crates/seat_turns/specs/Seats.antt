-- All clients of a world, and what holds of them after every turn.
use Rattle.std.specs.Prelude.{◌≡◌, ℕ, List, [], ◌∷◌, ◌++◌, true, map, slice_get, Some, None}
use Rattle.fs_base.specs.Config.{Settings}
use Rattle.txn_task.specs.declared.messages.Entry.{Entry}
use Rattle.client_core.specs.Client.{has_ended, new_client}
use Rattle.client_core.specs.declared.plan.Script.{Script}
use Rattle.client_core.specs.declared.plan.Stop.{Stop}
use Rattle.run_record.specs.Legal.{EntryAt}
use Rattle.run_record.specs.declared.run.Listed.{Listed}
use Rattle.request_run.specs.Served.{AreCovered}
use Rattle.seat_turns.specs.Kept.{IsSeat}
use Rattle.seat_turns.specs.Servers.{AreCounted}
use Rattle.seat_turns.specs.declared.servers.ServerCounts.{ServerCounts}
use Rattle.seat_turns.specs.declared.seats.Seat.{Seat}

abbrev pub scripts_of_seats : List Seat → List Script
scripts_of_seats seats = map (λ seat. seat.client.script) seats

-- what holds of each client
abbrev pub AllSeats : Settings → ℕ → List Stop → List Entry → List Seat → Type 0
AllSeats C attempts stops journal seats =
    (k : ℕ) (seat : Seat) → slice_get seats k ≡ Some seat → IsSeat C attempts stops journal k seat

-- each entry is a client's
abbrev pub AreOwned : List Entry → List Seat → Type 0
AreOwned journal seats =
    (place : ℕ) (entry : Entry) → EntryAt journal place entry → (k : ℕ) × (seat : Seat)
    × (slice_get seats k ≡ Some seat) × (entry.request.client ≡ seat.client.script.id)

pub record AreSeated (C : Settings) (attempts : ℕ) (stops : List Stop) (counts : List ServerCounts)
    (journal : List Entry) (seats : List Seat) : Type 0 where
  pub all : AllSeats C attempts stops journal seats
  pub owned : AreOwned journal seats
  pub covered : AreCovered C journal
  pub counted : AreCounted C stops journal counts

-- each client's script has ended
abbrev pub HaveEnded : List Seat → Type 0
HaveEnded seats = (k : ℕ) (seat : Seat) → slice_get seats k ≡ Some seat → has_ended seat.client ≡ true

-- all receipts, client by client
abbrev pub receipts_in : List Seat → List Listed
receipts_in [] = []
receipts_in (seat ∷ seats) = seat.receipts ++ receipts_in seats

-- a client that has done nothing yet
abbrev pub new_seat : Settings → Script → Seat
new_seat C script = record { client = new_client C script; work = None; again = None; receipts = [] }

abbrev pub seats_of : Settings → List Script → List Seat
seats_of C scripts = map (λ script. new_seat C script) scripts
