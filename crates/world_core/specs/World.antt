-- Clients and servers over one store.
use Rattle.std.specs.Prelude.{◌≡◌, ◌≤◌, ◌<◌, ℕ, zero, suc, List, [], Bool, true, false, length, slice_get, Some}
use Rattle.fs_base.specs.Config.{Settings}
use Rattle.fs_base.specs.declared.limits.TheConstants.{ATTEMPTS, CLIENTS, OPERATIONS, STOPS}
use Rattle.client_core.specs.Client.{has_ended}
use Rattle.client_core.specs.Plans.{AreDistinct, IsSchedule, ops_in}
use Rattle.client_core.specs.declared.plan.Plan.{Plan}
use Rattle.client_core.specs.declared.plan.Schedule.{Schedule}
use Rattle.client_core.specs.declared.plan.Schedule.TheVariants.{Items}
use Rattle.client_core.specs.declared.plan.Stop.{Stop}
use Rattle.request_run.specs.Entries.{entries_of}
use Rattle.request_run.specs.Sound.{IsStoreOpening}
use Rattle.seat_turns.specs.Events.{IsTurnOf}
use Rattle.seat_turns.specs.Left.{EndsOne, SeatsGoOn, Stays}
use Rattle.seat_turns.specs.Seats.{AreSeated, scripts_of_seats, seats_of}
use Rattle.seat_turns.specs.Servers.{counts_of}
use Rattle.seat_turns.specs.declared.seats.Seat.{Seat}
use Rattle.seat_turns.specs.declared.servers.ServerCounts.{ServerCounts}
use Rattle.world_core.specs.Objects.{IsStep, Objects}
use Rattle.world_core.specs.declared.world.Turn.{Turn}
use Rattle.world_core.specs.declared.world.Turn.TheVariants as turns

pub record WorldView : Type 0 where
  pub config : Settings
  pub attempts : ℕ
  pub objects : Objects
  pub seats : List Seat
  -- what each server has done
  pub counts : List ServerCounts
  pub stops : List Stop
  pub schedule : Schedule
  -- whether memory was wanting
  pub failed : Bool

-- the plan whose run this is
abbrev pub plan_of_world : WorldView → Plan
plan_of_world w =
    record {
      config = w.config;
      attempts = w.attempts;
      clients = scripts_of_seats w.seats;
      stops = w.stops;
      schedule = w.schedule;
    }

-- What every world keeps; where memory was wanting nothing is said of its clients.
pub record IsWorld (w : WorldView) : Type 0 where
  pub config : w.objects.store.config ≡ w.config
  pub opened : IsStoreOpening w.objects.store
  pub attempts_from : 1 ≤ w.attempts
  pub attempts_to : w.attempts ≤ ATTEMPTS
  pub distinct : AreDistinct (scripts_of_seats w.seats)
  pub few : length w.seats ≤ CLIENTS
  pub short : ops_in (scripts_of_seats w.seats) ≤ OPERATIONS
  pub few_stops : length w.stops ≤ STOPS
  pub schedule : IsSchedule (length w.seats) w.schedule
  pub seated : w.failed ≡ false
      → AreSeated w.config w.attempts w.stops w.counts (entries_of w.objects.store.journal) w.seats

-- a world of this plan in which nothing has happened yet
pub record IsOpening (plan : Plan) (w : WorldView) : Type 0 where
  pub plan_is : plan_of_world w ≡ plan
  pub seats : w.seats ≡ seats_of plan.config plan.clients
  pub counts : w.counts ≡ counts_of plan.config
  pub none : w.objects.store.journal ≡ []

-- ---- turns

-- whether the client has nothing under way and nothing left
abbrev pub HasEnded : WorldView → ℕ → Bool → Type 0
HasEnded w client ended = (seat : Seat) → slice_get w.seats client ≡ Some seat → has_ended seat.client ≡ ended

-- one event of the client: an ask, and a stop right behind it exactly where one is due
abbrev pub HasEvent : WorldView → WorldView → ℕ → Type 0
HasEvent old new client =
    IsTurnOf old.config old.attempts client old.stops (entries_of old.objects.store.journal)
    (entries_of new.objects.store.journal) old.counts new.counts old.seats new.seats

-- a turn that went on: one event of the client. The plan stays, the objects take at most one step, and memory
-- sufficed
pub record HasGone (old new : WorldView) (client : ℕ) : Type 0 where
  pub within : client < length old.seats
  pub left : HasEnded old client false
  pub seats : SeatsGoOn old.seats new.seats client
  pub event : HasEvent old new client
  pub same_plan : plan_of_world new ≡ plan_of_world old
  pub objects : (seat : Seat) → slice_get old.seats client ≡ Some seat
      → IsStep old.objects new.objects seat.client.script.id
  pub was_alive : old.failed ≡ false
  pub alive : new.failed ≡ false
  pub world : IsWorld new

-- where it has nothing left nothing changes
abbrev pub IsTurn : WorldView → WorldView → ℕ → Turn → Type 0
IsTurn old new client turns.Idle = HasEnded old client true × (new ≡ old)
IsTurn old new client turns.Went = HasGone old new client

-- so many turns of the client, each of which went on
abbrev pub AreTurns : WorldView → WorldView → ℕ → ℕ → Type 0
AreTurns old new client zero = new ≡ old
AreTurns old new client (suc count) =
    (mid : WorldView) × AreTurns old mid client count × IsTurn mid new client turns.Went

-- turns of the client of which the last one alone ends an operation
pub record IsOperation (old new : WorldView) (client : ℕ) : Type 0 where
  pub count : ℕ
  pub mid : WorldView
  pub before : AreTurns old mid client count
  pub none : Stays old.seats mid.seats client
  pub last : IsTurn mid new client turns.Went

abbrev pub IsOpTurn : WorldView → WorldView → ℕ → Turn → Type 0
IsOpTurn old new client turns.Idle = HasEnded old client true × (new ≡ old)
IsOpTurn old new client turns.Went =
    HasEnded old client false × EndsOne old.seats new.seats client × IsOperation old new client

abbrev pub schedule_items : Schedule → List ℕ
schedule_items (Items items) = items
