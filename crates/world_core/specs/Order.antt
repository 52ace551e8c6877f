-- The order of a run's turns: as the schedule lists them, and then rounds.
use Rattle.std.specs.Prelude.{◌≡◌, ℕ, zero, suc, ◌-◌, true, false, nat_lt, length, List, Some, slice_get, MatchBool}
use Rattle.run_record.specs.declared.run.Record.{Record}
use Rattle.request_run.specs.Entries.{entries_of}
use Rattle.seat_turns.specs.Left.{has_left}
use Rattle.seat_turns.specs.Seats.{receipts_in}
use Rattle.world_core.specs.World.{IsOpTurn, IsTurn, WorldView, schedule_items}
use Rattle.world_core.specs.declared.world.Turn.{Turn}

-- ---- the schedule

-- below 100 a turn of that client; else a whole operation of the client whose number is 100 less
abbrev pub IsItem : WorldView → WorldView → ℕ → Type 0
IsItem old new item =
    MatchBool (nat_lt item 100) ((turn : Turn) × IsTurn old new item turn)
    ((turn : Turn) × IsOpTurn old new (item - 100) turn)

-- so many of the items, one after another
abbrev pub AreItems : List ℕ → WorldView → WorldView → ℕ → Type 0
AreItems items old new zero = new ≡ old
AreItems items old new (suc place) =
    (mid : WorldView) × AreItems items old mid place
    × ((item : ℕ) → slice_get items place ≡ Some item → IsItem mid new item)

-- ---- rounds

-- a whole operation of each of the first clients that has one left; one that listed turns have left under
-- way is ended first, and is that client's
abbrev pub IsRoundTo : WorldView → WorldView → ℕ → Type 0
IsRoundTo old new zero = new ≡ old
IsRoundTo old new (suc client) =
    (mid : WorldView) × IsRoundTo old mid client × ((turn : Turn) × IsOpTurn mid new client turn)

abbrev pub IsRound : WorldView → WorldView → Type 0
IsRound old new = IsRoundTo old new (length old.seats)

-- so many rounds, each of which begins where some client has something left
abbrev pub AreRounds : WorldView → WorldView → ℕ → Type 0
AreRounds old new zero = new ≡ old
AreRounds old new (suc rounds) =
    (mid : WorldView) × AreRounds old mid rounds × (has_left mid.seats ≡ true) × IsRound mid new

-- ---- the run

-- all items of the schedule, and then rounds until no client has anything left
pub record IsOrdered (old new : WorldView) : Type 0 where
  pub mid : WorldView
  pub items : AreItems (schedule_items old.schedule) old mid (length (schedule_items old.schedule))
  pub count : ℕ
  pub rounds : AreRounds mid new count
  pub none : has_left new.seats ≡ false

-- what was kept of the world
pub record IsWorldRecord (w : WorldView) (run : Record) : Type 0 where
  pub receipts : run.receipts ≡ receipts_in w.seats
  pub entries : run.entries ≡ entries_of w.objects.store.journal
