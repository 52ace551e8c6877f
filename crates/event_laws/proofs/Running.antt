-- A run's turns, in their order, as one list of events.
use Rattle.std.proofs.Common.{◌≡◌, ℕ, zero, suc, ◌-◌, ◌<◌, ◌≤◌, Bool, true, false, nat_lt, List, [], ◌∷◌, ◌++◌, Some, length, refl, sym, subst, arith}
use Rattle.std.specs.Prelude.{MatchBool, slice_get}
use Rattle.world_core.specs.EventList.{AreEvents, Event}
use Rattle.world_core.specs.Order.{AreItems, AreRounds, IsItem, IsRoundTo}
use Rattle.world_core.specs.World.{AreTurns, HasGone, IsOpTurn, IsTurn, WorldView, schedule_items}
use Rattle.world_core.specs.declared.world.Turn.{Turn}
use Rattle.world_core.specs.declared.world.Turn.TheVariants as turns
use Rattle.event_laws.specs.Laws.{RunsAreEvents}

abbrev Happened : WorldView → WorldView → Type 0
Happened old new = (events : List Event) × AreEvents old events new

nothing : (old new : WorldView) → new ≡ old → Happened old new
nothing old new same = ([], same)

one : (old new : WorldView) (client : ℕ) → HasGone old new client → Happened old new
one old new client gone = (record { client = client; before = old; after = new } ∷ [], (refl, gone, refl))

-- ---- one after another

joined : (old mid new : WorldView) (a b : List Event) → AreEvents old a mid → AreEvents mid b new → AreEvents old (b ++ a) new
joined old mid new a [] x y = subst (AreEvents old a) (sym y) x
joined old mid new a (event ∷ b) x y = (y.0, y.1, joined old mid event.before a b x y.2)

both : (old mid new : WorldView) → Happened old mid → Happened mid new → Happened old new
both old mid new x y = (y.0 ++ x.0, joined old mid new x.0 y.0 x.1 y.1)

-- ---- turns and operations

of_turn : (old new : WorldView) (client : ℕ) (turn : Turn) → IsTurn old new client turn → Happened old new
of_turn old new client turns.Idle h = nothing old new h.1
of_turn old new client turns.Went h = one old new client h

of_turns : (old new : WorldView) (client count : ℕ) → AreTurns old new client count → Happened old new
of_turns old new client zero h = nothing old new h
of_turns old new client (suc count) h = both old h.0 new (of_turns old h.0 client count h.1) (one h.0 new client h.2)

of_op : (old new : WorldView) (client : ℕ) (turn : Turn) → IsOpTurn old new client turn → Happened old new
of_op old new client turns.Idle h = nothing old new h.1
of_op old new client turns.Went h = both old h.2.mid new (of_turns old h.2.mid client h.2.count h.2.before) (one h.2.mid new client h.2.last)

-- ---- the schedule

of_item : (old new : WorldView) (item : ℕ) → IsItem old new item → Happened old new
of_item old new item h = by_test (nat_lt item 100) h
  where
    by_test : (b : Bool) → MatchBool b ((turn : Turn) × IsTurn old new item turn) ((turn : Turn) × IsOpTurn old new (item - 100) turn) → Happened old new
    by_test true x = of_turn old new item x.0 x.1
    by_test false x = of_op old new (item - 100) x.0 x.1

item_there : (items : List ℕ) (place : ℕ) → place < length items → (item : ℕ) × (slice_get items place ≡ Some item)
item_there [] place l = absurd (omega arith)
item_there (item ∷ items) zero l = (item, refl)
item_there (item ∷ items) (suc place) l = item_there items place (omega arith)

of_items : (items : List ℕ) (old new : WorldView) (place : ℕ) → place ≤ length items → AreItems items old new place → Happened old new
of_items items old new zero l h = nothing old new h
of_items items old new (suc place) l h =
    let item : (n : ℕ) × (slice_get items place ≡ Some n) = item_there items place (omega arith) in
    both old h.0 new (of_items items old h.0 place (omega arith) h.1) (of_item h.0 new item.0 (h.2 item.0 item.1))

-- ---- rounds

of_round : (old new : WorldView) (client : ℕ) → IsRoundTo old new client → Happened old new
of_round old new zero h = nothing old new h
of_round old new (suc client) h = both old h.0 new (of_round old h.0 client h.1) (of_op h.0 new client h.2.0 h.2.1)

of_rounds : (old new : WorldView) (count : ℕ) → AreRounds old new count → Happened old new
of_rounds old new zero h = nothing old new h
of_rounds old new (suc count) h = both old h.0 new (of_rounds old h.0 count h.1) (of_round h.0 new (length h.0.seats) h.3)

pub runs_happen : RunsAreEvents
runs_happen old new h =
    both old h.mid new (of_items (schedule_items old.schedule) old h.mid (length (schedule_items old.schedule)) (omega arith) h.items) (of_rounds h.mid new h.count h.rounds)
