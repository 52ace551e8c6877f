-- Turns, items and rounds, one after another.
use Rattle.std.proofs.Common.{◌≡◌, ◌≢◌, ℕ, suc, ◌+◌, ◌<◌, inl, List, Some, length, Result, Ok, Err, refl, sym, ap, subst, ◌∙◌, arith}
use Rattle.std.specs.Prelude.{IfOk, slice_get}
use Rattle.std.proofs.lemmas.Option.{same_Some}
use Rattle.client_core.specs.declared.plan.Plan.{Plan}
use Rattle.run_record.specs.declared.run.Record.{Record}
use Rattle.request_run.specs.Entries.{entries_of}
use Rattle.run_record.proofs.History.{at_there}
use Rattle.seat_turns.specs.Left.{SeatsGoOn, Stays}
use Rattle.seat_turns.specs.Seats.{receipts_in}
use Rattle.seat_turns.specs.declared.seats.Seat.{Seat}
use Rattle.seat_turns.proofs.Ahead.{AreAheadTo, ahead_idle, ahead_went}
use Rattle.world_core.specs.Order.{AreItems, IsItem, IsWorldRecord, IsRoundTo}
use Rattle.world_core.specs.World.{AreTurns, IsOperation, IsOpTurn, IsTurn, WorldView, plan_of_world}
use Rattle.world_core.specs.declared.world.Turn.{Turn}
use Rattle.world_core.specs.declared.world.Turn.TheVariants as turns

-- ---- turns of one operation

-- a turn, whatever it did
pub turn_goes : (old new : WorldView) (k : ℕ) (turn : Turn) → IsTurn old new k turn → SeatsGoOn old.seats new.seats k
turn_goes old new k turns.Idle h = subst (λ (w : WorldView). SeatsGoOn old.seats w.seats k) (sym h.1) (record {
  others = λ j apart before after at_before at_after. ap (λ (s : Seat). s.client.op) (same_Some after before (sym at_after ∙ at_before));
  own = λ before after at_before at_after. inl (ap (λ (s : Seat). s.client.op) (same_Some after before (sym at_after ∙ at_before)));
})
turn_goes old new k turns.Went h = h.seats

-- one turn more, where it went on
pub turns_on : (old mid new : WorldView) (k : ℕ) (turn : Turn) → ((count : ℕ) × AreTurns old mid k count) → IsTurn mid new k turn → (count : ℕ) × AreTurns old new k count
turns_on old mid new k turns.Idle so_far h = (so_far.0, subst (λ (w : WorldView). AreTurns old w k so_far.0) (sym h.1) so_far.1)
turns_on old mid new k turns.Went so_far h = (suc so_far.0, (mid, so_far.1, h))

-- the last of an operation's turns
pub operation : (old mid new : WorldView) (k : ℕ) (turn : Turn) → k < length old.seats → k < length mid.seats → Stays old.seats mid.seats k → ((count : ℕ) × AreTurns old mid k count) → IsTurn mid new k turn
    → ((before after : Seat) → slice_get old.seats k ≡ Some before → slice_get new.seats k ≡ Some after → after.client.op ≢ before.client.op) → IsOperation old new k
operation old mid new k turns.Went from within none so_far h more = record { count = so_far.0; mid = mid; before = so_far.1; none = none; last = h }
operation old mid new k turns.Idle from within none so_far h more =
    let here = at_there mid.seats k within in
    let first = at_there old.seats k from in
    absurd (more first.0 here.0 first.1 (ap (λ (w : WorldView). slice_get w.seats k) h.1 ∙ here.1) (none.own first.0 here.0 first.1 here.1))

-- ---- items

-- the item that is listed
pub item_listed : (old new : WorldView) (items : List ℕ) (place item : ℕ) → slice_get items place ≡ Some item → IsItem old new item → (listed : ℕ) → slice_get items place ≡ Some listed → IsItem old new listed
item_listed old new items place item at h listed is = subst (IsItem old new) (same_Some item listed (sym at ∙ is)) h

pub kept_of : {E : Type 0} (w : WorldView) (r : Result Record E) → IfOk r (λ run. run.receipts ≡ receipts_in w.seats) → IfOk r (λ run. run.entries ≡ entries_of w.objects.store.journal) → IfOk r (IsWorldRecord w)
kept_of w (Ok run) receipts entries = record { receipts = receipts; entries = entries }
kept_of w (Err e) receipts entries = tt

-- ---- one more

plus_one : (n : ℕ) → suc n ≡ n + 1
plus_one n = omega arith

pub items_on : (items : List ℕ) (old mid new : WorldView) (place : ℕ) → AreItems items old mid place → ((item : ℕ) → slice_get items place ≡ Some item → IsItem mid new item) → AreItems items old new (place + 1)
items_on items old mid new place so_far h = subst (AreItems items old new) (plus_one place) (mid, so_far, h)

pub round_on : (old mid new : WorldView) (client : ℕ) (turn : Turn) → IsRoundTo old mid client → IsOpTurn mid new client turn → IsRoundTo old new (client + 1)
round_on old mid new client turn so_far h = subst (IsRoundTo old new) (plus_one client) (mid, so_far, (turn, h))

-- a whole operation, whatever it did
pub op_ahead : (rounds c : ℕ) (old new : WorldView) (turn : Turn) → c < length old.seats → plan_of_world new ≡ plan_of_world old → IsOpTurn old new c turn → AreAheadTo rounds c old.seats → AreAheadTo rounds (c + 1) new.seats
op_ahead rounds c old new turns.Idle l same h ahead = subst (λ (w : WorldView). AreAheadTo rounds (c + 1) w.seats) (sym h.1) (ahead_idle rounds c old.seats h.0 ahead)
op_ahead rounds c old new turns.Went l same h ahead = ahead_went rounds c old.seats new.seats l (ap (λ (p : Plan). p.clients) same) h.1 ahead
