-- What a turn's event does.
use Rattle.std.proofs.Common.{◌≡◌, ◌≢◌, ℕ, ◌+◌, inl, inr, List, Option, Some, None, Bool, true, false, cond, eqb, length, option_map, sym, refl, ap, subst, ◌∙◌}
use Rattle.std.specs.Prelude.{slice_get}
use Rattle.std.proofs.lemmas.Bool.{cases_Bool}
use Rattle.std.proofs.lemmas.Option.{same_Some}
use Rattle.fs_base.specs.Config.{Settings}
use Rattle.txn_task.specs.declared.messages.Entry.{Entry}
use Rattle.client_core.specs.Client.{ClientView, send}
use Rattle.client_core.specs.declared.messages.ClientAsk.{ClientAsk}
use Rattle.client_core.specs.declared.plan.Op.{Op}
use Rattle.client_core.specs.declared.plan.Stop.{Stop}
use Rattle.seat_turns.specs.Events.{IsAtWork, IsEvent, IsTurnOf, after_stop, lost_at, taken_away}
use Rattle.seat_turns.specs.Left.{IsOneMore, KeepsOthers, SeatsGoOn}
use Rattle.seat_turns.specs.declared.seats.Seat.{Seat}
use Rattle.seat_turns.specs.declared.seats.Work.{Work}
use Rattle.seat_turns.specs.declared.servers.ServerCounts.{ServerCounts}
use Rattle.seat_turns.proofs.Coming.{op_again, op_comes}

-- a server works on a request
pub work_there : (C : Settings) (attempts front : ℕ) (before after : Seat) (w : Option Work) (a : Option ℕ) → before.work ≡ w → IsAtWork C attempts front before after w a → (work : Work) × (after.work ≡ Some work)
work_there C attempts front before after (Some work) a is h = (work, ap (λ (s : Seat). s.work) h ∙ is)
work_there C attempts front before after None (Some again) is h = (_, ap (λ (s : Seat). s.work) h.sends)
work_there C attempts front before after None None is h = (_, h.work)

-- sending ends no operation
op_sent : (C : Settings) (attempts front : ℕ) (before after : Seat) (w : Option Work) (a : Option ℕ) → IsAtWork C attempts front before after w a → after.client.op ≡ before.client.op
op_sent C attempts front before after (Some work) a h = ap (λ (s : Seat). s.client.op) h
op_sent C attempts front before after None (Some again) h = ap (λ (s : Seat). s.client.op) h.sends
op_sent C attempts front before after None None h = ap (λ (sent : ClientView × ClientAsk). sent.0.op) (sym h.sends) ∙ same before.client _
  where
    same : (c : ClientView) (o : Option Op) → (send c o).0.op ≡ c.op
    same c None = refl
    same c (Some step) = refl

pub op_event : (C : Settings) (attempts k server : ℕ) (stop : Option ℕ) (old new : List Entry) (before after : Seat) → IsEvent C attempts k server stop old new before after → IsOneMore before.client.op after.client.op
op_event C attempts k server stop old new before after event =
    subst (λ n. IsOneMore n after.client.op) (op_sent C attempts _ before event.sent before.work before.again event.at_work) (op_comes C k event.sent after _ stop _ event.exchanged.comes)

-- nor does a stop
pub op_stop : (server : ℕ) (stop : Option ℕ) (seat : Seat) → (after_stop server stop seat).client.op ≡ seat.client.op
op_stop server None seat = refl
op_stop server (Some stop) seat = by_work seat.work
  where
    by_work : (w : Option Work) → (lost_at server stop seat w).client.op ≡ seat.client.op
    by_work None = refl
    by_work (Some work) = elim (cases_Bool (eqb work.server server)) [
      | inl same ↦
          ap (λ b. (cond b (taken_away stop work seat) seat).client.op) same
          ∙ op_again seat.client (work.server, stop) seat.client.request
      | inr other ↦ ap (λ b. (cond b (taken_away stop work seat) seat).client.op) other
    ]

-- a turn over all clients ends one operation at most, of its own client
pub turn_goes_on : (C : Settings) (attempts k : ℕ) (stops : List Stop) (old new : List Entry) (counts later : List ServerCounts) (before after : List Seat)
    → IsTurnOf C attempts k stops old new counts later before after → SeatsGoOn before after k
turn_goes_on C attempts k stops old new counts later before after turn =
    record { others = others; own = λ seat next at_seat at_next. op_event C attempts k turn.server turn.stop old new seat next (turn.own seat next at_seat at_next) }
  where
    others : KeepsOthers before after k
    others j apart seat next at_seat at_next =
        let is : after_stop turn.server turn.stop seat ≡ next
        = same_Some (after_stop turn.server turn.stop seat) next (sym (turn.others j apart ∙ ap (option_map (after_stop turn.server turn.stop)) at_seat) ∙ at_next) in
        sym (ap (λ (s : Seat). s.client.op) is) ∙ op_stop turn.server turn.stop seat
