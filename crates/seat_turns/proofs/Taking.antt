-- A stop of its server takes a client's request away.
use Rattle.std.proofs.Common.{◌≡◌, ◌⊎◌, ℕ, ◌<◌, ◌≤◌, ◌+◌, inl, inr, List, [], ◌∷◌, ◌++◌, All, Option, Some, None, true, false, cond, eqb, refl, sym, ap, subst, ◌∙◌}
use Rattle.std.proofs.lemmas.Bool.{cases_Bool, eqb-true}
use Rattle.std.proofs.lemmas.List.Elements.{All-push}
use Rattle.fs_base.specs.Config.{Settings}
use Rattle.fs_base.specs.declared.call.Request.{Request}
use Rattle.txn_task.specs.declared.messages.Entry.{Entry}
use Rattle.client_core.specs.Client.{ClientView, client_step, new_client, send_again, sent_to, server_after}
use Rattle.client_core.specs.Courses.{IsFrom, after_courses, gone_at, sent_again}
use Rattle.client_core.specs.Plans.{IsScript}
use Rattle.client_core.specs.declared.messages.ClientAnswer.TheVariants as answers
use Rattle.client_core.specs.declared.messages.ClientAsk.{ClientAsk}
use Rattle.client_core.specs.declared.messages.ClientAsk.TheVariants as client_asks
use Rattle.client_core.specs.declared.plan.Stop.{Stop}
use Rattle.client_core.proofs.Courses.{again_push}
use Rattle.run_record.specs.Receipts.{HasStopped, newest_seen}
use Rattle.run_record.specs.Stops.{IsPlannedStop}
use Rattle.run_record.specs.declared.run.Listed.{Listed}
use Rattle.run_record.proofs.Stopping.{HasStopped-push, HasStopped_new}
use Rattle.request_run.specs.Served.{EachOf, HasMetConflicts}
use Rattle.request_run.proofs.Ending.{met_again}
use Rattle.seat_turns.specs.Events.{lost_at, taken_away}
use Rattle.seat_turns.specs.Kept.{IsCall, IsNamed, IsPast, IsSeat, IsUnheard}
use Rattle.seat_turns.specs.declared.seats.Seat.{Seat}
use Rattle.seat_turns.specs.declared.seats.Work.{Work}
use Rattle.seat_turns.proofs.Working.{Works, work_of}

-- what is known of the call under way: each entry that the client has made since the front was made at the present
-- server, or was known of before
pub record IsKnown (stops : List Stop) (journal : List Entry) (client : ClientView) (receipts : List Listed) (front : ℕ) : Type 0 where
  pub from : newest_seen 0 receipts ≤ front
  pub named : EachOf journal client.script.id (λ place e. place < front → IsNamed stops journal receipts place e)
  pub since : EachOf journal client.script.id
      (λ place e. front ≤ place → (e.request.server ≡ client.server) ⊎ IsUnheard stops journal client place e)

pub known_of : (stops : List Stop) (journal : List Entry) (client : ClientView) (receipts : List Listed) (front : ℕ)
    → IsCall stops journal client receipts front → IsKnown stops journal client receipts front
known_of stops journal client receipts front h =
    record { from = h.from; named = h.named; since = λ place e at mine l. inr (h.unheard place e at mine l) }

module _ (C : Settings) (attempts : ℕ) (stops : List Stop) (journal : List Entry) (k : ℕ) (client : ClientView) (receipts : List Listed)
    (request : Request) (is : client.request ≡ Some request) (front stop : ℕ) (planned : All (IsPlannedStop stops journal) client.gone)
    (one : IsPlannedStop stops journal (client.server, stop)) where
  -- the client once it has learned so
  abbrev now : ClientView
  now = (send_again client (client.server, stop) (Some request)).0

  abbrev again : Request
  again = sent_to request (server_after client.config client.server)

  past_taken : IsPast C attempts stops journal k client receipts → IsPast C attempts stops journal k now receipts
  past_taken past =
      let rest : ClientView = after_courses (new_client C client.script) past.courses in
      let going : IsFrom rest client (Some request) = subst (IsFrom rest client) is past.from in
      let sent : ClientView × ClientAsk = client_step rest answers.Next in
      record {
        courses = past.courses;
        told = past.told;
        from = (
          going.0 ++ stop ∷ [],
          again_push going.0 stop sent
              ∙ (ap (λ (p : ClientView × ClientAsk). client_step p.0 (gone_at p.1 stop)) going.1
              ∙ ap (send_again client (client.server, stop)) is),
        );
        ordinals = past.ordinals;
        each = past.each;
        planned = past.planned;
        rises = past.rises;
        within = past.within;
      }

  unheard_taken : (place : ℕ) (e : Entry) → (e.request.server ≡ client.server) ⊎ IsUnheard stops journal client place e
      → IsUnheard stops journal now place e
  unheard_taken place e (inl here) =
      let new : HasStopped now.gone e.request.server = HasStopped_new client.gone (client.server, stop) e.request.server (sym here) in
      record { sent = inr new; told = λ behind. new }
  unheard_taken place e (inr old) =
      record { sent = inr (was old.sent); told = λ behind. HasStopped-push client.gone (client.server, stop) e.request.server (old.told behind) }
    where
      was : (e.request.server ≡ client.server) ⊎ HasStopped client.gone e.request.server → HasStopped now.gone e.request.server
      was (inl here) = HasStopped_new client.gone (client.server, stop) e.request.server (sym here)
      was (inr gone) = HasStopped-push client.gone (client.server, stop) e.request.server gone

  pub taken : client.config ≡ C → IsScript C.servers client.script → IsPast C attempts stops journal k client receipts
      → IsKnown stops journal client receipts front → HasMetConflicts C journal request front []
      → IsSeat C attempts stops journal k (record { client = now; work = None; again = Some front; receipts = receipts })
  taken config script past known met =
      record {
        config = config;
        script = script;
        planned = All-push (IsPlannedStop stops journal) client.gone (client.server, stop) planned one;
        past = past_taken past;
        working = record {
          call = record {
            from = known.from;
            named = known.named;
            unheard = λ place e at mine l. unheard_taken place e (known.since place e at mine l);
          };
          met = met_again C journal request front [] again.server met;
        };
      }

-- the same of a seat, as an event has it
pub seat_taken : (C : Settings) (attempts : ℕ) (stops : List Stop) (journal : List Entry) (k : ℕ) (seat : Seat) (work : Work) (request : Request) (stop : ℕ)
    → seat.client.request ≡ Some request → work.server ≡ seat.client.server → All (IsPlannedStop stops journal) seat.client.gone
    → IsPlannedStop stops journal (work.server, stop) → seat.client.config ≡ C → IsScript C.servers seat.client.script
    → IsPast C attempts stops journal k seat.client seat.receipts → IsKnown stops journal seat.client seat.receipts work.front
    → HasMetConflicts C journal request work.front [] → IsSeat C attempts stops journal k (taken_away stop work seat)
seat_taken C attempts stops journal k seat work request stop is server planned one config script past known met =
    subst (λ (c : ClientView × ClientAsk). IsSeat C attempts stops journal k (record { client = c.0; work = None; again = Some work.front; receipts = seat.receipts }))
    (sym ((λ i. send_again seat.client (server i, stop) (is i))))
    (taken C attempts stops journal k seat.client seat.receipts request is work.front stop planned
    (subst (λ n. IsPlannedStop stops journal (n, stop)) server one) config script past known met)

-- what a stop does to any client
pub seat_lost : (C : Settings) (attempts : ℕ) (stops : List Stop) (journal : List Entry) (k : ℕ) (seat : Seat) (server stop : ℕ)
    → IsSeat C attempts stops journal k seat → IsPlannedStop stops journal (server, stop)
    → IsSeat C attempts stops journal k (lost_at server stop seat seat.work)
seat_lost C attempts stops journal k seat server stop h one = by_work seat.work refl
  where
    by_work : (w : Option Work) → seat.work ≡ w → IsSeat C attempts stops journal k (lost_at server stop seat w)
    by_work None is = h
    by_work (Some work) is = elim (cases_Bool (eqb work.server server)) [
      | inl same ↦
          (let works : Works C attempts stops journal k seat h work = work_of C attempts stops journal k seat h work is in
          let met = works.1.served.met in
          subst (λ b. IsSeat C attempts stops journal k (cond b (taken_away stop work seat) seat)) (sym same)
          (seat_taken C attempts stops journal k seat work works.0.0 stop works.0.1 works.1.server h.planned
          (subst (λ n. IsPlannedStop stops journal (n, stop)) (sym (eqb-true work.server server same)) one)
          h.config h.script h.past (known_of stops journal seat.client seat.receipts work.front works.1.call)
          (met_again C journal works.0.0 work.front work.task.conflicts works.0.0.server met)))
      | inr other ↦ subst (λ b. IsSeat C attempts stops journal k (cond b (taken_away stop work seat) seat)) (sym other) h
    ]
