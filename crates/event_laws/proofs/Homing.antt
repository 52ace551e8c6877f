-- A client's requests are at its server.
use Rattle.std.proofs.Common.{◌≡◌, ℕ, Bool, true, false, cond, List, Option, Some, None, length, refl, sym, ap, subst, ◌∙◌}
use Rattle.std.specs.Prelude.{◌==◌, slice_get}
use Rattle.std.proofs.lemmas.Option.{same_Some}
use Rattle.fs_base.specs.Config.{Settings}
use Rattle.fs_base.specs.declared.call.Request.{Request}
use Rattle.txn_task.specs.declared.outcome.Outcome.{Outcome}
use Rattle.client_core.specs.Client.{ClientView, end_call, send, send_again, sent_to, server_after}
use Rattle.client_core.specs.declared.messages.ClientAsk.{ClientAsk}
use Rattle.client_core.specs.declared.messages.ClientAsk.TheVariants as client_asks
use Rattle.client_core.specs.declared.plan.Op.{Op}
use Rattle.client_core.specs.declared.plan.Plan.{Plan}
use Rattle.request_run.specs.Entries.{entries_of}
use Rattle.world_core.specs.EventList.{AreEvents, Event}
use Rattle.seat_turns.specs.Events.{Comes, IsAtWork, IsEvent, after_stop, lost_at, taken_away}
use Rattle.seat_turns.specs.Ready.{is_done}
use Rattle.world_core.specs.World.{IsOpening, WorldView}
use Rattle.seat_turns.specs.declared.seats.Seat.{Seat}
use Rattle.seat_turns.specs.declared.seats.Work.{Work}
use Rattle.event_laws.proofs.Along.{along}

-- a server works on the request under way: the client's server
pub record IsWorkHere (seat : Seat) (work : Work) : Type 0 where
  pub server : work.server ≡ seat.client.server
  pub request : Request
  pub under_way : seat.client.request ≡ Some request
  pub again : seat.again ≡ None

pub record IsHome (seat : Seat) : Type 0 where
  pub here : (request : Request) → seat.client.request ≡ Some request → request.server ≡ seat.client.server
  pub served : (work : Work) → seat.work ≡ Some work → IsWorkHere seat work

-- ---- a stop takes the request away

again_here : (c : ClientView) (stop : ℕ × ℕ) (o : Option Request) → c.request ≡ o → (request : Request) → (send_again c stop o).0.request ≡ Some request → request.server ≡ (send_again c stop o).0.server
again_here c stop None none request at = absurd (let no : None ≡ Some request = sym none ∙ at in cc)
again_here c stop (Some old) is request at = ap (λ (r : Request). r.server) (same_Some request (sent_to old (server_after c.config c.server)) (sym at))

pub taken_home : (stop : ℕ) (work : Work) (seat : Seat) → IsHome (taken_away stop work seat)
taken_home stop work seat = record {
  here = again_here seat.client (work.server, stop) seat.client.request refl;
  served = λ other at. absurd (let no : None ≡ Some other = at in cc);
}

lost_home : (server stop : ℕ) (seat : Seat) (w : Option Work) → IsHome seat → IsHome (lost_at server stop seat w)
lost_home server stop seat None home = home
lost_home server stop seat (Some work) home = by_server (work.server == server)
  where
    by_server : (b : Bool) → IsHome (cond b (taken_away stop work seat) seat)
    by_server true = taken_home stop work seat
    by_server false = home

stop_home : (server : ℕ) (stop : Option ℕ) (seat : Seat) → IsHome seat → IsHome (after_stop server stop seat)
stop_home server None seat home = home
stop_home server (Some stop) seat home = lost_home server stop seat seat.work home

-- ---- a request is sent

-- where it goes, and what stays of its client
record IsSentBy (c after : ClientView) (server : ℕ) (request : Request) : Type 0 where
  to : server ≡ c.server
  is_to : request.server ≡ c.server
  stays : after.server ≡ c.server
  gone : after.gone ≡ c.gone
  under_way : after.request ≡ Some request

sent_by : (c : ClientView) (o : Option Op) (after : ClientView) (server : ℕ) (request : Request) → send c o ≡ (after, client_asks.Send server request) → IsSentBy c after server request
sent_by c None after server request h = absurd (let no : client_asks.Ended ≡ client_asks.Send server request = ap (λ (p : ClientView × ClientAsk). p.1) h in cc)
sent_by c (Some step) after server request h =
    let ask : (send c (Some step)).1 ≡ client_asks.Send server request = ap (λ (p : ClientView × ClientAsk). p.1) h in
    let place : c.server ≡ server = cc in
    let what : _ ≡ request = cc in
    record {
      to = sym place;
      is_to = ap (λ (r : Request). r.server) (sym what);
      stays = ap (λ (p : ClientView × ClientAsk). p.0.server) (sym h);
      gone = ap (λ (p : ClientView × ClientAsk). p.0.gone) (sym h);
      under_way = ap (λ (p : ClientView × ClientAsk). p.0.request) (sym h) ∙ ap (λ (r : Request). Some r) what;
    }

-- the client whose request is at work
pub record IsSentHome (before sent : Seat) : Type 0 where
  pub home : IsHome sent
  pub server : sent.client.server ≡ before.client.server
  pub gone : sent.client.gone ≡ before.client.gone

pub sent_home : (C : Settings) (attempts count : ℕ) (before sent : Seat) (w : Option Work) (again : Option ℕ) → IsHome before → IsAtWork C attempts count before sent w again → IsSentHome before sent
sent_home C attempts count before sent (Some w) again home h = subst (IsSentHome before) (sym h) (record { home = home; server = refl; gone = refl })
sent_home C attempts count before sent None (Some front) home h =
    subst (IsSentHome before) (sym h.sends) (record {
      home = record {
        here = home.here;
        served = λ work at. record {
          server = ap (λ (x : Work). x.server) (same_Some work _ (sym at)) ∙ home.here h.request h.under_way;
          request = h.request;
          under_way = h.under_way;
          again = refl;
        };
      };
      server = refl;
      gone = refl;
    })
sent_home C attempts count before sent None None home h =
    let by : IsSentBy before.client sent.client h.server h.request = sent_by before.client (slice_get before.client.script.ops before.client.op) sent.client h.server h.request h.sends in
    record {
      home = record {
        here = λ request at. ap (λ (r : Request). r.server) (same_Some request h.request (sym at ∙ by.under_way)) ∙ (by.is_to ∙ sym by.stays);
        served = λ work at. record {
          server = ap (λ (x : Work). x.server) (same_Some work _ (sym at ∙ h.work)) ∙ (by.to ∙ sym by.stays);
          request = h.request;
          under_way = by.under_way;
          again = h.again;
        };
      };
      server = by.stays;
      gone = by.gone;
    }

-- ---- an event

end_here : (c : ClientView) (server : ℕ) (outcome : Outcome) (o : Option Request) → c.request ≡ o → (request : Request) → (end_call c server outcome o).0.request ≡ Some request → request.server ≡ (end_call c server outcome o).0.server
end_here c server outcome None none request at = absurd (let no : None ≡ Some request = sym none ∙ at in cc)
end_here c server outcome (Some old) is request at = absurd (let no : None ≡ Some request = at in cc)

comes_home : (C : Settings) (k : ℕ) (before after : Seat) (old work : Work) (stop : Option ℕ) (done : Bool) → IsHome before → before.work ≡ Some old → work.server ≡ old.server → Comes C k before after work stop done → IsHome after
comes_home C k before after old work (Some stop) done home was same h = subst IsHome (sym h) (taken_home stop work before)
comes_home C k before after old work None false home was same h = subst IsHome (sym h) (record {
  here = home.here;
  served = λ other at. let here : IsWorkHere before old = home.served old was in record {
    server = ap (λ (x : Work). x.server) (same_Some other work (sym at)) ∙ (same ∙ here.server);
    request = here.request;
    under_way = here.under_way;
    again = here.again;
  };
})
comes_home C k before after old work None true home was same h = record {
  here = λ request at.
      subst (λ (c : ClientView). c.request ≡ Some request → request.server ≡ c.server) (sym h.client) (end_here before.client work.server h.outcome before.client.request refl request) at;
  served = λ other at. absurd (let no : None ≡ Some other = sym h.work ∙ at in cc);
}

module _ (event : Event) (server : ℕ) (stop : Option ℕ) (seat later : Seat) (home : IsHome seat)
    (e : IsEvent event.before.config event.before.attempts event.client server stop (entries_of event.before.objects.store.journal) (entries_of event.after.objects.store.journal) seat later) where
  pub sent_now : IsSentHome seat e.sent
  sent_now = sent_home event.before.config event.before.attempts (length (entries_of event.before.objects.store.journal)) seat e.sent seat.work seat.again home e.at_work

  -- the server that is asked
  pub asked_home : server ≡ seat.client.server
  asked_home = sym e.exchanged.by ∙ ((sent_now.home.served e.exchanged.work e.exchanged.there).server ∙ sent_now.server)

  pub event_home : IsHome later
  event_home =
      comes_home event.before.config event.client e.sent later e.exchanged.work (record e.exchanged.work { task = e.exchanged.task; ask = e.exchanged.next }) stop (is_done e.exchanged.next) sent_now.home e.exchanged.there refl e.exchanged.comes

-- ---- from the opening on

pub seats_home : (plan : Plan) (first : WorldView) → IsOpening plan first → (events : List Event) (last : WorldView) → AreEvents first events last → (k : ℕ) (seat : Seat) → slice_get last.seats k ≡ Some seat → IsHome seat
seats_home plan first opening =
    along (λ events k seat. IsHome seat) plan first opening
    (λ k script. record {
      here = λ request at. absurd (let no : None ≡ Some request = at in cc);
      served = λ work at. absurd (let no : None ≡ Some work = at in cc);
    })
    (λ event earlier seat later gone was is home. event_home event gone.event.server gone.event.stop seat later home (gone.event.own seat later was is))
    (λ event earlier server stop k seat apart home. stop_home server stop seat home)
