-- A client's request is sent: its call begins, or its server stopped.
use Rattle.std.proofs.Common.{◌≡◌, ℕ, ◌<◌, ◌≤◌, ◌+◌, ◌^◌, List, [], ◌∷◌, Option, Some, None, length, refl, sym, ap, subst, ◌∙◌, arith}
use Rattle.std.specs.Prelude.{slice_get}
use Rattle.fs_base.specs.Config.{Settings}
use Rattle.fs_base.specs.declared.call.Request.{Request}
use Rattle.meta_task.specs.Task.{new_task}
use Rattle.meta_task.specs.declared.waiting.Waiting.TheVariants as waits
use Rattle.txn_task.specs.declared.messages.Ask.TheVariants as asks
use Rattle.txn_task.specs.declared.messages.Entry.{Entry}
use Rattle.client_core.specs.Client.{ClientView, client_step, new_client, next_request, send}
use Rattle.client_core.specs.Courses.{IsFrom, after_courses}
use Rattle.client_core.specs.declared.messages.ClientAnswer.TheVariants as answers
use Rattle.client_core.specs.declared.messages.ClientAsk.{ClientAsk}
use Rattle.client_core.specs.declared.messages.ClientAsk.TheVariants as client_asks
use Rattle.client_core.specs.declared.plan.Op.{Op}
use Rattle.client_core.specs.declared.plan.Stop.{Stop}
use Rattle.histories.proofs.Lists.{at_within}
use Rattle.request_run.specs.Served.{AreEarlier, HasMetConflicts, IsTaskServed}
use Rattle.request_run.proofs.Continuing.{begins, met_first}
use Rattle.seat_turns.specs.Events.{HasSent, HasSentAgain, IsAtWork}
use Rattle.seat_turns.specs.Kept.{AreNamed, IsPast, IsSeat, IsTakenAway, IsWork, IsWorking}
use Rattle.seat_turns.specs.declared.seats.Seat.{Seat}
use Rattle.seat_turns.specs.declared.seats.Work.{Work}
use Rattle.seat_turns.proofs.Receiving.{past_number}
use Rattle.seat_turns.proofs.Working.{Waits, next_number, rests_of, sent_where, waits_of}

-- the work of a request whose task is new
abbrev pub new_work : Settings → ℕ → ℕ → ℕ → Request → Work
new_work C attempts server front request =
    record { task = record (new_task C attempts request) { waiting = waits.Beginning }; ask = asks.Begin; server = server; front = front }

-- ---- what was sent

module _ (C : Settings) (attempts front : ℕ) (before mid after : Seat) (request : Request) (work : Work) where
  abbrev next_ask : ClientView × ClientAsk
  next_ask = send before.client (slice_get before.client.script.ops before.client.op)

  pub has_sent : (server : ℕ) (ask : ClientAsk) → mid ≡ record before { client = next_ask.0 } → ask ≡ next_ask.1
      → ask ≡ client_asks.Send server request → work ≡ new_work C attempts server front request
      → after ≡ record mid { work = Some work; again = None } → HasSent C attempts front before after
  has_sent server ask mid_is ask_is sent work_is after_is =
      let client : after.client ≡ next_ask.0 = ap (λ (s : Seat). s.client) after_is ∙ ap (λ (s : Seat). s.client) mid_is in
      let asked : next_ask.1 ≡ client_asks.Send server request = sym ask_is ∙ sent in
      record {
        server = server;
        request = request;
        sends = sym (λ i. (client i, sym asked i));
        work = ap (λ (s : Seat). s.work) after_is ∙ ap Some work_is;
        again = ap (λ (s : Seat). s.again) after_is;
        receipts = ap (λ (s : Seat). s.receipts) after_is ∙ ap (λ (s : Seat). s.receipts) mid_is;
      }

  pub has_sent_again : before.client.request ≡ Some request → work ≡ new_work C attempts request.server front request
      → after ≡ record before { work = Some work; again = None } → HasSentAgain C attempts front before after
  has_sent_again under_way work_is after_is =
      record {
        request = request;
        under_way = under_way;
        sends = after_is ∙ ap (λ (w : Work). record before { work = Some w; again = None }) work_is;
      }

module _ (C : Settings) (attempts : ℕ) (stops : List Stop) (journal : List Entry) (k : ℕ) (seat : Seat) (h : IsSeat C attempts stops journal k seat) (some : 1 ≤ attempts) where
  -- ---- for the first time

  module _ (after : Seat) (work_none : seat.work ≡ None) (again_none : seat.again ≡ None) (s : HasSent C attempts (length journal) seat after) where
    idle : seat.client.request ≡ None
    idle = (rests_of C attempts stops journal k seat h work_none again_none).0

    named : AreNamed stops journal seat.client.script.id seat.receipts
    named = (rests_of C attempts stops journal k seat h work_none again_none).1

    record IsSent : Type 0 where
      pub step : Op
      pub there : slice_get seat.client.script.ops seat.client.op ≡ Some step
      pub client_is : after.client ≡ (send seat.client (Some step)).0
      pub server_is : s.server ≡ seat.client.server
      pub request_is : s.request ≡ next_request seat.client step

    -- what is sent is the next operation's request
    sent : IsSent
    sent = of_next (slice_get seat.client.script.ops seat.client.op) refl s.sends
      where
        asked : {a b : ClientView × ClientAsk} → a ≡ b → a.1 ≡ b.1
        asked e = ap (λ (p : ClientView × ClientAsk). p.1) e

        of_next : (o : Option Op) → slice_get seat.client.script.ops seat.client.op ≡ o
            → send seat.client o ≡ (after.client, client_asks.Send s.server s.request) → IsSent
        of_next None there e = absurd (let f : client_asks.Ended ≡ client_asks.Send s.server s.request = asked e in cc)
        of_next (Some step) there e =
            let f : client_asks.Send seat.client.server (next_request seat.client step) ≡ client_asks.Send s.server s.request = asked e in
            record {
              step = step;
              there = there;
              client_is = sym (ap (λ (p : ClientView × ClientAsk). p.0) e);
              server_is = cc;
              request_is = cc;
            }

    abbrev request : Request
    request = next_request seat.client sent.step

    -- the client once it has sent it
    abbrev now : ClientView
    now = (send seat.client (Some sent.step)).0

    -- its number is new
    earlier : AreEarlier journal request
    earlier place e at mine =
        let number : seat.client.number ≡ seat.client.op = next_number C attempts stops journal k seat h idle in
        omega (arith, past_number C attempts stops journal place e at k seat.client seat.receipts h.script h.past (named place e at mine).named)

    met : HasMetConflicts C journal request (length journal) []
    met = met_first C journal request h.script.small earlier

    past_sent : IsPast C attempts stops journal k now seat.receipts
    past_sent =
        let rest : ClientView = after_courses (new_client C seat.client.script) h.past.courses in
        let at_rest : seat.client ≡ rest = subst (IsFrom rest seat.client) idle h.past.from in
        let sends : client_step rest answers.Next ≡ send seat.client (Some sent.step)
        = ap (λ (c : ClientView). send c (slice_get c.script.ops c.op)) (sym at_rest) ∙ ap (send seat.client) sent.there in
        record {
          courses = h.past.courses;
          told = h.past.told;
          from = ([], sends);
          ordinals = h.past.ordinals;
          each = h.past.each;
          planned = h.past.planned;
          rises = h.past.rises;
          within = h.past.within;
        }

    work_is : after.work ≡ Some (new_work C attempts seat.client.server (length journal) request)
    work_is = s.work ∙ (λ i. Some (new_work C attempts (sent.server_is i) (length journal) (sent.request_is i)))

    is_work : IsWork C attempts stops journal now seat.receipts request (new_work C attempts seat.client.server (length journal) request)
    is_work =
        record {
          call = record {
            from = h.past.within;
            named = λ place e at mine l. named place e at mine;
            unheard = λ place e at mine l. absurd (omega (arith, at_within journal place e at));
          };
          served = (begins C attempts journal request (length journal) some met).0;
          pending = (begins C attempts journal request (length journal) some met).1;
          server = refl;
        }

    pub seat_sent : IsSeat C attempts stops journal k after
    seat_sent =
        let is : after ≡ record {
          client = now;
          work = Some (new_work C attempts seat.client.server (length journal) request);
          again = None;
          receipts = seat.receipts;
        } = λ i. record { client = sent.client_is i; work = work_is i; again = s.again i; receipts = s.receipts i } in
        subst (IsSeat C attempts stops journal k) (sym is)
        (record { config = h.config; script = h.script; planned = h.planned; past = past_sent; working = is_work })

  -- ---- again

  pub seat_again : (front : ℕ) (after : Seat) → seat.again ≡ Some front → HasSentAgain C attempts front seat after → IsSeat C attempts stops journal k after
  seat_again front after again s =
      let waits : Waits C attempts stops journal k seat h front = waits_of C attempts stops journal k seat h front again in
      let taken : IsTakenAway C stops journal seat.client seat.receipts s.request front
      = subst (λ (q : Request). IsTakenAway C stops journal seat.client seat.receipts q front)
      (same_sent waits.0.0 (sym waits.0.1 ∙ s.under_way)) waits.1 in
      let going = begins C attempts journal s.request front some taken.met in
      let work : IsWork C attempts stops journal seat.client seat.receipts s.request (new_work C attempts s.request.server front s.request)
      = record {
        call = taken.call;
        served = going.0;
        pending = going.1;
        server = sent_where C attempts stops journal k seat h s.request s.under_way;
      } in
      subst (IsSeat C attempts stops journal k) (sym s.sends)
      (record {
        config = h.config;
        script = h.script;
        planned = h.planned;
        past = h.past;
        working = subst
            (λ (o : Option Request). IsWorking C attempts stops journal seat.client seat.receipts o
            (Some (new_work C attempts s.request.server front s.request)) None) (sym s.under_way) work;
      })
    where
      same_sent : (q : Request) → Some q ≡ Some s.request → q ≡ s.request
      same_sent q e = cc

  -- ---- whichever it is

  pub seat_started : (after : Seat) (w : Option Work) (a : Option ℕ) → seat.work ≡ w → seat.again ≡ a
      → IsAtWork C attempts (length journal) seat after w a → IsSeat C attempts stops journal k after
  seat_started after (Some work) a is again at = subst (IsSeat C attempts stops journal k) (sym at) h
  seat_started after None (Some front) is again at = seat_again front after again at
  seat_started after None None is again at = seat_sent after is again at
