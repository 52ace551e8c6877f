-- What came of an ask of a client's request: it goes on, its client learns what it came to, or its server stopped.
use Rattle.std.proofs.Common.{◌≡◌, ◌⊎◌, ℕ, ◌<◌, ◌≤◌, ◌+◌, inl, inr, List, [], ◌∷◌, ◌++◌, Option, Some, None, Bool, true, false, length, IfSome, refl, sym, ap, subst, ◌∙◌, arith}
use Rattle.std.proofs.lemmas.List.Elements.{All-nil}
use Rattle.std.proofs.lemmas.Option.{same_Some}
use Rattle.fs_base.specs.Config.{Settings}
use Rattle.fs_base.specs.declared.call.Request.{Request}
use Rattle.kv_store.specs.Store.{Store}
use Rattle.meta_task.specs.Task.{TaskView}
use Rattle.meta_task.specs.declared.entry.MetaEntry.{MetaEntry}
use Rattle.txn_task.specs.declared.messages.Ask.{Ask}
use Rattle.txn_task.specs.declared.messages.Ask.TheVariants as asks
use Rattle.txn_task.specs.declared.messages.Entry.{Entry}
use Rattle.txn_task.specs.declared.outcome.Outcome.{Outcome}
use Rattle.txn_task.specs.declared.outcome.Receipt.{Receipt}
use Rattle.client_core.specs.Client.{ClientView, end_call, send_again}
use Rattle.client_core.specs.Files.{IsFileSound}
use Rattle.client_core.specs.Ops.{receipt_of}
use Rattle.client_core.specs.declared.plan.Stop.{Stop}
use Rattle.client_core.proofs.Courses.{kept_is, op_kept}
use Rattle.run_record.specs.Legal.{EntryAt}
use Rattle.run_record.specs.Receipts.{fronts_of}
use Rattle.run_record.specs.ReplyText.{text_of}
use Rattle.run_record.specs.Stops.{IsPlannedStop, StopsBehind}
use Rattle.run_record.specs.declared.run.Listed.{Listed}
use Rattle.run_record.proofs.Stopping.{all_planned-longer}
use Rattle.histories.proofs.Lists.{at_within}
use Rattle.request_run.specs.Entries.{entries_of}
use Rattle.request_run.specs.Served.{CameTo, HasMetConflicts, IsAskPending, IsTaskReady, IsTaskServed}
use Rattle.request_run.proofs.Continuing.{for_request, of_task}
use Rattle.request_run.proofs.Ending.{met_again}
use Rattle.request_run.proofs.Growing.{EachOf-longer}
use Rattle.request_run.proofs.Rows.{length_entries}
use Rattle.seat_turns.specs.Events.{Comes, HasLearned, taken_away}
use Rattle.seat_turns.specs.Kept.{IsCall, IsPast, IsSeat, IsUnheard, IsWork, IsWorking}
use Rattle.seat_turns.specs.Left.{IsOneMore}
use Rattle.seat_turns.specs.Ready.{TellsSound, is_done}
use Rattle.seat_turns.specs.declared.seats.Seat.{Seat}
use Rattle.seat_turns.specs.declared.seats.Work.{Work}
use Rattle.seat_turns.proofs.Longer.{IsLonger, call_longer, named_longer, past_longer, unheard_on}
use Rattle.seat_turns.proofs.Receiving.{listed, named_more, past_more}
use Rattle.seat_turns.proofs.Taking.{IsKnown, seat_taken}
use Rattle.seat_turns.proofs.Working.{Works, sent_below, sent_own, sent_where, served_of, work_of}

-- sending again ends no operation
pub op_again : (c : ClientView) (stop : ℕ × ℕ) (o : Option Request) → (send_again c stop o).0.op ≡ c.op
op_again c stop None = refl
op_again c stop (Some request) = refl

-- ---- after an answer

still : (C : Settings) (attempts : ℕ) (journal : List Entry) (request : Request) (front : ℕ) (task : TaskView) (ask : Ask) → is_done ask ≡ false → IsTaskReady C attempts journal request front task ask → IsTaskServed C attempts journal request front task × IsAskPending C task ask
still C attempts journal request front task asks.Done e h = absurd (cc)
still C attempts journal request front task ask e h = h

ended : (C : Settings) (attempts : ℕ) (journal : List Entry) (request : Request) (front : ℕ) (task : TaskView) (ask : Ask) → is_done ask ≡ true → IsTaskReady C attempts journal request front task ask → (outcome : Outcome) × (task.outcome ≡ Some outcome) × CameTo C attempts journal request front outcome
ended C attempts journal request front task asks.Done e h = h
ended C attempts journal request front task ask e h = absurd (cc)

pub has_outcome : (C : Settings) (attempts : ℕ) (journal : List Entry) (request : Request) (front : ℕ) (task : TaskView) (ask : Ask) → IsTaskReady C attempts journal request front task ask → is_done ask ≡ true → (outcome : Outcome) × (task.outcome ≡ Some outcome)
has_outcome C attempts journal request front task ask h e = let came = ended C attempts journal request front task ask e h in (came.0, came.1)

pub tells_sound : (C : Settings) (attempts : ℕ) (journal : List Entry) (request : Request) (front : ℕ) (task : TaskView) (ask : Ask) → IsTaskReady C attempts journal request front task ask → is_done ask ≡ true → TellsSound C task
tells_sound C attempts journal request front task ask h e =
    let came = ended C attempts journal request front task ask e h in
    subst (λ (o : Option Outcome). IfSome o (λ outcome. IsFileSound C outcome.reply)) (sym came.1) came.2.files

-- whatever came, the request may begin again
may_again : (C : Settings) (attempts : ℕ) (journal : List Entry) (request : Request) (front : ℕ) (task : TaskView) (ask : Ask) (b : Bool)
    → is_done ask ≡ b → IsTaskReady C attempts journal request front task ask → HasMetConflicts C journal request front []
may_again C attempts journal request front task ask false e h =
    met_again C journal request front task.conflicts request.server (still C attempts journal request front task ask e h).0.met
may_again C attempts journal request front task ask true e h = (ended C attempts journal request front task ask e h).2.again

module _ (C : Settings) (attempts : ℕ) (stops : List Stop) (es more : List Entry) (k : ℕ) (before after : Seat) (work : Work) (task : TaskView) (next : Ask) (short : length (es ++ more) ≤ 200000) (h : IsSeat C attempts stops es k before) (is : before.work ≡ Some work) where
  abbrev of : Works C attempts stops es k before h work
  of = work_of C attempts stops es k before h work is

  abbrev pub Ready : Type 0
  Ready = IsTaskReady C attempts (es ++ more) of.0.0 work.front task next

  module _ (owns : (place : ℕ) (e : Entry) → EntryAt more place e → e.request ≡ of.0.0) where
    past : IsPast C attempts stops (es ++ more) k before.client before.receipts
    past = past_longer C attempts stops es more short k before.client before.receipts h.past

    -- a new entry was made at the present server
    made_here : (behind : ℕ) (e : Entry) → EntryAt more behind e → e.request.server ≡ before.client.server
    made_here behind e at =
        ap (λ (q : Request). q.server) (owns behind e at) ∙ sent_where C attempts stops es k before h of.0.0 of.0.1

    -- ---- no stop comes behind it

    module _ (quiet : (behind : ℕ) (e : Entry) → EntryAt more behind e → StopsBehind stops (es ++ more) (length es + behind) e → ⊥) where
      call : IsCall stops (es ++ more) before.client before.receipts work.front
      call =
          call_longer C attempts stops es more short before.client before.receipts work.front of.1.served.met.front_in
          (λ behind e at mine. record { sent = inl (made_here behind e at); told = λ stops_behind. absurd (quiet behind e at stops_behind) })
          of.1.call

      goes_on : Ready → is_done next ≡ false → after ≡ record before { work = Some (record work { task = task; ask = next }) } → IsSeat C attempts stops (es ++ more) k after
      goes_on ready on now =
          let going = still C attempts (es ++ more) of.0.0 work.front task next on ready in
          let again : before.again ≡ None = (served_of C attempts stops es k before h work is).0 in
          subst (IsSeat C attempts stops (es ++ more) k) (sym now)
          (record {
            config = h.config;
            script = h.script;
            planned = all_planned-longer stops es more before.client.gone h.planned;
            past = past;
            working = subst
                (λ (o : Option Request). IsWorking C attempts stops (es ++ more) before.client before.receipts o
                (Some (record work { task = task; ask = next })) before.again)
                (sym of.0.1)
                (subst
                (λ (a : Option ℕ). IsWorking C attempts stops (es ++ more) before.client before.receipts (Some of.0.0)
                (Some (record work { task = task; ask = next })) a)
                (sym again)
                (record { call = call; served = going.0; pending = going.1; server = of.1.server }));
          })

      has_learned : Ready → is_done next ≡ true → HasLearned C k (record before { work = None }) after work.server work.front task → IsSeat C attempts stops (es ++ more) k after
      has_learned ready done learned =
          let c : ClientView = before.client in
          let request : Request = of.0.0 in
          let own : request.client ≡ c.script.id = sent_own C attempts stops es k before h request of.0.1 in
          let server_is : request.server ≡ c.server = sent_where C attempts stops es k before h request of.0.1 in
          let came = ended C attempts (es ++ more) request work.front task next done ready in
          let outcome : Outcome = learned.outcome in
          let came_to : CameTo C attempts (es ++ more) request work.front outcome = subst (CameTo C attempts (es ++ more) request work.front) (same_Some came.0 outcome (sym came.1 ∙ learned.is)) came.2 in
          let one : Listed = listed C attempts stops (es ++ more) k c before.receipts work.front request outcome of.0.1 own server_is call came_to in
          let kept : learned.receipt ≡ one.receipt =
          kept_is c work.server outcome request learned.receipt (learned.told ∙ ap (λ o. (end_call c work.server outcome o).1) of.0.1)
          ∙ ap (λ n. receipt_of c.op request n c.gone outcome) of.1.server in
          let now : ClientView = (end_call c c.server outcome (Some request)).0 in
          let client : after.client ≡ now = learned.client ∙ ap (λ o. (end_call c work.server outcome o).0) of.0.1 in
          let receipts : after.receipts ≡ before.receipts ++ one ∷ [] =
          learned.receipts ∙ ap (λ (r : Receipt). before.receipts ++ record { client = k; fronts = fronts_of C work.front; receipt = r; text = text_of r.call r.reply } ∷ []) kept in
          let seat : IsSeat C attempts stops (es ++ more) k (record { client = now; work = None; again = None; receipts = before.receipts ++ one ∷ [] }) =
          record {
            config = h.config;
            script = h.script;
            planned = All-nil (IsPlannedStop stops (es ++ more));
            past = past_more C attempts stops (es ++ more) k c before.receipts work.front request outcome of.0.1 own server_is call came_to past
                (all_planned-longer stops es more c.gone h.planned);
            working = named_more C attempts stops (es ++ more) k c before.receipts work.front request outcome of.0.1 own server_is call came_to;
          } in
          let all : after ≡ record { client = now; work = None; again = None; receipts = before.receipts ++ one ∷ [] }
          = λ i. record { client = client i; work = learned.work i; again = learned.again i; receipts = receipts i } in
          subst (IsSeat C attempts stops (es ++ more) k) (sym all) seat

    -- ---- a stop comes behind it

    known : IsKnown stops (es ++ more) before.client before.receipts work.front
    known =
        record {
          from = of.1.call.from;
          named = named_longer C attempts stops es more short before.client.script.id work.front before.receipts
              of.1.served.met.front_in of.1.call.named;
          since = EachOf-longer C es more before.client.script.id
              (λ place e. work.front ≤ place → (e.request.server ≡ before.client.server) ⊎ IsUnheard stops (es ++ more) before.client place e)
              (λ behind e at mine l. inl (made_here behind e at))
              (λ place e at mine l. inr (unheard_on C attempts stops es more short before.client place e (at_within es place e at)
              (of.1.call.unheard place e at mine l)));
        }

    was_taken : (stop : ℕ) → IsPlannedStop stops (es ++ more) (work.server, stop) → Ready → after ≡ taken_away stop (record work { task = task; ask = next }) before
        → IsSeat C attempts stops (es ++ more) k after
    was_taken stop one ready now =
        subst (IsSeat C attempts stops (es ++ more) k) (sym now)
        (seat_taken C attempts stops (es ++ more) k before (record work { task = task; ask = next }) of.0.0 stop of.0.1 of.1.server
        (all_planned-longer stops es more before.client.gone h.planned) one h.config h.script past known
        (may_again C attempts (es ++ more) of.0.0 work.front task next (is_done next) refl ready))

    pub seat_comes : (stop : Option ℕ) (b : Bool) → is_done next ≡ b
        → ((number : ℕ) → stop ≡ Some number → IsPlannedStop stops (es ++ more) (work.server, number))
        → (stop ≡ None → (behind : ℕ) (e : Entry) → EntryAt more behind e → StopsBehind stops (es ++ more) (length es + behind) e → ⊥)
        → Ready → Comes C k (record before { work = None }) after (record work { task = task; ask = next }) stop b
        → IsSeat C attempts stops (es ++ more) k after
    seat_comes (Some stop) b is_b planned quiet ready comes = was_taken stop (planned stop refl) ready comes
    seat_comes None false is_b planned quiet ready comes = goes_on (quiet refl) ready is_b comes
    seat_comes None true is_b planned quiet ready comes = has_learned (quiet refl) ready is_b comes

-- a turn of the store: what waits can be asked, and what comes keeps the seat
module _ (C D : Settings) (attempts : ℕ) (stops : List Stop) (k : ℕ) (store : Store MetaEntry) (before : Seat) (work : Work) (same : D ≡ C) (h : IsSeat C attempts stops (entries_of store.journal) k before) (is : before.work ≡ Some work) where
  abbrev sent_is : (request : Request) × (before.client.request ≡ Some request)
  sent_is = (work_of C attempts stops (entries_of store.journal) k before h work is).0

  abbrev works : IsWork C attempts stops (entries_of store.journal) before.client before.receipts sent_is.0 work
  works = (work_of C attempts stops (entries_of store.journal) k before h work is).1

  pub to_serve : IsTaskServed D work.task.attempts (entries_of store.journal) work.task.request work.front work.task × IsAskPending D work.task work.ask
  to_serve = subst (λ c. IsTaskServed c work.task.attempts (entries_of store.journal) work.task.request work.front work.task × IsAskPending c work.task work.ask) (sym same) (of_task works.served, works.pending)

  pub client_is : work.task.request.client ≡ before.client.script.id
  client_is = ap (λ (q : Request). q.client) works.served.request_is ∙ sent_own C attempts stops (entries_of store.journal) k before h sent_is.0 sent_is.1

  -- the server that works on it is the present one
  pub server_is : work.task.request.server ≡ work.server
  server_is =
      ap (λ (q : Request). q.server) works.served.request_is
      ∙ (sent_where C attempts stops (entries_of store.journal) k before h sent_is.0 sent_is.1 ∙ sym works.server)

  pub server_below : work.server < C.servers
  server_below =
      subst (λ n. n < C.servers) (sym works.server) (sent_below C attempts stops (entries_of store.journal) k before h sent_is.0 sent_is.1)

  pub seat_after : (after : Store MetaEntry) (seat : Seat) (next : Work) (stop : Option ℕ)
      → (grown : IsLonger (entries_of store.journal) (entries_of after.journal) (λ e. e.request ≡ work.task.request))
      → length after.journal ≤ 200000
      → ((number : ℕ) → stop ≡ Some number → IsPlannedStop stops (entries_of after.journal) (work.server, number))
      → (stop ≡ None → (behind : ℕ) (e : Entry) → EntryAt grown.more behind e
      → StopsBehind stops (entries_of store.journal ++ grown.more) (length (entries_of store.journal) + behind) e → ⊥)
      → IsTaskReady D work.task.attempts (entries_of after.journal) work.task.request work.front next.task next.ask → next ≡ record work { task = next.task; ask = next.ask } → Comes C k (record before { work = None }) seat next stop (is_done next.ask)
      → IsSeat C attempts stops (entries_of after.journal) k seat
  seat_after after seat next stop grown few planned quiet ready next_is comes =
      let es : List Entry = entries_of store.journal in
      let short : length (es ++ grown.more) ≤ 200000 = subst (λ n. n ≤ 200000) (sym (length_entries after.journal) ∙ ap (λ (js : List Entry). length js) grown.is) few in
      let goes = subst (λ c. IsTaskReady c work.task.attempts (entries_of after.journal) work.task.request work.front next.task next.ask) same ready in
      subst (λ js. IsSeat C attempts stops js k seat) (sym grown.is)
      (seat_comes C attempts stops es grown.more k before seat work next.task next.ask short h is
      (λ place e at. grown.own place e at ∙ works.served.request_is)
      stop (is_done next.ask) refl
      (λ number at. subst (λ js. IsPlannedStop stops js (work.server, number)) grown.is (planned number at))
      quiet
      (for_request works.served (es ++ grown.more) next.task next.ask (subst (λ js. IsTaskReady C work.task.attempts js work.task.request work.front next.task next.ask) grown.is goes))
      (subst (λ w. Comes C k (record before { work = None }) seat w stop (is_done next.ask)) next_is comes))

  -- and the client is told of files that its configuration lays out
  pub sound_after : (journal : List Entry) (next : Work) → IsTaskReady D work.task.attempts journal work.task.request work.front next.task next.ask
      → is_done next.ask ≡ true → TellsSound before.client.config next.task
  sound_after journal next ready done =
      subst (λ c. TellsSound c next.task) (same ∙ sym h.config)
      (tells_sound D work.task.attempts journal work.task.request work.front next.task next.ask ready done)

-- one operation more has ended, or none
pub op_comes : (C : Settings) (k : ℕ) (before after : Seat) (work : Work) (stop : Option ℕ) (b : Bool) → Comes C k before after work stop b → IsOneMore before.client.op after.client.op
op_comes C k before after work (Some stop) b comes = inl (ap (λ (s : Seat). s.client.op) comes ∙ op_again before.client (work.server, stop) before.client.request)
op_comes C k before after work None false comes = inl (ap (λ (s : Seat). s.client.op) comes)
op_comes C k before after work None true comes = inr (ap (λ (c : ClientView). c.op) comes.client ∙ op_kept before.client work.server comes.outcome before.client.request comes.receipt comes.told)
