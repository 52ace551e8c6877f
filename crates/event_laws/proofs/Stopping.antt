-- A stop comes where it is due, and what it does to each client.
use Rattle.std.proofs.Common.{◌≡◌, ◌≢◌, ℕ, ◌+◌, Bool, true, false, cond, List, [], ◌∷◌, ◌++◌, Option, Some, None, inl, inr, refl, sym, ap, subst, ◌∙◌}
use Rattle.std.specs.Prelude.{◌==◌, ◌&&◌, ◌||◌, MatchBool, option_map, slice_get}
use Rattle.std.specs.List.{list_any}
use Rattle.std.proofs.lemmas.Bool.{cases_eq, eq-eqb, eqb-true}
use Rattle.std.proofs.lemmas.Option.{same_Some}
use Rattle.fs_base.specs.Config.{Settings}
use Rattle.fs_base.specs.declared.call.Request.{Request}
use Rattle.client_core.specs.Client.{ClientView, send_again}
use Rattle.client_core.specs.declared.plan.Plan.{Plan}
use Rattle.client_core.specs.declared.plan.Stop.{Stop}
use Rattle.client_core.specs.declared.plan.StopAfter.{StopAfter}
use Rattle.client_core.specs.declared.plan.StopAfter.TheVariants as after
use Rattle.request_run.specs.Entries.{entries_of}
use Rattle.world_core.specs.EventList.{Event}
use Rattle.world_core.specs.World.{HasGone}
use Rattle.seat_turns.specs.Events.{Comes, IsEvent, after_stop, lost_at, taken_away}
use Rattle.seat_turns.specs.Ready.{is_done}
use Rattle.seat_turns.specs.Servers.{counted, is_due, is_due_after, with_ask, with_stop}
use Rattle.seat_turns.specs.declared.seats.Seat.{Seat}
use Rattle.seat_turns.specs.declared.seats.Work.{Work}
use Rattle.seat_turns.specs.declared.servers.ServerCounts.{ServerCounts}
use Rattle.event_laws.specs.Laws.{IsNewestEvent, StopsComeWhenDue}
use Rattle.event_laws.specs.Moments.{asks_server, makes_entry}
use Rattle.event_laws.specs.Stopping.{GoesOnBehind, HasLost, HasStoppedBehind, IsSeatOf, IsServedBy}
use Rattle.event_laws.proofs.Along.{plan_along}
use Rattle.event_laws.proofs.Asked.{asked_is}
use Rattle.event_laws.proofs.Homing.{IsHome, IsSentHome, IsWorkHere, seats_home, sent_now}
use Rattle.event_laws.proofs.OneEvent.{sent_receipts}
use Rattle.event_laws.proofs.Places.{come_from, there}
use Rattle.event_laws.proofs.Since.{seats_since}
use Rattle.event_laws.proofs.Stopped.{call_front}

-- ---- what is due

-- the stops that were counted don't matter
due_after : (a : StopAfter) (made : Bool) (n stops : ℕ) (c : ServerCounts) → is_due_after a made n (record c { stops = stops }) ≡ is_due_after a made n c
due_after after.Ask made n stops c = refl
due_after after.Commit made n stops c = refl

due_any : (server : ℕ) (made : Bool) (count : ℕ) (c : ServerCounts) (stops : List Stop) → list_any (is_due server made (record c { stops = count })) stops ≡ list_any (is_due server made c) stops
due_any server made count c [] = refl
due_any server made count c (stop ∷ stops) =
    ap (λ b. ((stop.server == server) && b) || list_any (is_due server made (record c { stops = count })) stops) (due_after stop.after made stop.n count c)
    ∙ ap (λ b. is_due server made c stop || b) (due_any server made count c stops)

pub due_behind : (server : ℕ) (made due : Bool) (c : ServerCounts) (stops : List Stop) → list_any (is_due server made (with_stop due c).0) stops ≡ list_any (is_due server made c) stops
due_behind server made false c stops = refl
due_behind server made true c stops = due_any server made (c.stops + 1) c stops

-- ---- a request that a stop takes away

again_gone : (c : ClientView) (stop : ℕ × ℕ) (o : Option Request) (request : Request) → o ≡ Some request → (send_again c stop o).0.gone ≡ c.gone ++ stop ∷ []
again_gone c stop None request is = absurd (let no : None ≡ Some request = is in cc)
again_gone c stop (Some old) request is = refl

module _ (server stop : ℕ) (seat : Seat) where
  -- at the server that stopped
  lost_there : (w : Option Work) (work : Work) → w ≡ Some work → work.server ≡ server → lost_at server stop seat w ≡ taken_away stop work seat
  lost_there None work is there = absurd (let no : None ≡ Some work = is in cc)
  lost_there (Some old) work is there =
      let same : old ≡ work = same_Some old work is in
      ap (λ b. cond b (taken_away stop old seat) seat) (eq-eqb old.server server (ap (λ (x : Work). x.server) same ∙ there)) ∙ ap (λ (x : Work). taken_away stop x seat) same

  -- elsewhere
  lost_kept : (w : Option Work) → ((work : Work) → w ≡ Some work → work.server ≡ server → ⊥) → lost_at server stop seat w ≡ seat
  lost_kept None elsewhere = refl
  lost_kept (Some work) elsewhere = by_server (work.server == server) refl
    where
      by_server : (b : Bool) → (work.server == server) ≡ b → cond b (taken_away stop work seat) seat ≡ seat
      by_server true is = absurd (elsewhere work refl (eqb-true work.server server is))
      by_server false is = refl

  lost_none : (w : Option Work) → seat.work ≡ w → (work : Work) → (lost_at server stop seat w).work ≡ Some work → work.server ≢ server
  lost_none None under work at = absurd (let no : None ≡ Some work = sym under ∙ at in cc)
  lost_none (Some old) under work at = by_server (old.server == server) refl at
    where
      by_server : (b : Bool) → (old.server == server) ≡ b → (cond b (taken_away stop old seat) seat).work ≡ Some work → work.server ≢ server
      by_server true is h same = absurd (let no : None ≡ Some work = h in cc)
      by_server false is h same =
          let one : old ≡ work = same_Some old work (sym under ∙ h) in
          absurd (let no : true ≡ false = sym (eq-eqb old.server server (ap (λ (x : Work). x.server) one ∙ same)) ∙ is in cc)

-- ---- the newest event

module _ (plan : Plan) (event : Event) (earlier : List Event) (ends : IsNewestEvent plan event earlier) where
  abbrev gone : HasGone event.before event.after event.client
  gone = ends.events.1

  home_at : (client : ℕ) (seat : Seat) → slice_get event.before.seats client ≡ Some seat → IsHome seat
  home_at client seat at = seats_home plan ends.first ends.opening earlier event.before ends.events.2 client seat at

  -- a client whose request was taken away
  lost_by : (client number : ℕ) (before sent later : Seat) (work : Work) → slice_get event.after.seats client ≡ Some later → later ≡ taken_away number work sent
      → IsWorkHere sent work → sent.client.gone ≡ before.client.gone → sent.receipts ≡ before.receipts
      → HasLost (event ∷ earlier) client work.server number before later
  lost_by client number before sent later work is taken here told kept = record {
    gone = ap (λ (s : Seat). s.client.gone) taken
        ∙ (again_gone sent.client (work.server, number) sent.client.request here.request here.under_way ∙ ap (λ (l : List (ℕ × ℕ)). l ++ (work.server, number) ∷ []) told);
    work = ap (λ (s : Seat). s.work) taken;
    front = work.front;
    again = ap (λ (s : Seat). s.again) taken;
    begun = (seats_since plan ends.first ends.opening (event ∷ earlier) event.after ends.events client later is).call work.front (ap (λ (s : Seat). call_front s.work s.again) taken);
    receipts = ap (λ (s : Seat). s.receipts) taken ∙ kept;
  }

  -- ---- the server stops

  module _ (number : ℕ) (stops : gone.event.stop ≡ Some number) where
    -- the event's own client
    own_lost : (before later : Seat) → IsSeatOf event event.client before later → HasLost (event ∷ earlier) event.client gone.event.server number before later
    own_lost before later at =
        let e : IsEvent event.before.config event.before.attempts event.client gone.event.server gone.event.stop (entries_of event.before.objects.store.journal) (entries_of event.after.objects.store.journal) before later
        = gone.event.own before later at.was at.is in
        let sent : IsSentHome before e.sent = sent_now event gone.event.server gone.event.stop before later (home_at event.client before at.was) e in
        let work : Work = record e.exchanged.work { task = e.exchanged.task; ask = e.exchanged.next } in
        let comes : Comes event.before.config event.client e.sent later work (Some number) (is_done e.exchanged.next)
        = subst (λ (o : Option ℕ). Comes event.before.config event.client e.sent later work o (is_done e.exchanged.next)) stops e.exchanged.comes in
        let here : IsWorkHere e.sent e.exchanged.work = sent.home.served e.exchanged.work e.exchanged.there in
        let lost : HasLost (event ∷ earlier) event.client e.exchanged.work.server number before later
        = lost_by event.client number before e.sent later work at.is comes
        (record { server = here.server; request = here.request; under_way = here.under_way; again = here.again }) sent.gone
        (sent_receipts event.before.config event.before.attempts _ before e.sent before.work before.again e.at_work) in
        subst (λ n. HasLost (event ∷ earlier) event.client n number before later) e.exchanged.by lost

    own_none : (later : Seat) → slice_get event.after.seats event.client ≡ Some later → later.work ≡ None
    own_none later is =
        let before : (s : Seat) × (slice_get event.before.seats event.client ≡ Some s) = there event.before.seats event.client gone.within in
        (own_lost before.0 later (record { was = before.1; is = is })).work

    -- any other
    other_is : (client : ℕ) → client ≢ event.client → (before later : Seat) → IsSeatOf event client before later → later ≡ lost_at gone.event.server number before before.work
    other_is client apart before later at =
        let changed : Some later ≡ Some (after_stop gone.event.server gone.event.stop before)
        = sym at.is ∙ (gone.event.others client apart ∙ ap (option_map (after_stop gone.event.server gone.event.stop)) at.was) in
        same_Some later (after_stop gone.event.server gone.event.stop before) changed ∙ ap (λ (o : Option ℕ). after_stop gone.event.server o before) stops

    other_lost : (client : ℕ) → client ≢ event.client → (before later : Seat) → IsSeatOf event client before later → (work : Work) → before.work ≡ Some work → work.server ≡ gone.event.server
        → HasLost (event ∷ earlier) client gone.event.server number before later
    other_lost client apart before later at work under there =
        let taken : later ≡ taken_away number work before = other_is client apart before later at ∙ lost_there gone.event.server number before before.work work under there in
        subst (λ n. HasLost (event ∷ earlier) client n number before later) there
        (lost_by client number before before later work at.is taken ((home_at client before at.was).served work under) refl refl)

    all_lost : (client : ℕ) (before later : Seat) → IsSeatOf event client before later → IsServedBy gone.event.server event client before → HasLost (event ∷ earlier) client gone.event.server number before later
    all_lost client before later at (inl own) =
        subst (λ k. IsSeatOf event k before later → HasLost (event ∷ earlier) k gone.event.server number before later) (sym own.0) (own_lost before later) at
    all_lost client before later at (inr other) = other_lost client other.0 before later at other.1.0 other.1.1 other.1.2

    all_kept : asks_server gone.event.server event ≡ true → (client : ℕ) (before later : Seat) → IsSeatOf event client before later → (IsServedBy gone.event.server event client before → ⊥) → later ≡ before
    all_kept asks client before later at elsewhere = elim (cases_eq client event.client) [
      | inl same ↦ absurd (elsewhere (inl (same, asks)))
      | inr apart ↦ other_is client apart before later at ∙ lost_kept gone.event.server number before before.work (λ work under there. elsewhere (inr (apart, (work, under, there))))
    ]

    none_there : (client : ℕ) (later : Seat) (work : Work) → slice_get event.after.seats client ≡ Some later → later.work ≡ Some work → work.server ≢ gone.event.server
    none_there client later work is under = elim (cases_eq client event.client) [ inl same ↦ mine same | inr apart ↦ others apart ]
      where
        mine : client ≡ event.client → work.server ≢ gone.event.server
        mine same = absurd (let no : None ≡ Some work = sym (own_none later (subst (λ k. slice_get event.after.seats k ≡ Some later) same is)) ∙ under in cc)

        others : client ≢ event.client → work.server ≢ gone.event.server
        others apart =
            let from : (s : Seat) × (slice_get event.before.seats client ≡ Some s) × (later ≡ after_stop gone.event.server gone.event.stop s)
            = come_from (after_stop gone.event.server gone.event.stop) (slice_get event.before.seats client) later (sym (gone.event.others client apart) ∙ is) in
            let changed : later ≡ lost_at gone.event.server number from.0 from.0.work = other_is client apart from.0 later (record { was = from.1; is = is }) in
            lost_none gone.event.server number from.0 from.0.work refl work (sym (ap (λ (s : Seat). s.work) changed) ∙ under)

    stopped : (old new : ServerCounts) → asks_server gone.event.server event ≡ true → new.stops ≡ number → new.stops ≡ old.stops + 1 → HasStoppedBehind event earlier gone.event.server old new
    stopped old new asks is more = record {
      counted = more;
      lost = λ client before later at served. subst (λ n. HasLost (event ∷ earlier) client gone.event.server n before later) (sym is) (all_lost client before later at served);
      kept = all_kept asks;
      none = none_there;
    }

  -- ---- it goes on

  stays_by : (server : ℕ) (o : Option Seat) → option_map (after_stop server None) o ≡ o
  stays_by server None = refl
  stays_by server (Some seat) = refl

  goes_again : (C : Settings) (k : ℕ) (before later : Seat) (work : Work) (done : Bool) → before.again ≡ None → Comes C k before later work None done → later.again ≡ None
  goes_again C k before later work false none h = ap (λ (s : Seat). s.again) h ∙ none
  goes_again C k before later work true none h = h.again

  module _ (goes_on : gone.event.stop ≡ None) where
    own_goes : (before later : Seat) → IsSeatOf event event.client before later → later.again ≡ None
    own_goes before later at =
        let e : IsEvent event.before.config event.before.attempts event.client gone.event.server gone.event.stop (entries_of event.before.objects.store.journal) (entries_of event.after.objects.store.journal) before later
        = gone.event.own before later at.was at.is in
        let sent : IsSentHome before e.sent = sent_now event gone.event.server gone.event.stop before later (home_at event.client before at.was) e in
        let work : Work = record e.exchanged.work { task = e.exchanged.task; ask = e.exchanged.next } in
        goes_again event.before.config event.client e.sent later work (is_done e.exchanged.next) (sent.home.served e.exchanged.work e.exchanged.there).again
        (subst (λ (o : Option ℕ). Comes event.before.config event.client e.sent later work o (is_done e.exchanged.next)) goes_on e.exchanged.comes)

    went_on : (old new : ServerCounts) → new.stops ≡ old.stops → GoesOnBehind event old new
    went_on old new same = record {
      counted = same;
      kept = λ client apart.
          gone.event.others client apart
          ∙ (ap (λ (o : Option ℕ). option_map (after_stop gone.event.server o) (slice_get event.before.seats client)) goes_on ∙ stays_by gone.event.server (slice_get event.before.seats client));
      own = own_goes;
    }

  -- ---- by what is due

  by_due : (due : Bool) (old new : ServerCounts) → asks_server gone.event.server event ≡ true → new ≡ (with_stop due (with_ask (makes_entry event) old)).0 → gone.event.stop ≡ (with_stop due (with_ask (makes_entry event) old)).1
      → MatchBool due (HasStoppedBehind event earlier gone.event.server old new) (GoesOnBehind event old new)
  by_due true old new asks behind stop = let more : new.stops ≡ old.stops + 1 = ap (λ (c : ServerCounts). c.stops) behind in stopped (old.stops + 1) stop old new asks more more
  by_due false old new asks behind stop = went_on stop old new (ap (λ (c : ServerCounts). c.stops) behind)

  asked_due : (old new : ServerCounts) → asks_server gone.event.server event ≡ true → slice_get event.before.counts gone.event.server ≡ Some old → slice_get event.after.counts gone.event.server ≡ Some new
      → MatchBool (list_any (is_due gone.event.server (makes_entry event) new) plan.stops) (HasStoppedBehind event earlier gone.event.server old new) (GoesOnBehind event old new)
  asked_due old new asks was is =
      let own : (slice_get event.after.counts gone.event.server ≡ Some (counted event.before.stops gone.event.server (makes_entry event) old).0) × (gone.event.stop ≡ (counted event.before.stops gone.event.server (makes_entry event) old).1)
      = gone.event.counted.own old was in
      let behind : new ≡ (counted event.before.stops gone.event.server (makes_entry event) old).0 = same_Some new (counted event.before.stops gone.event.server (makes_entry event) old).0 (sym is ∙ own.0) in
      let due : Bool = list_any (is_due gone.event.server (makes_entry event) (with_ask (makes_entry event) old)) event.before.stops in
      let planned : event.before.stops ≡ plan.stops = ap (λ (p : Plan). p.stops) (plan_along ends.first earlier event.before ends.events.2 ∙ ends.opening.plan_is) in
      let same : list_any (is_due gone.event.server (makes_entry event) new) plan.stops ≡ due
      = ap (λ (c : ServerCounts). list_any (is_due gone.event.server (makes_entry event) c) plan.stops) behind
      ∙ (ap (λ (stops : List Stop). list_any (is_due gone.event.server (makes_entry event) (counted event.before.stops gone.event.server (makes_entry event) old).0) stops) (sym planned)
      ∙ due_behind gone.event.server (makes_entry event) due (with_ask (makes_entry event) old) event.before.stops) in
      subst (λ b. MatchBool b (HasStoppedBehind event earlier gone.event.server old new) (GoesOnBehind event old new)) (sym same) (by_due due old new asks behind own.1)

pub stops_when_due : StopsComeWhenDue
stops_when_due plan event earlier server old new ends asks was is =
    let same : ends.events.1.event.server ≡ server = asked_is plan ends.first ends.opening event earlier ends.events.2 ends.events.1 server asks in
    subst (λ n. asks_server n event ≡ true → slice_get event.before.counts n ≡ Some old → slice_get event.after.counts n ≡ Some new → MatchBool (list_any (is_due n (makes_entry event) new) plan.stops) (HasStoppedBehind event earlier n old new) (GoesOnBehind event old new))
    same (asked_due plan event earlier ends old new) asks was is
