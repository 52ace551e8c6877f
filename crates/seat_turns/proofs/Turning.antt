-- A turn over all clients: the one in turn, and those who learn of a stop.
use Rattle.std.proofs.Common.{◌≡◌, ◌≢◌, ℕ, ◌<◌, ◌≤◌, List, Option, Some, None, length, set, get_or, refl, sym, ap, subst, ◌∙◌, option_map}
use Rattle.std.specs.Prelude.{Err, Ok, OnOk, Result, slice_get}
use Rattle.std.proofs.lemmas.Option.{same_Some}
use Rattle.fs_base.specs.Config.{Settings}
use Rattle.fs_base.specs.declared.call.Request.{Request}
use Rattle.kv_store.specs.Store.{Store}
use Rattle.meta_task.specs.declared.entry.MetaEntry.{MetaEntry}
use Rattle.txn_task.specs.declared.messages.Entry.{Entry}
use Rattle.client_core.specs.Plans.{AreDistinct}
use Rattle.client_core.specs.declared.plan.Stop.{Stop}
use Rattle.run_record.specs.Stops.{IsPlannedStop}
use Rattle.request_run.specs.Entries.{IsGrowth, entries_of}
use Rattle.request_run.specs.Served.{AreCovered}
use Rattle.seat_turns.specs.Events.{HasExchanged, IsEvent, IsTurnOf, after_stop, lost_at}
use Rattle.seat_turns.specs.Kept.{IsSeat}
use Rattle.seat_turns.specs.Seats.{AllSeats, AreOwned, AreSeated, scripts_of_seats}
use Rattle.seat_turns.specs.Servers.{AreCounted, HasCounted, has_made}
use Rattle.seat_turns.specs.declared.seats.Seat.{Seat}
use Rattle.seat_turns.specs.declared.seats.Work.{Work}
use Rattle.seat_turns.specs.declared.servers.ServerCounts.{ServerCounts}
use Rattle.seat_turns.proofs.Seating.{all_lost, apart, event_there, here, owned_lost, seat_there, seated_there}
use Rattle.seat_turns.proofs.Working.{work_of}

-- what holds of each, where a call succeeds
pub on_ok_each : {T E X : Type 0} (P : X → Type 0) (r : Result T E) → ((x : X) → OnOk r (P x)) → OnOk r ((x : X) → P x)
on_ok_each P (Ok v) h = h
on_ok_each P (Err e) h = tt

-- no stop changes no other client
unmoved : (server : ℕ) (o : Option Seat) → option_map (after_stop server None) o ≡ o
unmoved server None = refl
unmoved server (Some seat) = refl

-- the client in turn has learned of the stop already
own_lost : (C : Settings) (k server stop : ℕ) (old new : List Entry) (before after : Seat) → HasExchanged C k server (Some stop) old new before after
    → lost_at server stop after after.work ≡ after
own_lost C k server stop old new before after h = ap (λ (w : Option Work). lost_at server stop after w) (ap (λ (s : Seat). s.work) h.comes)

-- whose request a server works on has one
pub each_sent : (C : Settings) (attempts : ℕ) (stops : List Stop) (journal : List Entry) (seats : List Seat) → AllSeats C attempts stops journal seats
    → (k : ℕ) (seat : Seat) (work : Work) → slice_get seats k ≡ Some seat → seat.work ≡ Some work → (request : Request) × (seat.client.request ≡ Some request)
each_sent C attempts stops journal seats all k seat work at is = (work_of C attempts stops journal k seat (all k seat at) work is).0

module _ (C : Settings) (attempts : ℕ) (stops : List Stop) (k : ℕ) (seats : List Seat) (i : ℕ) (x y : Seat) (same : i ≡ k) (within : k < length seats)
    (is : x ≡ get_or seats i x) where
  module _ (store after : Store MetaEntry) (script : y.client.script ≡ x.client.script) (distinct : AreDistinct (scripts_of_seats seats))
      (few : length after.journal ≤ 200000) (counts later : List ServerCounts) (seated : AreSeated C attempts stops counts (entries_of store.journal) seats)
      (growth : IsGrowth store after x.client.script.id) (own : IsSeat C attempts stops (entries_of after.journal) k y)
      (covered : AreCovered C (entries_of after.journal)) (counted : AreCounted C stops (entries_of after.journal) later) where
    all_and_owned : AllSeats C attempts stops (entries_of after.journal) (set seats i y) × AreOwned (entries_of after.journal) (set seats i y)
    all_and_owned = seated_there seats i k x y same within is C attempts stops store after script distinct few seated.all seated.owned growth own

    pub seated_quiet : AreSeated C attempts stops later (entries_of after.journal) (set seats i y)
    seated_quiet = record { all = all_and_owned.0; owned = all_and_owned.1; covered = covered; counted = counted }

    pub seated_stopped : (server stop : ℕ) (lost : List Seat) → IsPlannedStop stops (entries_of after.journal) (server, stop)
        → scripts_of_seats lost ≡ scripts_of_seats (set seats i y)
        → ((j : ℕ) → slice_get lost j ≡ option_map (λ seat. lost_at server stop seat seat.work) (slice_get (set seats i y) j))
        → AreSeated C attempts stops later (entries_of after.journal) lost
    seated_stopped server stop lost one scripts each =
        record {
          all = all_lost C attempts stops (entries_of after.journal) (set seats i y) lost server stop all_and_owned.0 one each;
          owned = owned_lost (entries_of after.journal) (set seats i y) lost scripts all_and_owned.1;
          covered = covered;
          counted = counted;
        }

  module _ (old new : List Entry) (counts later : List ServerCounts) (server : ℕ) where
    pub turn_quiet : IsEvent C attempts k server None old new x y → HasCounted stops server (has_made old new) None counts later
        → IsTurnOf C attempts k stops old new counts later seats (set seats i y)
    turn_quiet event counted =
        record {
          server = server;
          stop = None;
          own = event_there seats i k x y same within is (IsEvent C attempts k server None old new) event;
          others = λ j other. apart seats i k x y same within is j other ∙ sym (unmoved server (slice_get seats j));
          counted = counted;
        }

    pub turn_stopped : (stop : ℕ) (lost : List Seat) → IsEvent C attempts k server (Some stop) old new x y
        → HasCounted stops server (has_made old new) (Some stop) counts later
        → ((j : ℕ) → slice_get lost j ≡ option_map (λ seat. lost_at server stop seat seat.work) (slice_get (set seats i y) j))
        → IsTurnOf C attempts k stops old new counts later seats lost
    turn_stopped stop lost event counted each =
        record {
          server = server;
          stop = Some stop;
          own = own;
          others = λ j other. each j ∙ ap (option_map (λ seat. lost_at server stop seat seat.work)) (apart seats i k x y same within is j other);
          counted = counted;
        }
      where
        own : (seat next : Seat) → slice_get seats k ≡ Some seat → slice_get lost k ≡ Some next → IsEvent C attempts k server (Some stop) old new seat next
        own seat next at_seat at_next =
            let there : slice_get (set seats i y) k ≡ Some y = here seats i k x y same within is in
            let lost_is : slice_get lost k ≡ Some y
            = each k ∙ (ap (option_map (λ seat. lost_at server stop seat seat.work)) there ∙ ap Some (own_lost C k server stop old new event.sent y event.exchanged)) in
            event_there seats i k x y same within is (IsEvent C attempts k server (Some stop) old new) event seat next at_seat (there ∙ (sym lost_is ∙ at_next))
