-- What is kept of a client, while the journal grows.
use Rattle.std.proofs.Common.{◌≡◌, ◌⊎◌, ℕ, ◌<◌, ◌≤◌, ◌+◌, inl, inr, List, [], ◌∷◌, ◌++◌, Option, Some, None, length, length-append, append-nil, refl, sym, ap, subst, ◌∙◌, arith}
use Rattle.std.specs.Prelude.{IfSome}
use Rattle.fs_base.specs.Config.{Settings}
use Rattle.fs_base.specs.declared.call.Request.{Request}
use Rattle.fs_base.specs.declared.ids.ClientId.{ClientId}
use Rattle.kv_store.specs.Store.{Store}
use Rattle.meta_task.specs.declared.entry.MetaEntry.{MetaEntry}
use Rattle.txn_task.specs.declared.messages.Entry.{Entry}
use Rattle.client_core.specs.Client.{ClientView}
use Rattle.client_core.specs.declared.plan.Stop.{Stop}
use Rattle.histories.proofs.Lists.{at_within}
use Rattle.run_record.specs.Legal.{EntryAt}
use Rattle.run_record.specs.Receipts.{newest_seen}
use Rattle.run_record.specs.declared.run.Listed.{Listed}
use Rattle.run_record.proofs.Growing.{AreReceipts-longer, at_only}
use Rattle.run_record.proofs.Stopping.{AllPlanned-longer, all_planned-longer, StopsBehind-shorter}
use Rattle.request_run.specs.Entries.{entries_of, store_with_entry}
use Rattle.request_run.specs.Served.{AreOtherClients, EachOf}
use Rattle.request_run.proofs.Growing.{EachOf-longer, HasMet-longer, IsServed-longer}
use Rattle.request_run.proofs.Rows.{entries-push}
use Rattle.seat_turns.specs.Kept.{IsCall, IsNamed, IsPast, IsSeat, IsUnheard, IsWorking}
use Rattle.seat_turns.specs.declared.seats.Seat.{Seat}
use Rattle.seat_turns.specs.declared.seats.Work.{Work}
use Rattle.seat_turns.proofs.Working.{sent_own}

-- by at most one entry, of which this holds
pub record IsLonger (old new : List Entry) (owns : Entry → Type 0) : Type 0 where
  pub more : List Entry
  pub is : new ≡ old ++ more
  pub few : length more ≤ 1
  pub own : (place : ℕ) (e : Entry) → EntryAt more place e → owns e

pub longer : (store after : Store MetaEntry) (owns : Entry → Type 0)
    → (after ≡ store) ⊎ ((e : Entry) × (after ≡ store_with_entry store e) × owns e)
    → IsLonger (entries_of store.journal) (entries_of after.journal) owns
longer store after owns (inl same) =
    record {
      more = [];
      is = ap (λ (s : Store MetaEntry). entries_of s.journal) same ∙ sym (append-nil (entries_of store.journal));
      few = omega arith;
      own = λ place e at. absurd (let l : place < 0 = at_within [] place e at in omega arith);
    }
longer store after owns (inr grew) =
    record {
      more = grew.0 ∷ [];
      is = ap (λ (s : Store MetaEntry). entries_of s.journal) grew.1 ∙ entries-push store.journal (record { entry = grew.0 });
      few = omega arith;
      own = λ place e at. subst owns (at_only grew.0 place e at) grew.2;
    }

module _ (C : Settings) (attempts : ℕ) (stops : List Stop) (es more : List Entry) (short : length (es ++ more) ≤ 200000) where
  pub past_longer : (k : ℕ) (client : ClientView) (receipts : List Listed) → IsPast C attempts stops es k client receipts
      → IsPast C attempts stops (es ++ more) k client receipts
  past_longer k client receipts h =
      let within : newest_seen 0 receipts ≤ length (es ++ more) = omega (arith, h.within, length-append es more) in
      record {
        courses = h.courses;
        told = h.told;
        from = h.from;
        ordinals = h.ordinals;
        each = AreReceipts-longer C es more short attempts client.script.id receipts h.each;
        planned = AllPlanned-longer stops es more receipts h.planned;
        rises = h.rises;
        within = within;
      }

  named_on : (receipts : List Listed) (place : ℕ) (e : Entry) → place < length es → IsNamed stops es receipts place e
      → IsNamed stops (es ++ more) receipts place e
  named_on receipts place e within h =
      record { named = h.named; told = λ behind. h.told (StopsBehind-shorter stops es more place e within behind) }

  pub unheard_on : (client : ClientView) (place : ℕ) (e : Entry) → place < length es → IsUnheard stops es client place e
      → IsUnheard stops (es ++ more) client place e
  unheard_on client place e within h =
      record { sent = h.sent; told = λ behind. h.told (StopsBehind-shorter stops es more place e within behind) }

  -- an entry behind a front isn't before it
  pub named_longer : (client : ClientId) (front : ℕ) (receipts : List Listed) → front ≤ length es
      → EachOf es client (λ place e. place < front → IsNamed stops es receipts place e)
      → EachOf (es ++ more) client (λ place e. place < front → IsNamed stops (es ++ more) receipts place e)
  named_longer client front receipts within h =
      EachOf-longer C es more client (λ place e. place < front → IsNamed stops (es ++ more) receipts place e)
      (λ behind e at mine l. absurd (omega arith))
      (λ place e at mine l. named_on receipts place e (at_within es place e at) (h place e at mine l))

  -- new entries of the client are not heard of either
  pub call_longer : (client : ClientView) (receipts : List Listed) (front : ℕ) → front ≤ length es
      → EachOf more client.script.id (λ behind e. IsUnheard stops (es ++ more) client (length es + behind) e)
      → IsCall stops es client receipts front → IsCall stops (es ++ more) client receipts front
  call_longer client receipts front within new h =
      record {
        from = h.from;
        named = named_longer client.script.id front receipts within h.named;
        unheard = EachOf-longer C es more client.script.id
            (λ place e. front ≤ place → IsUnheard stops (es ++ more) client place e)
            (λ behind e at mine l. new behind e at mine)
            (λ place e at mine l. unheard_on client place e (at_within es place e at) (h.unheard place e at mine l));
      }

  -- ---- a seat, where the new entries are other clients'

  working_longer : (client : ClientView) (receipts : List Listed) (under_way : Option Request) (work : Option Work) (again : Option ℕ)
      → IfSome under_way (λ request. request.client ≡ client.script.id)
      → AreOtherClients more client.script.id
      → IsWorking C attempts stops es client receipts under_way work again
      → IsWorking C attempts stops (es ++ more) client receipts under_way work again
  working_longer client receipts None None None own others h =
      EachOf-longer C es more client.script.id (λ place e. IsNamed stops (es ++ more) receipts place e)
      (λ behind e at mine. absurd (others behind e at mine))
      (λ place e at mine. named_on receipts place e (at_within es place e at) (h place e at mine))
  working_longer client receipts (Some request) (Some work) None own others h =
      record {
        call = call_longer client receipts work.front h.served.met.front_in (λ behind e at mine. absurd (others behind e at mine)) h.call;
        served = IsServed-longer C es more attempts request work.front work.task
            (λ behind e at mine. others behind e at (mine ∙ own)) h.served;
        pending = h.pending;
        server = h.server;
      }
  working_longer client receipts (Some request) None (Some front) own others h =
      record {
        call = call_longer client receipts front h.met.front_in (λ behind e at mine. absurd (others behind e at mine)) h.call;
        met = HasMet-longer C es more request front [] (λ behind e at mine. absurd (others behind e at (mine ∙ own))) h.met;
      }
  working_longer client receipts None None (Some front) own others h = absurd h
  working_longer client receipts None (Some work) None own others h = absurd h
  working_longer client receipts None (Some work) (Some front) own others h = absurd h
  working_longer client receipts (Some request) None None own others h = absurd h
  working_longer client receipts (Some request) (Some work) (Some front) own others h = absurd h

  pub seat_longer : (k : ℕ) (seat : Seat) → AreOtherClients more seat.client.script.id → IsSeat C attempts stops es k seat
      → IsSeat C attempts stops (es ++ more) k seat
  seat_longer k seat others h =
      record {
        config = h.config;
        script = h.script;
        planned = all_planned-longer stops es more seat.client.gone h.planned;
        past = past_longer k seat.client seat.receipts h.past;
        working = working_longer seat.client seat.receipts seat.client.request seat.work seat.again
            (each_own seat.client.request refl) others h.working;
      }
    where
      each_own : (o : Option Request) → seat.client.request ≡ o → IfSome o (λ request. request.client ≡ seat.client.script.id)
      each_own None is = tt
      each_own (Some request) is = sent_own C attempts stops es k seat h request is
