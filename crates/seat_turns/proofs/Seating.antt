-- One client's turn, and all the others.
use Rattle.std.proofs.Common.{◌≡◌, ◌≢◌, ℕ, zero, suc, ◌+◌, ◌<◌, ◌≤◌, inl, inr, List, [], ◌∷◌, ◌++◌, All, Option, Some, None, length, replicate, set, get_or, refl, sym, ap, subst, ◌∙◌, arith, option_map}
use Rattle.std.specs.Prelude.{slice_get}
use Rattle.std.proofs.Math.Seq.{map-set_same}
use Rattle.std.proofs.lemmas.Bool.{cases_eq}
use Rattle.std.proofs.lemmas.List.{get_or-set_same, length-replicate, length-set}
use Rattle.std.proofs.lemmas.List.Elements.{All-head, All-nil, All-tail}
use Rattle.std.proofs.lemmas.Option.{slice_get-get_or, slice_get-map, same_Some}
use Rattle.fs_base.specs.Config.{Settings}
use Rattle.kv_store.specs.Store.{Store}
use Rattle.meta_task.specs.declared.entry.MetaEntry.{MetaEntry}
use Rattle.txn_task.specs.declared.messages.Entry.{Entry}
use Rattle.client_core.specs.Client.{new_client}
use Rattle.client_core.specs.Plans.{AreDistinct, IsScript}
use Rattle.client_core.specs.declared.plan.Stop.{Stop}
use Rattle.client_core.specs.declared.plan.Script.{Script}
use Rattle.run_record.specs.Legal.{EntryAt}
use Rattle.run_record.specs.Stops.{IsPlannedStop}
use Rattle.run_record.specs.declared.run.Listed.{Listed}
use Rattle.request_run.specs.Served.{AreOtherClients}
use Rattle.request_run.specs.Entries.{IsGrowth, entries_of}
use Rattle.run_record.proofs.Growing.{at_either}
use Rattle.request_run.proofs.Rows.{length_entries}
use Rattle.seat_turns.specs.Kept.{IsSeat}
use Rattle.seat_turns.specs.Events.{lost_at}
use Rattle.seat_turns.specs.Seats.{AllSeats, AreOwned, AreSeated, new_seat, scripts_of_seats, seats_of}
use Rattle.seat_turns.specs.Servers.{IsCounted, counts_of, no_counts}
use Rattle.seat_turns.specs.declared.seats.Seat.{Seat}
use Rattle.seat_turns.specs.declared.servers.ServerCounts.{ServerCounts}
use Rattle.seat_turns.proofs.Longer.{IsLonger, longer, seat_longer}
use Rattle.seat_turns.proofs.Taking.{seat_lost}

-- ---- places

pub set_here : (seats : List Seat) (k : ℕ) (y : Seat) → k < length seats → slice_get (set seats k y) k ≡ Some y
set_here seats k y l =
    slice_get-get_or (set seats k y) k y (omega (arith, length-set seats k y)) ∙ ap Some (get_or-set_same seats k y y l)

set_other : (seats : List Seat) (k j : ℕ) (y : Seat) → j ≢ k → slice_get (set seats k y) j ≡ slice_get seats j
set_other [] k j y n = refl
set_other (z ∷ seats) zero zero y n = absurd (n refl)
set_other (z ∷ seats) zero (suc j) y n = refl
set_other (z ∷ seats) (suc k) zero y n = refl
set_other (z ∷ seats) (suc k) (suc j) y n = set_other seats k j y (λ e. n (ap (λ m. suc m) e))

pub script_at : (seats : List Seat) (k : ℕ) (x : Seat) → slice_get seats k ≡ Some x → slice_get (scripts_of_seats seats) k ≡ Some x.client.script
script_at seats k x at = slice_get-map (λ (w : Seat). w.client.script) seats k ∙ ap (option_map (λ (w : Seat). w.client.script)) at

-- seats of one id are one
pub one_seat : (seats : List Seat) (j k : ℕ) (x z : Seat) → AreDistinct (scripts_of_seats seats) → slice_get seats j ≡ Some x → slice_get seats k ≡ Some z → x.client.script.id ≡ z.client.script.id → j ≡ k
one_seat seats j k x z distinct at_x at_z same = distinct j k x.client.script z.client.script (script_at seats j x at_x) (script_at seats k z at_z) same

-- ---- a turn

-- the seat at an index that is the client's
pub seat_there : (seats : List Seat) (i k : ℕ) (x : Seat) → i ≡ k → k < length seats → x ≡ get_or seats i x → slice_get seats k ≡ Some x
seat_there seats i k x same l is = slice_get-get_or seats k x l ∙ ap Some (sym (subst (λ n. x ≡ get_or seats n x) same is))

-- what holds of it holds of each seat there
pub each_there : (P : Seat → Type 0) (seats : List Seat) (i k : ℕ) (x : Seat) → i ≡ k → k < length seats → x ≡ get_or seats i x → P x → (seat : Seat) → slice_get seats k ≡ Some seat → P seat
each_there P seats i k x same l is h seat at = subst P (same_Some x seat (sym (seat_there seats i k x same l is) ∙ at)) h

-- another takes its place
module _ (seats : List Seat) (i k : ℕ) (x y : Seat) (same : i ≡ k) (within : k < length seats) (is : x ≡ get_or seats i x) where
  at_x : slice_get seats k ≡ Some x
  at_x = seat_there seats i k x same within is

  pub here : slice_get (set seats i y) k ≡ Some y
  here = subst (λ n. slice_get (set seats n y) k ≡ Some y) (sym same) (set_here seats k y within)

  pub apart : (j : ℕ) → j ≢ k → slice_get (set seats i y) j ≡ slice_get seats j
  apart j other = subst (λ n. slice_get (set seats n y) j ≡ slice_get seats j) (sym same) (set_other seats k j y other)

  pub scripts_there : y.client.script ≡ x.client.script
      → scripts_of_seats (set seats i y) ≡ scripts_of_seats seats
  scripts_there script = map-set_same (λ (w : Seat). w.client.script) seats i y x (script ∙ ap (λ (w : Seat). w.client.script) is)

  pub event_there : (P : Seat → Seat → Type 0) → P x y → (before after : Seat) → slice_get seats k ≡ Some before → slice_get (set seats i y) k ≡ Some after → P before after
  event_there P h before after at_before at_after =
      subst (λ (b : Seat). P b after) (same_Some x before (sym at_x ∙ at_before)) (subst (λ (a : Seat). P x a) (same_Some y after (sym here ∙ at_after)) h)

  module _ (C : Settings) (attempts : ℕ) (stops : List Stop) (es more : List Entry) (script : y.client.script ≡ x.client.script) (distinct : AreDistinct (scripts_of_seats seats)) (short : length (es ++ more) ≤ 200000)
      (mine : (place : ℕ) (e : Entry) → EntryAt more place e → e.request.client ≡ x.client.script.id) (all : AllSeats C attempts stops es seats) (owned : AreOwned es seats) (own : IsSeat C attempts stops (es ++ more) k y) where
    -- the new entries are the client's, so not another's
    others : (j : ℕ) (z : Seat) → j ≢ k → slice_get seats j ≡ Some z → AreOtherClients more z.client.script.id
    others j z other at place e at_e its = other (one_seat seats j k z x distinct at at_x (sym its ∙ mine place e at_e))

    all_set : AllSeats C attempts stops (es ++ more) (set seats i y)
    all_set j z at = elim (cases_eq j k) [
      | inl one ↦ subst (λ n. IsSeat C attempts stops (es ++ more) n z) (sym one) (subst (IsSeat C attempts stops (es ++ more) k) (same_Some y z (sym here ∙ (ap (slice_get (set seats i y)) (sym one) ∙ at))) own)
      | inr other ↦ (let old : slice_get seats j ≡ Some z = sym (apart j other) ∙ at in seat_longer C attempts stops es more short j z (others j z other old) (all j z old))
    ]

    -- a seat of a client that had one
    abbrev HasSeat : Entry → Type 0
    HasSeat e = (j : ℕ) × (z : Seat) × (slice_get (set seats i y) j ≡ Some z) × (e.request.client ≡ z.client.script.id)

    mine_set : (e : Entry) → e.request.client ≡ x.client.script.id → HasSeat e
    mine_set e its = (k, y, here, its ∙ sym (ap (λ (s : Script). s.id) script))

    owner_set : (e : Entry) (j : ℕ) (z : Seat) → slice_get seats j ≡ Some z → e.request.client ≡ z.client.script.id → HasSeat e
    owner_set e j z at its = elim (cases_eq j k) [
      | inl one ↦ mine_set e (its ∙ ap (λ (w : Seat). w.client.script.id) (same_Some z x (sym at ∙ (ap (slice_get seats) one ∙ at_x))))
      | inr other ↦ (j, z, apart j other ∙ at, its)
    ]

    owned_set : AreOwned (es ++ more) (set seats i y)
    owned_set place e at = elim (at_either es more place e at) [
      | inl old ↦ (let owner = owned place e old in owner_set e owner.0 owner.1 owner.2 owner.3)
      | inr new ↦ mine_set e (mine new.0 e new.2)
    ]

  -- a turn of one client keeps all
  pub seated_there : (C : Settings) (attempts : ℕ) (stops : List Stop) (store after : Store MetaEntry) → y.client.script ≡ x.client.script → AreDistinct (scripts_of_seats seats) → length after.journal ≤ 200000
      → AllSeats C attempts stops (entries_of store.journal) seats → AreOwned (entries_of store.journal) seats
      → IsGrowth store after x.client.script.id → IsSeat C attempts stops (entries_of after.journal) k y
      → AllSeats C attempts stops (entries_of after.journal) (set seats i y) × AreOwned (entries_of after.journal) (set seats i y)
  seated_there C attempts stops store after script distinct few all owned growth own =
      let grown : IsLonger (entries_of store.journal) (entries_of after.journal) (λ e. e.request.client ≡ x.client.script.id)
      = longer store after (λ e. e.request.client ≡ x.client.script.id) growth in
      let es : List Entry = entries_of store.journal ++ grown.more in
      let short : length es ≤ 200000 = subst (λ n. n ≤ 200000) (sym (length_entries after.journal) ∙ ap (λ (js : List Entry). length js) grown.is) few in
      let own_now : IsSeat C attempts stops es k y = subst (λ js. IsSeat C attempts stops js k y) grown.is own in (
        subst (λ js. AllSeats C attempts stops js (set seats i y)) (sym grown.is)
            (all_set C attempts stops (entries_of store.journal) grown.more script distinct short grown.own all owned own_now),
        subst (λ js. AreOwned js (set seats i y)) (sym grown.is)
            (owned_set C attempts stops (entries_of store.journal) grown.more script distinct short grown.own all owned own_now),
      )

-- ---- a stop of a server

-- each client whose request the server worked on learns so
pub all_lost : (C : Settings) (attempts : ℕ) (stops : List Stop) (journal : List Entry) (seats later : List Seat) (server stop : ℕ)
    → AllSeats C attempts stops journal seats → IsPlannedStop stops journal (server, stop)
    → ((k : ℕ) → slice_get later k ≡ option_map (λ seat. lost_at server stop seat seat.work) (slice_get seats k))
    → AllSeats C attempts stops journal later
all_lost C attempts stops journal seats later server stop all one lost k seat at = by_old (slice_get seats k) refl
  where
    by_old : (o : Option Seat) → slice_get seats k ≡ o → IsSeat C attempts stops journal k seat
    by_old None is = absurd (let f : Some seat ≡ None = sym at ∙ (lost k ∙ ap (option_map (λ seat. lost_at server stop seat seat.work)) is) in cc)
    by_old (Some old) is =
        subst (IsSeat C attempts stops journal k)
        (same_Some (lost_at server stop old old.work) seat
        (sym (ap (option_map (λ seat. lost_at server stop seat seat.work)) is) ∙ (sym (lost k) ∙ at)))
        (seat_lost C attempts stops journal k old server stop (all k old is) one)

-- and each entry is its client's as before
pub owned_lost : (journal : List Entry) (seats later : List Seat) → scripts_of_seats later ≡ scripts_of_seats seats
    → AreOwned journal seats → AreOwned journal later
owned_lost journal seats later scripts owned place e at =
    let owner = owned place e at in
    let there : slice_get (scripts_of_seats later) owner.0 ≡ Some owner.1.client.script
    = ap (λ (ss : List Script). slice_get ss owner.0) scripts ∙ script_at seats owner.0 owner.1 owner.2 in
    of_later owner.0 owner.1 owner.3 there (slice_get later owner.0) refl
  where
    of_later : (j : ℕ) (x : Seat) → e.request.client ≡ x.client.script.id → slice_get (scripts_of_seats later) j ≡ Some x.client.script
        → (o : Option Seat) → slice_get later j ≡ o
        → (k : ℕ) × (seat : Seat) × (slice_get later k ≡ Some seat) × (e.request.client ≡ seat.client.script.id)
    of_later j x mine there None is =
        absurd (let f : None ≡ Some x.client.script
        = sym (slice_get-map (λ (w : Seat). w.client.script) later j ∙ ap (option_map (λ (w : Seat). w.client.script)) is) ∙ there in cc)
    of_later j x mine there (Some z) is =
        let same : z.client.script ≡ x.client.script = same_Some z.client.script x.client.script (sym (script_at later j z is) ∙ there) in
        (j, z, is, mine ∙ sym (ap (λ (s : Script). s.id) same))

-- ---- clients that have done nothing yet

pub scripts_new : (C : Settings) (scripts : List Script) → scripts_of_seats (seats_of C scripts) ≡ scripts
scripts_new C [] = refl
scripts_new C (script ∷ scripts) = ap (λ (ss : List Script). script ∷ ss) (scripts_new C scripts)

seat_new : (C : Settings) (attempts : ℕ) (stops : List Stop) (k : ℕ) (script : Script) → IsScript C.servers script → IsSeat C attempts stops [] k (new_seat C script)
seat_new C attempts stops k script h =
    record {
      config = refl;
      script = h;
      planned = All-nil (IsPlannedStop stops []);
      past = record {
        courses = [];
        told = refl;
        from = refl;
        ordinals = All-nil (λ (l : Listed). l.client ≡ k);
        each = tt;
        planned = All-nil (λ (l : Listed). All (IsPlannedStop stops []) l.receipt.gone);
        rises = tt;
        within = omega arith;
      };
      working = λ place e at mine. absurd (let none : None ≡ Some e = at in cc);
    }

all_new : (C : Settings) (attempts : ℕ) (stops : List Stop) (base : ℕ) (scripts : List Script) → All (IsScript C.servers) scripts → (k : ℕ) (seat : Seat) → slice_get (seats_of C scripts) k ≡ Some seat → IsSeat C attempts stops [] (base + k) seat
all_new C attempts stops base [] valid k seat at = absurd (let none : None ≡ Some seat = at in cc)
all_new C attempts stops base (script ∷ scripts) valid zero seat at =
    subst (λ (w : Seat). IsSeat C attempts stops [] (base + 0) w) (same_Some (new_seat C script) seat at)
    (seat_new C attempts stops (base + 0) script (All-head (IsScript C.servers) script scripts valid))
all_new C attempts stops base (script ∷ scripts) valid (suc k) seat at =
    let same : (base + 1) + k ≡ base + suc k = omega arith in
    subst (λ n. IsSeat C attempts stops [] n seat) same (all_new C attempts stops (base + 1) scripts (All-tail (IsScript C.servers) script scripts valid) k seat at)

pub seated_new : (C : Settings) (attempts : ℕ) (stops : List Stop) (scripts : List Script) → All (IsScript C.servers) scripts
    → AreSeated C attempts stops (counts_of C) [] (seats_of C scripts)
seated_new C attempts stops scripts valid =
    record {
      all = λ k seat at. (let same : 0 + k ≡ k = omega arith in subst (λ n. IsSeat C attempts stops [] n seat) same (all_new C attempts stops 0 scripts valid k seat at));
      owned = λ place e at. absurd (let none : None ≡ Some e = at in cc);
      covered = λ place e at. absurd (let none : None ≡ Some e = at in cc);
      counted = record { many = length-replicate C.servers no_counts; each = λ server c at. none_counted server c (zero_counts C.servers server c at) };
    }
  where
    zero_counts : (many server : ℕ) (c : ServerCounts) → slice_get (replicate many no_counts) server ≡ Some c → no_counts ≡ c
    zero_counts zero server c at = absurd (let none : None ≡ Some c = at in cc)
    zero_counts (suc many) zero c at = same_Some no_counts c at
    zero_counts (suc many) (suc server) c at = zero_counts many server c at

    none_counted : (server : ℕ) (c : ServerCounts) → no_counts ≡ c → IsCounted stops [] server c
    none_counted server c is = subst (IsCounted stops [] server) is (record { commits = refl; few = omega arith })
