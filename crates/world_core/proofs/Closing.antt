-- A world that begins, one that has ended, and the plan that both keep.
use Rattle.std.proofs.Common.{◌≡◌, ℕ, ◌^◌, ◌<◌, ◌≤◌, inl, inr, Bool, List, [], Some, false, get_or, length, map, Result, Ok, Err, IfOk, sym, ap, subst, ◌∙◌}
use Rattle.std.specs.Prelude.{slice_get}
use Rattle.std.proofs.lemmas.List.{length-map}
use Rattle.fs_base.specs.Config.{Settings}
use Rattle.fs_base.specs.declared.ids.ClientId.{ClientId}
use Rattle.fs_base.specs.declared.memory.Memory.{Memory}
use Rattle.row_tree.specs.HasTree.{HasTree}
use Rattle.row_tree.specs.Opening.{opening_bytes}
use Rattle.tree_model.specs.Tree.{new_tree}
use Rattle.fs_base.specs.declared.row.Row.{Row}
use Rattle.kv_store.specs.Store.{Store}
use Rattle.meta_task.specs.declared.entry.MetaEntry.{MetaEntry}
use Rattle.txn_task.specs.declared.messages.Entry.{Entry}
use Rattle.client_core.specs.Client.{has_ended}
use Rattle.client_core.specs.Plans.{AreDistinct, IsPlan, IsSchedule, ops_in}
use Rattle.client_core.specs.declared.plan.Plan.{Plan}
use Rattle.client_core.specs.declared.plan.Schedule.{Schedule}
use Rattle.client_core.specs.declared.plan.Script.{Script}
use Rattle.client_core.specs.declared.plan.Stop.{Stop}
use Rattle.run_record.specs.Right.{IsRightRecord, conflicts_in, summary_of}
use Rattle.run_record.specs.declared.run.Record.{Record}
use Rattle.request_run.specs.Entries.{IsGrowth, entries_of}
use Rattle.world_core.specs.Objects.{Done, IsStep, Objects, grown, no_histories}
use Rattle.run_record.specs.Sound.{IsSoundJournal}
use Rattle.request_run.specs.Sound.{IsStoreOpening}
use Rattle.seat_turns.specs.Seats.{AreSeated, HaveEnded, receipts_in, scripts_of_seats, seats_of}
use Rattle.seat_turns.specs.Servers.{counts_of}
use Rattle.world_core.specs.World.{IsWorld, WorldView, plan_of_world}
use Rattle.seat_turns.specs.declared.seats.Seat.{Seat}
use Rattle.seat_turns.specs.declared.servers.ServerCounts.{ServerCounts}
use Rattle.run_record.proofs.Counting.{few_conflicts}
use Rattle.world_core.proofs.Righting.{all_sections, right_record}
use Rattle.request_run.proofs.Rows.{length_entries}
use Rattle.seat_turns.proofs.Seating.{scripts_new, seat_there, seated_new}

-- ---- the plan

length_scripts : (seats : List Seat) → length (scripts_of_seats seats) ≡ length seats
length_scripts seats = length-map seats (λ (seat : Seat). seat.client.script)

-- worlds of one plan have as many clients
pub same_seats : (v w : WorldView) → plan_of_world v ≡ plan_of_world w → length v.seats ≡ length w.seats
same_seats v w same = sym (length_scripts v.seats) ∙ (ap (λ (plan : Plan). length plan.clients) same ∙ length_scripts w.seats)

pub same_schedule : (v w : WorldView) → plan_of_world v ≡ plan_of_world w → v.schedule ≡ w.schedule
same_schedule v w same = ap (λ (plan : Plan). plan.schedule) same

-- ---- a turn that went on

-- the store grew, and the nodes stayed
pub grown_step : (before : Objects) (store after : Store MetaEntry) (nodes : List (List Done)) (client : ClientId) → record { store = store; nodes = nodes } ≡ before → IsGrowth store after client
    → IsStep before (record { store = after; nodes = nodes }) client
grown_step before store after nodes client is (inl same) = inl (ap (λ (s : Store MetaEntry). record { store = s; nodes = nodes }) same ∙ is)
grown_step before store after nodes client is (inr more) =
    inr (more.0, ap (λ (s : Store MetaEntry). record { store = s; nodes = nodes }) more.1 ∙ ap (λ (o : Objects). grown o more.0) is, more.2)

-- the client that was looked at
pub not_ended : (seats : List Seat) (i k : ℕ) (x : Seat) (ended : Bool) → i ≡ k → k < length seats → x ≡ get_or seats i x → ended ≡ has_ended x.client → ended ≡ false
    → (seat : Seat) → slice_get seats k ≡ Some seat → has_ended seat.client ≡ false
not_ended seats i k x ended same l is told false_is seat at =
    let one : Some x ≡ Some seat = sym (seat_there seats i k x same l is) ∙ at in
    let x_is : x ≡ seat = cc in
    ap (λ (s : Seat). has_ended s.client) (sym x_is) ∙ (sym told ∙ false_is)

pub world_went : (C : Settings) (attempts : ℕ) (store after : Store MetaEntry) (nodes : List (List Done)) (seats later : List Seat) (counts more : List ServerCounts) (stops kept : List Stop) (schedule : Schedule) (failed : Bool)
    → IsWorld (record { config = C; attempts = attempts; objects = record { store = store; nodes = nodes }; seats = seats; counts = counts; stops = stops; schedule = schedule; failed = failed })
    → scripts_of_seats later ≡ scripts_of_seats seats → kept ≡ stops → after.config ≡ store.config → IsStoreOpening after → AreSeated C attempts stops more (entries_of after.journal) later
    → IsWorld (record { config = C; attempts = attempts; objects = record { store = after; nodes = nodes }; seats = later; counts = more; stops = kept; schedule = schedule; failed = false })
world_went C attempts store after nodes seats later counts more stops kept schedule failed w scripts stays config opened seated =
    let same : length later ≡ length seats = sym (length_scripts later) ∙ (ap (λ (ss : List Script). length ss) scripts ∙ length_scripts seats) in
    record {
      config = config ∙ w.config;
      opened = opened;
      attempts_from = w.attempts_from;
      attempts_to = w.attempts_to;
      distinct = subst AreDistinct (sym scripts) w.distinct;
      few = subst (λ n. n ≤ 64) (sym same) w.few;
      short = subst (λ (ss : List Script). ops_in ss ≤ 4000) (sym scripts) w.short;
      few_stops = subst (λ (ss : List Stop). length ss ≤ 64) (sym stays) w.few_stops;
      schedule = subst (λ n. IsSchedule n schedule) (sym same) w.schedule;
      seated = λ alive. subst (λ (ss : List Stop). AreSeated C attempts ss more (entries_of after.journal) later) (sym stays) seated;
    }

-- scripts and stops are all that a turn could change of a plan
pub plan_went : (C : Settings) (attempts : ℕ) (seats later : List Seat) (stops kept : List Stop) (schedule : Schedule) → scripts_of_seats later ≡ scripts_of_seats seats → kept ≡ stops
    → (let after : Plan = record { config = C; attempts = attempts; clients = scripts_of_seats later; stops = kept; schedule = schedule } in after)
    ≡ record { config = C; attempts = attempts; clients = scripts_of_seats seats; stops = stops; schedule = schedule }
plan_went C attempts seats later stops kept schedule scripts stays =
    λ i. record { config = C; attempts = attempts; clients = scripts i; stops = stays i; schedule = schedule }

pub store_open : (C : Settings) (rows : List Row) (store : Store MetaEntry) → rows ≡ opening_bytes C → HasTree C rows (new_tree C) → store ≡ record { config = C; opening = rows; journal = [] } → IsStoreOpening store
store_open C rows store value tree is =
    subst (λ (s : Store MetaEntry). IsStoreOpening s) (sym is) (record { opening = value; tree = subst (λ (r : List Row). HasTree C r (new_tree C)) value tree })

module _ (plan : Plan) (store : Store MetaEntry) (seats : List Seat) (counts : List ServerCounts) (stops : List Stop)
    (are : seats ≡ seats_of plan.config plan.clients) (counted : counts ≡ counts_of plan.config) (planned : stops ≡ plan.stops) where
  scripts_same : scripts_of_seats seats ≡ plan.clients
  scripts_same = ap (λ (ss : List Seat). scripts_of_seats ss) are ∙ scripts_new plan.config plan.clients

  pub plan_new : plan_of_world (record { config = plan.config; attempts = plan.attempts; objects = record { store = store; nodes = no_histories plan.config.nodes }; seats = seats; counts = counts; stops = stops; schedule = plan.schedule; failed = false }) ≡ plan
  plan_new = λ i. record { config = plan.config; attempts = plan.attempts; clients = scripts_same i; stops = planned i; schedule = plan.schedule }

  pub world_new : IsPlan plan → store.config ≡ plan.config → store.journal ≡ [] → IsStoreOpening store
      → IsWorld (record { config = plan.config; attempts = plan.attempts; objects = record { store = store; nodes = no_histories plan.config.nodes }; seats = seats; counts = counts; stops = stops; schedule = plan.schedule; failed = false })
  world_new h config none opened =
      let count : length plan.clients ≡ length seats = sym (ap (λ (ss : List Script). length ss) scripts_same) ∙ length_scripts seats in
      record {
        config = config;
        opened = opened;
        attempts_from = h.attempts_from;
        attempts_to = h.attempts_to;
        distinct = subst (λ (ss : List Script). AreDistinct ss) (sym scripts_same) h.distinct;
        few = subst (λ (n : ℕ). n ≤ 64) count h.few;
        short = subst (λ (ss : List Script). ops_in ss ≤ 4000) (sym scripts_same) h.short;
        few_stops = subst (λ (ss : List Stop). length ss ≤ 64) (sym planned) h.few_stops;
        schedule = subst (λ (n : ℕ). IsSchedule n plan.schedule) count h.schedule;
        seated = λ alive.
            subst (λ (js : List MetaEntry). AreSeated plan.config plan.attempts stops counts (entries_of js) seats) (sym none)
            (subst (λ (ss : List Seat). AreSeated plan.config plan.attempts stops counts [] ss) (sym are)
            (subst (λ (cs : List ServerCounts). AreSeated plan.config plan.attempts stops cs [] (seats_of plan.config plan.clients)) (sym counted)
            (seated_new plan.config plan.attempts stops plan.clients h.scripts)));
      }

-- ---- a world that has ended

pub few_kept : (w : WorldView) → IsWorld w → w.failed ≡ false → HaveEnded w.seats → length w.objects.store.journal ≤ 200000 → conflicts_in (receipts_in w.seats) < 2 ^ 64
few_kept w h alive ended short =
    let journal : List Entry = entries_of w.objects.store.journal in
    few_conflicts w.config w.attempts journal (scripts_of_seats w.seats) (receipts_in w.seats)
    (all_sections w.config w.attempts w.stops w.counts journal w.seats (h.seated alive) ended)
    (subst (λ (n : ℕ). n ≤ 200000) (sym (length_entries w.objects.store.journal)) short)
    h.short

pub right_run : (w : WorldView) (r : Result Record Memory) → IsWorld w → w.failed ≡ false → HaveEnded w.seats → IsSoundJournal w.objects.store.config (entries_of w.objects.store.journal)
    → IfOk r (λ run. run.config ≡ w.config) → IfOk r (λ run. run.clients ≡ map (λ (script : Script). script.id) (scripts_of_seats w.seats)) → IfOk r (λ run. run.receipts ≡ receipts_in w.seats)
    → IfOk r (λ run. run.entries ≡ entries_of w.objects.store.journal) → IfOk r (λ run. run.summary ≡ summary_of w.config run.clients run.receipts run.entries)
    → IfOk r (λ run. IsRightRecord (plan_of_world w) run)
right_run w (Ok run) h alive ended sound config clients receipts entries summary =
    right_record w run (subst (λ (C : Settings). IsSoundJournal C (entries_of w.objects.store.journal)) h.config sound) h.distinct (h.seated alive) ended config clients receipts entries summary
right_run w (Err e) h alive ended sound config clients receipts entries summary = tt
