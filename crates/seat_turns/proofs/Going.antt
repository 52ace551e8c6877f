-- One ask of a request: what the store, the servers and the client's seat come to.
use Rattle.std.proofs.Common.{◌≡◌, ◌⊎◌, ℕ, ◌+◌, ◌<◌, ◌≤◌, List, ◌++◌, Option, Some, None, Bool, length, eqb, nat_lt, refl, sym, ap, subst, ◌∙◌, arith}
use Rattle.std.specs.Prelude.{slice_get}
use Rattle.std.proofs.lemmas.List.Sums.{count_by-le-length}
use Rattle.fs_base.specs.Config.{Settings}
use Rattle.fs_base.specs.declared.call.Request.{Request}
use Rattle.kv_store.specs.Store.{Store}
use Rattle.meta_task.specs.declared.entry.MetaEntry.{MetaEntry}
use Rattle.txn_task.specs.declared.messages.Entry.{Entry}
use Rattle.client_core.specs.declared.plan.Stop.{Stop}
use Rattle.run_record.specs.Legal.{EntryAt}
use Rattle.run_record.specs.Stops.{IsPlannedStop}
use Rattle.request_run.specs.Entries.{IsGrowthOf, entries_of}
use Rattle.request_run.specs.Served.{IsTaskReady}
use Rattle.request_run.proofs.Rows.{length_entries}
use Rattle.seat_turns.specs.Events.{Comes}
use Rattle.seat_turns.specs.Kept.{IsSeat}
use Rattle.seat_turns.specs.Ready.{is_done}
use Rattle.seat_turns.specs.Servers.{AreCounted, HasCounted, IsCounted, has_made, is_past}
use Rattle.seat_turns.specs.declared.seats.Seat.{Seat}
use Rattle.seat_turns.specs.declared.seats.Work.{Work}
use Rattle.seat_turns.specs.declared.servers.ServerCounts.{ServerCounts}
use Rattle.seat_turns.proofs.Coming.{seat_after, server_below, server_is}
use Rattle.seat_turns.proofs.Counted.{are_counted, planned_now, quiet_now}
use Rattle.seat_turns.proofs.Longer.{IsLonger, longer}

-- a server has made no more entries than there are, and stopped no more often than planned
pub commits_within : (stops : List Stop) (journal : List Entry) (server : ℕ) (counts : ServerCounts) → IsCounted stops journal server counts
    → counts.commits ≤ length journal
commits_within stops journal server counts h =
    let all = count_by-le-length (λ (e : Entry). eqb e.request.server server) journal in
    omega (arith, h.commits, all)

pub stops_within : (stops : List Stop) (journal : List Entry) (server : ℕ) (counts : ServerCounts) → IsCounted stops journal server counts
    → counts.stops ≤ length stops
stops_within stops journal server counts h =
    let all = count_by-le-length (is_past server counts.asks counts.commits) stops in
    omega (arith, h.few, all)

-- the fronts tell whether an entry was made
pub made_is : (store after : Store MetaEntry) → nat_lt (length store.journal) (length after.journal) ≡ has_made (entries_of store.journal) (entries_of after.journal)
made_is store after = sym (λ i. nat_lt (length_entries store.journal i) (length_entries after.journal i))

-- what was counted, by the fronts, as the journals tell it
pub counted_so : (stops : List Stop) (server : ℕ) (store after : Store MetaEntry) (m n : ℕ) (stop : Option ℕ) (old later : List ServerCounts)
    → m ≡ length store.journal → n ≡ length after.journal → HasCounted stops server (nat_lt m n) stop old later
    → HasCounted stops server (has_made (entries_of store.journal) (entries_of after.journal)) stop old later
counted_so stops server store after m n stop old later is_m is_n h =
    subst (λ b. HasCounted stops server b stop old later) ((λ i. nat_lt (is_m i) (is_n i)) ∙ made_is store after) h

-- so neither count is out of range
module _ (C : Settings) (stops : List Stop) (store : Store MetaEntry) (all : List ServerCounts) (h : AreCounted C stops (entries_of store.journal) all) (server : ℕ)
    (counts : ServerCounts) (at : slice_get all server ≡ Some counts) where
  pub commits_few : length store.journal ≤ 200000 → counts.commits ≤ 200000
  commits_few short =
      let few : counts.commits ≤ length (entries_of store.journal) = commits_within stops (entries_of store.journal) server counts (h.each server counts at) in
      let same : length (entries_of store.journal) ≡ length store.journal = length_entries store.journal in
      omega arith

  pub stops_few : length stops ≤ 64 → counts.stops ≤ 64
  stops_few short =
      let few : counts.stops ≤ length stops = stops_within stops (entries_of store.journal) server counts (h.each server counts at) in
      omega arith

module _ (C D : Settings) (attempts : ℕ) (stops : List Stop) (k : ℕ) (store after : Store MetaEntry) (before : Seat) (work : Work) (same : D ≡ C)
    (h : IsSeat C attempts stops (entries_of store.journal) k before) (is : before.work ≡ Some work)
    (grows : IsGrowthOf store after work.task.request) (old later : List ServerCounts) (all : AreCounted C stops (entries_of store.journal) old)
    (stop : Option ℕ) (asked : HasCounted stops work.server (has_made (entries_of store.journal) (entries_of after.journal)) stop old later) where
  grown : IsLonger (entries_of store.journal) (entries_of after.journal) (λ e. e.request ≡ work.task.request)
  grown = longer store after (λ e. e.request ≡ work.task.request) grows

  -- what was made was made at the server that works on it
  made_there : (place : ℕ) (e : Entry) → EntryAt grown.more place e → e.request.server ≡ work.server
  made_there place e at =
      ap (λ (q : Request). q.server) (grown.own place e at)
      ∙ server_is C D attempts stops k store before work same h is

  asked_so : HasCounted stops work.server (has_made (entries_of store.journal) (entries_of store.journal ++ grown.more)) stop old later
  asked_so = subst (λ js. HasCounted stops work.server (has_made (entries_of store.journal) js) stop old later) grown.is asked

  below : work.server < C.servers
  below = server_below C D attempts stops k store before work same h is

  pub counts_after : AreCounted C stops (entries_of after.journal) later
  counts_after =
      subst (λ js. AreCounted C stops js later) (sym grown.is)
      (are_counted C stops (entries_of store.journal) grown.more grown.few work.server made_there stop old later all below asked_so)

  pub planned_after : (number : ℕ) → stop ≡ Some number → IsPlannedStop stops (entries_of after.journal) (work.server, number)
  planned_after number at =
      subst (λ js. IsPlannedStop stops js (work.server, number)) (sym grown.is)
      (planned_now C stops (entries_of store.journal) grown.more grown.few work.server made_there stop old later all below asked_so number at)

  pub kept_after : (seat : Seat) (next : Work) → length after.journal ≤ 200000
      → IsTaskReady D work.task.attempts (entries_of after.journal) work.task.request work.front next.task next.ask
      → next ≡ record work { task = next.task; ask = next.ask } → Comes C k (record before { work = None }) seat next stop (is_done next.ask)
      → IsSeat C attempts stops (entries_of after.journal) k seat
  kept_after seat next few ready next_is comes =
      seat_after C D attempts stops k store before work same h is after seat next stop grown few planned_after
      (quiet_now C stops (entries_of store.journal) grown.more grown.few work.server made_there stop old later all below asked_so)
      ready next_is comes
