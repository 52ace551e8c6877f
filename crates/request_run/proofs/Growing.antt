-- A request that is served stays so while the journal grows.
use Rattle.std.proofs.Common.{ℕ, ◌<◌, ◌≤◌, ◌+◌, inl, inr, List, ◌++◌, length, sym, subst, arith}
use Rattle.conflict_sets.specs.Reads as bytes
use Rattle.fs_base.specs.Config.{Settings}
use Rattle.fs_base.specs.declared.call.Request.{Request}
use Rattle.fs_base.specs.declared.ids.ClientId.{ClientId}
use Rattle.fs_base.specs.declared.row.Row.{Row}
use Rattle.key_schema.specs.declared.key.Key.{Key}
use Rattle.txn_task.specs.declared.messages.Entry.{Entry}
use Rattle.meta_task.specs.Task.{TaskView}
use Rattle.run_record.specs.Outcomes.{last_version}
use Rattle.run_record.proofs.Growing.{AreConflicts-longer, at_either, rows-longer, within_longer}
use Rattle.request_run.specs.Served.{AreOtherClients, EachOf, HasMetConflicts, IsBegun, IsOwnEntry}
use Rattle.request_run.specs.Served.{IsTaskServed}

module _ (C : Settings) (es more : List Entry) where
  -- what holds of the client's old entries and of its new ones
  pub EachOf-longer : (client : ClientId) (holds : ℕ → Entry → Type 0) → EachOf more client (λ behind e. holds (length es + behind) e) → EachOf es client holds → EachOf (es ++ more) client holds
  EachOf-longer client holds new old place e at mine = elim (at_either es more place e at) [
    | inl before ↦ old place e before mine
    | inr is ↦ subst (λ n. holds n e) (sym is.1) (new is.0 e is.2 mine)
  ]

  -- ---- a request being served

  -- new entries of its client are the request's
  pub HasMet-longer : (request : Request) (front : ℕ) (pairs : List (ℕ × Key)) → EachOf more request.client (λ behind e. IsOwnEntry request (last_version front pairs) (length es + behind) e) → HasMetConflicts C es request front pairs → HasMetConflicts C (es ++ more) request front pairs
  HasMet-longer request front pairs new h =
      let front_in : front ≤ length es = h.front_in in
      record {
        small = h.small;
        front_in = within_longer C es more front h.front_in;
        before = EachOf-longer request.client (λ place e. place < front → e.request.number < request.number) (λ behind e at mine l. absurd (omega arith)) h.before;
        since = EachOf-longer request.client (λ place e. front ≤ place → IsOwnEntry request (last_version front pairs) place e) (λ behind e at mine l. new behind e at mine) h.since;
        conflicts_are = AreConflicts-longer C es more request front pairs h.conflicts_are;
        last = within_longer C es more (last_version front pairs) h.last;
      }

  -- there are none
  pub IsServed-longer : (attempts : ℕ) (request : Request) (front : ℕ) (task : TaskView) → AreOtherClients more request.client → IsTaskServed C attempts es request front task → IsTaskServed C attempts (es ++ more) request front task
  IsServed-longer attempts request front task others h =
      record {
        config = h.config;
        attempts_are = h.attempts_are;
        request_is = h.request_is;
        met = HasMet-longer request front task.conflicts (λ behind e at mine. absurd (others behind e at mine)) h.met;
        begun = λ b. (begun_longer (h.begun b).0, (h.begun b).1);
      }
    where
      begun_longer : (k : IsBegun C es request (last_version front task.conflicts) task.snapshot task.reads)
          → IsBegun C (es ++ more) request (last_version front task.conflicts) task.snapshot task.reads
      begun_longer k =
          assumption (
            within_longer C es more task.snapshot k.within,
            subst (λ (rows : List Row). bytes.RowsAgree rows task.reads)
                (sym (rows-longer C es more task.snapshot k.within)) k.agrees,
            EachOf-longer request.client (λ place e. place < task.snapshot)
                (λ behind e at mine. absurd (others behind e at mine)) k.own,
          )
