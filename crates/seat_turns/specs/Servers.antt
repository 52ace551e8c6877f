-- What servers have done over their lives, and where they stop.
use Rattle.std.specs.Prelude.{◌≡◌, ◌≢◌, ◌≤◌, ℕ, ◌+◌, ◌==◌, ◌&&◌, nat_le, nat_lt, List, length, replicate, slice_get, count_by, Option, Some, None, Bool, true, false, if◌then◌else◌}
use Rattle.std.specs.List.{list_any}
use Rattle.fs_base.specs.Config.{Settings}
use Rattle.txn_task.specs.declared.messages.Entry.{Entry}
use Rattle.client_core.specs.declared.plan.Stop.{Stop}
use Rattle.client_core.specs.declared.plan.StopAfter.{StopAfter}
use Rattle.client_core.specs.declared.plan.StopAfter.TheVariants as after
use Rattle.run_record.specs.Stops.{entries_by}
use Rattle.seat_turns.specs.declared.servers.ServerCounts.{ServerCounts}

-- ---- one ask

-- an entry was made
abbrev pub has_made : List Entry → List Entry → Bool
has_made old new = nat_lt (length old) (length new)

-- one ask more, and one entry more where it made one
abbrev pub with_ask : Bool → ServerCounts → ServerCounts
with_ask made counts =
    record counts { asks = counts.asks + 1; commits = if made then counts.commits + 1 else counts.commits }

-- whether a stop after n comes right behind an ask, by the counts then
abbrev pub is_due_after : StopAfter → Bool → ℕ → ServerCounts → Bool
is_due_after after.Ask made n counts = n == counts.asks
is_due_after after.Commit made n counts = made && (n == counts.commits)

abbrev pub is_due : ℕ → Bool → ServerCounts → Stop → Bool
is_due server made counts stop = (stop.server == server) && is_due_after stop.after made stop.n counts

-- one stop more, and its number
abbrev pub with_stop : Bool → ServerCounts → ServerCounts × Option ℕ
with_stop false counts = (counts, None)
with_stop true counts = (record counts { stops = counts.stops + 1 }, Some (counts.stops + 1))

-- the counts behind an ask, and the number of the stop that comes then; stops that are due together are one
abbrev pub counted : List Stop → ℕ → Bool → ServerCounts → ServerCounts × Option ℕ
counted stops server made counts =
    with_stop (list_any (is_due server made (with_ask made counts)) stops) (with_ask made counts)

-- a server's ask is counted, and this stop comes behind it
pub record HasCounted (stops : List Stop) (server : ℕ) (made : Bool) (stop : Option ℕ)
    (old new : List ServerCounts) : Type 0 where
  pub own : (counts : ServerCounts) → slice_get old server ≡ Some counts
      → (slice_get new server ≡ Some (counted stops server made counts).0)
      × (stop ≡ (counted stops server made counts).1)
  pub others : (other : ℕ) → other ≢ server → slice_get new other ≡ slice_get old other
  pub many : length new ≡ length old

-- ---- over a server's life

abbrev pub no_counts : ServerCounts
no_counts = record { asks = 0; commits = 0; stops = 0 }

-- servers that have done nothing yet
abbrev pub counts_of : Settings → List ServerCounts
counts_of C = replicate C.servers no_counts

-- the count that a stop waits for was reached, by so many asks and entries
abbrev pub is_past_after : StopAfter → ℕ → ℕ → ℕ → Bool
is_past_after after.Ask n asks commits = nat_le n asks
is_past_after after.Commit n asks commits = nat_le n commits

abbrev pub is_past : ℕ → ℕ → ℕ → Stop → Bool
is_past server asks commits stop = (stop.server == server) && is_past_after stop.after stop.n asks commits

-- the server's entries are counted, and it stopped no more often than planned so far
pub record IsCounted (stops : List Stop) (journal : List Entry) (server : ℕ) (counts : ServerCounts) : Type 0
  where
    pub commits : counts.commits ≡ entries_by server journal
    pub few : counts.stops ≤ count_by (is_past server counts.asks counts.commits) stops

pub record AreCounted (C : Settings) (stops : List Stop) (journal : List Entry)
    (all : List ServerCounts) : Type 0 where
  pub many : length all ≡ C.servers
  pub each : (server : ℕ) (counts : ServerCounts) → slice_get all server ≡ Some counts
      → IsCounted stops journal server counts
