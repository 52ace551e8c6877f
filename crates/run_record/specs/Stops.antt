-- Planned stops, and what a record shows of them.
use Rattle.std.specs.Prelude.{◌≡◌, ◌⊎◌, ◌≤◌, ℕ, ◌+◌, ◌==◌, ◌&&◌, nat_le, List, [], ◌∷◌, take, count_by, All, Bool, true, false}
use Rattle.std.specs.List.{list_any}
use Rattle.client_core.specs.declared.plan.Stop.{Stop}
use Rattle.client_core.specs.declared.plan.StopAfter.{StopAfter}
use Rattle.client_core.specs.declared.plan.StopAfter.TheVariants as after
use Rattle.run_record.specs.Receipts.{HasStopped}
use Rattle.run_record.specs.declared.run.Listed.{Listed}
use Rattle.txn_task.specs.declared.messages.Entry.{Entry}

-- how many of these entries a server made
abbrev pub entries_by : ℕ → List Entry → ℕ
entries_by server entries = count_by (λ entry. entry.request.server == server) entries

-- ---- how often a server may have stopped

-- whether a stop after n may have come where the server made so many entries; asks stand in no record
abbrev pub is_reached : StopAfter → ℕ → ℕ → Bool
is_reached after.Ask n made = true
is_reached after.Commit n made = nat_le n made

abbrev pub may_have_come : ℕ → ℕ → Stop → Bool
may_have_come server made stop = (stop.server == server) && is_reached stop.after stop.n made

-- a stop of this server, by its number: so many of the planned ones at least may have come
abbrev pub IsPlannedStop : List Stop → List Entry → ℕ × ℕ → Type 0
IsPlannedStop stops journal gone =
    (1 ≤ gone.1) × (gone.1 ≤ count_by (may_have_come gone.0 (entries_by gone.0 journal)) stops)

-- each stop that a receipt tells of
abbrev pub AllPlanned : List Stop → List Entry → List Listed → Type 0
AllPlanned stops journal receipts =
    All (λ listed. All (IsPlannedStop stops journal) listed.receipt.gone) receipts

-- ---- stops behind entries

abbrev pub is_behind : StopAfter → ℕ → ℕ → Bool
is_behind after.Ask n made = false
is_behind after.Commit n made = n == made

abbrev pub is_stop_behind : ℕ → ℕ → Stop → Bool
is_stop_behind server made stop = (stop.server == server) && is_behind stop.after stop.n made

-- the server of the entry at this place was to stop right behind it
abbrev pub StopsBehind : List Stop → List Entry → ℕ → Entry → Type 0
StopsBehind stops journal place entry =
    list_any (is_stop_behind entry.request.server (entries_by entry.request.server (take (place + 1) journal))) stops
    ≡ true

-- a receipt names the entry of this place, and tells of a stop of this server
abbrev pub HasGoneReceipt : List Listed → ℕ → ℕ → Type 0
HasGoneReceipt [] place server = ⊥
HasGoneReceipt (listed ∷ rest) place server =
    ((listed.receipt.committed ≡ true) × (listed.receipt.version ≡ place + 1)
    × HasStopped listed.receipt.gone server) ⊎ HasGoneReceipt rest place server
