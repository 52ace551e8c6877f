-- What the record of a plan's run owes.
use Rattle.std.specs.Prelude.{◌≡◌, ℕ, ◌+◌, ◌<◌, ◌==◌, ◌&&◌, List, [], ◌∷◌, ◌++◌, length, map, count_by, slice_get, not, Option, Some, None, Bool, true, false, if◌then◌else◌}
use Rattle.std.specs.List.{list_any}
use Rattle.std.specs.FinMap.{len}
use Rattle.conflict_sets.specs.Reads.{RowsAgree}
use Rattle.fs_base.specs.Config.{Settings}
use Rattle.fs_base.specs.declared.ids.ClientId.{ClientId}
use Rattle.fs_base.specs.declared.reply.Reply.{Reply}
use Rattle.fs_base.specs.declared.reply.Reply.TheVariants.{Refused}
use Rattle.path_walk.specs.Areas.{AreRead}
use Rattle.path_walk.specs.Footprint.{footprint}
use Rattle.path_walk.specs.Sound.{IsSoundEntry}
use Rattle.row_tree.specs.HasTree.{HasTree}
use Rattle.tree_model.specs.Calls.{is_query}
use Rattle.txn_task.specs.declared.messages.Entry.{Entry}
use Rattle.client_core.specs.Scripts.{scripts_in}
use Rattle.client_core.specs.declared.plan.Plan.{Plan}
use Rattle.client_core.specs.declared.plan.Script.{Script}
use Rattle.run_record.specs.Legal.{EntryAt, IsLegalJournal, journal_rows, tree_at}
use Rattle.run_record.specs.Receipts.{IsSection}
use Rattle.run_record.specs.Stops.{AllPlanned, HasGoneReceipt, StopsBehind}
use Rattle.run_record.specs.Touched.{AreTouched}
use Rattle.run_record.specs.declared.run.Listed.{Listed}
use Rattle.run_record.specs.declared.run.Record.{Record}
use Rattle.run_record.specs.declared.run.Summary.{Summary}

abbrev pub IsNoRefusal : Reply → Type 0
IsNoRefusal (Refused code) = ⊥
IsNoRefusal reply = Unit {0}

-- an entry is sound: a change that was done. It read what stood before it, its call's whole footprint and
-- nothing else, and asked no storage node
pub record IsRightEntry (C : Settings) (journal : List Entry) (place : ℕ) (entry : Entry) : Type 0 where
  pub agrees : RowsAgree (journal_rows C journal place) entry.reads
  pub sound : IsSoundEntry C entry
  pub touched : AreTouched (footprint C (tree_at C journal place) entry.request) entry.reads
  pub whole : AreRead entry.reads (footprint C (tree_at C journal place) entry.request)
  pub none_asked : entry.asked ≡ []
  pub update : is_query entry.request.call ≡ false
  pub accepted : IsNoRefusal entry.reply

-- the receipts are those of these scripts' clients, one after another
abbrev pub AreSections : Settings → ℕ → List Entry → ℕ → List Script → List Listed → Type 0
AreSections C attempts journal k [] receipts = receipts ≡ []
AreSections C attempts journal k (script ∷ scripts) receipts =
    (own : List Listed) × (rest : List Listed) × (receipts ≡ own ++ rest)
    × IsSection C attempts journal k script own × AreSections C attempts journal (k + 1) scripts rest

-- the receipt names the entry at a place
abbrev pub names_place : ℕ → Listed → Bool
names_place place listed = listed.receipt.committed && (listed.receipt.version == place + 1)

-- ---- the end line

abbrev pub conflicts_in : List Listed → ℕ
conflicts_in [] = 0
conflicts_in (listed ∷ rest) = length listed.receipt.conflicts + conflicts_in rest

abbrev pub is_same : ℕ × ℕ → ℕ × ℕ → Bool
is_same a b = (a.0 == b.0) && (a.1 == b.1)

-- how many different pairs there are
abbrev pub count_distinct : List (ℕ × ℕ) → ℕ
count_distinct [] = 0
count_distinct (pair ∷ pairs) = (if list_any (is_same pair) pairs then 0 else 1) + count_distinct pairs

-- the client's id isn't the nil one
abbrev pub is_named : Option ClientId → Bool
is_named None = false
is_named (Some id) = not (id.0 == 0)

-- the client and the operation of each receipt, the sweeper's excepted
abbrev pub ops_told : List ClientId → List Listed → List (ℕ × ℕ)
ops_told clients [] = []
ops_told clients (listed ∷ rest) =
    if is_named (slice_get clients listed.client) then (listed.client, listed.receipt.op)
    ∷ ops_told clients rest else ops_told clients rest

-- the server of each stop that took a request away, and which of its stops it was
abbrev pub stops_told : List Listed → List (ℕ × ℕ)
stops_told [] = []
stops_told (listed ∷ rest) = listed.receipt.gone ++ stops_told rest

-- the counts of the end line, told by the receipts and not by how runs go: an operation may come to have
-- several receipts, and one stop may be told to several clients
abbrev pub counts_of : List ClientId → List Listed → List Entry → ℕ → Summary
counts_of clients receipts entries waiting =
    record {
      ops = count_distinct (ops_told clients receipts);
      commits = length entries;
      conflicts = conflicts_in receipts;
      stops = count_distinct (stops_told receipts);
      waiting = waiting;
    }

-- the files that are being deleted once all entries are made
abbrev pub waiting_in : Settings → List Entry → ℕ
waiting_in C entries = len (tree_at C entries (length entries)).doomed

abbrev pub summary_of : Settings → List ClientId → List Listed → List Entry → Summary
summary_of C clients receipts entries = counts_of clients receipts entries (waiting_in C entries)

-- ---- the record

pub record IsRightRecord (plan : Plan) (run : Record) : Type 0 where
  pub config : run.config ≡ plan.config
  pub clients : run.clients ≡ map (λ script. script.id) (scripts_in plan)
  -- the entries are a history of the plain tree; their rows are well formed at each version, and the tree's
  pub legal : IsLegalJournal plan.config run.entries
  pub rows : (n : ℕ)
      → HasTree plan.config (journal_rows plan.config run.entries n) (tree_at plan.config run.entries n)
  pub entries : (place : ℕ) (entry : Entry) → EntryAt run.entries place entry
      → IsRightEntry plan.config run.entries place entry
  -- each operation has its receipt, and each entry exactly one that names it
  pub sections : AreSections plan.config plan.attempts run.entries 0 (scripts_in plan) run.receipts
  pub named : (place : ℕ) → place < length run.entries → count_by (names_place place) run.receipts ≡ 1
  -- no server stopped more often than the plan has it, and where one was to stop behind an entry, the receipt
  -- that names the entry tells of it
  pub planned : AllPlanned plan.stops run.entries run.receipts
  pub told : (place : ℕ) (entry : Entry) → EntryAt run.entries place entry
      → StopsBehind plan.stops run.entries place entry
      → HasGoneReceipt run.receipts place entry.request.server
  pub summary : run.summary ≡ summary_of plan.config run.clients run.receipts run.entries
