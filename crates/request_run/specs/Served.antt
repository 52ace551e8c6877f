-- A request being served, from answer to answer.
use Rattle.std.specs.Prelude.{◌≡◌, ◌≢◌, ◌≤◌, ◌<◌, ℕ, ◌+◌, ◌^◌, List, [], ◌∷◌, true, false, length, Some}
use Rattle.client_core.specs.Files.{IsFileSound}
use Rattle.conflict_sets.specs.Reads as bytes
use Rattle.conflict_sets.specs.declared.sets.KeyRead.{KeyRead}
use Rattle.conflict_sets.specs.declared.sets.ReadSet.{ReadSet}
use Rattle.fs_base.specs.Config.{Settings}
use Rattle.fs_base.specs.declared.call.Request.{Request}
use Rattle.fs_base.specs.declared.ids.ClientId.{ClientId}
use Rattle.key_schema.specs.Keys.{spelled_key, IsSpellable}
use Rattle.key_schema.specs.declared.key.Key.{Key}
use Rattle.path_walk.specs.Areas.{Area, OneKey, IsArea}
use Rattle.path_walk.specs.Footprint.{footprint}
use Rattle.path_walk.specs.Owed.{HasRead, MayAsk}
use Rattle.path_walk.specs.Sound.{IsSoundEntry}
use Rattle.row_tree.specs.TreeOf.{tree_of}
use Rattle.row_tree.specs.TypedRows.{TypedRows}
use Rattle.row_tree.specs.WellFormed.{IsWellFormed}
use Rattle.txn_task.specs.Agreeing.{Agrees}
use Rattle.txn_task.specs.declared.messages.Ask.{Ask}
use Rattle.txn_task.specs.declared.messages.Ask.TheVariants as asks
use Rattle.txn_task.specs.declared.messages.Entry.{Entry}
use Rattle.txn_task.specs.declared.outcome.Outcome.{Outcome}
use Rattle.meta_task.specs.Task.{TaskView}
use Rattle.meta_task.specs.declared.waiting.Waiting.TheVariants as waits
use Rattle.run_record.specs.Legal.{EntryAt, journal_rows}
use Rattle.run_record.specs.Outcomes.{last_version, seen_by, AreAttempts, IsOutcome, MayTell}
use Rattle.run_record.specs.Receipts.{AreConflicts}
use Rattle.run_record.specs.Touched.{AreRangesTouched}

-- ---- what entries read

-- each key is one of the areas', its numbers fit for its bytes
abbrev pub AreSpelledIn : List Area → List KeyRead → Type 0
AreSpelledIn areas [] = Unit {0}
AreSpelledIn areas (read ∷ reads) =
    ((key : Key) × IsSpellable key × (read.key ≡ spelled_key key) × IsArea (OneKey key) areas)
    × AreSpelledIn areas reads

-- what was read lies in the footprint, in all well-formed rows that agree with it
abbrev pub AreReadsCovered : Settings → Request → ReadSet → Type 0
AreReadsCovered C request reads =
    (S : TypedRows) → IsWellFormed C S → Agrees S reads
    → AreSpelledIn (footprint C (tree_of S) request) reads.keys
    × AreRangesTouched (footprint C (tree_of S) request) reads.ranges

-- so it was of each entry, and the footprint was read whole
abbrev pub AreCovered : Settings → List Entry → Type 0
AreCovered C journal =
    (place : ℕ) (entry : Entry) → EntryAt journal place entry → AreReadsCovered C entry.request entry.reads
    × HasRead C (λ T. footprint C T entry.request) entry.reads

-- ---- a client's entries

-- what holds of each entry of a client, with its place
abbrev pub EachOf : List Entry → ClientId → (ℕ → Entry → Type 0) → Type 0
EachOf journal client holds =
    (place : ℕ) (entry : Entry) → EntryAt journal place entry → entry.request.client ≡ client
    → holds place entry

-- each is another client's
abbrev pub AreOtherClients : List Entry → ClientId → Type 0
AreOtherClients journal client =
    (place : ℕ) (entry : Entry) → EntryAt journal place entry → entry.request.client ≢ client

-- each of the request's client has a smaller number
abbrev pub AreEarlier : List Entry → Request → Type 0
AreEarlier journal request =
    EachOf journal request.client (λ place entry. entry.request.number < request.number)

-- an entry of the request's client is of that request but for the server, which may have stopped behind it,
-- and was made from this version on
pub record IsOwnEntry (request : Request) (floor place : ℕ) (entry : Entry) : Type 0 where
  pub number : entry.request.number ≡ request.number
  pub stamp : entry.request.stamp ≡ request.stamp
  pub call : entry.request.call ≡ request.call
  pub behind : floor ≤ place

-- ---- between two asks

-- the call began with the front, and has met these conflicts: behind the last one lies what its client has
-- made since
pub record HasMetConflicts (C : Settings) (journal : List Entry) (request : Request) (front : ℕ)
    (conflicts : List (ℕ × Key)) : Type 0 where
  pub small : request.client.0 < 2 ^ 128
  pub front_in : front ≤ length journal
  pub before : EachOf journal request.client
      (λ place entry. place < front → entry.request.number < request.number)
  pub since : EachOf journal request.client
      (λ place entry. front ≤ place → IsOwnEntry request (last_version front conflicts) place entry)
  pub conflicts_are : AreConflicts C journal request front conflicts
  pub last : last_version front conflicts ≤ length journal

-- an attempt that has begun at the snapshot, with what it has read
pub record IsBegun (C : Settings) (journal : List Entry) (request : Request) (floor snapshot : ℕ)
    (reads : ReadSet) : Type 0 where
  pub from : floor ≤ snapshot
  pub within : snapshot ≤ length journal
  pub agrees : bytes.RowsAgree (journal_rows C journal snapshot) reads
  pub covered : AreReadsCovered C request reads
  -- the client has made no entry since
  pub own : EachOf journal request.client (λ place entry. place < snapshot)

-- the task is the request's; an attempt that has begun isn't one too many
pub record IsTaskServed (C : Settings) (attempts : ℕ) (journal : List Entry) (request : Request) (front : ℕ)
    (task : TaskView) : Type 0 where
  pub config : task.config ≡ C
  pub attempts_are : task.attempts ≡ attempts
  pub request_is : task.request ≡ request
  pub met : HasMetConflicts C journal request front task.conflicts
  pub begun : task.begun ≡ true
      → IsBegun C journal request (last_version front task.conflicts) task.snapshot task.reads
      × (length task.conflicts < attempts)

-- what the ask that waits for its answer owes
abbrev pub IsAskPending : Settings → TaskView → Ask → Type 0
IsAskPending C task asks.Begin =
    (task.waiting ≡ waits.Beginning) × (task.begun ≡ false) × (length task.conflicts < task.attempts)
IsAskPending C task (asks.Get key) =
    (task.waiting ≡ waits.Reading (asks.Get key)) × (task.begun ≡ true)
    × MayAsk C (λ T. footprint C T task.request) task.reads (asks.Get key)
IsAskPending C task (asks.Range lo hi limit) =
    (task.waiting ≡ waits.Reading (asks.Range lo hi limit)) × (task.begun ≡ true)
    × MayAsk C (λ T. footprint C T task.request) task.reads (asks.Range lo hi limit)
IsAskPending C task (asks.Commit entry) =
    (task.waiting ≡ waits.Committing entry.reply) × (task.begun ≡ true) × (entry.request ≡ task.request)
    × (entry.reads ≡ task.reads) × IsSoundEntry C entry
    × HasRead C (λ T. footprint C T task.request) task.reads
IsAskPending C task ask = ⊥

-- ---- the end

-- what a request came to, by its outcome
pub record CameTo (C : Settings) (attempts : ℕ) (journal : List Entry) (request : Request) (front : ℕ)
    (outcome : Outcome) : Type 0 where
  pub outcome_is : IsOutcome C journal request front outcome
  pub may : MayTell request.call outcome.reply
  pub met : AreAttempts attempts outcome.reply (length outcome.conflicts)
  pub conflicts : AreConflicts C journal request front outcome.conflicts
  pub above : front ≤ outcome.version
  pub within : seen_by outcome ≤ length journal
  -- the outcome names each entry that the client has made since the front
  pub only : EachOf journal request.client
      (λ place entry. front ≤ place → (outcome.committed ≡ true) × (outcome.version ≡ place + 1))
  -- and where it isn't heard, the request may begin again, with the same front and no conflict
  pub again : HasMetConflicts C journal request front []
  -- a file that the reply shows is laid out as the configuration asks
  pub files : IsFileSound C outcome.reply

-- after an answer: the next ask waits, or there is an outcome
abbrev pub IsTaskReady : Settings → ℕ → List Entry → Request → ℕ → TaskView → Ask → Type 0
IsTaskReady C attempts journal request front task asks.Done =
    (outcome : Outcome) × (task.outcome ≡ Some outcome) × CameTo C attempts journal request front outcome
IsTaskReady C attempts journal request front task ask =
    IsTaskServed C attempts journal request front task × IsAskPending C task ask
