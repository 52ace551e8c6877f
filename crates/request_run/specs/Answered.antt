-- An ask with its answer.
use Rattle.std.specs.Prelude.{◌≡◌, ◌≤◌, ℕ, ◌+◌, List, [], ◌∷◌, ◌++◌, Some, None, length}
use Rattle.conflict_sets.specs.Reads as bytes
use Rattle.conflict_sets.specs.Rows.{value_at_key, rows_between}
use Rattle.fs_base.specs.Config.{Settings}
use Rattle.fs_base.specs.declared.limits.TheConstants.{JOURNAL_ENTRIES}
use Rattle.key_schema.specs.Keys.{spelled_key, IsKeyOf, IsSpellable}
use Rattle.key_schema.specs.declared.key.Key.{Key}
use Rattle.kv_store.specs.declared.store.CommitError.{CommitError}
use Rattle.kv_store.specs.declared.store.CommitError.TheVariants as errors
use Rattle.kv_store.specs.Journal.{first_later, last_writer}
use Rattle.path_walk.specs.Sound.{IsSoundEntry}
use Rattle.txn_task.specs.declared.messages.Answer.{Answer}
use Rattle.txn_task.specs.declared.messages.Answer.TheVariants as answers
use Rattle.txn_task.specs.declared.messages.Ask.{Ask}
use Rattle.txn_task.specs.declared.messages.Ask.TheVariants as asks
use Rattle.txn_task.specs.declared.messages.Entry.{Entry}
use Rattle.meta_task.specs.Task.{TaskView, Asks}
use Rattle.run_record.specs.Legal.{journal_rows, writes_of}

-- the ask can be answered at the snapshot
abbrev pub MayAnswer : Settings → List Entry → ℕ → Ask → Type 0
MayAnswer C journal snapshot asks.Begin = Unit {0}
MayAnswer C journal snapshot (asks.Get key) = snapshot ≤ length journal
MayAnswer C journal snapshot (asks.Range lo hi limit) = snapshot ≤ length journal
MayAnswer C journal snapshot (asks.Commit entry) =
    (snapshot ≤ length journal) × IsSoundEntry C entry
    × bytes.RowsAgree (journal_rows C journal snapshot) entry.reads
MayAnswer C journal snapshot ask = ⊥

-- the answer is the store's: the journal's length, what stood at the snapshot, or what came of the commit
abbrev pub IsAnswer : Settings → List Entry → List Entry → ℕ → Ask → Answer → Type 0
IsAnswer C old new snapshot asks.Begin (answers.Begun version) = (new ≡ old) × (version ≡ length old)
IsAnswer C old new snapshot (asks.Get key) (answers.Got got) =
    (new ≡ old) × (got.value ≡ value_at_key (journal_rows C old snapshot) (spelled_key key))
    × (got.version ≡ last_writer writes_of old snapshot (spelled_key key))
IsAnswer C old new snapshot (asks.Range lo hi limit) (answers.Rows rows) =
    (new ≡ old) × (rows ≡ rows_between (journal_rows C old snapshot) lo hi limit)
IsAnswer C old new snapshot (asks.Commit entry) (answers.Committed version) =
    (new ≡ old ++ entry ∷ []) × (version ≡ length old + 1)
    × (first_later writes_of old snapshot entry.reads ≡ None)
IsAnswer C old new snapshot (asks.Commit entry) (answers.Conflict version key) =
    (new ≡ old) × (first_later writes_of old snapshot entry.reads ≡ Some (version, spelled_key key))
IsAnswer C old new snapshot (asks.Commit entry) answers.StoreFull =
    (new ≡ old) × (first_later writes_of old snapshot entry.reads ≡ None) × (length old ≡ JOURNAL_ENTRIES)
IsAnswer C old new snapshot ask answer = ⊥

-- a conflict is told with a key of the store
abbrev pub IsKeyed : CommitError → Type 0
IsKeyed (errors.Conflict version bytes) = (key : Key) × IsKeyOf bytes key
IsKeyed why = Unit {0}

-- what a task learns of a refused commit
abbrev pub Tells : CommitError → Answer → Type 0
Tells (errors.Conflict version bytes) (answers.Conflict told key) = (told ≡ version) × IsKeyOf bytes key
Tells errors.Full answers.StoreFull = Unit {0}
Tells why answer = ⊥

-- a conflict's key fits its bytes
abbrev pub HasKey : Answer → Type 0
HasKey (answers.Conflict version key) = IsSpellable key
HasKey answer = Unit {0}

-- the numbers of a key that is asked for fit its bytes
abbrev pub IsAskSpellable : Ask → Type 0
IsAskSpellable (asks.Get key) = IsSpellable key
IsAskSpellable ask = Unit {0}

-- the store answers the ask of a task, which asks on
pub record IsExchange (C : Settings) (old new : List Entry) (task : TaskView) (ask : Ask) (after : TaskView)
    (following : Ask) : Type 0 where
  pub answer : Answer
  pub key : HasKey answer
  pub spelled : IsAskSpellable ask
  pub answered : IsAnswer C old new task.snapshot ask answer
  pub asks : Asks task answer after following
