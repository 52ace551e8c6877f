-- A request under way, as contracts see it, and what each of its asks owes.
use Rattle.std.specs.Prelude.{◌≡◌, ◌⊎◌, ◌<◌, ℕ, IsTrue, List, [], ◌∷◌, ◌++◌, Option, Some, None, Bool, true, false, length}
use Rattle.conflict_sets.specs.declared.sets.Got.{Got}
use Rattle.conflict_sets.specs.declared.sets.ReadSet.{ReadSet}
use Rattle.fs_base.specs.Config.{Settings}
use Rattle.fs_base.specs.declared.call.Request.{Request}
use Rattle.fs_base.specs.declared.code.Code.TheVariants as codes
use Rattle.fs_base.specs.declared.reply.Reply.{Reply}
use Rattle.fs_base.specs.declared.reply.Reply.TheVariants.{Refused}
use Rattle.key_schema.specs.declared.key.Key.{Key}
use Rattle.key_schema.specs.declared.key.Key.TheVariants as keys
use Rattle.row_records.specs.Rows.{spelled_kept, is_kept}
use Rattle.row_records.specs.declared.rows.KeptRow.{KeptRow}
use Rattle.tree_model.specs.Calls.{is_query}
use Rattle.txn_task.specs.Transactions.{noted}
use Rattle.txn_task.specs.declared.messages.Answer.{Answer}
use Rattle.txn_task.specs.declared.messages.Answer.TheVariants as answers
use Rattle.txn_task.specs.declared.messages.Ask.{Ask}
use Rattle.txn_task.specs.declared.messages.Ask.TheVariants as asks
use Rattle.txn_task.specs.declared.outcome.Outcome.{Outcome}
use Rattle.path_walk.specs.Footprint.{footprint}
use Rattle.path_walk.specs.Owed.{HasRead, IsNewAsk, MayAsk, IsKeptBefore}
use Rattle.path_walk.specs.Sound.{IsSoundEntry, IsJustifiedReply}
use Rattle.meta_task.specs.declared.waiting.Waiting.{Waiting}
use Rattle.meta_task.specs.declared.waiting.Waiting.TheVariants as waits

pub record TaskView : Type 0 where
  pub config : Settings
  pub attempts : ℕ
  pub request : Request
  -- what it waits for
  pub waiting : Waiting
  -- whether an attempt is under way, and at which version
  pub begun : Bool
  pub snapshot : ℕ
  -- what the attempt has read
  pub reads : ReadSet
  -- of the attempts before it: each conflict's version and key
  pub conflicts : List (ℕ × Key)
  pub outcome : Option Outcome

abbrev pub no_reads : ReadSet
no_reads = record { keys = []; ranges = [] }

abbrev pub new_task : Settings → ℕ → Request → TaskView
new_task C attempts q =
    record {
      config = C;
      attempts = attempts;
      request = q;
      waiting = waits.Fresh;
      begun = false;
      snapshot = 0;
      reads = no_reads;
      conflicts = [];
      outcome = None;
    }

-- ---- answers

-- the answer is one for what the task waits for
abbrev pub FitsTask : Waiting → Answer → Type 0
FitsTask waits.Fresh answers.Start = Unit {0}
FitsTask waits.Beginning (answers.Begun version) = Unit {0}
FitsTask (waits.Reading (asks.Get key)) (answers.Got got) = Unit {0}
FitsTask (waits.Reading (asks.Range lo hi limit)) (answers.Rows rows) = Unit {0}
FitsTask (waits.Committing reply) (answers.Committed version) = Unit {0}
FitsTask (waits.Committing reply) (answers.Conflict version key) = Unit {0}
FitsTask (waits.Committing reply) answers.StoreFull = Unit {0}
FitsTask waiting answer = ⊥

-- a task that has failed takes any answer
abbrev pub MayTake : Waiting → Answer → Type 0
MayTake waits.Failed answer = Unit {0}
MayTake waiting answer = FitsTask waiting answer

-- the reads with what an answer to the ask that waits tells
abbrev pub reads_with : ReadSet → Waiting → Answer → ReadSet
reads_with reads (waits.Reading ask) answer = noted reads ask answer
reads_with reads waiting answer = reads

-- what a task knows after an answer
abbrev pub learnt : TaskView → Answer → TaskView
learnt task (answers.Begun version) = record task { begun = true; snapshot = version; reads = no_reads }
learnt task (answers.Got got) = record task { reads = reads_with task.reads task.waiting (answers.Got got) }
learnt task (answers.Rows rows) =
    record task { reads = reads_with task.reads task.waiting (answers.Rows rows) }
learnt task (answers.Conflict version key) =
    record task { begun = false; conflicts = task.conflicts ++ (version, key) ∷ [] }
learnt task answer = task

-- ---- where an outcome comes from

-- all was read that the request reads, in all well-formed rows that agree with the reads
abbrev pub HasReadAll : TaskView → Type 0
HasReadAll task = HasRead task.config (λ T. footprint task.config T task.request) task.reads

-- the client's kept reply has the request's number: an earlier attempt committed it
pub record IsKeptReply (task : TaskView) (got : Got) (outcome : Outcome) : Type 0 where
  pub asked : task.waiting ≡ waits.Reading (asks.Get (keys.Idem task.request.client))
  pub row : KeptRow
  pub found : got.value ≡ Some (spelled_kept row)
  pub fits : IsTrue (is_kept row)
  pub number : row.number ≡ task.request.number
  pub reply : outcome.reply ≡ row.reply
  pub version : outcome.version ≡ got.version
  pub mark : outcome.committed ≡ true

-- what shows that an uncommitted reply isn't that of an entry: a query, a new number, or a number that is
-- refused as stale; else a kept reply could be told as one that was only seen
abbrev pub IsReplyStale : Reply → Type 0
IsReplyStale reply = (kept : ℕ) × (reply ≡ Refused (codes.Stale kept))

abbrev pub ShowsNew : TaskView → Reply → Type 0
ShowsNew task reply =
    (is_query task.request.call ≡ true) ⊎ (IsKeptBefore task.reads task.request ⊎ IsReplyStale reply)

-- what was read tells the reply
pub record IsToldReply (task : TaskView) (outcome : Outcome) : Type 0 where
  pub told : IsJustifiedReply task.config task.request task.reads outcome.reply
  pub new : ShowsNew task outcome.reply
  pub all : HasReadAll task
  pub version : outcome.version ≡ task.snapshot
  pub mark : outcome.committed ≡ false

-- the commit that was just made
pub record IsMadeReply (task : TaskView) (at : ℕ) (outcome : Outcome) : Type 0 where
  pub waiting : task.waiting ≡ waits.Committing outcome.reply
  pub version : outcome.version ≡ at
  pub mark : outcome.committed ≡ true

-- each allowed attempt met a conflict
pub record AreAttemptsSpent (task : TaskView) (outcome : Outcome) : Type 0 where
  pub reply : outcome.reply ≡ Refused codes.Conflict
  pub version : outcome.version ≡ task.snapshot
  pub mark : outcome.committed ≡ false
  pub attempts : length task.conflicts ≡ task.attempts

-- the journal takes no more
pub record IsStoreFull (task : TaskView) (outcome : Outcome) : Type 0 where
  pub reply : outcome.reply ≡ Refused codes.StoreFull
  pub version : outcome.version ≡ task.snapshot
  pub mark : outcome.committed ≡ false

-- old is the task before the answer, and new what it knows after it
abbrev pub HasOrigin : TaskView → TaskView → Answer → Outcome → Type 0
HasOrigin old new (answers.Begun version) outcome = IsToldReply new outcome
HasOrigin old new (answers.Got got) outcome = IsKeptReply old got outcome ⊎ IsToldReply new outcome
HasOrigin old new (answers.Rows rows) outcome = IsToldReply new outcome
HasOrigin old new (answers.Committed version) outcome = IsMadeReply old version outcome
HasOrigin old new (answers.Conflict version key) outcome = AreAttemptsSpent new outcome
HasOrigin old new answers.StoreFull outcome = IsStoreFull new outcome
HasOrigin old new answer outcome = ⊥

-- ---- asks

-- an attempt begins first of all, and after a conflict
abbrev pub BeginsAfter : Answer → Type 0
BeginsAfter answers.Start = Unit {0}
BeginsAfter (answers.Conflict version key) = Unit {0}
BeginsAfter answer = ⊥

-- within an attempt
abbrev pub GoesOnAfter : Answer → Type 0
GoesOnAfter (answers.Begun version) = Unit {0}
GoesOnAfter (answers.Got got) = Unit {0}
GoesOnAfter (answers.Rows rows) = Unit {0}
GoesOnAfter answer = ⊥

-- the first of the request's footprint that this attempt hasn't read
pub record IsReadAsked (old : TaskView) (answer : Answer) (new : TaskView) (ask : Ask) : Type 0 where
  pub is : new ≡ record (learnt old answer) { waiting = waits.Reading ask }
  pub begun : new.begun ≡ true
  pub goes_on : GoesOnAfter answer
  pub fresh : IsNewAsk new.reads ask
  pub touched : MayAsk new.config (λ T. footprint new.config T new.request) new.reads ask

-- the next ask, after an answer to a task that was old
abbrev pub Asks : TaskView → Answer → TaskView → Ask → Type 0
Asks old answer new asks.Begin =
    (new ≡ record (learnt old answer) { waiting = waits.Beginning }) × (new.begun ≡ false)
    × BeginsAfter answer × (length new.conflicts < new.attempts)
Asks old answer new (asks.Get key) = IsReadAsked old answer new (asks.Get key)
Asks old answer new (asks.Range lo hi limit) = IsReadAsked old answer new (asks.Range lo hi limit)
Asks old answer new (asks.Commit entry) =
    (new ≡ record (learnt old answer) { waiting = waits.Committing entry.reply }) × (new.begun ≡ true)
    × GoesOnAfter answer
    × (entry.request ≡ new.request) × (entry.reads ≡ new.reads) × IsSoundEntry new.config entry
    × HasReadAll new
Asks old answer new asks.Done =
    (outcome : Outcome) × (new ≡ record (learnt old answer) { waiting = waits.Ended; outcome = Some outcome })
    × (outcome.conflicts ≡ new.conflicts) × HasOrigin old (learnt old answer) answer outcome
Asks old answer new ask = ⊥

-- ---- the end

-- an outcome is there exactly where the task has ended
abbrev pub HasOutcome : Waiting → Option Outcome → Type 0
HasOutcome waits.Ended (Some outcome) = Unit {0}
HasOutcome waits.Ended None = ⊥
HasOutcome waiting (Some outcome) = ⊥
HasOutcome waiting None = Unit {0}
