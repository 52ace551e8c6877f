-- What a request under way holds between its asks, by what it waits for.
use Rattle.std.specs.Prelude.{◌≡◌, ◌⊎◌, ◌<◌, ◌^◌, [], Option, Some, None, true, false, length}
use Rattle.conflict_sets.specs.declared.sets.ReadSet.{ReadSet}
use Rattle.fs_base.specs.Config.{Settings}
use Rattle.fs_base.specs.declared.call.Request.{Request}
use Rattle.key_schema.specs.Keys.{spelled_key}
use Rattle.key_schema.specs.declared.key.Key.TheVariants as keys
use Rattle.tree_model.specs.Calls.{effect, is_query}
use Rattle.txn_task.specs.Transactions.{with_key}
use Rattle.txn_task.specs.Tries.{Tries}
use Rattle.txn_task.specs.Wanted.{IsKeyRead}
use Rattle.txn_task.specs.declared.messages.Answer.{Answer}
use Rattle.txn_task.specs.declared.messages.Answer.TheVariants as answers
use Rattle.txn_task.specs.declared.messages.Ask.{Ask}
use Rattle.txn_task.specs.declared.messages.Ask.TheVariants as asks
use Rattle.path_walk.specs.Footprint.{footprint}
use Rattle.path_walk.specs.Owed.{IsNewAsk, IsKeptBefore, KeepsEffect, KeepsAreas}
use Rattle.path_walk.specs.Requests.{IsRequest}
use Rattle.meta_task.specs.Ops.{op_config, op_effect, op_areas, IsOpReady}
use Rattle.meta_task.specs.Task.{TaskView, HasOutcome, no_reads}
use Rattle.meta_task.specs.declared.op.OpTask.{OpTask}
use Rattle.meta_task.specs.declared.state.State.{State}
use Rattle.meta_task.specs.declared.waiting.Waiting.{Waiting}
use Rattle.meta_task.specs.declared.waiting.Waiting.TheVariants as waits

abbrev pub view_of : State → TaskView
view_of s = record {
  config = s.config;
  attempts = s.retry.attempts;
  request = s.request;
  waiting = s.waiting;
  begun = s.begun;
  snapshot = s.txn.snapshot;
  reads = s.txn.reads;
  conflicts = s.retry.conflicts;
  outcome = s.outcome;
}

-- the request is one that a server takes, with a client and a number of their sizes
pub record IsRequestTaken (C : Settings) (q : Request) : Type 0 where
  pub valid : IsRequest C q
  pub client : q.client.0 < 2 ^ 128
  pub number : q.number < 2 ^ 64

-- another conflict may be met
abbrev pub HasLeft : Tries → Type 0
HasLeft tries = length tries.conflicts < tries.attempts

-- a query, or an update that is newer than its client's kept reply, which was read
abbrev pub IsNewRequest : Request → ReadSet → Type 0
IsNewRequest q reads =
    (is_query q.call ≡ true)
    ⊎ ((is_query q.call ≡ false) × IsKeptBefore reads q × IsKeyRead reads (keys.Idem q.client))

-- an operation of the request under way: it comes to the same, and reads what is left
pub record IsOpUnderWay (C : Settings) (q : Request) (reads : ReadSet) (op : OpTask) : Type 0 where
  pub config : op_config op ≡ C
  pub ready : IsOpReady op
  pub effect : KeepsEffect C (λ T. effect C T q) (op_effect op) reads
  pub areas : KeepsAreas C (λ T. footprint C T q) (op_areas op) reads
  pub new : IsNewRequest q reads

-- an ask of the operation
pub record IsAsking (C : Settings) (q : Request) (reads : ReadSet) (ask : Ask) (op : OpTask) : Type 0 where
  pub under : IsOpUnderWay C q reads op
  pub fresh : IsNewAsk reads ask

-- the first ask of an update: its client's kept reply
pub record IsAskingKept (q : Request) (reads : ReadSet) (ask : Ask) : Type 0 where
  pub update : is_query q.call ≡ false
  pub reads_are : reads ≡ no_reads
  pub key : ask ≡ asks.Get (keys.Idem q.client)

abbrev pub IsReading : Settings → Request → ReadSet → Ask → Option OpTask → Type 0
IsReading C q reads ask (Some op) = IsAsking C q reads ask op
IsReading C q reads ask None = IsAskingKept q reads ask

-- between an answer and the next ask, within an attempt
pub record IsTaskGoing (s : State) : Type 0 where
  pub taken : IsRequestTaken s.config s.request
  pub ended : s.waiting ≡ waits.Ended
  pub unsaid : s.outcome ≡ None
  pub begun : s.begun ≡ true
  pub left : HasLeft s.retry

pub record IsWaiting (s : State) (ask : Ask) : Type 0 where
  pub begun : s.begun ≡ true
  pub unwritten : s.txn.writes ≡ []
  pub left : HasLeft s.retry
  pub asks : IsReading s.config s.request s.txn.reads ask s.op

abbrev pub IsWaitKnown : State → Waiting → Type 0
IsWaitKnown s waits.Fresh = (s.begun ≡ false) × HasLeft s.retry
IsWaitKnown s waits.Beginning = HasLeft s.retry
IsWaitKnown s (waits.Reading ask) = IsWaiting s ask
IsWaitKnown s (waits.Committing reply) = HasLeft s.retry
IsWaitKnown s waits.Ended = Unit {0}
IsWaitKnown s waits.Failed = ⊥

pub record IsState (s : State) : Type 0 where
  pub taken : IsRequestTaken s.config s.request
  pub known : IsWaitKnown s s.waiting
  pub outcome : HasOutcome s.waiting s.outcome

-- memory ran out, or the state of a task that goes on
abbrev pub IsFailedOrState : State → Type 0
IsFailedOrState s = ((s.waiting ≡ waits.Failed) × (s.outcome ≡ None)) ⊎ IsState s

-- after an answer that is among the reads: the operation is still that of the request, or what stands at the
-- client's key was read
abbrev pub IsAnswerNoted : Option OpTask → State → State → Answer → Type 0
IsAnswerNoted (Some op) old new answer = IsOpUnderWay new.config new.request new.txn.reads op
IsAnswerNoted None old new (answers.Got got) =
    (is_query new.request.call ≡ false)
    × (new.txn.reads ≡ with_key no_reads (spelled_key (keys.Idem new.request.client)) got.value)
    × (old.waiting ≡ waits.Reading (asks.Get (keys.Idem old.request.client)))
IsAnswerNoted None old new answer = ⊥
