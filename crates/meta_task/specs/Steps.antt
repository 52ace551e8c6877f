-- What a request asks next within an attempt, from what it knows, and how the small steps to it end.
use Rattle.std.specs.Prelude.{◌≡◌, ◌⊎◌, ◌<◌, ℕ, IsTrue, List, Option, Some, None, Bool, true}
use Rattle.std.specs.Prelude.{Ok, Err}
use Rattle.conflict_sets.specs.declared.sets.Got.{Got}
use Rattle.fs_base.specs.declared.reply.Reply.{Reply}
use Rattle.row_records.specs.Rows.{spelled_kept, is_kept, read_kept}
use Rattle.row_records.specs.declared.rows.KeptRow.{KeptRow}
use Rattle.txn_task.specs.declared.messages.Answer.{Answer}
use Rattle.txn_task.specs.declared.messages.Answer.TheVariants as answers
use Rattle.txn_task.specs.declared.messages.Ask.{Ask}
use Rattle.txn_task.specs.declared.messages.Ask.TheVariants as asks
use Rattle.txn_task.specs.declared.outcome.Outcome.{Outcome}
use Rattle.path_walk.specs.Footprint.{footprint}
use Rattle.path_walk.specs.Owed.{IsNewAsk, MayAsk}
use Rattle.path_walk.specs.Sound.{IsSoundEntry}
use Rattle.meta_task.specs.Task.{TaskView, HasReadAll, IsToldReply}
use Rattle.meta_task.specs.declared.kept.Kept.{Kept}
use Rattle.meta_task.specs.declared.kept.Kept.TheVariants as kept
use Rattle.meta_task.specs.declared.waiting.Waiting.{Waiting}
use Rattle.meta_task.specs.declared.waiting.Waiting.TheVariants as waits

-- ---- the client's kept reply, by the bytes that stand there

-- none, no row, or the row of an earlier request
abbrev pub IsKeptEarlier : Option (List ℕ) → ℕ → Type 0
IsKeptEarlier None number = Unit {0}
IsKeptEarlier (Some bytes) number =
    ((place : ℕ) × (read_kept bytes ≡ Err place))
    ⊎ ((row : KeptRow) × (read_kept bytes ≡ Ok row) × (row.number < number))

pub record IsRowOf (value : Option (List ℕ)) (row : KeptRow) : Type 0 where
  pub found : value ≡ Some (spelled_kept row)
  pub fits : IsTrue (is_kept row)

-- by the row
abbrev pub TellsRow : KeptRow → ℕ → Kept → Type 0
TellsRow row number kept.Earlier = row.number < number
TellsRow row number (kept.Same reply) = (row.number ≡ number) × (row.reply ≡ reply)
TellsRow row number (kept.Later later) = (row.number ≡ later) × (number < later)

abbrev pub TellsKept : Option (List ℕ) → ℕ → Kept → Type 0
TellsKept value number kept.Earlier = IsKeptEarlier value number
TellsKept value number (kept.Same reply) =
    (row : KeptRow) × IsRowOf value row × (row.number ≡ number) × (row.reply ≡ reply)
TellsKept value number (kept.Later later) =
    (row : KeptRow) × IsRowOf value row × (row.number ≡ later) × (number < later)

-- ---- the next ask of an attempt

abbrev pub IsRowGot : Answer → Type 0
IsRowGot (answers.Got got) = Unit {0}
IsRowGot answer = ⊥

abbrev pub IsReadPending : Waiting → Type 0
IsReadPending (waits.Reading ask) = Unit {0}
IsReadPending waiting = ⊥

abbrev pub IsCommitting : Waiting → Type 0
IsCommitting (waits.Committing reply) = Unit {0}
IsCommitting waiting = ⊥

-- the task that knows so much has ended with this outcome
abbrev pub Ends : TaskView → TaskView → Outcome → Type 0
Ends known new outcome =
    (new ≡ record known { waiting = waits.Ended; outcome = Some outcome })
    × (outcome.conflicts ≡ known.conflicts)

pub record IsLooking (known new : TaskView) (ask : Ask) : Type 0 where
  pub is : new ≡ record known { waiting = waits.Reading ask }
  pub begun : new.begun ≡ true
  pub fresh : IsNewAsk new.reads ask
  pub touched : MayAsk new.config (λ T. footprint new.config T new.request) new.reads ask

abbrev pub GoesTo : TaskView → TaskView → Ask → Type 0
GoesTo known new (asks.Get key) = IsLooking known new (asks.Get key)
GoesTo known new (asks.Range lo hi limit) = IsLooking known new (asks.Range lo hi limit)
GoesTo known new (asks.Commit entry) =
    (new ≡ record known { waiting = waits.Committing entry.reply }) × (new.begun ≡ true)
    × (entry.request ≡ new.request) × (entry.reads ≡ new.reads) × IsSoundEntry new.config entry
    × HasReadAll new
GoesTo known new asks.Done = (outcome : Outcome) × Ends known new outcome × IsToldReply known outcome
GoesTo known new ask = ⊥

-- the kept reply answers the request
pub record IsRepeated (known : TaskView) (got : Got) (outcome : Outcome) : Type 0 where
  pub row : KeptRow
  pub is : IsRowOf got.value row
  pub number : row.number ≡ known.request.number
  pub reply : outcome.reply ≡ row.reply
  pub version : outcome.version ≡ got.version
  pub mark : outcome.committed ≡ true

abbrev pub Repeats : TaskView → Got → TaskView → Ask → Type 0
Repeats known got new asks.Done = (outcome : Outcome) × Ends known new outcome × IsRepeated known got outcome
Repeats known got new ask = ⊥

-- ---- the end

-- what a task comes to with this reply
abbrev pub EndsWith : TaskView → TaskView → Reply → ℕ → Bool → Type 0
EndsWith known new reply version committed =
    new ≡ record known {
      waiting = waits.Ended;
      outcome = Some
          (record { reply = reply; version = version; committed = committed; conflicts = known.conflicts });
    }
