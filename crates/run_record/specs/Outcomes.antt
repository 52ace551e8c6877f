-- What the outcome of a request owes to the journal.
use Rattle.std.specs.Prelude.{◌≡◌, ◌≤◌, ◌<◌, ℕ, ◌+◌, max, false, List, [], ◌∷◌, length, MatchBool}
use Rattle.fs_base.specs.Config.{Settings}
use Rattle.fs_base.specs.declared.call.Call.{Call}
use Rattle.fs_base.specs.declared.call.Request.{Request}
use Rattle.fs_base.specs.declared.code.Code.TheVariants as codes
use Rattle.fs_base.specs.declared.limits.TheConstants.{JOURNAL_ENTRIES}
use Rattle.fs_base.specs.declared.reply.Reply.{Reply}
use Rattle.fs_base.specs.declared.reply.Reply.TheVariants.{Refused}
use Rattle.key_schema.specs.declared.key.Key.{Key}
use Rattle.tree_model.specs.Calls.{apply, is_query}
use Rattle.txn_task.specs.declared.messages.Entry.{Entry}
use Rattle.txn_task.specs.declared.outcome.Outcome.{Outcome}
use Rattle.run_record.specs.Legal.{EntryAt, tree_at}

-- ---- conflicts by their versions

-- of the last conflict
abbrev pub last_version : ℕ → List (ℕ × Key) → ℕ
last_version floor [] = floor
last_version floor (pair ∷ pairs) = last_version pair.0 pairs

-- of the last one but one
abbrev pub version_before : ℕ → List (ℕ × Key) → ℕ
version_before floor [] = floor
version_before floor (pair ∷ []) = floor
version_before floor (pair ∷ next ∷ pairs) = version_before pair.0 (next ∷ pairs)

-- the newest version that an outcome shows its client
abbrev pub seen_by : Outcome → ℕ
seen_by outcome = max outcome.version (last_version 0 outcome.conflicts)

-- ---- committed

-- an entry has the reply: that of the outcome's version, of this request but for the server, made behind the
-- last conflict
pub record NamesEntry (journal : List Entry) (request : Request) (front : ℕ) (outcome : Outcome) : Type 0
  where
    pub place : ℕ
    pub version : outcome.version ≡ place + 1
    pub entry : Entry
    pub at : EntryAt journal place entry
    pub client : entry.request.client ≡ request.client
    pub number : entry.request.number ≡ request.number
    pub stamp : entry.request.stamp ≡ request.stamp
    pub call : entry.request.call ≡ request.call
    pub reply : entry.reply ≡ outcome.reply
    pub above : last_version front outcome.conflicts ≤ place

-- ---- seen

-- the plain tree at the outcome's version gives the reply, and stays, whatever length is settled
pub record IsToldOutcome (C : Settings) (journal : List Entry) (request : Request) (front : ℕ)
    (outcome : Outcome) : Type 0 where
  pub from : last_version front outcome.conflicts ≤ outcome.version
  pub told : (settled : ℕ)
      → apply C (tree_at C journal outcome.version) request settled
      ≡ (tree_at C journal outcome.version, outcome.reply)

-- the last attempt began behind the conflict before the last one, and met the last one
pub record IsSpentOutcome (front : ℕ) (outcome : Outcome) : Type 0 where
  pub from : version_before front outcome.conflicts ≤ outcome.version
  pub before : outcome.version < last_version front outcome.conflicts

-- the journal takes no more
pub record IsFullOutcome (journal : List Entry) (front : ℕ) (outcome : Outcome) : Type 0 where
  pub from : last_version front outcome.conflicts ≤ outcome.version
  pub full : length journal ≡ JOURNAL_ENTRIES

-- what is owed with each reply
abbrev pub Shows : Settings → List Entry → Request → ℕ → Outcome → Reply → Type 0
Shows C journal request front outcome (Refused codes.Conflict) = IsSpentOutcome front outcome
Shows C journal request front outcome (Refused codes.StoreFull) = IsFullOutcome journal front outcome
Shows C journal request front outcome reply = IsToldOutcome C journal request front outcome

-- nothing has the reply; it was seen, no earlier than the call began
pub record IsSeen (C : Settings) (journal : List Entry) (request : Request) (front : ℕ)
    (outcome : Outcome) : Type 0 where
  pub above : front ≤ outcome.version
  pub within : outcome.version ≤ length journal
  pub shown : Shows C journal request front outcome outcome.reply

abbrev pub IsOutcome : Settings → List Entry → Request → ℕ → Outcome → Type 0
IsOutcome C journal request front outcome =
    MatchBool outcome.committed (NamesEntry journal request front outcome)
    (IsSeen C journal request front outcome)

-- ---- which replies there may be

-- a query commits nothing: it is told neither of conflicts nor of a full journal
abbrev pub MayTell : Call → Reply → Type 0
MayTell call (Refused codes.Conflict) = is_query call ≡ false
MayTell call (Refused codes.StoreFull) = is_query call ≡ false
MayTell call reply = Unit {0}

-- each attempt that is allowed met a conflict where the reply is Conflict, and else fewer did
abbrev pub AreAttempts : ℕ → Reply → ℕ → Type 0
AreAttempts attempts (Refused codes.Conflict) met = met ≡ attempts
AreAttempts attempts reply met = met < attempts
