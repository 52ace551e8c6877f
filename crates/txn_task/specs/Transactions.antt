-- An attempt's snapshot, reads and writes, and how an answer is noted.
use Rattle.std.specs.Prelude.{◌≡◌, ℕ, ◌≤◌, List, [], ◌∷◌, ◌++◌, Option, Some, None, Bool, false, true, length, take, slice_get}
use Rattle.std.specs.Ordering.{is_eq, is_le}
use Rattle.std.specs.declared.cmp.Ordering.TheVariants.{Greater}
use Rattle.conflict_sets.specs.Keys.{key_cmp}
use Rattle.conflict_sets.specs.declared.sets.RangeRead.{RangeRead}
use Rattle.conflict_sets.specs.declared.sets.ReadSet.{ReadSet}
use Rattle.conflict_sets.specs.declared.sets.Write.{Write}
use Rattle.key_schema.specs.Keys.{spelled_key}
use Rattle.txn_task.specs.Writes.{read_of}
use Rattle.txn_task.specs.declared.messages.Answer.{Answer}
use Rattle.txn_task.specs.declared.messages.Answer.TheVariants as answers
use Rattle.txn_task.specs.declared.messages.Ask.{Ask}
use Rattle.txn_task.specs.declared.messages.Ask.TheVariants as asks

pub record Transaction : Type 0 where
  -- the version that it reads
  pub snapshot : ℕ
  pub reads : ReadSet
  -- of each key that was read, in that order, the version that last wrote it: 0 where no entry has
  pub versions : List ℕ
  -- in the order of keys
  pub writes : List Write

-- nothing read or written yet
abbrev pub started : ℕ → Transaction
started version =
    record { snapshot = version; reads = record { keys = []; ranges = [] }; versions = []; writes = [] }

-- one more key, or one more range, was read
abbrev pub with_key : ReadSet → List ℕ → Option (List ℕ) → ReadSet
with_key reads key value = record reads { keys = reads.keys ++ record { key = key; value = value } ∷ [] }

abbrev pub with_range : ReadSet → RangeRead → ReadSet
with_range reads range = record reads { ranges = reads.ranges ++ range ∷ [] }

-- the reads with what an answer tells
abbrev pub noted : ReadSet → Ask → Answer → ReadSet
noted reads (asks.Get key) (answers.Got got) = with_key reads (spelled_key key) got.value
noted reads (asks.Range lo hi limit) (answers.Rows rows) =
    with_range reads (record { lo = lo; hi = hi; limit = limit; rows = rows })
noted reads ask answer = reads

-- the versions with that of a key's value
abbrev pub dated : List ℕ → Ask → Answer → List ℕ
dated versions (asks.Get key) (answers.Got got) = versions ++ got.version ∷ []
dated versions ask answer = versions

abbrev pub with_answer : Transaction → Ask → Answer → Transaction
with_answer t ask answer =
    record t { reads = noted t.reads ask answer; versions = dated t.versions ask answer }

-- the answer tells of a key that wasn't read, or of a range
abbrev pub IsNews : ReadSet → Ask → Answer → Type 0
IsNews reads (asks.Get key) (answers.Got got) = read_of reads.keys (spelled_key key) ≡ None
IsNews reads (asks.Range lo hi limit) (answers.Rows rows) = Unit {0}
IsNews reads ask answer = ⊥

-- each write comes before this key
abbrev pub WritesBefore : List ℕ → List Write → Type 0
WritesBefore key [] = Unit {0}
WritesBefore key (write ∷ writes) = (key_cmp key write.key ≡ Greater) × WritesBefore key writes

-- where a write of the key belongs
pub record IsWritePlace (writes : List Write) (key : List ℕ) (place : ℕ) : Type 0 where
  pub within : place ≤ length writes
  pub before : WritesBefore key (take place writes)
  pub not_after : (write : Write) → slice_get writes place ≡ Some write → is_le (key_cmp key write.key) ≡ true

abbrev pub has_key : Option Write → List ℕ → Bool
has_key None key = false
has_key (Some write) key = is_eq (key_cmp key write.key)
