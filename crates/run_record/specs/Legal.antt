-- The rows behind the journal, which is a history of the plain tree.
use Rattle.std.specs.Prelude.{ℕ, List}
use Rattle.conflict_sets.specs.declared.sets.ReadSet.{ReadSet}
use Rattle.conflict_sets.specs.declared.sets.WriteSet.{WriteSet}
use Rattle.fs_base.specs.Config.{Settings}
use Rattle.fs_base.specs.declared.row.Row.{Row}
use Rattle.kv_store.specs.Journal.{rows_at}
use Rattle.row_tree.specs.Opening.{opening_bytes}
use Rattle.txn_task.specs.declared.messages.Entry.{Entry}
pub use Rattle.histories.specs.Journal.{EntryAt, applied, tree_after, tree_at, AreReplies, IsOnce}
pub use Rattle.histories.specs.Journal.{IsLegalJournal}

abbrev pub reads_of : Entry → ReadSet
reads_of entry = entry.reads

abbrev pub writes_of : Entry → WriteSet
writes_of entry = entry.writes

-- the rows of a version: the opening rows with the first entries' writes
abbrev pub journal_rows : Settings → List Entry → ℕ → List Row
journal_rows C journal n = rows_at writes_of (opening_bytes C) journal n
