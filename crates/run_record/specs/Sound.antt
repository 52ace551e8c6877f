-- What holds of the journal of every store.
use Rattle.std.specs.Prelude.{ℕ, List}
use Rattle.conflict_sets.specs.Rows.{IsAscending}
use Rattle.fs_base.specs.Config.{Settings}
use Rattle.kv_store.specs.Journal.{IsAgreedJournal}
use Rattle.path_walk.specs.Sound.{IsSoundEntry}
use Rattle.row_tree.specs.HasTree.{HasTree, AreWellFormed}
use Rattle.row_tree.specs.Opening.{opening_bytes}
use Rattle.tree_model.specs.Tree.{new_tree}
use Rattle.txn_task.specs.declared.messages.Entry.{Entry}
use Rattle.run_record.specs.Legal.{journal_rows, reads_of, writes_of}

-- each entry is sound and agreed with the rows before it, and the rows are well formed at each version
pub record IsSoundJournal (C : Settings) (journal : List Entry) : Type 0 where
  pub ascending : IsAscending (opening_bytes C)
  pub opening : HasTree C (opening_bytes C) (new_tree C)
  pub good : (n : ℕ) → AreWellFormed C (journal_rows C journal n)
  pub run : IsAgreedJournal reads_of writes_of (IsSoundEntry C) (opening_bytes C) journal
