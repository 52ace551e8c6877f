-- What contracts see of a store.
use Rattle.std.specs.Prelude.{◌≤◌, ℕ, List, length}
use Rattle.conflict_sets.specs.Rows.{IsAscending}
use Rattle.fs_base.specs.Config.{Settings}
use Rattle.fs_base.specs.declared.row.Row.{Row}
use Rattle.fs_base.specs.declared.limits.TheConstants.{JOURNAL_ENTRIES}
use Rattle.conflict_sets.specs.declared.sets.ReadSet.{ReadSet}
use Rattle.conflict_sets.specs.declared.sets.WriteSet.{WriteSet}
use Rattle.kv_store.specs.declared.chain.Version.{Version}
use Rattle.kv_store.specs.Journal.{IsAgreedJournal}
use Rattle.kv_store.specs.Versions.{KeepsChains}

pub record Store (E : Type 0) : Type 0 where
  pub config : Settings
  pub opening : List Row
  pub journal : List E

-- The opening rows are good, and every entry is sound and agreed with the rows before it. That the rows are
-- good at every version isn't kept: it follows from this, which grows by one step.
pub record IsStoreKept {E : Type 0} (reads_of : E → ReadSet) (writes_of : E → WriteSet)
    (good : Settings → List Row → Type 0) (sound : Settings → E → Type 0) (store : Store E) : Type 0 where
  pub ascending : IsAscending store.opening
  pub opening_good : good store.config store.opening
  pub run : IsAgreedJournal reads_of writes_of (sound store.config) store.opening store.journal
  pub few : length store.journal ≤ JOURNAL_ENTRIES

-- and each key has its chain
pub record IsIndexed {E : Type 0} (reads_of : E → ReadSet) (writes_of : E → WriteSet)
    (good : Settings → List Row → Type 0) (sound : Settings → E → Type 0) (store : Store E)
    (chains : List (List ℕ × List Version)) : Type 0 where
  pub kept : IsStoreKept reads_of writes_of good sound store
  pub chains_are : KeepsChains writes_of store.opening store.journal chains
