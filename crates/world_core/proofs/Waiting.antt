-- How many files are being deleted, by the rows of a store.
use Rattle.std.proofs.Common.{◌≡◌, ℕ, ◌≤◌, List, length, ap, sym, ◌∙◌, arith}
use Rattle.std.proofs.lemmas.List.{take_all}
use Rattle.conflict_sets.specs.Ranges.{range_rows}
use Rattle.conflict_sets.specs.Rows.{rows_between}
use Rattle.fs_base.specs.Config.{Settings}
use Rattle.fs_base.specs.declared.row.Row.{Row}
use Rattle.key_schema.specs.Ranges.{all_doomed, raised}
use Rattle.kv_store.specs.Journal.{rows_at}
use Rattle.kv_store.specs.Store.{Store}
use Rattle.meta_task.specs.declared.entry.MetaEntry.{MetaEntry}
use Rattle.run_record.proofs.DoomedRows.{doomed_rows}
use Rattle.run_record.proofs.Keeping.{few_wait}
use Rattle.run_record.specs.Legal.{journal_rows, tree_at}
use Rattle.run_record.specs.Right.{waiting_in}
use Rattle.txn_task.specs.declared.messages.Entry.{Entry}
use Rattle.request_run.proofs.Answering.{page_same}
use Rattle.run_record.proofs.History.{entry_sound, rows_ascend, rows_tree}
use Rattle.request_run.proofs.Rows.{length_entries}
use Rattle.request_run.specs.Entries.{entries_of}
use Rattle.run_record.specs.Sound.{IsSoundJournal}
use Rattle.request_run.specs.Sound.{IsStoreOpening}

-- a page of more than there are entries has them all
pub page_waits : (store : Store MetaEntry) (front limit : ℕ) (l h : List ℕ) (rows : List Row)
    → IsStoreOpening store
    → IsSoundJournal store.config (entries_of store.journal) → length store.journal ≤ 200000 → 200000 ≤ limit
    → front ≡ length store.journal → l ≡ all_doomed → h ≡ raised all_doomed
    → rows ≡ rows_between (rows_at (λ (m : MetaEntry). m.entry.writes) store.opening store.journal front) l h limit
    → length rows ≡ waiting_in store.config (entries_of store.journal)
page_waits store front limit l h rows begun sound few large newest low high is =
    let C : Settings = store.config in
    let journal : List Entry = entries_of store.journal in
    let last : List Row = journal_rows C journal (length journal) in
    let count : length journal ≡ length store.journal = length_entries store.journal in
    let at : front ≡ length journal = newest ∙ sym count in
    let page : rows ≡ rows_between last all_doomed (raised all_doomed) limit =
    page_same store front l all_doomed h (raised all_doomed) limit rows begun low high is ∙ ap (λ n. rows_between (journal_rows C journal n) all_doomed (raised all_doomed) limit) at in
    let all : length (range_rows last all_doomed (raised all_doomed)) ≡ waiting_in C journal =
    doomed_rows C last (tree_at C journal (length journal)) (rows_ascend C journal sound (length journal)) (rows_tree C journal sound (length journal)) in
    let wait : waiting_in C journal ≤ length journal = few_wait C journal (λ place e at. (entry_sound C journal sound place e at).0.update) in
    ap length (page ∙ take_all limit (range_rows last all_doomed (raised all_doomed)) (omega arith)) ∙ all
