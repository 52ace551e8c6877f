-- The store's journal as a list of plain entries.
use Rattle.std.proofs.Common.{◌≡◌, ℕ, ◌+◌, List, [], ◌∷◌, ◌++◌, length, take, drop, refl, sym, ap, subst, ◌∙◌}
use Rattle.std.proofs.lemmas.List.{drop-map, length-map, map_push, take-map}
use Rattle.conflict_sets.specs.Reads.{first_held}
use Rattle.conflict_sets.specs.Rows.{IsAscending, with_writes}
use Rattle.conflict_sets.specs.declared.sets.ReadSet.{ReadSet}
use Rattle.fs_base.specs.Config.{Settings}
use Rattle.fs_base.specs.declared.row.Row.{Row}
use Rattle.kv_store.specs.Journal.{after_all, rows_at, this_or, later_from, first_later, is_written, written_value, writer_from, last_writer, IsAgreedJournal}
use Rattle.kv_store.specs.Store.{Store}
use Rattle.meta_task.specs.declared.entry.MetaEntry.{MetaEntry}
use Rattle.path_walk.specs.Sound.{IsSoundEntry}
use Rattle.row_tree.specs.HasTree.{AreWellFormed}
use Rattle.txn_task.specs.declared.messages.Entry.{Entry}
use Rattle.run_record.specs.Legal.{reads_of, writes_of}
use Rattle.request_run.specs.Entries.{entries_of}
use Rattle.run_record.specs.Sound.{IsSoundJournal}
use Rattle.request_run.specs.Sound.{IsStoreOpening}

-- ---- lists

abbrev entry_of : MetaEntry → Entry
entry_of m = m.entry

pub length_entries : (journal : List MetaEntry) → length (entries_of journal) ≡ length journal
length_entries journal = length-map journal entry_of

pub entries-push : (journal : List MetaEntry) (m : MetaEntry) → entries_of (journal ++ m ∷ []) ≡ entries_of journal ++ m.entry ∷ []
entries-push journal m = map_push entry_of journal m

-- ---- rows, writers and later writes

rows_after : (rows : List Row) (journal : List MetaEntry) → after_all (λ (m : MetaEntry). m.entry.writes) rows journal ≡ after_all writes_of rows (entries_of journal)
rows_after rows [] = refl
rows_after rows (m ∷ journal) = rows_after (with_writes rows m.entry.writes.writes) journal

pub rows_same : (opening : List Row) (journal : List MetaEntry) (n : ℕ) → rows_at (λ (m : MetaEntry). m.entry.writes) opening journal n ≡ rows_at writes_of opening (entries_of journal) n
rows_same opening journal n = rows_after opening (take n journal) ∙ ap (after_all writes_of opening) (sym (take-map entry_of n journal))

later_after : (reads : ReadSet) (version : ℕ) (journal : List MetaEntry) → later_from (λ (m : MetaEntry). m.entry.writes) reads version journal ≡ later_from writes_of reads version (entries_of journal)
later_after reads version [] = refl
later_after reads version (m ∷ journal) = ap (this_or (first_held reads m.entry.writes.writes) (version + 1)) (later_after reads (version + 1) journal)

pub later_same : (journal : List MetaEntry) (snapshot : ℕ) (reads : ReadSet) → first_later (λ (m : MetaEntry). m.entry.writes) journal snapshot reads ≡ first_later writes_of (entries_of journal) snapshot reads
later_same journal snapshot reads = later_after reads snapshot (drop snapshot journal) ∙ ap (later_from writes_of reads snapshot) (sym (drop-map entry_of snapshot journal))

writer_after : (key : List ℕ) (version writer : ℕ) (journal : List MetaEntry) → writer_from (λ (m : MetaEntry). m.entry.writes) key version writer journal ≡ writer_from writes_of key version writer (entries_of journal)
writer_after key version writer [] = refl
writer_after key version writer (m ∷ journal) = writer_after key (version + 1) (is_written (written_value m.entry.writes.writes key) (version + 1) writer) journal

pub writer_same : (journal : List MetaEntry) (n : ℕ) (key : List ℕ) → last_writer (λ (m : MetaEntry). m.entry.writes) journal n key ≡ last_writer writes_of (entries_of journal) n key
writer_same journal n key = writer_after key 0 0 (take n journal) ∙ ap (writer_from writes_of key 0 0) (sym (take-map entry_of n journal))

-- ---- the run

run_entries : (C : Settings) (rows : List Row) (journal : List MetaEntry)
    → IsAgreedJournal (λ (m : MetaEntry). m.entry.reads) (λ (m : MetaEntry). m.entry.writes) (λ (m : MetaEntry). IsSoundEntry C m.entry) rows journal
    → IsAgreedJournal reads_of writes_of (IsSoundEntry C) rows (entries_of journal)
run_entries C rows [] run = tt
run_entries C rows (m ∷ journal) run = (run.0, run.1, run_entries C (with_writes rows m.entry.writes.writes) journal run.2)

-- what the store keeps of its journal is that it is sound
pub sound_journal : (store : Store MetaEntry) → IsStoreOpening store → IsAscending store.opening
    → ((n : ℕ) → AreWellFormed store.config (rows_at (λ (m : MetaEntry). m.entry.writes) store.opening store.journal n))
    → IsAgreedJournal (λ (m : MetaEntry). m.entry.reads) (λ (m : MetaEntry). m.entry.writes) (λ (m : MetaEntry). IsSoundEntry store.config m.entry) store.opening store.journal
    → IsSoundJournal store.config (entries_of store.journal)
sound_journal store begun ascending good run =
    record {
      ascending = subst IsAscending begun.opening ascending;
      opening = begun.tree;
      good = λ n. subst (AreWellFormed store.config)
          (rows_same store.opening store.journal n ∙ ap (λ (rows : List Row). rows_at writes_of rows (entries_of store.journal) n) begun.opening)
          (good n);
      run = subst (λ (rows : List Row). IsAgreedJournal reads_of writes_of (IsSoundEntry store.config) rows (entries_of store.journal)) begun.opening
          (run_entries store.config store.opening store.journal run);
    }
