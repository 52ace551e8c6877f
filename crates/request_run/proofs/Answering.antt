-- What the store answers, over the entries alone.
use Rattle.std.proofs.Common.{◌≡◌, ◌⊎◌, ℕ, List, [], ◌∷◌, inl, inr, Option, Some, true, false, length, sym, ap, subst, ◌∙◌}
use Rattle.std.specs.Ordering.{is_eq}
use Rattle.std.proofs.lemmas.Bool.{or_cases}
use Rattle.conflict_sets.specs.Held.{is_written_key}
use Rattle.conflict_sets.specs.Keys.{key_cmp}
use Rattle.conflict_sets.specs.Rows.{value_at_key, rows_between}
use Rattle.conflict_sets.specs.declared.sets.ReadSet.{ReadSet}
use Rattle.conflict_sets.specs.declared.sets.Write.{Write}
use Rattle.fs_base.specs.Config.{Settings}
use Rattle.fs_base.specs.declared.row.Row.{Row}
use Rattle.key_schema.specs.Keys.{IsKeyOf}
use Rattle.key_schema.specs.declared.key.Key.{Key}
use Rattle.kv_store.specs.Causes.{HasCommitCause}
use Rattle.kv_store.specs.Journal.{first_later, last_writer, rows_at}
use Rattle.kv_store.specs.Later.{IsFirstConflict}
use Rattle.kv_store.specs.Store.{Store}
use Rattle.kv_store.specs.declared.store.CommitError.{CommitError}
use Rattle.kv_store.specs.declared.store.CommitError.TheVariants as errors
use Rattle.kv_store.proofs.HoldLemmas.{same_key}
use Rattle.kv_store.proofs.LaterLemmas.{first_later_first}
use Rattle.meta_task.specs.declared.entry.MetaEntry.{MetaEntry}
use Rattle.txn_task.specs.Agreeing.{HaveValidKeys}
use Rattle.txn_task.specs.declared.messages.Ask.{Ask}
use Rattle.txn_task.specs.declared.messages.Ask.TheVariants as asks
use Rattle.txn_task.specs.declared.messages.Entry.{Entry}
use Rattle.run_record.proofs.History.{entry_sound}
use Rattle.run_record.specs.Legal.{journal_rows, writes_of}
use Rattle.request_run.specs.Entries.{entries_of, store_with_entry}
use Rattle.request_run.specs.Answered.{IsKeyed}
use Rattle.run_record.specs.Sound.{IsSoundJournal}
use Rattle.request_run.specs.Sound.{IsStoreOpening}
use Rattle.request_run.proofs.Rows.{length_entries, later_same, rows_same, writer_same}

-- the rows at a version
pub rows_are : (store : Store MetaEntry) (n : ℕ) → IsStoreOpening store → rows_at (λ (m : MetaEntry). m.entry.writes) store.opening store.journal n ≡ journal_rows store.config (entries_of store.journal) n
rows_are store n h = rows_same store.opening store.journal n ∙ ap (λ (rows : List Row). rows_at writes_of rows (entries_of store.journal) n) h.opening

pub value_same : (store : Store MetaEntry) (n : ℕ) (bytes key : List ℕ) (value : Option (List ℕ)) → IsStoreOpening store → bytes ≡ key → value ≡ value_at_key (rows_at (λ (m : MetaEntry). m.entry.writes) store.opening store.journal n) bytes
    → value ≡ value_at_key (journal_rows store.config (entries_of store.journal) n) key
value_same store n bytes key value h same is = is ∙ (ap (value_at_key (rows_at (λ (m : MetaEntry). m.entry.writes) store.opening store.journal n)) same ∙ ap (λ (rows : List Row). value_at_key rows key) (rows_are store n h))

pub writer_is : (store : Store MetaEntry) (n : ℕ) (bytes key : List ℕ) (version : ℕ) → bytes ≡ key → version ≡ last_writer (λ (m : MetaEntry). m.entry.writes) store.journal n bytes → version ≡ last_writer writes_of (entries_of store.journal) n key
writer_is store n bytes key version same is = is ∙ (ap (last_writer (λ (m : MetaEntry). m.entry.writes) store.journal n) same ∙ writer_same store.journal n key)

pub page_same : (store : Store MetaEntry) (n : ℕ) (l lo h hi : List ℕ) (limit : ℕ) (page : List Row) → IsStoreOpening store → l ≡ lo → h ≡ hi → page ≡ rows_between (rows_at (λ (m : MetaEntry). m.entry.writes) store.opening store.journal n) l h limit
    → page ≡ rows_between (journal_rows store.config (entries_of store.journal) n) lo hi limit
page_same store n l lo h hi limit page begun low high is =
    is ∙ (ap (λ (k : List ℕ). rows_between (rows_at (λ (m : MetaEntry). m.entry.writes) store.opening store.journal n) k h limit) low
    ∙ (ap (λ (k : List ℕ). rows_between (rows_at (λ (m : MetaEntry). m.entry.writes) store.opening store.journal n) lo k limit) high
    ∙ ap (λ (rows : List Row). rows_between rows lo hi limit) (rows_are store n begun)))

-- ---- a conflict's key

written_is_valid : (writes : List Write) (key : List ℕ) → HaveValidKeys writes → is_written_key writes key ≡ true → (k : Key) × IsKeyOf key k
written_is_valid [] key valid is = absurd (let f : false ≡ true = is in cc)
written_is_valid (write ∷ writes) key valid is =
    elim (or_cases (is_eq (key_cmp key write.key)) (is_written_key writes key) is) [
      | inl here ↦ (valid.0.0, (valid.0.1, sym valid.0.2 ∙ same_key key write.key here))
      | inr later ↦ written_is_valid writes key valid.1 later
    ]

pub conflict_keyed : (C : Settings) (journal : List Entry) (snapshot : ℕ) (reads : ReadSet) (version : ℕ) (key : List ℕ) → IsSoundJournal C journal → first_later writes_of journal snapshot reads ≡ Some (version, key) → (k : Key) × IsKeyOf key k
conflict_keyed C journal snapshot reads version key sound is =
    let found : IsFirstConflict writes_of journal snapshot reads (Some (version, key)) =
    subst (λ (o : Option (ℕ × List ℕ)). IsFirstConflict writes_of journal snapshot reads o) is
    (first_later_first writes_of journal snapshot reads) in
    written_is_valid found.entry.writes.writes key (entry_sound C journal sound found.place found.entry found.there).0.valid found.least.written

pub cause_keyed : (C : Settings) (journal : List Entry) (snapshot : ℕ) (reads : ReadSet) (front : ℕ) (why : CommitError) → IsSoundJournal C journal → HasCommitCause (first_later writes_of journal snapshot reads) front why → IsKeyed why
cause_keyed C journal snapshot reads front (errors.Conflict version key) sound cause = conflict_keyed C journal snapshot reads version key sound cause
cause_keyed C journal snapshot reads front errors.Full sound cause = tt
cause_keyed C journal snapshot reads front errors.Memory sound cause = tt

pub cause_same : (store : Store MetaEntry) (snapshot : ℕ) (reads : ReadSet) (why : CommitError) → HasCommitCause (first_later (λ (m : MetaEntry). m.entry.writes) store.journal snapshot reads) (length store.journal) why
    → HasCommitCause (first_later writes_of (entries_of store.journal) snapshot reads) (length (entries_of store.journal)) why
cause_same store snapshot reads why h =
    subst (λ (n : ℕ). HasCommitCause (first_later writes_of (entries_of store.journal) snapshot reads) n why) (sym (length_entries store.journal))
    (subst (λ (o : Option (ℕ × List ℕ)). HasCommitCause o (length store.journal) why) (later_same store.journal snapshot reads) h)

-- ---- the store after an answer

-- the store after a commit's answer, by the ask
pub answered_grows : (store after : Store MetaEntry) (ask : Ask) (entry : Entry) → ask ≡ asks.Commit entry → (after ≡ store) ⊎ (after ≡ store_with_entry store entry)
    → (after ≡ store) ⊎ ((made : Entry) × (ask ≡ asks.Commit made) × (after ≡ store_with_entry store made))
answered_grows store after ask entry is (inl same) = inl same
answered_grows store after ask entry is (inr more) = inr (entry, is, more)
