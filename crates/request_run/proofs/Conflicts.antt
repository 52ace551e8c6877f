-- A conflict names a later entry of another client that wrote what the request may read.
use Rattle.std.proofs.Common.{◌≡◌, ℕ, ◌<◌, ◌≤◌, ◌+◌, inl, inr, List, [], ◌∷◌, Option, Some, true, false, subst, arith}
use Rattle.std.specs.List.{list_any}
use Rattle.std.specs.Ordering.{is_eq}
use Rattle.std.proofs.lemmas.Bool.{or_cases}
use Rattle.conflict_sets.specs.Keys.{key_cmp}
use Rattle.conflict_sets.specs.Held.{is_written_key}
use Rattle.conflict_sets.specs.declared.sets.ReadSet.{ReadSet}
use Rattle.conflict_sets.specs.declared.sets.Write.{Write}
use Rattle.fs_base.specs.Config.{Settings}
use Rattle.fs_base.specs.declared.call.Request.{Request}
use Rattle.key_schema.specs.Keys.{spelled_key, IsSpellable}
use Rattle.key_schema.specs.declared.key.Key.{Key}
use Rattle.kv_store.specs.Journal.{first_later}
use Rattle.kv_store.specs.Later.{IsFirstConflict, IsFirstLater}
use Rattle.kv_store.proofs.HoldLemmas.{same_key}
use Rattle.kv_store.proofs.LaterLemmas.{first_later_first}
use Rattle.txn_task.specs.declared.messages.Entry.{Entry}
use Rattle.run_record.specs.Legal.{journal_rows, tree_at, writes_of}
use Rattle.run_record.specs.Receipts.{IsWritten, IsConflict}
use Rattle.request_run.specs.Served.{IsBegun}
use Rattle.run_record.specs.Sound.{IsSoundJournal}
use Rattle.request_run.proofs.Covered.{held_touched}
use Rattle.run_record.proofs.History.{rows_ascend, rows_tree}

-- a conflict is behind the snapshot
pub later_above : (journal : List Entry) (snapshot : ℕ) (reads : ReadSet) (version : ℕ) (key : List ℕ) → first_later writes_of journal snapshot reads ≡ Some (version, key) → snapshot < version
later_above journal snapshot reads version key later =
    let first : IsFirstLater writes_of journal snapshot reads version key =
    subst (λ (o : Option (ℕ × List ℕ)). IsFirstConflict writes_of journal snapshot reads o) later (first_later_first writes_of journal snapshot reads) in
    let behind : snapshot ≤ first.place = first.later in
    let numbered : version ≡ first.place + 1 = first.numbered in
    omega arith

written : (writes : List Write) (key : List ℕ) → is_written_key writes key ≡ true → IsWritten writes key
written [] key e = absurd (let f : false ≡ true = e in cc)
written (w ∷ writes) key e =
    elim (or_cases (is_eq (key_cmp key w.key)) (list_any (λ (write : Write). is_eq (key_cmp key write.key)) writes) e) [
      | inl here ↦ inl (same_key key w.key here)
      | inr later ↦ inr (written writes key later)
    ]

pub conflict_named : (C : Settings) (journal : List Entry) (q : Request) (floor snapshot : ℕ) (reads : ReadSet) (version : ℕ) (key : Key) → IsSoundJournal C journal → IsBegun C journal q floor snapshot reads → IsSpellable key
    → first_later writes_of journal snapshot reads ≡ Some (version, spelled_key key) → IsConflict C journal q floor (version, key)
conflict_named C journal q floor snapshot reads version key s b spellable later =
    let first : IsFirstLater writes_of journal snapshot reads version (spelled_key key)
    = subst (λ (o : Option (ℕ × List ℕ)). IsFirstConflict writes_of journal snapshot reads o) later
    (first_later_first writes_of journal snapshot reads) in
    let behind : snapshot ≤ first.place = first.later in
    let from : floor ≤ snapshot = b.from in
    let numbered : version ≡ first.place + 1 = first.numbered in (
      record {
        place = first.place;
        version = numbered;
        later = omega arith;
        entry = first.entry;
        at = first.there;
        other = λ same. (let before : first.place < snapshot = b.own first.place first.entry first.there same in omega arith);
        wrote = written first.entry.writes.writes (spelled_key key) first.least.written;
      },
      record {
        snapshot = snapshot;
        from = from;
        before = omega arith;
        touched = held_touched C q reads (journal_rows C journal snapshot) (tree_at C journal snapshot) key b.covered (rows_ascend C journal s snapshot) (rows_tree C journal s snapshot) b.agrees spellable first.least.held;
      },
    )
