-- The law of optimistic commits.
use Rattle.std.proofs.Common.{◌≡◌, ℕ, ◌<◌, ◌≤◌, ◌+◌, List, [], ◌∷◌, ◌++◌, Option, Some, None, length, take, drop, sym, ◌∙◌, ap, refl, arith, suc, zero, subst, Bool, true, false, cond}
use Rattle.kv_store.specs.Store.{Store, IsStoreKept}
use Rattle.std.proofs.lemmas.List.{take-append-drop, length_push}
use Rattle.conflict_sets.specs.Rows.{IsAscending, with_writes}
use Rattle.conflict_sets.specs.Reads.{RowsAgree, first_held}
use Rattle.fs_base.specs.declared.row.Row.{Row}
use Rattle.fs_base.specs.Config.{Settings}
use Rattle.conflict_sets.specs.declared.sets.ReadSet.{ReadSet}
use Rattle.conflict_sets.specs.declared.sets.WriteSet.{WriteSet}
use Rattle.conflict_sets.proofs.RowLemmas.{IsAscending-with_writes}
use Rattle.conflict_sets.proofs.ReadLemmas.{Agrees-with_writes}
use Rattle.kv_store.specs.Commits.{IsCommitted}
use Rattle.kv_store.specs.Journal.{after_all, rows_at, this_or, later_from, first_later, IsAgreedJournal}
use Rattle.kv_store.proofs.JournalLemmas.{after_all-append, IsAscending-after_all}

none_this : (o : Option (List ℕ)) (v : ℕ) (later : Option (ℕ × List ℕ)) → this_or o v later ≡ None → (o ≡ None) × (later ≡ None)
none_this None v later h = (refl, h)
none_this (Some k) v later h = absurd (let e : Some (v, k) ≡ None = h in cc)

-- reads that no later entry wrote into agree with the rows after those entries
pub Agrees-after_all : {E : Type 0} (writes_of : E → WriteSet) (reads : ReadSet) (rows : List Row) (v : ℕ) (es : List E) → IsAscending rows → later_from writes_of reads v es ≡ None → RowsAgree rows reads → RowsAgree (after_all writes_of rows es) reads
Agrees-after_all writes_of reads rows v [] a n h = h
Agrees-after_all writes_of reads rows v (e ∷ es) a n h =
    let parts : (first_held reads (writes_of e).writes ≡ None) × (later_from writes_of reads (v + 1) es ≡ None) = none_this (first_held reads (writes_of e).writes) (v + 1) (later_from writes_of reads (v + 1) es) n in
    Agrees-after_all writes_of reads (with_writes rows (writes_of e).writes) (v + 1) es (IsAscending-with_writes rows (writes_of e).writes a) parts.1
    (Agrees-with_writes reads rows (writes_of e).writes a parts.0 h)

-- agreed at the snapshot, and met no later write: agrees with all rows
pub Agrees_at_front : {E : Type 0} (writes_of : E → WriteSet) (reads : ReadSet) (opening : List Row) (journal : List E) (snapshot : ℕ) → IsAscending opening → first_later writes_of journal snapshot reads ≡ None → RowsAgree (rows_at writes_of opening journal snapshot) reads → RowsAgree (after_all writes_of opening journal) reads
Agrees_at_front writes_of reads opening journal s a n h =
    let P : List Row → Type 0 = λ rows. RowsAgree rows reads in
    subst P (sym (after_all-append writes_of opening (take s journal) (drop s journal)) ∙ ap (after_all writes_of opening) (take-append-drop s journal))
    (Agrees-after_all writes_of reads (rows_at writes_of opening journal s) s (drop s journal) (IsAscending-after_all writes_of opening (take s journal) a) n h)

-- one entry more
pub IsRun-push : {E : Type 0} (reads_of : E → ReadSet) (writes_of : E → WriteSet) (sound : E → Type 0) (rows : List Row) (es : List E) (e : E) → IsAgreedJournal reads_of writes_of sound rows es → sound e → RowsAgree (after_all writes_of rows es) (reads_of e) → IsAgreedJournal reads_of writes_of sound rows (es ++ e ∷ [])
IsRun-push reads_of writes_of sound rows [] e h s g = (s, g, tt)
IsRun-push reads_of writes_of sound rows (x ∷ es) e h s g = (h.0, h.1, IsRun-push reads_of writes_of sound (with_writes rows (writes_of x).writes) es e h.2 s g)

-- A run leads good rows to good rows, at every version.
pub good_at : {E : Type 0} (reads_of : E → ReadSet) (writes_of : E → WriteSet) (good : List Row → Type 0) (sound : E → Type 0)
    → ((e : E) (rows : List Row) → IsAscending rows → sound e → good rows → RowsAgree rows (reads_of e) → good (with_writes rows (writes_of e).writes))
    → (rows : List Row) (es : List E) (n : ℕ) → IsAscending rows → good rows → IsAgreedJournal reads_of writes_of sound rows es → good (rows_at writes_of rows es n)
good_at reads_of writes_of good sound law rows es zero a g h = g
good_at reads_of writes_of good sound law rows [] (suc n) a g h = g
good_at reads_of writes_of good sound law rows (e ∷ es) (suc n) a g h =
    good_at reads_of writes_of good sound law (with_writes rows (writes_of e).writes) es n
    (IsAscending-with_writes rows (writes_of e).writes a) (law e rows a h.0 g h.1) h.2

-- A commit that met no later write, or was refused memory, leaves a store as each store is.
pub IsKept-commit : {E : Type 0} (reads_of : E → ReadSet) (writes_of : E → WriteSet) (good : Settings → List Row → Type 0) (sound : Settings → E → Type 0)
    (store : Store E) (snapshot : ℕ) (e : E) (b : Bool) (next : List E)
    → IsStoreKept reads_of writes_of good sound store
    → sound store.config e
    → RowsAgree (rows_at writes_of store.opening store.journal snapshot) (reads_of e)
    → first_later writes_of store.journal snapshot (reads_of e) ≡ None
    → length store.journal < 200000
    → next ≡ cond b (store.journal ++ e ∷ []) store.journal
    → IsStoreKept reads_of writes_of good sound (record store { journal = next })
IsKept-commit reads_of writes_of good sound store snapshot e false next kept s agreed alone room is = rw is kept
IsKept-commit {E} reads_of writes_of good sound store snapshot e true next kept s agreed alone room is =
    rw is (record {
      ascending = kept.ascending;
      opening_good = kept.opening_good;
      run = IsRun-push reads_of writes_of (sound store.config) store.opening store.journal e kept.run s
          (Agrees_at_front writes_of (reads_of e) store.opening store.journal snapshot kept.ascending alone agreed);
      few = few;
    })
  where
    few : length (store.journal ++ e ∷ []) ≤ 200000
    few = omega (arith, length_push store.journal e)

-- optimistic commits are a run
run_committed : {E : Type 0} (reads_of : E → ReadSet) (writes_of : E → WriteSet) (sound : E → Type 0) (opening : List Row) (done : List E) (snapshots : List ℕ) (es : List E)
    → IsAscending opening → IsCommitted reads_of writes_of sound opening done snapshots es → IsAgreedJournal reads_of writes_of sound (after_all writes_of opening done) es
run_committed reads_of writes_of sound opening done snapshots [] a h = tt
run_committed reads_of writes_of sound opening done [] (e ∷ es) a h = absurd h
run_committed {E} reads_of writes_of sound opening done (s ∷ snapshots) (e ∷ es) a h =
    let P : List Row → Type 0 = λ rows. IsAgreedJournal reads_of writes_of sound rows es in (
      h.0,
      Agrees_at_front writes_of (reads_of e) opening done s a h.3 h.2,
      subst P (after_all-append writes_of opening done (e ∷ [])) (run_committed reads_of writes_of sound opening (done ++ e ∷ []) snapshots es a h.4),
    )

-- The law of optimistic commits.
pub commits_good : {E : Type 0} (reads_of : E → ReadSet) (writes_of : E → WriteSet) (good : List Row → Type 0) (sound : E → Type 0)
    → ((e : E) (rows : List Row) → IsAscending rows → sound e → good rows → RowsAgree rows (reads_of e) → good (with_writes rows (writes_of e).writes))
    → (opening : List Row) (snapshots : List ℕ) (es : List E) (n : ℕ) → IsAscending opening → good opening → IsCommitted reads_of writes_of sound opening [] snapshots es → good (rows_at writes_of opening es n)
commits_good reads_of writes_of good sound law opening snapshots es n a g h =
    good_at reads_of writes_of good sound law opening es n a g (run_committed reads_of writes_of sound opening [] snapshots es a h)
