-- Entries that wrote nothing of what was read are passed over.
use Rattle.std.proofs.Common.{◌≡◌, ℕ, ◌<◌, ◌≤◌, ◌+◌, ◌-◌, List, [], ◌∷◌, ◌++◌, Option, Some, None, Bool, true, false, cond, length, take, drop, sym, ◌∙◌, ap, refl, arith, suc, zero, subst}
use Rattle.std.specs.Ordering.{is_eq}
use Rattle.conflict_sets.specs.Keys.{key_cmp}
use Rattle.conflict_sets.specs.Reads.{reads_hold, first_held}
use Rattle.conflict_sets.specs.Rows.{value_at_key}
use Rattle.conflict_sets.specs.declared.sets.Write.{Write}
use Rattle.conflict_sets.specs.declared.sets.ReadSet.{ReadSet}
use Rattle.conflict_sets.specs.declared.sets.WriteSet.{WriteSet}
use Rattle.conflict_sets.proofs.KeyOrder.{key_self}
use Rattle.fs_base.specs.declared.row.Row.{Row}
use Rattle.kv_store.specs.declared.chain.Version.{Version}
use Rattle.kv_store.specs.Journal.{written_value, or_else, this_or, later_from, first_later}
use Rattle.kv_store.specs.Chains.{AreOutside}
use Rattle.kv_store.specs.Versions.{opening_version, written_version, chain_from, chain_of}
use Rattle.kv_store.proofs.ChainLemmas.{AreOutside-tail, AreOutside_narrower}
use Rattle.kv_store.proofs.VersionLemmas.{from_split}

-- a written key has a value in the writes
is_written_here : (w : Write) (writes : List Write) → written_value (w ∷ writes) w.key ≡ None → ⊥
is_written_here w writes h = some (written_value writes w.key) (cond (is_eq (key_cmp w.key w.key)) (Some w.value) None) (ap (λ o. cond (is_eq o) (Some w.value) None) (key_self w.key)) h
  where
    some : (o p : Option (Option (List ℕ))) → p ≡ Some w.value → or_else o p ≡ None → ⊥
    some None p s n = let e : Some w.value ≡ None = sym s ∙ n in cc
    some (Some v) p s n = let e : Some v ≡ None = n in cc

tail_unwritten : (w : Write) (writes : List Write) (key : List ℕ) → written_value (w ∷ writes) key ≡ None → written_value writes key ≡ None
tail_unwritten w writes key h = first (written_value writes key) (cond (is_eq (key_cmp key w.key)) (Some w.value) None) h
  where
    first : (o p : Option (Option (List ℕ))) → or_else o p ≡ None → o ≡ None
    first None p h = refl
    first (Some v) p h = absurd (let e : Some v ≡ None = h in cc)

-- where no held key is written, none is found
none_held : (reads : ReadSet) (writes : List Write) → ((key : List ℕ) → reads_hold reads key ≡ true → written_value writes key ≡ None) → first_held reads writes ≡ None
none_held reads [] h = refl
none_held reads (w ∷ writes) h = by_test (reads_hold reads w.key) refl (none_held reads writes (λ key t. tail_unwritten w writes key (h key t)))
  where
    by_test : (b : Bool) → reads_hold reads w.key ≡ b → first_held reads writes ≡ None → cond b (Some w.key) (first_held reads writes) ≡ None
    by_test true t rest = absurd (is_written_here w writes (h w.key t))
    by_test false t rest = rest

-- a version right after the gap's begin lies in the gap
unwritten_in_gap : (o : Option (Option (List ℕ))) (v until : ℕ) (chain : List Version) → v + 1 < until → AreOutside v until (written_version o (v + 1) ++ chain) → o ≡ None
unwritten_in_gap None v until chain l h = refl
unwritten_in_gap (Some x) v until chain l h = absurd (let m : until ≤ v + 1 = h.0 (omega arith) in omega arith)

skipped : {E : Type 0} (writes_of : E → WriteSet) (reads : ReadSet) (v d m : ℕ) (es : List E) → m ≡ v + d → ((key : List ℕ) → reads_hold reads key ≡ true → AreOutside v (m + 1) (chain_from writes_of key v es)) → later_from writes_of reads v es ≡ later_from writes_of reads m (drop d es)
skipped writes_of reads v zero m es s h = ap (λ k. later_from writes_of reads k es) (sym (s ∙ omega arith))
skipped writes_of reads v (suc d) m [] s h = refl
skipped {E} writes_of reads v (suc d) m (e ∷ es) s h =
    let none : first_held reads (writes_of e).writes ≡ None
    = none_held reads (writes_of e).writes (λ key t. unwritten_in_gap (written_value (writes_of e).writes key) v (m + 1) (chain_from writes_of key (v + 1) es) (omega arith) (h key t)) in
    ap (λ o. this_or o (v + 1) (later_from writes_of reads (v + 1) es)) none
    ∙ skipped writes_of reads (v + 1) d m es (omega arith)
    (λ key t. AreOutside_narrower v (m + 1) (v + 1) (m + 1) (chain_from writes_of key (v + 1) es) (omega arith) (omega arith)
    (AreOutside-tail v (m + 1) (written_version (written_value (writes_of e).writes key) (v + 1)) (chain_from writes_of key (v + 1) es) (h key t)))

-- The entries from a snapshot up to a place may be passed over where no chain of a held key has a version among them.
pub skips : {E : Type 0} (writes_of : E → WriteSet) (opening : List Row) (journal : List E) (reads : ReadSet) (snapshot place : ℕ) → snapshot ≤ place → snapshot ≤ length journal
    → ((key : List ℕ) → reads_hold reads key ≡ true → AreOutside snapshot (place + 1) (chain_of writes_of opening journal key))
    → first_later writes_of journal snapshot reads ≡ first_later writes_of journal place reads
skips {E} writes_of opening journal reads snapshot place l m h =
    skipped writes_of reads snapshot (place - snapshot) place (drop snapshot journal) (omega arith) rest
    ∙ ap (later_from writes_of reads place) (drops snapshot place journal l)
  where
    rest : (key : List ℕ) → reads_hold reads key ≡ true → AreOutside snapshot (place + 1) (chain_from writes_of key snapshot (drop snapshot journal))
    rest key t =
        AreOutside-tail snapshot (place + 1) (chain_from writes_of key 0 (take snapshot journal)) (chain_from writes_of key snapshot (drop snapshot journal))
        (subst (AreOutside snapshot (place + 1)) (from_split writes_of key 0 snapshot snapshot journal (omega arith) m)
        (AreOutside-tail snapshot (place + 1) (opening_version (value_at_key opening key)) (chain_from writes_of key 0 journal) (h key t)))

    drops : (s p : ℕ) (es : List E) → s ≤ p → drop (p - s) (drop s es) ≡ drop p es
    drops s p es l = Rattle.std.proofs.lemmas.List.drop-drop (p - s) s es ∙ ap (λ k. drop k es) (omega arith)
