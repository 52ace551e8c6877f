-- The chains of keys, write by write.
use Rattle.std.proofs.Common.{◌≡◌, ℕ, ◌<◌, ◌+◌, List, [], ◌∷◌, ◌++◌, Option, Some, None, Bool, true, false, cond, length, take, get_or, sym, ◌∙◌, ap, refl, arith, suc, zero, subst}
use Rattle.std.specs.Prelude.{leb}
use Rattle.std.specs.Ordering.{is_eq}
use Rattle.std.specs.declared.cmp.Ordering.TheVariants.{Less, Greater}
use Rattle.std.proofs.lemmas.List.{append-nil}
use Rattle.conflict_sets.specs.Keys.{key_cmp}
use Rattle.conflict_sets.specs.Writes.{AreAscending, WritesAbove}
use Rattle.conflict_sets.specs.declared.sets.Write.{Write}
use Rattle.conflict_sets.proofs.KeyOrder.{key_exact, key_less_flips}
use Rattle.conflict_sets.proofs.RowLemmas.{by_place}
use Rattle.kv_store.specs.declared.chain.Version.{Version}
use Rattle.kv_store.specs.Journal.{written_value, or_else}
use Rattle.kv_store.specs.Chains.{AreBelow, up_to}
use Rattle.kv_store.specs.Versions.{written_version, with_version, cut_where, cut_written}
use Rattle.kv_store.proofs.JournalLemmas.{written_value_more}
use Rattle.kv_store.proofs.ChainLemmas.{up_to-append, all_up_to, up_to-up_to}

above_at : (key : List ℕ) (writes : List Write) (i : ℕ) (w : Write) → WritesAbove key writes → i < length writes → get_or writes i w ≡ w → key_cmp key w.key ≡ Less
above_at key [] i w h l at = absurd (omega arith)
above_at key (x ∷ writes) zero w h l at = ap (λ (y : Write). key_cmp key y.key) (sym at) ∙ h.0
above_at key (x ∷ writes) (suc i) w h l at = above_at key writes i w h.1 (omega arith) at

-- no write before this one has its key
pub unwritten : (writes : List Write) (i : ℕ) (w : Write) → AreAscending writes → i < length writes → get_or writes i w ≡ w → written_value (take i writes) w.key ≡ None
unwritten [] i w a l at = absurd (omega arith)
unwritten (x ∷ writes) zero w a l at = refl
unwritten (x ∷ writes) (suc i) w a l at =
    let g : key_cmp w.key x.key ≡ Greater = key_less_flips x.key w.key (above_at x.key writes i w a.0 (omega arith) at) in
    let n : written_value (take i writes) w.key ≡ None = unwritten writes i w a.1 (omega arith) at in
    rw n (rw g refl)

-- what no write has, none of the first has
unwritten_first : (writes : List Write) (i : ℕ) (key : List ℕ) → written_value writes key ≡ None → written_value (take i writes) key ≡ None
unwritten_first writes zero key h = refl
unwritten_first [] (suc i) key h = refl
unwritten_first (x ∷ writes) (suc i) key h =
    let parts : (written_value writes key ≡ None) × (cond (is_eq (key_cmp key x.key)) (Some x.value) None ≡ None) = both (written_value writes key) (cond (is_eq (key_cmp key x.key)) (Some x.value) None) h in
    rw (unwritten_first writes i key parts.0) parts.1
  where
    both : (o p : Option (Option (List ℕ))) → or_else o p ≡ None → (o ≡ None) × (p ≡ None)
    both None p h = (refl, h)
    both (Some v) p h = absurd (let e : Some v ≡ None = h in cc)

-- one write further
pub pushed_more : (writes : List Write) (i : ℕ) (w : Write) (value : Option (List ℕ)) (version : ℕ) (key : List ℕ) (start now new : List Version)
    → AreAscending writes → i < length writes → get_or writes i w ≡ w → value ≡ w.value
    → now ≡ start ++ written_version (written_value (take i writes) key) version
    → new ≡ with_version (is_eq (key_cmp key w.key)) version value now
    → new ≡ start ++ written_version (written_value (take (i + 1) writes) key) version
pushed_more writes i w value version key start now new a l at v n h =
    h ∙ (by_place (with_version (is_eq (key_cmp key w.key)) version value now ≡ start ++ written_version (cond (is_eq (key_cmp key w.key)) (Some w.value) (written_value (take i writes) key)) version) key w.key
    (λ e. rw e n)
    (λ e. rw e (here (key_exact key w.key e)))
    (λ e. rw e n)
    ∙ ap (λ o. start ++ written_version o version) (sym (written_value_more writes i w key l at)))
  where
    here : key ≡ w.key → now ++ record { version = version; value = value } ∷ [] ≡ start ++ record { version = version; value = w.value } ∷ []
    here k =
        let none : written_value (take i writes) key ≡ None = ap (written_value (take i writes)) k ∙ unwritten writes i w a l at in
        let same : now ≡ start = n ∙ (ap (λ o. start ++ written_version o version) none ∙ append-nil start) in
        ap (λ c. c ++ record { version = version; value = value } ∷ []) same ∙ ap (λ x. start ++ record { version = version; value = x } ∷ []) v

-- what stands below the next version at a key that the next write has
pub below_next : (writes : List Write) (i : ℕ) (w : Write) (version : ℕ) (start now : List Version)
    → AreAscending writes → i < length writes → get_or writes i w ≡ w → AreBelow version start
    → now ≡ start ++ written_version (written_value (take i writes) w.key) version → AreBelow version now
below_next writes i w version start now a l at b n =
    subst (AreBelow version) (sym (n ∙ (ap (λ o. start ++ written_version o version) (unwritten writes i w a l at) ∙ append-nil start))) b

-- taken back
pub cut_back : (writes : List Write) (i front : ℕ) (key : List ℕ) (start now : List Version)
    → AreBelow (front + 1) start → now ≡ start ++ written_version (written_value (take i writes) key) (front + 1)
    → cut_written (written_value writes key) front now ≡ start
cut_back writes i front key start now b n = by_write (written_value writes key) refl
  where
    past : (o : Option (Option (List ℕ))) → up_to front (written_version o (front + 1)) ≡ []
    past None = refl
    past (Some v) = let t : leb (front + 1) front ≡ false = grind arith in rw t refl

    by_write : (o : Option (Option (List ℕ))) → written_value writes key ≡ o → cut_written o front now ≡ start
    by_write None h = n ∙ (ap (λ o. start ++ written_version o (front + 1)) (unwritten_first writes i key h) ∙ append-nil start)
    by_write (Some v) h =
        ap (up_to front) n ∙ (up_to-append front start (written_version (written_value (take i writes) key) (front + 1))
        ∙ (ap (λ rest. up_to front start ++ rest) (past (written_value (take i writes) key)) ∙ (append-nil (up_to front start) ∙ all_up_to front start b)))

pub cut_more : (writes : List Write) (i front : ℕ) (w : Write) (key : List ℕ) (start now new : List Version)
    → i < length writes → get_or writes i w ≡ w
    → now ≡ cut_written (written_value (take i writes) key) front start
    → new ≡ cut_where (is_eq (key_cmp key w.key)) front now
    → new ≡ cut_written (written_value (take (i + 1) writes) key) front start
cut_more writes i front w key start now new l at n h =
    h ∙ (ap (cut_where (is_eq (key_cmp key w.key)) front) n
    ∙ (step (is_eq (key_cmp key w.key)) (written_value (take i writes) key)
    ∙ ap (λ o. cut_written o front start) (sym (written_value_more writes i w key l at))))
  where
    step : (b : Bool) (o : Option (Option (List ℕ))) → cut_where b front (cut_written o front start) ≡ cut_written (cond b (Some w.value) o) front start
    step true None = refl
    step true (Some v) = up_to-up_to front start
    step false o = refl
