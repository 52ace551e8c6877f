-- Rows that agree at each key are the same; ranges and their pages.
use Rattle.std.proofs.Common.{◌≡◌, ℕ, ◌<◌, ◌≤◌, min, List, [], ◌∷◌, ◌++◌, Option, Some, None, Bool, true, false, ◌&&◌, cond, take, drop, length, sym, ◌∙◌, ap, refl, subst, arith, suc, zero}
use Rattle.std.specs.Prelude.{filter}
use Rattle.std.specs.Ordering.{is_lt, is_eq, is_ge, is_gt, nat_cmp, ordering_then}
use Rattle.std.specs.declared.cmp.Ordering.{Ordering}
use Rattle.std.specs.declared.cmp.Ordering.TheVariants.{Less, Equal, Greater}
use Rattle.std.proofs.lemmas.Cmp.{nat_cmp_total, tied_itself, ranked}
use Rattle.std.proofs.lemmas.List.{take_all, length-take}
use Rattle.std.specs.Cmp.Lexicographic.{slice_cmp}
use Rattle.conflict_sets.specs.Keys.{key_cmp}
use Rattle.conflict_sets.specs.Rows.{KeysAbove, IsAscending, value_at_key, is_inside, rows_between}
use Rattle.fs_base.specs.declared.row.Row.{Row}
use Rattle.conflict_sets.proofs.KeyOrder.{key_exact, key_self, key_less_flips, key_greater_flips, key_trans}
use Rattle.conflict_sets.proofs.RowLemmas.{KeysAbove_lower, value_below, by_place}
use Rattle.conflict_sets.specs.Ranges.{range_rows, key_after, last_key}

-- the value of the first row's own key
pub value_head : (row : Row) (rows : List Row) → value_at_key (row ∷ rows) row.key ≡ Some row.value
value_head row rows = rw (key_self row.key) refl

value_later : (q : List ℕ) (row : Row) (rows : List Row) → is_eq (key_cmp q row.key) ≡ false → value_at_key (row ∷ rows) q ≡ value_at_key rows q
value_later q row rows n = rw n refl

some_is : (a b : List ℕ) → Some a ≡ Some b → a ≡ b
some_is a b e = cc

never : {P : Type 0} (v : List ℕ) → None ≡ Some v → P
never v e = absurd (cc)

same_row : (x y : Row) → x.key ≡ y.key → x.value ≡ y.value → x ≡ y
same_row x y k v = λ i. record { key = k i; value = v i }

-- ascending rows with the same value at each key are the same rows
pub same_rows : (xs ys : List Row) → IsAscending xs → IsAscending ys → ((q : List ℕ) → value_at_key xs q ≡ value_at_key ys q) → xs ≡ ys
same_rows [] [] a b same = refl
same_rows [] (y ∷ ys) a b same = never y.value (same y.key ∙ value_head y ys)
same_rows (x ∷ xs) [] a b same = never x.value (sym (same x.key) ∙ value_head x xs)
same_rows (x ∷ xs) (y ∷ ys) a b same =
    by_place (x ∷ xs ≡ y ∷ ys) x.key y.key
    (λ e. never x.value (sym (value_below x.key (y ∷ ys) (e, KeysAbove_lower x.key y.key ys e b.0)) ∙ (sym (same x.key) ∙ value_head x xs)))
    (λ e.
    let keys : x.key ≡ y.key = key_exact x.key y.key e in
    let values : x.value ≡ y.value = some_is x.value y.value (sym (value_head x xs) ∙ (same x.key ∙ (ap (value_at_key (y ∷ ys)) keys ∙ value_head y ys))) in
    let tails : xs ≡ ys = same_rows xs ys a.1 b.1 (λ q.
    by_place (value_at_key xs q ≡ value_at_key ys q) q x.key
    (λ l. sym (value_later q x xs (rw l refl)) ∙ (same q ∙ value_later q y ys (rw (← keys) (rw l refl))))
    (λ l. let at : q ≡ x.key = key_exact q x.key l in
    ap (value_at_key xs) at ∙ (value_below x.key xs a.0 ∙ sym (ap (value_at_key ys) (at ∙ keys) ∙ value_below y.key ys b.0)))
    (λ l. sym (value_later q x xs (rw l refl)) ∙ (same q ∙ value_later q y ys (rw (← keys) (rw l refl))))) in
    λ i. same_row x y keys values i ∷ tails i)
    (λ e. never y.value (sym (value_below y.key (x ∷ xs) (key_greater_flips x.key y.key e, KeysAbove_lower y.key x.key xs (key_greater_flips x.key y.key e) a.0)) ∙ (same y.key ∙ value_head y ys)))

-- a filter of ascending rows ascends
above_filter : (p : Row → Bool) (key : List ℕ) (rows : List Row) → KeysAbove key rows → KeysAbove key (filter p rows)
above_filter p key [] h = tt
above_filter p key (row ∷ rows) h =
    elim (p row) as (λ t. KeysAbove key (cond t (row ∷ filter p rows) (filter p rows))) [
      | true ↦ (h.0, above_filter p key rows h.1)
      | false ↦ above_filter p key rows h.1
    ]

pub IsAscending-filter : (p : Row → Bool) (rows : List Row) → IsAscending rows → IsAscending (filter p rows)
IsAscending-filter p [] h = tt
IsAscending-filter p (row ∷ rows) h =
    elim (p row) as (λ t. IsAscending (cond t (row ∷ filter p rows) (filter p rows))) [
      | true ↦ (above_filter p row.key rows h.0, IsAscending-filter p rows h.1)
      | false ↦ IsAscending-filter p rows h.1
    ]

pub IsAscending-range_rows : (rows : List Row) (lo hi : List ℕ) → IsAscending rows → IsAscending (range_rows rows lo hi)
IsAscending-range_rows rows lo hi h = IsAscending-filter (λ row. is_inside lo hi row.key) rows h

-- what a key of the range has there
pub value-range_rows : (rows : List Row) (lo hi q : List ℕ) → value_at_key (range_rows rows lo hi) q ≡ cond (is_inside lo hi q) (value_at_key rows q) None
value-range_rows [] lo hi q = either (is_inside lo hi q)
  where
    either : (b : Bool) → ◌≡◌ {A = Option (List ℕ)} None (cond b None None)
    either true = refl
    either false = refl
value-range_rows (row ∷ rows) lo hi q =
    (elim (is_inside lo hi row.key) as (λ t. is_inside lo hi row.key ≡ t → value_at_key (cond t (row ∷ range_rows rows lo hi) (range_rows rows lo hi)) q ≡ cond (is_inside lo hi q) (value_at_key (row ∷ rows) q) None) [
      | true ↦ λ t. by_place _ q row.key
          (λ e. rw e (value-range_rows rows lo hi q))
          (λ e. rw e (rw (key_exact q row.key e) (rw t refl)))
          (λ e. rw e (value-range_rows rows lo hi q))
      | false ↦ λ t. by_place _ q row.key
          (λ e. rw e (value-range_rows rows lo hi q))
          (λ e. rw e (value-range_rows rows lo hi q ∙ (outside (is_inside lo hi q) (ap (is_inside lo hi) (key_exact q row.key e) ∙ t) (value_at_key rows q) (Some row.value))))
          (λ e. rw e (value-range_rows rows lo hi q))
    ]) refl
  where
    outside : (b : Bool) → b ≡ false → (v w : Option (List ℕ)) → cond b v None ≡ cond b w None
    outside true e v w = absurd (cc)
    outside false e v w = refl

-- the order after common bytes
pub key_cmp-append : (p a b : List ℕ) → key_cmp (p ++ a) (p ++ b) ≡ key_cmp a b
unfolding key_cmp
key_cmp-append [] a b = refl
key_cmp-append (x ∷ p) a b = rw (tied_itself nat_cmp_total x) (key_cmp-append p a b)

and_true : (a b : Bool) → (a && b) ≡ true → (a ≡ true) × (b ≡ true)
and_true true b e = (refl, e)
and_true false b e = absurd (cc)

pub not_true : {P : Type 0} → false ≡ true → P
not_true e = absurd (cc)

-- ---- pages
ge_zero : (y : ℕ) (r : Ordering) → is_ge r ≡ true → is_ge (ordering_then (nat_cmp y 0) r) ≡ true
ge_zero y r e =
    (elim (nat_cmp y 0) as (λ o. nat_cmp y 0 ≡ o → is_ge (ordering_then o r) ≡ true) [
      | Less ↦ λ p. absurd (below_zero (ranked y 0 Less (sym p)))
      | Equal ↦ λ p. e
      | Greater ↦ λ p. refl
    ]) refl
  where
    below_zero : y < 0 → ⊥
    below_zero l = omega arith

not_below : (q : List ℕ) → is_ge (slice_cmp nat_cmp q []) ≡ true
not_below [] = refl
not_below (x ∷ q) = refl

-- what is not below the next key is above the key
pub after_is_above : (q k : List ℕ) → is_ge (key_cmp q (key_after k)) ≡ is_gt (key_cmp q k)
unfolding key_cmp
after_is_above [] [] = refl
after_is_above [] (x ∷ k) = refl
after_is_above (y ∷ q) [] = ge_zero y (slice_cmp nat_cmp q []) (not_below q)
after_is_above (y ∷ q) (x ∷ k) =
    elim (nat_cmp y x) as (λ o. is_ge (ordering_then o (slice_cmp nat_cmp q (key_after k))) ≡ is_gt (ordering_then o (slice_cmp nat_cmp q k))) [
      | Less ↦ refl
      | Equal ↦ after_is_above q k
      | Greater ↦ refl
    ]

ge_trans : (q k lo : List ℕ) → is_ge (key_cmp k lo) ≡ true → is_gt (key_cmp q k) ≡ true → is_ge (key_cmp q lo) ≡ true
ge_trans q k lo from above = by_place _ q k
    (λ e. not_true (sym (ap is_gt e) ∙ above))
    (λ e. not_true (sym (ap is_gt e) ∙ above))
    (λ e. by_place _ k lo
    (λ f. not_true (sym (ap is_ge f) ∙ from))
    (λ f. ap is_ge (ap (key_cmp q) (sym (key_exact k lo f)) ∙ e))
    (λ f. ap is_ge (key_less_flips lo q (key_trans lo k q (key_greater_flips k lo f) (key_greater_flips q k e)))))

narrowed : (g a l : Bool) → (g ≡ true → a ≡ true) → (g && l) ≡ ((a && l) && g)
narrowed true true true h = refl
narrowed true true false h = refl
narrowed true false l h = not_true (h refl)
narrowed false true true h = refl
narrowed false true false h = refl
narrowed false false l h = refl

inside_after : (lo hi k q : List ℕ) → is_ge (key_cmp k lo) ≡ true → is_inside (key_after k) hi q ≡ (is_inside lo hi q && is_gt (key_cmp q k))
inside_after lo hi k q from = ap (λ g. g && is_lt (key_cmp q hi)) (after_is_above q k) ∙ narrowed (is_gt (key_cmp q k)) (is_ge (key_cmp q lo)) (is_lt (key_cmp q hi)) (ge_trans q k lo from)

abbrev above : List ℕ → List Row → List Row
above k rows = filter (λ row. is_gt (key_cmp row.key k)) rows

range_after : (rows : List Row) (lo hi k : List ℕ) → is_ge (key_cmp k lo) ≡ true → range_rows rows (key_after k) hi ≡ above k (range_rows rows lo hi)
range_after [] lo hi k from = refl
range_after (row ∷ rows) lo hi k from =
    ap (λ t. cond t (row ∷ range_rows rows (key_after k) hi) (range_rows rows (key_after k) hi)) (inside_after lo hi k row.key from)
    ∙ (elim (is_inside lo hi row.key) as (λ t. cond (t && is_gt (key_cmp row.key k)) (row ∷ range_rows rows (key_after k) hi) (range_rows rows (key_after k) hi) ≡ above k (cond t (row ∷ range_rows rows lo hi) (range_rows rows lo hi))) [
      | true ↦ ap (λ (rest : List Row). cond (is_gt (key_cmp row.key k)) (row ∷ rest) rest) (range_after rows lo hi k from)
      | false ↦ range_after rows lo hi k from
    ])

all_above : (k : List ℕ) (rows : List Row) → KeysAbove k rows → above k rows ≡ rows
all_above k [] h = refl
all_above k (row ∷ rows) h = rw (key_less_flips k row.key h.0) (ap (λ rest. row ∷ rest) (all_above k rows h.1))

last_above : (a k : List ℕ) (rows : List Row) (n : ℕ) → KeysAbove a rows → last_key (take n rows) ≡ Some k → key_cmp a k ≡ Less
last_above a k rows zero h e = never k e
last_above a k [] (suc n) h e = never k e
last_above a k (row ∷ rows) (suc n) h e = by_rest (take n rows) refl e (last_above a k rows n h.1)
  where
    by_rest : (xs : List Row) → take n rows ≡ xs → last_key (row ∷ xs) ≡ Some k → (last_key (take n rows) ≡ Some k → key_cmp a k ≡ Less) → key_cmp a k ≡ Less
    by_rest [] is f later = subst (λ x. key_cmp a x ≡ Less) (some_is row.key k f) h.0
    by_rest (x ∷ xs) is f later = later (ap last_key is ∙ f)

no_length : (n : ℕ) (xs : List Row) → xs ≡ [] → suc (length xs) ≡ suc n → n ≡ 0
no_length n xs e l = let z : length xs ≡ 0 = ap length e in omega arith

drop_to : (rows : List Row) (k : List ℕ) (n : ℕ) → IsAscending rows → length (take n rows) ≡ n → last_key (take n rows) ≡ Some k → above k rows ≡ drop n rows
drop_to rows k zero h l e = never k e
drop_to [] k (suc n) h l e = never k e
drop_to (row ∷ rows) k (suc n) h l e = by_rest (take n rows) refl e (drop_to rows k n h.1)
  where
    by_rest : (xs : List Row) → take n rows ≡ xs → last_key (row ∷ xs) ≡ Some k → (length (take n rows) ≡ n → last_key (take n rows) ≡ Some k → above k rows ≡ drop n rows) → above k (row ∷ rows) ≡ drop n rows
    by_rest [] is f later =
        let same : row.key ≡ k = some_is row.key k f in
        let none : n ≡ 0 = no_length n (take n rows) is l in
        ap (λ t. cond (is_gt t) (row ∷ above k rows) (above k rows)) (ap (key_cmp row.key) (sym same) ∙ key_self row.key)
        ∙ (all_above k rows (subst (λ x. KeysAbove x rows) same h.0) ∙ sym (ap (λ m. drop m rows) none))
    by_rest (x ∷ xs) is f later =
        ap (λ t. cond (is_gt t) (row ∷ above k rows) (above k rows)) (last_above row.key k rows n h.0 (ap last_key is ∙ f))
        ∙ later (omega arith) (ap last_key is ∙ f)

-- the last row of a range is not below its start
last_from : (rows : List Row) (lo hi k : List ℕ) (n : ℕ) → last_key (take n (range_rows rows lo hi)) ≡ Some k → is_ge (key_cmp k lo) ≡ true
last_from rows lo hi k zero e = never k e
last_from [] lo hi k (suc n) e = never k e
last_from (row ∷ rows) lo hi k (suc n) e =
    (elim (is_inside lo hi row.key) as (λ t. is_inside lo hi row.key ≡ t → last_key (take (suc n) (cond t (row ∷ range_rows rows lo hi) (range_rows rows lo hi))) ≡ Some k → is_ge (key_cmp k lo) ≡ true) [
      | true ↦ λ t f. by_rest (take n (range_rows rows lo hi)) refl t f (last_from rows lo hi k n)
      | false ↦ λ t f. last_from rows lo hi k (suc n) f
    ]) refl e
  where
    by_rest : (xs : List Row) → take n (range_rows rows lo hi) ≡ xs → is_inside lo hi row.key ≡ true → last_key (row ∷ xs) ≡ Some k → (last_key (take n (range_rows rows lo hi)) ≡ Some k → is_ge (key_cmp k lo) ≡ true) → is_ge (key_cmp k lo) ≡ true
    by_rest [] is t f later = subst (λ x. is_ge (key_cmp x lo) ≡ true) (some_is row.key k f) (and_true (is_ge (key_cmp row.key lo)) (is_lt (key_cmp row.key hi)) t).0
    by_rest (x ∷ xs) is t f later = later (ap last_key is ∙ f)

-- after a full page the range from right after its last key has what is left of the range
pub next_page : (rows : List Row) (lo hi k : List ℕ) (n : ℕ) → IsAscending rows → length (rows_between rows lo hi n) ≡ n → last_key (rows_between rows lo hi n) ≡ Some k → range_rows rows (key_after k) hi ≡ drop n (range_rows rows lo hi)
next_page rows lo hi k n asc full last = range_after rows lo hi k (last_from rows lo hi k n last) ∙ drop_to (range_rows rows lo hi) k n (IsAscending-range_rows rows lo hi asc) full last

-- a page that is not full is the whole range
pub short_page : (rows : List Row) (lo hi : List ℕ) (n : ℕ) → length (rows_between rows lo hi n) < n → rows_between rows lo hi n ≡ range_rows rows lo hi
short_page rows lo hi n short = take_all n (range_rows rows lo hi) (within (length-take n (range_rows rows lo hi)))
  where
    within : length (take n (range_rows rows lo hi)) ≡ min n (length (range_rows rows lo hi)) → length (range_rows rows lo hi) ≤ n
    within e = omega arith
