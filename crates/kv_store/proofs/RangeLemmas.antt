-- The rows of chains, and those of a range.
use Rattle.std.proofs.Common.{◌≡◌, ℕ, List, [], ◌∷◌, ◌++◌, Option, Some, None, Bool, true, false, cond, not, ◌&&◌, take, sym, ◌∙◌, ap, refl, suc, zero, subst}
use Rattle.std.specs.Prelude.{unwrap_or}
use Rattle.std.specs.List.{filter, AllByRecursion}
use Rattle.std.specs.List.Sorted.{IsStrictlySortedBy}
use Rattle.std.specs.Map.{lookup, keys_of}
use Rattle.std.specs.Ordering.{is_eq, is_lt, is_le, is_ge, is_gt, nat_cmp}
use Rattle.std.specs.declared.cmp.Ordering.{Ordering}
use Rattle.std.specs.declared.cmp.Ordering.TheVariants.{Less, Greater}
use Rattle.std.specs.Cmp.Lexicographic.{slice_cmp}
use Rattle.std.specs.BTreeMap.Range.{range_contains, entries_between}
use Rattle.std.specs.declared.ops.Bound.TheVariants.{Included, Excluded}
use Rattle.conflict_sets.specs.Keys.{key_cmp}
use Rattle.conflict_sets.specs.Rows.{KeysAbove, IsAscending, row_if_some, value_at_key, is_inside}
use Rattle.conflict_sets.specs.Rows.{rows_between}
use Rattle.conflict_sets.proofs.KeyOrder.{key_exact, key_self, key_trans, key_less_flips, key_greater_flips}
use Rattle.conflict_sets.proofs.RowLemmas.{by_place, value_below}
use Rattle.conflict_sets.proofs.RowRanges.{same_rows}
use Rattle.fs_base.specs.declared.row.Row.{Row}
use Rattle.kv_store.specs.declared.chain.Version.{Version}
use Rattle.kv_store.specs.Chains.{AreOutside, up_to, last_of, value_of}
use Rattle.kv_store.specs.Versions.{chain_at, rows_of, AllOutside}

-- a row's key passes exactly where the entry's does
rows_of_filter : (p q : List ℕ → Bool) → ((key : List ℕ) → p key ≡ q key) → (n : ℕ) (es : List (List ℕ × List Version)) → rows_of n (filter (λ (e : List ℕ × List Version). p e.0) es) ≡ filter (λ (row : Row). q row.key) (rows_of n es)
rows_of_filter p q same n [] = refl
rows_of_filter p q same n (e ∷ es) =
    inside (p e.0) (rows_of_filter p q same n es) ∙ (ap (λ b. cond b (row_if_some e.0 (value_of (last_of (up_to n e.1)))) [] ++ filter (λ (row : Row). q row.key) (rows_of n es)) (same e.0)
    ∙ row (value_of (last_of (up_to n e.1))) (q e.0) refl)
  where
    inside : (b : Bool) → rows_of n (filter (λ (x : List ℕ × List Version). p x.0) es) ≡ filter (λ (x : Row). q x.key) (rows_of n es)
        → rows_of n (cond b (e ∷ filter (λ (x : List ℕ × List Version). p x.0) es) (filter (λ (x : List ℕ × List Version). p x.0) es)) ≡ cond b (row_if_some e.0 (value_of (last_of (up_to n e.1)))) [] ++ filter (λ (x : Row). q x.key) (rows_of n es)
    inside true h = ap (λ rest. row_if_some e.0 (value_of (last_of (up_to n e.1))) ++ rest) h
    inside false h = h

    row : (o : Option (List ℕ)) (b : Bool) → q e.0 ≡ b → cond b (row_if_some e.0 o) [] ++ filter (λ (x : Row). q x.key) (rows_of n es) ≡ filter (λ (x : Row). q x.key) (row_if_some e.0 o ++ rows_of n es)
    row None true h = refl
    row None false h = refl
    row (Some v) true h = rw h refl
    row (Some v) false h = rw h refl

le_flips : (a b : List ℕ) → is_le (key_cmp a b) ≡ is_ge (key_cmp b a)
le_flips a b = by_place (is_le (key_cmp a b) ≡ is_ge (key_cmp b a)) a b
    (λ e. ap is_le e ∙ sym (ap is_ge (key_less_flips a b e)))
    (λ e. ap is_le e ∙ sym (ap is_ge (ap (λ k. key_cmp b k) (key_exact a b e) ∙ key_self b)))
    (λ e. ap is_le e ∙ sym (ap is_ge (key_greater_flips a b e)))

pub contains_is_inside : (lo hi key : List ℕ) → range_contains (slice_cmp nat_cmp) (Included lo) (Excluded hi) key ≡ is_inside lo hi key
unfolding key_cmp
contains_is_inside lo hi key = ap (λ b. b && not (is_le (key_cmp hi key))) (le_flips lo key) ∙ ap (λ b. is_ge (key_cmp key lo) && b) (until hi key)
  where
    until : (a b : List ℕ) → not (is_le (key_cmp a b)) ≡ is_lt (key_cmp b a)
    until a b = by_place (not (is_le (key_cmp a b)) ≡ is_lt (key_cmp b a)) a b
        (λ e. ap (λ o. not (is_le o)) e ∙ sym (ap is_lt (key_less_flips a b e)))
        (λ e. ap (λ o. not (is_le o)) e ∙ sym (ap is_lt (ap (λ k. key_cmp b k) (key_exact a b e) ∙ key_self b)))
        (λ e. ap (λ o. not (is_le o)) e ∙ sym (ap is_lt (key_greater_flips a b e)))

-- the same with the end
pub contains_up_to : (lo last key : List ℕ) → is_ge (key_cmp key lo) ≡ true → is_le (key_cmp key last) ≡ true → range_contains (slice_cmp nat_cmp) (Included lo) (Included last) key ≡ true
unfolding key_cmp
contains_up_to lo last key g h = ap (λ b. b && not (is_lt (key_cmp last key))) (le_flips lo key ∙ g) ∙ (within ∙ h)
  where
    within : not (is_lt (key_cmp last key)) ≡ is_le (key_cmp key last)
    within = by_place (not (is_lt (key_cmp last key)) ≡ is_le (key_cmp key last)) last key
        (λ e. ap (λ o. not (is_lt o)) e ∙ sym (ap is_le (key_less_flips last key e)))
        (λ e. ap (λ o. not (is_lt o)) e ∙ sym (ap is_le (ap (λ k. key_cmp key k) (key_exact last key e) ∙ key_self key)))
        (λ e. ap (λ o. not (is_lt o)) e ∙ sym (ap is_le (key_greater_flips last key e)))

-- what a test of two keys tells
pub tested : (a b : List ℕ) (o : Ordering) (t w : Bool) → o ≡ key_cmp a b → t ≡ is_gt o → t ≡ w → is_gt (key_cmp a b) ≡ w
tested a b o t w e f g = ap is_gt (sym e) ∙ (sym f ∙ g)

pub is_greater : (a b : List ℕ) → is_gt (key_cmp a b) ≡ true → key_cmp a b ≡ Greater
is_greater a b h = by_place (key_cmp a b ≡ Greater) a b
    (λ e. absurd (let f : false ≡ true = (rw e at h) in cc))
    (λ e. absurd (let f : false ≡ true = (rw e at h) in cc))
    (λ e. e)

pub forward : (a b x y : List ℕ) → x ≡ a → y ≡ b → is_gt (key_cmp a b) ≡ false → is_gt (slice_cmp nat_cmp x y) ≡ false
unfolding key_cmp
forward a b x y e f h = ap (λ k. is_gt (slice_cmp nat_cmp k y)) e ∙ (ap (λ k. is_gt (slice_cmp nat_cmp a k)) f ∙ h)

-- nothing lies above a key and below a lesser one
pub between_none : {P : Type 0} (lo last key : List ℕ) → key_cmp lo last ≡ Greater → is_ge (key_cmp key lo) ≡ true → is_le (key_cmp key last) ≡ true → P
between_none {P} lo last key g from until =
    by_place P key lo
    (λ e. absurd (let f : false ≡ true = (rw e at from) in cc))
    (λ e. let h : key_cmp key last ≡ Greater = ap (λ k. key_cmp k last) (key_exact key lo e) ∙ g in absurd (let f : false ≡ true = (rw h at until) in cc))
    (λ e. let h : key_cmp key last ≡ Greater = key_less_flips last key (key_trans last lo key (key_greater_flips lo last g) (key_greater_flips key lo e)) in absurd (let f : false ≡ true = (rw h at until) in cc))

-- the rows of the entries of a range
pub rows_of_range : (n limit : ℕ) (lo hi : List ℕ) (es part : List (List ℕ × List Version)) → part ≡ entries_between (slice_cmp nat_cmp) (Included lo) (Excluded hi) es → take limit (rows_of n part) ≡ rows_between (rows_of n es) lo hi limit
rows_of_range n limit lo hi es part h =
    ap (λ p. take limit (rows_of n p)) h ∙ ap (take limit) (rows_of_filter (range_contains (slice_cmp nat_cmp) (Included lo) (Excluded hi)) (is_inside lo hi) (contains_is_inside lo hi) n es)

-- a range that ends before it begins has no rows
pub no_rows : (rows : List Row) (lo hi : List ℕ) (limit : ℕ) → key_cmp lo hi ≡ Greater → rows_between rows lo hi limit ≡ []
no_rows rows lo hi limit g = ap (take limit) (none rows) ∙ nothing limit
  where
    nothing : (limit : ℕ) → take {A = Row} limit [] ≡ []
    nothing zero = refl
    nothing (suc limit) = refl

    outside : (key : List ℕ) → is_inside lo hi key ≡ false
    outside key = by_place (is_inside lo hi key ≡ false) key lo
        (λ e. rw e refl)
        (λ e. let h : key_cmp key hi ≡ Greater = ap (λ k. key_cmp k hi) (key_exact key lo e) ∙ g in rw e (rw h refl))
        (λ e. let h : key_cmp key hi ≡ Greater = key_less_flips hi key (key_trans hi lo key (key_greater_flips lo hi g) (key_greater_flips key lo e)) in rw e (rw h refl))

    none : (rows : List Row) → filter (λ (row : Row). is_inside lo hi row.key) rows ≡ []
    none [] = refl
    none (row ∷ rows) = let o : is_inside lo hi row.key ≡ false = outside row.key in rw o (none rows)

above_rows : (n : ℕ) (key : List ℕ) (es : List (List ℕ × List Version)) → AllByRecursion (λ other. slice_cmp nat_cmp key other ≡ Less) (keys_of es) → KeysAbove key (rows_of n es)
unfolding key_cmp
above_rows n key [] h = tt
above_rows n key (e ∷ es) h = one (value_of (last_of (up_to n e.1))) (above_rows n key es h.1)
  where
    one : (o : Option (List ℕ)) → KeysAbove key (rows_of n es)
        → KeysAbove key (row_if_some e.0 o ++ rows_of n es)
    one None rest = rest
    one (Some v) rest = (h.0, rest)

pub IsAscending-rows_of : (n : ℕ) (es : List (List ℕ × List Version)) → IsStrictlySortedBy (slice_cmp nat_cmp) (keys_of es) → IsAscending (rows_of n es)
unfolding IsStrictlySortedBy
IsAscending-rows_of n [] h = tt
IsAscending-rows_of n (e ∷ es) h = one (value_of (last_of (up_to n e.1))) (above_rows n e.0 es h.0) (IsAscending-rows_of n es h.1)
  where
    one : (o : Option (List ℕ)) → KeysAbove e.0 (rows_of n es) → IsAscending (rows_of n es) → IsAscending (row_if_some e.0 o ++ rows_of n es)
    one None above rest = rest
    one (Some v) above rest = (above, rest)

-- the value of a key among the rows of chains
value-rows_of : (n : ℕ) (es : List (List ℕ × List Version)) (key : List ℕ) → IsStrictlySortedBy (slice_cmp nat_cmp) (keys_of es) → value_at_key (rows_of n es) key ≡ value_of (last_of (up_to n (chain_at es key)))
unfolding IsStrictlySortedBy
value-rows_of n [] key h = refl
value-rows_of n (e ∷ es) key h = by_key (is_eq (key_cmp key e.0)) refl (above_rows n e.0 es h.0) (value-rows_of n es key h.1)
  where
    there : (o : Option (List ℕ)) → KeysAbove e.0 (rows_of n es) → value_at_key (row_if_some e.0 o ++ rows_of n es) e.0 ≡ o
    there None above = value_below e.0 (rows_of n es) above
    there (Some v) above = rw (key_self e.0) refl

    other : (o : Option (List ℕ)) → is_eq (key_cmp key e.0) ≡ false → value_at_key (row_if_some e.0 o ++ rows_of n es) key ≡ value_at_key (rows_of n es) key
    other None f = refl
    other (Some v) f = rw f refl

    same : is_eq (key_cmp key e.0) ≡ true → key ≡ e.0
    same t = by_place (key ≡ e.0) key e.0
        (λ p. absurd (let f : false ≡ true = (rw p at t) in cc))
        (λ p. key_exact key e.0 p)
        (λ p. absurd (let f : false ≡ true = (rw p at t) in cc))

    by_key : (b : Bool) → is_eq (key_cmp key e.0) ≡ b → KeysAbove e.0 (rows_of n es) → value_at_key (rows_of n es) key ≡ value_of (last_of (up_to n (chain_at es key)))
        → value_at_key (rows_of n (e ∷ es)) key ≡ value_of (last_of (up_to n (chain_at (e ∷ es) key)))
    by_key true t above rest =
        let k : key ≡ e.0 = same t in
        ap (value_at_key (rows_of n (e ∷ es))) k ∙ (there (value_of (last_of (up_to n e.1))) above ∙ ap (λ b. value_of (last_of (up_to n (unwrap_or (cond b (Some e.1) (lookup (λ x. is_eq (key_cmp key x)) es)) [])))) (sym t))
    by_key false t above rest =
        other (value_of (last_of (up_to n e.1))) t ∙ (rest ∙ ap (λ b. value_of (last_of (up_to n (unwrap_or (cond b (Some e.1) (lookup (λ x. is_eq (key_cmp key x)) es)) [])))) (sym t))

-- rows with the chains' values are the chains' rows
pub rows_of_same : (n : ℕ) (es : List (List ℕ × List Version)) (rows : List Row) → IsStrictlySortedBy (slice_cmp nat_cmp) (keys_of es) → IsAscending rows → ((key : List ℕ) → value_of (last_of (up_to n (chain_at es key))) ≡ value_at_key rows key) → rows_of n es ≡ rows
rows_of_same n es rows s a h = same_rows (rows_of n es) rows (IsAscending-rows_of n es s) a (λ key. value-rows_of n es key s ∙ h key)

-- what holds of the chains of a part holds of each key in it
pub outside_part : (after before : ℕ) (p : List ℕ → Bool) (es : List (List ℕ × List Version)) (key : List ℕ) → p key ≡ true → AllOutside after before (filter (λ (e : List ℕ × List Version). p e.0) es) → AreOutside after before (chain_at es key)
outside_part after before p [] key t h = tt
outside_part after before p (e ∷ es) key t h =
    by_place (AreOutside after before (chain_at (e ∷ es) key)) key e.0
    (λ o. rw o (outside_part after before p es key t (rest (p e.0) h)))
    (λ o. rw o (here (p e.0) (ap p (sym (key_exact key e.0 o)) ∙ t) h))
    (λ o. rw o (outside_part after before p es key t (rest (p e.0) h)))
  where
    rest : (b : Bool) → AllOutside after before (cond b (e ∷ filter (λ (x : List ℕ × List Version). p x.0) es) (filter (λ (x : List ℕ × List Version). p x.0) es)) → AllOutside after before (filter (λ (x : List ℕ × List Version). p x.0) es)
    rest true h = h.1
    rest false h = h

    here : (b : Bool) → b ≡ true → AllOutside after before (cond b (e ∷ filter (λ (x : List ℕ × List Version). p x.0) es) (filter (λ (x : List ℕ × List Version). p x.0) es)) → AreOutside after before e.1
    here true t h = h.0
    here false t h = absurd (let f : false ≡ true = t in cc)

pub part_up_to : (after before : ℕ) (lo last x y : List ℕ) (es part : List (List ℕ × List Version)) (key : List ℕ) → x ≡ lo → y ≡ last → part ≡ entries_between (slice_cmp nat_cmp) (Included x) (Included y) es → AllOutside after before part → is_ge (key_cmp key lo) ≡ true → is_le (key_cmp key last) ≡ true → AreOutside after before (chain_at es key)
part_up_to after before lo last x y es part key e f p h from until =
    outside_part after before (range_contains (slice_cmp nat_cmp) (Included x) (Included y)) es key
    (contains_up_to x y key (ap (λ k. is_ge (key_cmp key k)) e ∙ from) (ap (λ k. is_le (key_cmp key k)) f ∙ until))
    (subst (AllOutside after before) p h)

pub part_inside : (after before : ℕ) (lo hi : List ℕ) (es part : List (List ℕ × List Version)) (key : List ℕ) → part ≡ entries_between (slice_cmp nat_cmp) (Included lo) (Excluded hi) es → AllOutside after before part → is_inside lo hi key ≡ true → AreOutside after before (chain_at es key)
part_inside after before lo hi es part key p h inside =
    outside_part after before (range_contains (slice_cmp nat_cmp) (Included lo) (Excluded hi)) es key (contains_is_inside lo hi key ∙ inside) (subst (AllOutside after before) p h)
