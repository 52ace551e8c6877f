-- What a finite map has after `set`, through `map_values` and `count_where`, and how the entries of std's `BTreeMap` make one.
use Rattle.std.proofs.Common.{◌≡◌, ℕ, suc, ◌+◌, ◌≢◌, ◌⊎◌, ◌&&◌, not, Bool, true, false, cond, T, List, [], ◌∷◌, map, length, refl, sym, ap, subst, ◌∙◌, inl, inr, arith}
use Rattle.std.specs.Prelude.{Option, Some, None, IsSome}
use Rattle.std.specs.Option.{option_map}
use Rattle.std.specs.declared.cmp.Ordering.{Ordering}
use Rattle.std.specs.declared.cmp.Ordering.TheVariants.{Less, Equal, Greater}
use Rattle.std.specs.Ordering.{nat_cmp, eq_by_cmp, is_eq, is_lt}
use Rattle.std.specs.Cmp.{IsTotalOrder, tied_itself, eq_by_cmp_equiv, nat_cmp_total, on_total, then_total}
use Rattle.std.specs.Cmp.Lexicographic.{slice_cmp, nat_list_cmp_total}
use Rattle.std.specs.Map.{lookup, keys_of}
use Rattle.std.specs.List.{AllByRecursion, list_all}
use Rattle.std.specs.List.Sorted.{IsStrictlySortedBy}
use Rattle.std.specs.BTreeMap.{is_at}
use Rattle.std.specs.FinMap.{FinMap, empty, get, insert, remove, find, put, from_entries, from_sorted, entries, entries_sorted, len, len-entries, is_sorted, IsAntisymmetric, nat_cmp-IsAntisymmetric, get-empty, get-insert, get-remove, get-from_entries, get-from_sorted, get-entries, entries-from_sorted, entries-insert, same_map}
use Rattle.std.specs.FinMap.Entries.{below_all, where_key, by_order, is_sorted-where_key, find-where_key}
use Rattle.std.proofs.lemmas.Map.Lookups.{exact_pairs, exact_unsigned, exact_bytes}
use Rattle.tree_model.specs.Maps.{set, map_values, tally, count_where, all_pass, dent_cmp, session_cmp}

-- an order whose ties are equal keys
pub record IsKeyOrder {K : Type 0} (R : K → K → Ordering) : Type 0 where
  pub total : IsTotalOrder R
  pub same : IsAntisymmetric R

module _ {K : Type 0} {R : K → K → Ordering} (o : IsKeyOrder R) where
  tied : (q k : K) → q ≡ k → R q k ≡ Equal
  tied q k e = ap (R q) (sym e) ∙ tied_itself o.total q

  -- whether two keys tie, as a fact
  pub decide : (q k : K) → ((q ≡ k) × (eq_by_cmp R q k ≡ true)) ⊎ ((q ≢ k) × (eq_by_cmp R q k ≡ false))
  decide q k = elim (R q k) as (λ r. R q k ≡ r → ((q ≡ k) × (is_eq r ≡ true)) ⊎ ((q ≢ k) × (is_eq r ≡ false))) [
    | Less ↦ λ p. inr ((λ e. let t = tied q k e in cc), refl)
    | Equal ↦ λ p. inl (o.same q k p, refl)
    | Greater ↦ λ p. inr ((λ e. let t = tied q k e in cc), refl)
  ] refl

module _ {K X : Type 0} {R : K → K → Ordering} (o : IsKeyOrder R) where
  get-set : (m : FinMap R X) (k : K) (w : Option X) (q : K) → get (set m k w) q ≡ cond (eq_by_cmp R q k) w (get m q)
  get-set m k None q = get-remove o.total m k q
  get-set m k (Some v) q = get-insert o.total m k v q

  pub get-set_same : (m : FinMap R X) (k : K) (w : Option X) → get (set m k w) k ≡ w
  get-set_same m k w = get-set m k w k ∙ ap (λ r. cond (is_eq r) w (get m k)) (tied_itself o.total k)

  pub get-set_other : (m : FinMap R X) (k : K) (w : Option X) (q : K) → q ≢ k → get (set m k w) q ≡ get m q
  get-set_other m k w q apart = elim (decide o q k) [
    | inl p ↦ absurd (apart p.0)
    | inr p ↦ get-set m k w q ∙ ap (λ b. cond b w (get m q)) p.1
  ]

  -- what is found after a write is what was written, or was there before
  pub get-set_cases : (m : FinMap R X) (k : K) (w : Option X) (q : K) (r : Option X) → get (set m k w) q ≡ r → ((q ≡ k) × (w ≡ r)) ⊎ ((q ≢ k) × (get m q ≡ r))
  get-set_cases m k w q r is = elim (decide o q k) [
    | inl p ↦ inl (p.0, sym (get-set m k w q ∙ ap (λ b. cond b w (get m q)) p.1) ∙ is)
    | inr p ↦ inr (p.0, sym (get-set_other m k w q p.0) ∙ is)
  ]

-- Values changed one by one
module _ {K X Y : Type 0} (R : K → K → Ordering) (f : X → Y) where
  changed : List (K × X) → List (K × Y)
  changed es = map (λ e. (e.0, f e.1)) es

  below-changed : (k : K) (es : List (K × X)) → below_all R k (map (λ e. (e.0, f e.1)) es) ≡ below_all R k es
  below-changed k [] = refl
  below-changed k (e ∷ es) = ap (λ b. is_lt (R k e.0) && b) (below-changed k es)

  sorted-changed : (es : List (K × X)) → is_sorted R (map (λ e. (e.0, f e.1)) es) ≡ is_sorted R es
  sorted-changed [] = refl
  sorted-changed (e ∷ es) = λ i. below-changed e.0 es i && sorted-changed es i

  find-changed : (q : K) (es : List (K × X)) → find R q (map (λ e. (e.0, f e.1)) es) ≡ option_map f (find R q es)
  find-changed q [] = refl
  find-changed q (e ∷ es) = elim (eq_by_cmp R q e.0) as (λ b. cond b (Some (f e.1)) (find R q (map (λ e. (e.0, f e.1)) es)) ≡ option_map f (cond b (Some e.1) (find R q es))) [ true ↦ refl | false ↦ find-changed q es ]

  pub get-map_values : (m : FinMap R X) (q : K) → get (map_values f m) q ≡ option_map f (get m q)
  unfolding map_values
  get-map_values m q = get-from_sorted R _ q (subst T (sym (sorted-changed (entries m))) (entries_sorted m)) ∙ find-changed q (entries m) ∙ ap (option_map f) (sym (get-entries m q))

module _ {K X Y : Type 0} {R : K → K → Ordering} (o : IsKeyOrder R) (f : X → Y) where
  pub map_values-set : (m : FinMap R X) (k : K) (w : Option X) → map_values f (set m k w) ≡ set (map_values f m) k (option_map f w)
  map_values-set m k w = same_map o.total o.same _ _ (λ q.
      get-map_values R f (set m k w) q ∙ ap (option_map f) (get-set o m k w q) ∙ pushed (eq_by_cmp R q k) w (get m q)
      ∙ ap (λ r. cond (eq_by_cmp R q k) (option_map f w) r) (sym (get-map_values R f m q)) ∙ sym (get-set o (map_values f m) k (option_map f w) q))
    where
      pushed : (b : Bool) (v w : Option X) → option_map f (cond b v w) ≡ cond b (option_map f v) (option_map f w)
      pushed true v w = refl
      pushed false v w = refl

  pub map_values-empty : map_values f (empty {X = X} {R = R}) ≡ empty
  map_values-empty = same_map o.total o.same _ _ (λ q. get-map_values R f (empty {X = X} {R = R}) q ∙ ap (option_map f) (get-empty R q) ∙ sym (get-empty R q))

-- Entries counted
abbrev pub one_if : {X : Type 0} → (X → Bool) → Option X → ℕ
one_if p None = 0
one_if p (Some v) = cond (p v) 1 0

pub both : (a b : Bool) → T a → T b → T (a && b)
both true b g h = h
both false b g h = g

pub both_first : (a b : Bool) → T (a && b) → T a
both_first true b h = tt
both_first false b h = h

pub both_second : (a b : Bool) → T (a && b) → T b
both_second true b h = h
both_second false b h = absurd h

zero_first : (a b c : ℕ) → 0 + (a + (b + c)) ≡ (b + c) + a
zero_first a b c = omega arith

swapped_heads : (a b c : ℕ) → a + (b + c) ≡ (a + c) + b
swapped_heads a b c = omega arith

kept_head : (f a b c d : ℕ) → f + b ≡ c + d → f + (a + b) ≡ (a + c) + d
kept_head f a b c d e = omega arith

kept_head_alone : (f a b c : ℕ) → f + b ≡ c → f + (a + b) ≡ a + c
kept_head_alone f a b c e = omega arith

zero_last : (n : ℕ) → 0 + (n + 0) ≡ 0 + n
zero_last n = omega arith

zero_plus : (n : ℕ) → 0 + n ≡ n
zero_plus n = omega arith

plus_zero : (n : ℕ) → n ≡ n + 0
plus_zero n = omega arith

is_Less : (r : Ordering) → T (is_lt r) → r ≡ Less
is_Less Less h = refl
is_Less Equal h = absurd h
is_Less Greater h = absurd h

module _ {K X : Type 0} {R : K → K → Ordering} (o : IsKeyOrder R) where
  pub find_below : (q : K) (es : List (K × X)) → T (below_all R q es) → find R q es ≡ None
  find_below q [] h = refl
  find_below q (e ∷ es) h = ap (λ r. cond (is_eq r) (Some e.1) (find R q es)) (is_Less _ (both_first _ _ h)) ∙ find_below q es (both_second _ _ h)

  below_later : (x y : K) (es : List (K × X)) → R x y ≡ Less → T (below_all R y es) → T (below_all R x es)
  below_later x y [] p h = tt
  below_later x y (e ∷ es) p h = both _ _ (subst (λ r. T (is_lt r)) (sym (o.total.trans x y e.0 p (is_Less _ (both_first _ _ h)))) tt) (below_later x y es p (both_second _ _ h))

  none_kept : (k : K) (es : List (K × X)) → T (below_all R k es) → where_key R (λ x. not (eq_by_cmp R k x)) es ≡ es
  none_kept k [] h = refl
  none_kept k (e ∷ es) h = ap (λ r. cond (not (is_eq r)) (e ∷ where_key R (λ x. not (eq_by_cmp R k x)) es) (where_key R (λ x. not (eq_by_cmp R k x)) es)) (is_Less _ (both_first _ _ h)) ∙ ap (λ rest. e ∷ rest) (none_kept k es (both_second _ _ h))

  entries-remove : (m : FinMap R X) (k : K) → entries (remove m k) ≡ where_key R (λ x. not (eq_by_cmp R k x)) (entries m)
  entries-remove m k =
      let es = where_key R (λ x. not (eq_by_cmp R k x)) (entries m) in
      let sorted : T (is_sorted R es) = is_sorted-where_key R (λ x. not (eq_by_cmp R k x)) (entries m) (entries_sorted m) in
      let one : remove m k ≡ from_sorted {R = R} es = same_map o.total o.same _ _ (λ q.
      get-remove o.total m k q ∙ ap (cond (eq_by_cmp R q k) None) (get-entries m q)
      ∙ turned (eq_by_cmp R q k) (find R q (entries m)) ∙ ap (λ b. cond (not b) (find R q (entries m)) None) ((eq_by_cmp_equiv o.total).symm q k)
      ∙ sym (find-where_key R (λ x. not (eq_by_cmp R k x)) q (λ x t. ap (λ y. not (eq_by_cmp R k y)) (sym (o.same q x t))) (entries m))
      ∙ sym (get-from_sorted R es q sorted)) in
      ap entries one ∙ entries-from_sorted R es sorted
    where
      turned : (b : Bool) (x : Option X) → cond b None x ≡ cond (not b) x None
      turned true x = refl
      turned false x = refl

  module _ (p : X → Bool) where
    abbrev counted : List (K × X) → ℕ
    counted es = tally p es

    count-put : (k : K) (v : X) (es : List (K × X)) → T (is_sorted R es) → one_if p (find R k es) + counted (put R k v es) ≡ counted es + one_if p (Some v)
    count-put k v [] h = zero_last (cond (p v) 1 0)
    count-put k v (e ∷ es) h = elim (R k e.0) as (λ r. R k e.0 ≡ r → one_if p (cond (is_eq r) (Some e.1) (find R k es)) + counted (by_order r ((k, v) ∷ e ∷ es) ((e.0, v) ∷ es) (e ∷ put R k v es)) ≡ counted (e ∷ es) + one_if p (Some v)) [
      | Less ↦ λ q. subst (λ (x : Option X). one_if p x + counted ((k, v) ∷ e ∷ es) ≡ counted (e ∷ es) + one_if p (Some v)) (sym (find_below k es (below_later k e.0 es q (both_first _ _ h)))) (zero_first _ _ _)
      | Equal ↦ λ q. swapped_heads (cond (p e.1) 1 0) (cond (p v) 1 0) (counted es)
      | Greater ↦ λ q. kept_head (one_if p (find R k es)) (cond (p e.1) 1 0) (counted (put R k v es)) (counted es) (cond (p v) 1 0) (count-put k v es (both_second _ _ h))
    ] refl

    count-where : (k : K) (es : List (K × X)) → T (is_sorted R es) → one_if p (find R k es) + counted (where_key R (λ x. not (eq_by_cmp R k x)) es) ≡ counted es
    count-where k [] h = refl
    count-where k (e ∷ es) h = elim (R k e.0) as (λ r. R k e.0 ≡ r → one_if p (cond (is_eq r) (Some e.1) (find R k es)) + counted (cond (not (is_eq r)) (e ∷ where_key R (λ x. not (eq_by_cmp R k x)) es) (where_key R (λ x. not (eq_by_cmp R k x)) es)) ≡ counted (e ∷ es)) [
      | Less ↦ λ q. kept_head_alone (one_if p (find R k es)) (cond (p e.1) 1 0) (counted (where_key R (λ x. not (eq_by_cmp R k x)) es)) (counted es) (count-where k es (both_second _ _ h))
      | Equal ↦ λ q. ap (λ rest. cond (p e.1) 1 0 + counted rest) (none_kept k es (subst (λ x. T (below_all R x es)) (sym (o.same k e.0 q)) (both_first _ _ h)))
      | Greater ↦ λ q. kept_head_alone (one_if p (find R k es)) (cond (p e.1) 1 0) (counted (where_key R (λ x. not (eq_by_cmp R k x)) es)) (counted es) (count-where k es (both_second _ _ h))
    ] refl

    -- what was at the key counts no more, and what is set there counts
    pub count-set : (m : FinMap R X) (k : K) (w : Option X) → one_if p (get m k) + count_where p (set m k w) ≡ count_where p m + one_if p w
    count-set m k None = ap (λ x. one_if p x + count_where p (remove m k)) (get-entries m k) ∙ ap (λ es. one_if p (find R k (entries m)) + counted es) (entries-remove m k) ∙ count-where k (entries m) (entries_sorted m) ∙ plus_zero _
    count-set m k (Some v) = ap (λ x. one_if p x + count_where p (insert m k v)) (get-entries m k) ∙ ap (λ es. one_if p (find R k (entries m)) + counted es) (entries-insert o.total m k v) ∙ count-put k v (entries m) (entries_sorted m)

-- an `Option` is `None`, or `Some` of a value
pub some_or_none : {A : Type 0} (o : Option A) → (o ≡ None) ⊎ ((v : A) × (o ≡ Some v))
some_or_none None = inl refl
some_or_none (Some v) = inr (v, refl)

pub not_some : {A : Type 0} {o : Option A} (v : A) → o ≡ None → o ≡ Some v → ⊥
not_some v none some = let e : None ≡ Some v = sym none ∙ some in cc

pub some_injective : {A : Type 0} (v w : A) → Some v ≡ Some w → v ≡ w
some_injective v w e = cc

pub same_some : {A : Type 0} {o : Option A} (v w : A) → o ≡ Some v → o ≡ Some w → v ≡ w
same_some v w a b = let e : Some v ≡ Some w = sym a ∙ b in cc

module _ {K X : Type 0} {R : K → K → Ordering} (o : IsKeyOrder R) (p : X → Bool) where
  none_counted : (es : List (K × X)) → T (is_sorted R es) → ((k : K) (v : X) → find R k es ≡ Some v → p v ≡ false) → tally p es ≡ 0
  none_counted [] h none = refl
  none_counted (e ∷ es) h none =
      let here : p e.1 ≡ false = none e.0 e.1 (ap (λ r. cond (is_eq r) (Some e.1) (find R e.0 es)) (tied_itself o.total e.0)) in
      ap (λ b. cond b 1 0 + tally p es) here ∙ zero_plus (tally p es) ∙ none_counted es (both_second _ _ h) (λ k v is. elim (decide o k e.0) [
        | inl q ↦ absurd (not_some v (find_below o e.0 es (both_first _ _ h)) (ap (λ x. find R x es) (sym q.0) ∙ is))
        | inr q ↦ none k v (ap (λ b. cond b (Some e.1) (find R k es)) q.1 ∙ is)
      ])

  -- nothing that is found passes the test, so nothing is counted
  pub count-none : (m : FinMap R X) → ((k : K) (v : X) → get m k ≡ Some v → p v ≡ false) → count_where p m ≡ 0
  count-none m none = none_counted (entries m) (entries_sorted m) (λ k v is. none k v (get-entries m k ∙ is))

  pub none_of_count : (m : FinMap R X) (k : K) (v : X) → count_where p m ≡ 0 → get m k ≡ Some v → p v ≡ false
  none_of_count m k v zero is =
      let law : one_if p (get m k) + count_where p (set m k None) ≡ count_where p m + one_if p None = count-set o p m k None in
      let one : one_if p (get m k) ≡ 0 = omega arith in
      untested (p v) (ap (one_if p) (sym is) ∙ one)
    where
      untested : (b : Bool) → ◌≡◌ {A = ℕ} (cond b 1 0) 0 → b ≡ false
      untested true e = absurd (omega arith)
      untested false e = refl

  -- one entry is counted: two that pass are one
  pub only_counted : (m : FinMap R X) (k q : K) (v w : X) → count_where p m ≡ 1 → get m k ≡ Some v → p v ≡ true → get m q ≡ Some w → p w ≡ true → q ≡ k
  only_counted m k q v w one at_k pv at_q pw = elim (decide o q k) [
    | inl e ↦ e.0
    | inr e ↦
        let law : one_if p (get m k) + count_where p (set m k None) ≡ count_where p m + one_if p None = count-set o p m k None in
        let here : one_if p (get m k) ≡ 1 = ap (one_if p) at_k ∙ ap (λ b. cond b 1 0) pv in
        let left : count_where p (set m k None) ≡ 0 = omega arith in
        let wrong : p w ≡ false = none_of_count (set m k None) q w left (get-set_other o m k None q e.0 ∙ at_q) in
        let clash : true ≡ false = sym pw ∙ wrong in cc
  ]

module _ {K X : Type 0} {R : K → K → Ordering} (o : IsKeyOrder R) (p : X → Bool) where
  some_tallied : (es : List (K × X)) → T (is_sorted R es) → (n : ℕ) → tally p es ≡ suc n → (k : K) × (v : X) × (find R k es ≡ Some v) × (p v ≡ true)
  some_tallied [] h n e = absurd (omega arith)
  some_tallied (e ∷ es) h n is = here (p e.1) refl (λ rest. some_tallied es (both_second _ _ h) n rest)
    where
      here : (b : Bool) → p e.1 ≡ b → (tally p es ≡ suc n → (k : K) × (v : X) × (find R k es ≡ Some v) × (p v ≡ true)) → (k : K) × (v : X) × (find R k (e ∷ es) ≡ Some v) × (p v ≡ true)
      here true is_true later = (e.0, e.1, ap (λ r. cond (is_eq r) (Some e.1) (find R e.0 es)) (tied_itself o.total e.0), is_true)
      here false is_false later =
          let found = later (sym (zero_plus (tally p es)) ∙ sym (ap (λ b. cond b 1 0 + tally p es) is_false) ∙ is) in (
            found.0,
            found.1,
            elim (decide o found.0 e.0) [
              | inl q ↦ absurd (not_some found.1 (find_below o e.0 es (both_first _ _ h)) (ap (λ x. find R x es) (sym q.0) ∙ found.2))
              | inr q ↦ ap (λ b. cond b (Some e.1) (find R found.0 es)) q.1 ∙ found.2
            ],
            found.3,
          )

  -- where something is counted, something that passes is found
  pub some_counted : (m : FinMap R X) (n : ℕ) → count_where p m ≡ suc n → (k : K) × (v : X) × (get m k ≡ Some v) × (p v ≡ true)
  some_counted m n e = let at = some_tallied (entries m) (entries_sorted m) n e in (at.0, at.1, get-entries m at.0 ∙ at.2, at.3)

-- to set what stands there changes nothing
pub set_present : {K X : Type 0} {R : K → K → Ordering} (o : IsKeyOrder R) (m : FinMap R X) (k : K) (w : Option X) → get m k ≡ w → set m k w ≡ m
set_present o m k w is = same_map o.total o.same _ _ (λ q. elim (decide o q k) [
  | inl e ↦ ap (get (set m k w)) e.0 ∙ get-set_same o m k w ∙ sym is ∙ ap (get m) (sym e.0)
  | inr e ↦ get-set_other o m k w q e.0
])

module _ {K X Y : Type 0} (R : K → K → Ordering) (f : X → Y) where
  length-changed : (es : List (K × X)) → length {A = K × Y} (map (λ e. (e.0, f e.1)) es) ≡ length es
  length-changed [] = refl
  length-changed (e ∷ es) = ap suc (length-changed es)

  pub len-map_values : (m : FinMap R X) → len (map_values f m) ≡ len m
  unfolding map_values
  len-map_values m = len-entries (from_sorted {R = R} (map (λ e. (e.0, f e.1)) (entries m))) ∙ ap length (entries-from_sorted R _ (subst T (sym (sorted-changed R f (entries m))) (entries_sorted m))) ∙ length-changed (entries m) ∙ sym (len-entries m)

-- the entries of changed values, in order
pub entries-map_values : {K X Y : Type 0} (R : K → K → Ordering) (f : X → Y) (m : FinMap R X) → entries (map_values f m) ≡ map (λ e. (e.0, f e.1)) (entries m)
unfolding map_values
entries-map_values R f m = entries-from_sorted R _ (subst T (sym (sorted-changed R f (entries m))) (entries_sorted m))

-- what is counted among changed values
module _ {K X Y : Type 0} (R : K → K → Ordering) (f : X → Y) (p : Y → Bool) where
  tally-changed : (es : List (K × X)) → tally p (map (λ e. (e.0, f e.1)) es) ≡ tally (λ x. p (f x)) es
  tally-changed [] = refl
  tally-changed (e ∷ es) = ap (λ n. cond (p (f e.1)) 1 0 + n) (tally-changed es)

  pub count-map_values : (m : FinMap R X) → count_where p (map_values f m) ≡ count_where (λ x. p (f x)) m
  count-map_values m = ap (tally p) (entries-map_values R f m) ∙ tally-changed (entries m)

-- Tests of each entry
pub and_true : (a b : Bool) → (a && b) ≡ true → (a ≡ true) × (b ≡ true)
and_true true b h = (refl, h)
and_true false b h = cc

pub and_both : (a b : Bool) → a ≡ true → b ≡ true → (a && b) ≡ true
and_both true b p q = q
and_both false b p q = cc

module _ {K X : Type 0} {R : K → K → Ordering} (o : IsKeyOrder R) (p : K → X → Bool) where
  listed : (es : List (K × X)) → list_all (λ e. p e.0 e.1) es ≡ true → (k : K) (v : X) → find R k es ≡ Some v → p k v ≡ true
  listed [] all k v is = cc
  listed (e ∷ es) all k v is = elim (decide o k e.0) [
    | inl q ↦
        let same : e.1 ≡ v = some_injective e.1 v (sym (ap (λ b. cond b (Some e.1) (find R k es)) q.1) ∙ is) in
        subst (λ (x : X). p k x ≡ true) same (subst (λ (x : K). p x e.1 ≡ true) (sym q.0) (and_true (p e.0 e.1) (list_all (λ e. p e.0 e.1) es) all).0)
    | inr q ↦ listed es ((and_true (p e.0 e.1) (list_all (λ e. p e.0 e.1) es) all).1) k v (sym (ap (λ b. cond b (Some e.1) (find R k es)) q.1) ∙ is)
  ]

  -- a test of each entry says what is found under each key
  pub found_passes : (m : FinMap R X) → all_pass p m ≡ true → (k : K) (v : X) → get m k ≡ Some v → p k v ≡ true
  found_passes m all k v is = listed (entries m) all k v (sym (get-entries m k) ∙ is)

  each_listed : (es : List (K × X)) → T (is_sorted R es) → ((k : K) (v : X) → find R k es ≡ Some v → p k v ≡ true) → list_all (λ e. p e.0 e.1) es ≡ true
  each_listed [] h each = refl
  each_listed (e ∷ es) h each =
      and_both (p e.0 e.1) (list_all (λ e. p e.0 e.1) es)
      (each e.0 e.1 (ap (λ r. cond (is_eq r) (Some e.1) (find R e.0 es)) (tied_itself o.total e.0)))
      (each_listed es (both_second _ _ h) (λ k v is. elim (decide o k e.0) [
        | inl q ↦ absurd (not_some v (find_below o e.0 es (both_first _ _ h)) (ap (λ x. find R x es) (sym q.0) ∙ is))
        | inr q ↦ each k v (ap (λ b. cond b (Some e.1) (find R k es)) q.1 ∙ is)
      ]))

  pub passes_each : (m : FinMap R X) → ((k : K) (v : X) → get m k ≡ Some v → p k v ≡ true) → all_pass p m ≡ true
  passes_each m each = each_listed (entries m) (entries_sorted m) (λ k v is. each k v (get-entries m k ∙ is))

pub ids : IsKeyOrder nat_cmp
ids = record { total = nat_cmp_total; same = nat_cmp-IsAntisymmetric }

pub texts : IsKeyOrder (slice_cmp nat_cmp)
texts = record { total = nat_list_cmp_total; same = exact_bytes }

pub names : IsKeyOrder dent_cmp
names = record { total = then_total (on_total (λ (x : ℕ × List ℕ). x.0) nat_cmp_total) (on_total (λ (x : ℕ × List ℕ). x.1) nat_list_cmp_total); same = λ a b h. exact_pairs nat_cmp (slice_cmp nat_cmp) exact_unsigned exact_bytes a b h }

pub holders : IsKeyOrder session_cmp
holders =
    record {
      total = then_total (on_total (λ (x : ℕ × (ℕ × ℕ)). x.0) nat_cmp_total) (then_total (on_total (λ (x : ℕ × (ℕ × ℕ)). x.1.0) nat_cmp_total) (on_total (λ (x : ℕ × (ℕ × ℕ)). x.1.1) nat_cmp_total));
      same = λ a b h. exact_pairs nat_cmp _ exact_unsigned (λ x y k. exact_pairs nat_cmp nat_cmp exact_unsigned exact_unsigned x y k) a b h;
    }

-- the map that the entries of a `BTreeMap` make
module _ {K X : Type 0} {R : K → K → Ordering} (o : IsKeyOrder R) where
  find_is : (es : List (K × X)) (q : K) → find R q es ≡ lookup (is_at (R q)) es
  find_is [] q = refl
  find_is (e ∷ es) q = ap (cond (eq_by_cmp R q e.0) (Some e.1)) (find_is es q)

  -- it has at a key what a look-up finds
  pub get_entries : (es : List (K × X)) (q : K) → get (from_entries {R = R} es) q ≡ lookup (is_at (R q)) es
  get_entries es q = get-from_entries o.total es q ∙ find_is es q

  -- entries that differ at one key make maps that differ there
  pub set_entries : (es fs : List (K × X)) (k : K) (w : Option X) → ((q : K) → lookup (is_at (R q)) fs ≡ cond (is_at (R k) q) w (lookup (is_at (R q)) es)) → from_entries {R = R} fs ≡ set (from_entries es) k w
  set_entries es fs k w h = same_map o.total o.same _ _ (λ q.
      get_entries fs q ∙ h q ∙ ap (λ b. cond b w (lookup (is_at (R q)) es)) ((eq_by_cmp_equiv o.total).symm k q)
      ∙ ap (cond (eq_by_cmp R q k) w) (sym (get_entries es q)) ∙ sym (get-set o (from_entries es) k w q))

  -- entries in order are the map's entries
  entries_made : (es : List (K × X)) → T (is_sorted R es) → entries (from_entries {R = R} es) ≡ es
  entries_made es h = ap entries (same_map o.total o.same (from_entries es) (from_sorted es) (λ q. get-from_entries o.total es q ∙ sym (get-from_sorted R es q h))) ∙ entries-from_sorted R es h

  below : (k : K) (es : List (K × X)) → AllByRecursion (λ y. R k y ≡ Less) (keys_of es) → T (below_all R k es)
  below k [] h = tt
  below k (e ∷ es) h = both _ _ (rw h.0 tt) (below k es h.1)

  rises : (es : List (K × X)) → IsStrictlySortedBy R (keys_of es) → T (is_sorted R es)
  unfolding IsStrictlySortedBy
  rises [] h = tt
  rises (e ∷ es) h = both _ _ (below e.0 es h.0) (rises es h.1)

  pub entries_are : (es : List (K × X)) → IsStrictlySortedBy R (keys_of es) → entries (from_entries {R = R} es) ≡ es
  entries_are es h = entries_made es (rises es h)

  -- what was set last stands
  pub set-set : (m : FinMap R X) (k : K) (v w : Option X) → set (set m k v) k w ≡ set m k w
  set-set m k v w = same_map o.total o.same _ _ (λ q.
      get-set o (set m k v) k w q ∙ ap (cond (eq_by_cmp R q k) w) (get-set o m k v q) ∙ over (eq_by_cmp R q k) _ _ _ ∙ sym (get-set o m k w q))
    where
      over : (b : Bool) (x y z : Option X) → cond b x (cond b y z) ≡ cond b x z
      over true x y z = refl
      over false x y z = refl

  -- to put back what stood there undoes an insertion
  -- what is written at two keys is written in either order
  pub set-swap : (m : FinMap R X) (j k : K) (v w : Option X) → j ≢ k → set (set m j v) k w ≡ set (set m k w) j v
  set-swap m j k v w apart = same_map o.total o.same _ _ (λ q. elim (decide o q j) [
    | inl p ↦
        get-set_other o (set m j v) k w q (λ e. apart (sym p.0 ∙ e)) ∙ ap (get (set m j v)) p.0 ∙ get-set_same o m j v
        ∙ sym (ap (get (set (set m k w) j v)) p.0 ∙ get-set_same o (set m k w) j v)
    | inr p ↦
        get-set o (set m j v) k w q ∙ ap (cond (eq_by_cmp R q k) w) (get-set_other o m j v q p.0) ∙ sym (get-set o m k w q)
        ∙ sym (get-set_other o (set m k w) j v q p.0)
  ])

  pub undone : (m : FinMap R X) (k : K) (v w : Option X) → w ≡ get m k → set (set m k v) k w ≡ m
  undone m k v w is = set-set m k v w ∙ set_present o m k w (sym is)

  pub there_after : (m : FinMap R X) (k : K) (v : X) → IsSome (get (insert m k v) k)
  there_after m k v = rw (get-set_same o m k (Some v)) refl

-- a value changed and put in for each entry
abbrev pub insert_each : {K X Y : Type 0} {R : K → K → Ordering} → (X → Y) → List (K × X) → FinMap R Y → FinMap R Y
insert_each f [] m = m
insert_each f (e ∷ es) m = insert_each f es (insert m e.0 (f e.1))

module _ {K X Y : Type 0} {R : K → K → Ordering} (o : IsKeyOrder R) (f : X → Y) where
  abbrev over_it : Option X → Option Y → Option Y
  over_it None below = below
  over_it (Some v) below = Some (f v)

  over_head : (b : Bool) (v : X) (found : Option X) (below : Option Y) → (b ≡ true → found ≡ None) → over_it found (cond b (Some (f v)) below) ≡ over_it (cond b (Some v) found) below
  over_head true v found below none = ap (λ x. over_it x (Some (f v))) (none refl)
  over_head false v found below none = refl

  get-insert_each : (es : List (K × X)) → T (is_sorted R es) → (m : FinMap R Y) (q : K) → get (insert_each f es m) q ≡ over_it (find R q es) (get m q)
  get-insert_each [] h m q = refl
  get-insert_each (e ∷ es) h m q =
      get-insert_each es (both_second _ _ h) (insert m e.0 (f e.1)) q ∙ ap (over_it (find R q es)) (get-insert o.total m e.0 (f e.1) q)
      ∙ over_head (eq_by_cmp R q e.0) e.1 (find R q es) (get m q) (λ ties. elim (decide o q e.0) [
        | inl p ↦ ap (λ x. find R x es) p.0 ∙ find_below o e.0 es (both_first _ _ h)
        | inr p ↦ let wrong : true ≡ false = sym ties ∙ p.1 in cc
      ])

  -- put into a map without keys, each entry of a map makes the map of the changed values
  pub inserted_each : (es : List (K × X)) (made : FinMap R Y) (m : FinMap R X) → es ≡ entries m → made ≡ empty → insert_each f es made ≡ map_values f m
  inserted_each es made m all none =
      (λ i. insert_each f (all i) (none i))
      ∙ same_map o.total o.same _ _ (λ q.
      get-insert_each (entries m) (entries_sorted m) empty q ∙ ap (over_it (find R q (entries m))) (get-empty R q)
      ∙ alone (find R q (entries m)) ∙ ap (option_map f) (sym (get-entries m q)) ∙ sym (get-map_values R f m q))
    where
      alone : (x : Option X) → over_it x None ≡ option_map f x
      alone None = refl
      alone (Some v) = refl
