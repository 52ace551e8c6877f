-- Of what a list contains.
use Rattle.std.proofs.Common.{◌≡◌, ◌⊎◌, ℕ, zero, suc, ◌<◌, List, [], ◌∷◌, ◌++◌, length, get_or, Bool, true, false, true≢false, refl, sym, subst, ⊎_elim, inl, inr, arith}
use Rattle.std.specs.Prelude.{Contains}

pub off : false ≡ true → ⊥
off e = true≢false (sym e)

pub not_true : (b : Bool) → ¬ (b ≡ true) → b ≡ false
not_true true n = absurd (n refl)
not_true false n = refl

pub none_in_nil : {A : Type 0} (x : A) → Contains [] x → ⊥
none_in_nil x c = let lt : c.0 < 0 = c.1 in omega arith

module _ {A : Type 0} where
  in_cons : (x : A) (xs : List A) (y : A) (k : ℕ) → k < length (x ∷ xs) → get_or (x ∷ xs) k y ≡ y
      → (x ≡ y) ⊎ Contains xs y
  in_cons x xs y zero lt e = inl e
  in_cons x xs y (suc k) lt e = inr (k, omega arith, e)

  pub contains_cons : (x : A) (xs : List A) (y : A) → Contains (x ∷ xs) y → (x ≡ y) ⊎ Contains xs y
  contains_cons x xs y c = in_cons x xs y c.0 c.1 c.2

  pub contains_more : (x : A) (xs : List A) (y : A) → Contains xs y → Contains (x ∷ xs) y
  contains_more x xs y c = let lt = c.1 in (suc c.0, omega arith, c.2)

  pub contains_first : (x : A) (xs : List A) → Contains (x ∷ xs) x
  contains_first x xs = (0, omega arith, refl)

  pub contains_append : (xs ys : List A) (y : A) → Contains (xs ++ ys) y → Contains xs y ⊎ Contains ys y
  contains_append [] ys y c = inr c
  contains_append (x ∷ xs) ys y c =
      ⊎_elim
      (λ (e : x ≡ y). inl (subst (λ (z : A). Contains (x ∷ xs) z) e (contains_first x xs)))
      (λ (r : Contains (xs ++ ys) y). ⊎_elim (λ (d : Contains xs y). inl (contains_more x xs y d))
      (λ (d : Contains ys y). inr d) (contains_append xs ys y r))
      (contains_cons x (xs ++ ys) y c)

  pub contains_left : (xs ys : List A) (y : A) → Contains xs y → Contains (xs ++ ys) y
  contains_left [] ys y c = absurd (none_in_nil y c)
  contains_left (x ∷ xs) ys y c =
      ⊎_elim
      (λ (e : x ≡ y). subst (λ (z : A). Contains (x ∷ (xs ++ ys)) z) e (contains_first x (xs ++ ys)))
      (λ (r : Contains xs y). contains_more x (xs ++ ys) y (contains_left xs ys y r))
      (contains_cons x xs y c)

  pub contains_right : (xs ys : List A) (y : A) → Contains ys y → Contains (xs ++ ys) y
  contains_right [] ys y c = c
  contains_right (x ∷ xs) ys y c = contains_more x (xs ++ ys) y (contains_right xs ys y c)

  pub contains_snoc : (xs : List A) (x y : A) → Contains (xs ++ x ∷ []) y → Contains xs y ⊎ (x ≡ y)
  contains_snoc xs x y c = ⊎_elim (λ (d : Contains xs y). inl d)
      (λ (d : Contains (x ∷ []) y). ⊎_elim (λ (e : x ≡ y). inr e)
      (λ (r : Contains [] y). absurd (none_in_nil y r)) (contains_cons x [] y d))
      (contains_append xs (x ∷ []) y c)
