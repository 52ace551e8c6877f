-- Versions that rise, and where a version splits them.
use Rattle.std.proofs.Common.{◌≡◌, ℕ, ◌<◌, ◌≤◌, ◌+◌, ◌-◌, ◌*◌, ◌^◌, List, [], ◌∷◌, ◌++◌, Bool, true, false, cond, length, take, drop, get_or, sym, ◌∙◌, ap, refl, arith, suc, zero, subst}
use Rattle.std.specs.Prelude.{leb, slice_get}
use Rattle.std.proofs.Math.Nat.{pow-succ', mul-le-mul_left, mul_comm, mul_assoc}
use Rattle.kv_store.specs.declared.chain.Version.{Version}
use Rattle.kv_store.specs.Chains.{AreBelow, AreVersionsAbove, AreVersionsRising, AreOutside, IsSplit, up_to}
use Rattle.kv_store.specs.Chains.{last_of}

pub AreBelow_higher : (a b : ℕ) (chain : List Version) → a ≤ b → AreBelow a chain → AreBelow b chain
AreBelow_higher a b [] l h = tt
AreBelow_higher a b (v ∷ chain) l h = let s : v.version < a = h.0 in (omega arith, AreBelow_higher a b chain l h.1)

pub AreAbove_lower : (a b : ℕ) (chain : List Version) → b ≤ a → AreVersionsAbove a chain
    → AreVersionsAbove b chain
AreAbove_lower a b [] l h = tt
AreAbove_lower a b (v ∷ chain) l h = let s : a < v.version = h.0 in (omega arith, AreAbove_lower a b chain l h.1)

pub AreBelow-append : (n : ℕ) (xs ys : List Version) → AreBelow n xs → AreBelow n ys → AreBelow n (xs ++ ys)
AreBelow-append n [] ys h g = g
AreBelow-append n (v ∷ xs) ys h g = (h.0, AreBelow-append n xs ys h.1 g)

pub AreAbove-append : (n : ℕ) (xs ys : List Version) → AreVersionsAbove n xs → AreVersionsAbove n ys
    → AreVersionsAbove n (xs ++ ys)
AreAbove-append n [] ys h g = g
AreAbove-append n (v ∷ xs) ys h g = (h.0, AreAbove-append n xs ys h.1 g)

-- the search: what comes up to a place is at most what stands there, and the rest comes after
pub below_place : (chain : List Version) (i n : ℕ) (v : Version) → AreVersionsRising chain → i < length chain → get_or chain i v ≡ v → v.version ≤ n → AreBelow (n + 1) (take (i + 1) chain)
below_place chain i n v r l at m = let e : suc i ≡ i + 1 = omega arith in subst (λ k. AreBelow (n + 1) (take k chain)) e (below chain i r l at)
  where
    below : (chain : List Version) (i : ℕ) → AreVersionsRising chain → i < length chain → get_or chain i v ≡ v → AreBelow (n + 1) (take (suc i) chain)
    below [] i r l at = absurd (omega arith)
    below (x ∷ chain) zero r l at = let s : x.version ≡ v.version = ap (λ (y : Version). y.version) at in (omega arith, tt)
    below (x ∷ chain) (suc i) r l at = (first chain i r.0 (omega arith) at, below chain i r.1 (omega arith) at)
      where
        first : (chain : List Version) (i : ℕ) → AreVersionsAbove x.version chain → i < length chain → get_or chain i v ≡ v → x.version < n + 1
        first [] i a l at = absurd (omega arith)
        first (y ∷ chain) zero a l at = let s : y.version ≡ v.version = ap (λ (z : Version). z.version) at in let t : x.version < y.version = a.0 in omega arith
        first (y ∷ chain) (suc i) a l at = first chain i a.1 (omega arith) at

pub above_place : (chain : List Version) (i n : ℕ) (v : Version) → AreVersionsRising chain → i < length chain → get_or chain i v ≡ v → n < v.version → AreVersionsAbove n (drop i chain)
above_place [] i n v r l at m = absurd (omega arith)
above_place (x ∷ chain) zero n v r l at m = let s : x.version ≡ v.version = ap (λ (y : Version). y.version) at in (omega arith, AreAbove_lower x.version n chain (omega arith) r.0)
above_place (x ∷ chain) (suc i) n v r l at m = above_place chain i n v r.1 (omega arith) at m

pub none_up_to : (n : ℕ) (chain : List Version) → AreVersionsAbove n chain → up_to n chain ≡ []
none_up_to n [] h = refl
none_up_to n (v ∷ chain) h = let t : leb v.version n ≡ false = after n v.version h.0 in rw t (none_up_to n chain h.1)
  where
    after : (n m : ℕ) → n < m → leb m n ≡ false
    after n m l = grind arith

pub all_up_to : (n : ℕ) (chain : List Version) → AreBelow (n + 1) chain → up_to n chain ≡ chain
all_up_to n [] h = refl
all_up_to n (v ∷ chain) h = let t : leb v.version n ≡ true = within n v.version h.0 in rw t (ap (λ rest. v ∷ rest) (all_up_to n chain h.1))
  where
    within : (n m : ℕ) → m < n + 1 → leb m n ≡ true
    within n m l = grind arith

pub up_to-append : (n : ℕ) (xs ys : List Version) → up_to n (xs ++ ys) ≡ up_to n xs ++ up_to n ys
up_to-append n [] ys = refl
up_to-append n (v ∷ xs) ys = ap (λ rest. cond (leb v.version n) (v ∷ rest) rest) (up_to-append n xs ys) ∙ inside (leb v.version n) (up_to n xs)
  where
    inside : (b : Bool) (rest : List Version) → cond b (v ∷ (rest ++ up_to n ys)) (rest ++ up_to n ys) ≡ cond b (v ∷ rest) rest ++ up_to n ys
    inside true rest = refl
    inside false rest = refl

pub up_to-up_to : (n : ℕ) (chain : List Version) → up_to n (up_to n chain) ≡ up_to n chain
up_to-up_to n [] = refl
up_to-up_to n (v ∷ chain) = inside (leb v.version n) refl (up_to-up_to n chain)
  where
    inside : (b : Bool) → leb v.version n ≡ b → up_to n (up_to n chain) ≡ up_to n chain → up_to n (cond b (v ∷ up_to n chain) (up_to n chain)) ≡ cond b (v ∷ up_to n chain) (up_to n chain)
    inside true t h = rw t (ap (λ rest. v ∷ rest) h)
    inside false t h = h

-- the versions in front of the place are those that are at most the version
pub split_up_to : (chain : List Version) (n p : ℕ) → IsSplit chain n p → take p chain ≡ up_to n chain
split_up_to chain n p s =
    sym (ap (up_to n) (sym (Rattle.std.proofs.lemmas.List.take-append-drop p chain))
    ∙ (up_to-append n (take p chain) (drop p chain)
    ∙ (ap (λ rest. up_to n (take p chain) ++ rest) (none_up_to n (drop p chain) s.above)
    ∙ (Rattle.std.proofs.lemmas.List.append-nil (up_to n (take p chain)) ∙ all_up_to n (take p chain) s.below))))

pub split_seen : (slice chain : List Version) (n p : ℕ) → slice ≡ chain → IsSplit slice n p → take p slice ≡ up_to n chain
split_seen slice chain n p e s = split_up_to slice n p s ∙ ap (up_to n) e

pub outside_below : (after before : ℕ) (chain : List Version) → AreBelow (after + 1) chain → AreOutside after before chain
outside_below after before [] h = tt
outside_below after before (v ∷ chain) h = let s : v.version < after + 1 = h.0 in (λ l. absurd (omega arith), outside_below after before chain h.1)

pub outside_above : (after before : ℕ) (chain : List Version) → AreVersionsAbove before chain → AreOutside after before chain
outside_above after before [] h = tt
outside_above after before (v ∷ chain) h = let s : before < v.version = h.0 in (λ l. omega arith, outside_above after before chain h.1)

pub AreOutside-append : (after before : ℕ) (xs ys : List Version) → AreOutside after before xs → AreOutside after before ys → AreOutside after before (xs ++ ys)
AreOutside-append after before [] ys h g = g
AreOutside-append after before (v ∷ xs) ys h g = (h.0, AreOutside-append after before xs ys h.1 g)

pub AreOutside-tail : (after before : ℕ) (xs ys : List Version) → AreOutside after before (xs ++ ys) → AreOutside after before ys
AreOutside-tail after before [] ys h = h
AreOutside-tail after before (v ∷ xs) ys h = AreOutside-tail after before xs ys h.1

-- a narrower gap
pub AreOutside_narrower : (a b c d : ℕ) (chain : List Version) → a ≤ c → d ≤ b → AreOutside a b chain → AreOutside c d chain
AreOutside_narrower a b c d [] l m h = tt
AreOutside_narrower a b c d (v ∷ chain) l m h = (λ t. let s : b ≤ v.version = h.0 (omega arith) in omega arith, AreOutside_narrower a b c d chain l m h.1)

-- nothing stands between the split and the first version after it
pub outside_first : (chain : List Version) (n p until : ℕ) (v : Version) → AreVersionsRising chain → IsSplit chain n p → p < length chain → get_or chain p v ≡ v → until ≤ v.version → AreOutside n until chain
outside_first chain n p until v r s l at m =
    subst (λ xs. AreOutside n until xs) (Rattle.std.proofs.lemmas.List.take-append-drop p chain)
    (AreOutside-append n until (take p chain) (drop p chain) (outside_below n until (take p chain) s.below) (rest chain p r l at))
  where
    all : (chain : List Version) → AreVersionsAbove v.version chain → AreOutside n until chain
    all [] h = tt
    all (x ∷ chain) h = let t : v.version < x.version = h.0 in (λ k. omega arith, all chain h.1)

    rest : (chain : List Version) (p : ℕ) → AreVersionsRising chain → p < length chain → get_or chain p v ≡ v → AreOutside n until (drop p chain)
    rest [] p r l at = absurd (omega arith)
    rest (x ∷ chain) zero r l at = let e : x ≡ v = at in let s : x.version ≡ v.version = ap (λ (y : Version). y.version) e in (λ k. omega arith, all chain (subst (λ (y : Version). AreVersionsAbove y.version chain) e r.0))
    rest (x ∷ chain) (suc p) r l at = rest chain p r.1 (omega arith) at

pub outside_all : (chain : List Version) (n p until : ℕ) → IsSplit chain n p → length chain ≤ p → AreOutside n until chain
outside_all chain n p until s l = subst (λ xs. AreOutside n until xs) (Rattle.std.proofs.lemmas.List.take_all p chain l) (outside_below n until (take p chain) s.below)

-- one version above all
pub IsRising-push : (chain : List Version) (v : Version) → AreVersionsRising chain → AreBelow v.version chain → AreVersionsRising (chain ++ v ∷ [])
IsRising-push [] v r b = (tt, tt)
IsRising-push (x ∷ chain) v r b = (AreAbove-append x.version chain (v ∷ []) r.0 (b.0, tt), IsRising-push chain v r.1 b.1)

AreAbove-up_to : (n m : ℕ) (chain : List Version) → AreVersionsAbove m chain
    → AreVersionsAbove m (up_to n chain)
AreAbove-up_to n m [] h = tt
AreAbove-up_to n m (y ∷ chain) h = here (AreAbove-up_to n m chain h.1) (leb y.version n)
  where
    here : AreVersionsAbove m (up_to n chain) → (b : Bool)
        → AreVersionsAbove m (cond b (y ∷ up_to n chain) (up_to n chain))
    here rest true = (h.0, rest)
    here rest false = rest

pub IsRising-up_to : (n : ℕ) (chain : List Version) → AreVersionsRising chain
    → AreVersionsRising (up_to n chain)
IsRising-up_to n [] r = tt
IsRising-up_to n (x ∷ chain) r = inside (IsRising-up_to n chain r.1) (leb x.version n)
  where
    inside : AreVersionsRising (up_to n chain) → (b : Bool)
        → AreVersionsRising (cond b (x ∷ up_to n chain) (up_to n chain))
    inside rest true = (AreAbove-up_to n x.version chain r.0, rest)
    inside rest false = rest

-- the last element, as a slice's `last` tells it
last_at : (v : Version) (chain : List Version) → slice_get (v ∷ chain) (length chain) ≡ last_of (v ∷ chain)
last_at v [] = refl
last_at v (w ∷ chain) = last_at w chain

pub last_of_slice : (chain : List Version) → slice_get chain (length chain - 1) ≡ last_of chain
last_of_slice [] = refl
last_of_slice (v ∷ chain) = let e : length (v ∷ chain) - 1 ≡ length chain = omega arith in ap (slice_get (v ∷ chain)) e ∙ last_at v chain

-- a step halves what is left to look at
pub power_step : (s0 s s1 : ℕ) → s0 ≤ s → s1 ≡ s + 1 → 2 ^ (s1 - s0) ≡ 2 * 2 ^ (s - s0)
power_step s0 s s1 l e = let d : s1 - s0 ≡ suc (s - s0) = omega arith in ap (λ k. 2 ^ k) d ∙ pow-succ' 2 (s - s0)

pub half_step : (p total m k : ℕ) → 2 * k ≤ m → p * (2 * m) ≤ total → 2 * p * (2 * k) ≤ total
half_step p total m k l h =
    let a : p * (2 * (2 * k)) ≤ p * (2 * m) = mul-le-mul_left p (omega arith) in
    let b : 2 * p * (2 * k) ≡ p * (2 * (2 * k)) = ap (λ q. q * (2 * k)) (mul_comm 2 p) ∙ mul_assoc p 2 (2 * k) in
    omega (arith, a, b)

pub least_step : (p total m : ℕ) → 0 < m → p * (2 * m) ≤ total → 2 * p ≤ total
least_step p total m l h =
    let a : p * 2 ≤ p * (2 * m) = mul-le-mul_left p (omega arith) in
    let b : 2 * p ≡ p * 2 = mul_comm 2 p in
    omega (arith, a, b)
