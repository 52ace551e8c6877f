-- Places: how the shuffling goes on, and that it leaves different chains different.
use Rattle.std.proofs.Common.{◌≡◌, ◌≢◌, ℕ, zero, suc, ◌+◌, ◌-◌, ◌*◌, ◌%◌, ◌<◌, ◌≤◌, nat_le, ◌&&◌, List, [], Option, Some, None, Bool, true, false, cond, length, get_or, ◌⊎◌, inl, inr, refl, sym, ap, ◌∙◌, subst, arith}
use Rattle.std.specs.Prelude.{All, AllPairs, map}
use Rattle.std.specs.List.{range_with_len, swap, IsDistinct}
use Rattle.std.proofs.Math.Dec.{eqb}
use Rattle.std.proofs.Math.Nat.{mod-eq_of_lt, add-mod_right}
use Rattle.std.proofs.lemmas.Bool.{and_parts, leb-true, leb-false}
use Rattle.std.proofs.lemmas.Bool.Decides.{Decides-eqb, eqb_tells}
use Rattle.std.proofs.lemmas.List.Edits.{length-swap}
use Rattle.std.proofs.lemmas.List.FromFn.{length-map-range_with_len, get_or-map-range_with_len}
use Rattle.std.proofs.lemmas.List.Elements.{All-from_get_or}
use Rattle.std.proofs.lemmas.List.Sorted.{IsPermutation-swap, All-permutation}
use Rattle.std.proofs.lemmas.Map.Keys.{IsDistinct-IsPermutation}
use Rattle.std.proofs.lemmas.Map.Made.{AllPairs-from_IsDistinct, IsDistinct-from_AllPairs}
use Rattle.fs_base.specs.Config.{Settings, admits, layout_at, layout_given}
use Rattle.fs_base.specs.declared.layout.Layout.{Layout}
use Rattle.fs_base.specs.declared.layout.DefaultLayout.{DefaultLayout}
use Rattle.chunk_layout.specs.Striping.{IsLayoutOf, IsInBounds, in_turn, shuffled, chains_of}

-- the place that is exchanged next
other_of : ℕ → ℕ → ℕ
other_of mix place = (mix + 7 * place) % (place + 1)

pub shuffled_next : (mix place : ℕ) (chains : List ℕ) → 1 ≤ place
    → shuffled mix (place - 1) (swap chains place ((mix + 7 * place) % (place + 1))) ≡ shuffled mix place chains
shuffled_next mix zero chains some = absurd (let f : 1 ≤ 0 = some in omega (arith, f))
shuffled_next mix (suc place) chains some =
    let e : suc place - 1 ≡ place = omega arith in
    ap (λ n. shuffled mix n (swap chains (suc place) ((mix + 7 * suc place) % (suc place + 1)))) e

mod_below : (n m : ℕ) → n % suc m < suc m
mod_below n m = omega arith

-- what each exchange keeps, the shuffling keeps
kept : (P : List ℕ → Type 0) (mix place : ℕ) (chains : List ℕ)
    → ((xs : List ℕ) (a b : ℕ) → a < length xs → b < length xs → P xs → P (swap xs a b))
    → place < length chains → P chains → P (shuffled mix place chains)
kept P mix zero chains step within p = p
kept P mix (suc place) chains step within p =
    let other : ℕ = (mix + 7 * suc place) % (suc place + 1) in
    let small : other < suc place + 1 = omega arith in
    kept P mix place (swap chains (suc place) other) step
    (subst (λ n. place < n) (sym (length-swap chains (suc place) other)) (omega (arith, within)))
    (step chains (suc place) other within (omega (arith, small, within)) p)

pub length_shuffled : (mix place : ℕ) (chains : List ℕ) → place < length chains → length (shuffled mix place chains) ≡ length chains
length_shuffled mix place chains within =
    kept (λ xs. length xs ≡ length chains) mix place chains (λ xs a b la lb h. length-swap xs a b ∙ h) within refl

all_shuffled : (P : ℕ → Type 0) (mix place : ℕ) (chains : List ℕ) → place < length chains → All P chains → All P (shuffled mix place chains)
all_shuffled P mix place chains within =
    kept (All P) mix place chains (λ xs a b la lb h. All-permutation P xs (swap xs a b) (IsPermutation-swap xs (swap xs a b) a b la lb refl) h) within

flips : (x y : ℕ) → eqb x y ≡ eqb y x
flips x y = both (eqb_tells x y) (eqb_tells y x)
  where
    both : ((eqb x y ≡ true) × (x ≡ y)) ⊎ ((eqb x y ≡ false) × (x ≢ y)) → ((eqb y x ≡ true) × (y ≡ x)) ⊎ ((eqb y x ≡ false) × (y ≢ x)) → eqb x y ≡ eqb y x
    both (inl h) (inl k) = h.0 ∙ sym k.0
    both (inl h) (inr k) = absurd (k.1 (sym h.1))
    both (inr h) (inl k) = absurd (h.1 (sym k.1))
    both (inr h) (inr k) = h.0 ∙ sym k.0

distinct_shuffled : (mix place : ℕ) (chains : List ℕ) → place < length chains → IsDistinct eqb chains → IsDistinct eqb (shuffled mix place chains)
distinct_shuffled mix place chains within =
    kept (IsDistinct eqb) mix place chains
    (λ xs a b la lb h. IsDistinct-IsPermutation eqb flips xs (swap xs a b) (IsPermutation-swap xs (swap xs a b) a b la lb refl) h) within

-- a number below twice another, over that one
mod_once : (n c : ℕ) → 1 ≤ c → n < c + c → ((n < c) × (n % c ≡ n)) ⊎ ((c ≤ n) × (n % c ≡ n - c))
mod_once n c some small = by_test (nat_le c n) refl
  where
    by_test : (b : Bool) → nat_le c n ≡ b → ((n < c) × (n % c ≡ n)) ⊎ ((c ≤ n) × (n % c ≡ n - c))
    by_test true e =
        let le : c ≤ n = leb-true c n e in
        let back : (n - c) + c ≡ n = omega (arith, le) in
        let under : n - c < c = omega (arith, le, small) in
        inr (le, ap (λ k. k % c) (sym back) ∙ (add-mod_right (n - c) c ∙ mod-eq_of_lt under))
    by_test false e = let lt : n < c = leb-false c n e in inl (lt, mod-eq_of_lt lt)

turn_differs : (start chains i j : ℕ) → start < chains → i < j → j < chains → (start + i) % chains ≢ (start + j) % chains
turn_differs start chains i j s o l =
    λ same. cases same (mod_once (start + i) chains (omega (arith, s)) (omega (arith, s, o, l))) (mod_once (start + j) chains (omega (arith, s)) (omega (arith, s, l)))
  where
    cases : (start + i) % chains ≡ (start + j) % chains
        → ((start + i < chains) × ((start + i) % chains ≡ start + i)) ⊎ ((chains ≤ start + i) × ((start + i) % chains ≡ start + i - chains))
        → ((start + j < chains) × ((start + j) % chains ≡ start + j)) ⊎ ((chains ≤ start + j) × ((start + j) % chains ≡ start + j - chains)) → ⊥
    cases same (inl h) (inl k) = let e : start + i ≡ start + j = sym h.1 ∙ (same ∙ k.1) in omega (arith, e, o)
    cases same (inl h) (inr k) = let e : start + i ≡ start + j - chains = sym h.1 ∙ (same ∙ k.1) in omega (arith, e, k.0, l)
    cases same (inr h) (inl k) = omega (arith, h.0, k.0, o)
    cases same (inr h) (inr k) = let e : start + i - chains ≡ start + j - chains = sym h.1 ∙ (same ∙ k.1) in omega (arith, e, h.0, k.0, o)

pub length_in_turn : (C : Settings) (layout : Layout) → length (in_turn C layout) ≡ layout.stripe
length_in_turn C layout = length-map-range_with_len (λ place. (layout.start + place) % C.chains) 0 layout.stripe

turn_at : (C : Settings) (layout : Layout) (i d : ℕ) → i < length (in_turn C layout) → get_or (in_turn C layout) i d ≡ (layout.start + i) % C.chains
turn_at C layout i d l =
    get_or-map-range_with_len (λ place. (layout.start + place) % C.chains) 0 layout.stripe i i d (subst (λ n. i < n) (length_in_turn C layout) l) (omega arith)

distinct_in_turn : (C : Settings) (layout : Layout) → IsInBounds C layout → IsDistinct eqb (in_turn C layout)
distinct_in_turn C layout b =
    IsDistinct-from_AllPairs Decides-eqb (in_turn C layout)
    (λ i j d o l.
    let k : j < layout.stripe = subst (λ n. j < n) (length_in_turn C layout) l in
    λ same. turn_differs layout.start C.chains i j b.start o (omega (arith, k, b.stripe))
    (sym (turn_at C layout i d (omega (arith, o, l))) ∙ (same ∙ turn_at C layout j d l)))

within_in_turn : (C : Settings) (layout : Layout) → IsInBounds C layout → All (λ chain. chain < C.chains) (in_turn C layout)
within_in_turn C layout b =
    All-from_get_or (λ chain. chain < C.chains) (in_turn C layout) 0
    (λ i l. subst (λ n. n < C.chains) (sym (turn_at C layout i 0 l)) (let small : (layout.start + i) % C.chains < C.chains = below C.chains (layout.start + i) b.some in small))
  where
    below : (c n : ℕ) → 1 ≤ c → n % c < c
    below c n some = omega (arith, some)

-- the last place is one of the chains
last_within : (C : Settings) (layout : Layout) → IsInBounds C layout → layout.stripe - 1 < length (in_turn C layout)
last_within C layout b = subst (λ n. layout.stripe - 1 < n) (sym (length_in_turn C layout)) (omega (arith, b.striped))

pub chains_are : (C : Settings) (layout : Layout) (chains : List ℕ) → chains ≡ shuffled layout.mix (length (in_turn C layout) - 1) (in_turn C layout) → chains ≡ chains_of C layout
unfolding chains_of
chains_are C layout chains is = is ∙ ap (λ n. shuffled layout.mix (n - 1) (in_turn C layout)) (length_in_turn C layout)

pub length_of : (C : Settings) (layout : Layout) → IsInBounds C layout → length (chains_of C layout) ≡ layout.stripe
unfolding chains_of
length_of C layout b = length_shuffled layout.mix (layout.stripe - 1) (in_turn C layout) (last_within C layout b) ∙ length_in_turn C layout

pub within_of : (C : Settings) (layout : Layout) → IsInBounds C layout → All (λ chain. chain < C.chains) (chains_of C layout)
unfolding chains_of
within_of C layout b = all_shuffled (λ chain. chain < C.chains) layout.mix (layout.stripe - 1) (in_turn C layout) (last_within C layout b) (within_in_turn C layout b)

pub distinct_of : (C : Settings) (layout : Layout) → IsInBounds C layout → AllPairs (λ one other. one ≢ other) (chains_of C layout)
unfolding chains_of
distinct_of C layout b =
    AllPairs-from_IsDistinct Decides-eqb (chains_of C layout)
    (distinct_shuffled layout.mix (layout.stripe - 1) (in_turn C layout) (last_within C layout b) (distinct_in_turn C layout b))

-- a layout that a configuration gives keeps to its bounds
pub in_bounds : (C : Settings) (layout : Layout) → 1 ≤ C.chains → C.chains ≤ 256 → IsLayoutOf C layout → IsInBounds C layout
in_bounds C layout some few (id, small, is) = by_test (admits C (record { chunk = layout.chunk; stripe = layout.stripe })) refl is
  where
    given : DefaultLayout
    given = record { chunk = layout.chunk; stripe = layout.stripe }

    by_test : (b : Bool) → admits C given ≡ b → cond b (Some (layout_at C id given)) None ≡ Some layout → IsInBounds C layout
    by_test true e same =
        let l : layout_at C id given ≡ layout = cc in
        let parts : (nat_le 1 layout.stripe ≡ true) × (nat_le layout.stripe C.chains ≡ true)
        = and_parts (nat_le 1 layout.stripe) (nat_le layout.stripe C.chains)
        (and_parts (nat_le 1 layout.chunk && nat_le layout.chunk 4194304) (nat_le 1 layout.stripe && nat_le layout.stripe C.chains) e).1 in
        record {
          some = some;
          few = few;
          start = subst (λ n. n < C.chains) (ap (λ (x : Layout). x.start) l) (omega (arith, some));
          striped = leb-true 1 layout.stripe parts.0;
          stripe = leb-true layout.stripe C.chains parts.1;
          mix = subst (λ n. n < 68719476736) (ap (λ (x : Layout). x.mix) l) small;
        }
    by_test false e same = absurd (let f : None ≡ Some layout = same in cc)
