-- Numbers in bytes, both ways.
use Rattle.std.proofs.Common.{◌≡◌, ◌==◌, length, get_or, get_or-take, get_or-drop, subst, inl, inr, lit<, length-drop, take, drop, ℕ, ◌+◌, ◌*◌, ◌/◌, ◌%◌, ◌^◌, ◌<◌, true, List, [], ◌∷◌, ◌++◌, refl, sym, ap, ◌∙◌, arith}
use Rattle.std.specs.Int.{w8, w16, w32, w64, w128, to_le_bytes, from_le_bytes, to_be_bytes, from_be_bytes}
use Rattle.std.proofs.lemmas.Bool.{cases_lt, lt-ltb, ltb-true, and_parts, eqb-true}
use Rattle.std.proofs.lemmas.Nat.{from_le_bytes-to_le_bytes_2, from_le_bytes-to_le_bytes_4, from_le_bytes-to_le_bytes_8, from_be_bytes-to_be_bytes_8, le_bytes_2, le_bytes_4, le_bytes_8, be_bytes_8}
use Rattle.std.proofs.lemmas.List.{length-take, length-take-le, take-append-drop}
use Rattle.std.proofs.Math.ListN.{get_or-eq_default}
use native.Mathlib.Nat as nat
use Rattle.byte_fields.specs.Forms.{front, are_bytes}
use Rattle.byte_fields.specs.Fields.{number_1, number_2, number_4, number_8, client}
use Rattle.byte_fields.proofs.Bytes.{byte_at}
use Rattle.byte_fields.proofs.FormLaws.{IsForm, front_is, seen_is}

-- a front of so many bytes
pub record IsFront (count : ℕ) (bytes : List ℕ) : Type 0 where
  pub size : length bytes ≡ count
  pub below : (i : ℕ) → get_or bytes i 0 < 256

pub is_front : (count : ℕ) (bytes : List ℕ) → (front count).fits bytes ≡ true → IsFront count bytes
is_front count bytes h =
    let hs = and_parts (length bytes == count) (are_bytes bytes) h in
    record { size = eqb-true (length bytes) count hs.0; below = byte_at bytes hs.1 }

one : (bytes : List ℕ) → IsFront 1 bytes → to_le_bytes w8 (from_le_bytes w8 bytes) ≡ bytes
one [] f = absurd (omega (arith, f.size))
one (b ∷ []) f = let lt : b < 256 = f.below 0 in let e : b % 256 ≡ b = omega arith in rw e refl
one (b ∷ c ∷ bytes) f = absurd (omega (arith, f.size))

pub number_1_is : IsForm number_1
unfolding number_1
number_1_is = seen_is (front 1) _ _ _ (front_is 1) (record {
  kept = λ xs h. let f = is_front 1 xs h in lt-ltb (from_le_bytes w8 xs) 256 (f.below 0);
  there = λ xs h. one xs (is_front 1 xs h);
  here = λ n h. let lt : n < 256 = ltb-true n 256 h in let e : n % 256 ≡ n = omega arith in e;
})

pub number_2_is : IsForm number_2
unfolding number_2
number_2_is = seen_is (front 2) _ _ _ (front_is 2) (record {
  kept = λ xs h. let f = is_front 2 xs h in lt-ltb (from_le_bytes w16 xs) (2 ^ 16) (omega (arith, f.below 0, f.below 1));
  there = λ xs h. let f = is_front 2 xs h in le_bytes_2 xs (from_le_bytes w16 xs) f.size f.below refl;
  here = λ n h. from_le_bytes-to_le_bytes_2 n (ltb-true n (2 ^ 16) h);
})

pub number_4_is : IsForm number_4
unfolding number_4
number_4_is = seen_is (front 4) _ _ _ (front_is 4) (record {
  kept = λ xs h. let f = is_front 4 xs h in lt-ltb (from_le_bytes w32 xs) (2 ^ 32) (omega (arith, f.below 0, f.below 1, f.below 2, f.below 3));
  there = λ xs h. let f = is_front 4 xs h in le_bytes_4 xs (from_le_bytes w32 xs) f.size f.below refl;
  here = λ n h. from_le_bytes-to_le_bytes_4 n (ltb-true n (2 ^ 32) h);
})

pub number_8_is : IsForm number_8
unfolding number_8
number_8_is = seen_is (front 8) _ _ _ (front_is 8) (record {
  kept = λ xs h. let f = is_front 8 xs h in lt-ltb (from_le_bytes w64 xs) (2 ^ 64) (omega (arith, f.below 0, f.below 1, f.below 2, f.below 3, f.below 4, f.below 5, f.below 6, f.below 7));
  there = λ xs h. let f = is_front 8 xs h in le_bytes_8 xs (from_le_bytes w64 xs) f.size f.below refl;
  here = λ n h. from_le_bytes-to_le_bytes_8 n (ltb-true n (2 ^ 64) h);
})

-- 16 bytes are 8 high ones and 8 low ones
high : (c p : ℕ) → c / (18446744073709551616 * p) % 256 ≡ c / 18446744073709551616 / p % 256
high c p = ap (λ x. x % 256) (sym (nat.div-div-eq-div-mul c 18446744073709551616 p))

low_0 : (c : ℕ) → c % 256 ≡ c % 18446744073709551616 % 256
low_0 c = omega arith

low_1 : (c : ℕ) → c / 256 % 256 ≡ c % 18446744073709551616 / 256 % 256
low_1 c = omega arith

low_2 : (c : ℕ) → c / 65536 % 256 ≡ c % 18446744073709551616 / 65536 % 256
low_2 c = omega arith

low_3 : (c : ℕ) → c / 16777216 % 256 ≡ c % 18446744073709551616 / 16777216 % 256
low_3 c = omega arith

low_4 : (c : ℕ) → c / 4294967296 % 256 ≡ c % 18446744073709551616 / 4294967296 % 256
low_4 c = omega arith

low_5 : (c : ℕ) → c / 1099511627776 % 256 ≡ c % 18446744073709551616 / 1099511627776 % 256
low_5 c = omega arith

low_6 : (c : ℕ) → c / 281474976710656 % 256 ≡ c % 18446744073709551616 / 281474976710656 % 256
low_6 c = omega arith

low_7 : (c : ℕ) → c / 72057594037927936 % 256 ≡ c % 18446744073709551616 / 72057594037927936 % 256
low_7 c = omega arith

halves_of : (c : ℕ) → to_be_bytes w128 c ≡ to_be_bytes w64 (c / 18446744073709551616) ++ to_be_bytes w64 (c % 18446744073709551616)
halves_of c = λ i.
    high c 72057594037927936 i ∷ high c 281474976710656 i ∷ high c 1099511627776 i ∷ high c 4294967296 i ∷ high c 16777216 i ∷ high c 65536 i ∷ high c 256 i ∷ (c / 18446744073709551616 % 256)
    ∷ low_7 c i ∷ low_6 c i ∷ low_5 c i ∷ low_4 c i ∷ low_3 c i ∷ low_2 c i ∷ low_1 c i ∷ low_0 c i ∷ []

quotient : (c hi lo : ℕ) → c ≡ hi * 18446744073709551616 + lo → lo < 18446744073709551616 → c / 18446744073709551616 ≡ hi
quotient c hi lo e lt = omega arith

remainder : (c hi lo : ℕ) → c ≡ hi * 18446744073709551616 + lo → lo < 18446744073709551616 → c % 18446744073709551616 ≡ lo
remainder c hi lo e lt = omega arith

joined : (n : ℕ) (xs : List ℕ) → n ≡ 8 → from_be_bytes w128 xs ≡ from_be_bytes w64 (take n xs) * 18446744073709551616 + from_be_bytes w64 (drop n xs)
joined n xs e =
    let front : (i : ℕ) → i < n → get_or (take n xs) i 0 ≡ get_or xs i 0 = λ i lt. get_or-take n xs i 0 lt in
    let back : (i : ℕ) → get_or (drop n xs) i 0 ≡ get_or xs (8 + i) 0 = λ i. subst (λ m. get_or (drop n xs) i 0 ≡ get_or xs (m + i) 0) e (get_or-drop n xs i 0) in
    omega (arith, front 0 (omega arith), front 1 (omega arith), front 2 (omega arith), front 3 (omega arith), front 4 (omega arith), front 5 (omega arith), front 6 (omega arith), front 7 (omega arith), back 0, back 1, back 2, back 3, back 4, back 5, back 6, back 7)

below_2_64 : (xs : List ℕ) → IsFront 8 xs → from_be_bytes w64 xs < 18446744073709551616
below_2_64 xs f = omega (arith, f.below 0, f.below 1, f.below 2, f.below 3, f.below 4, f.below 5, f.below 6, f.below 7)

byte_in_front : (n : ℕ) (xs : List ℕ) (i : ℕ) → ((k : ℕ) → get_or xs k 0 < 256) → get_or (take n xs) i 0 < 256
byte_in_front n xs i below = elim (cases_lt i n) [
  | inl lt ↦ rw (get_or-take n xs i 0 lt) (below i)
  | inr ge ↦ (let e : get_or (take n xs) i 0 ≡ 0 = get_or-eq_default (take n xs) 0 (omega (arith, length-take n xs)) in rw e (lit< tt))
]

fronts : (n : ℕ) (xs : List ℕ) → n ≡ 8 → IsFront 16 xs → IsFront 8 (take n xs) × IsFront 8 (drop n xs)
fronts n xs e f = (
  record { size = length-take-le n xs (omega (arith, f.size)) ∙ e; below = λ i. byte_in_front n xs i f.below },
  record { size = omega (arith, length-drop n xs, f.size); below = λ i. rw (get_or-drop n xs i 0) (f.below (n + i)) },
)

halves_at : (c hi lo : ℕ) → c / 18446744073709551616 ≡ hi → c % 18446744073709551616 ≡ lo → to_be_bytes w128 c ≡ to_be_bytes w64 hi ++ to_be_bytes w64 lo
halves_at c hi lo eh el = subst (λ h. to_be_bytes w128 c ≡ to_be_bytes w64 h ++ to_be_bytes w64 lo) eh (subst (λ l. to_be_bytes w128 c ≡ to_be_bytes w64 (c / 18446744073709551616) ++ to_be_bytes w64 l) el (halves_of c))

both : (ys zs xs : List ℕ) (front back : List ℕ) → ys ≡ front → zs ≡ back → front ++ back ≡ xs → ys ++ zs ≡ xs
both ys zs xs front back ea eb e = rw (ea, eb) e

client_there : (n : ℕ) (xs : List ℕ) → n ≡ 8 → IsFront 16 xs → to_be_bytes w128 (from_be_bytes w128 xs) ≡ xs
client_there n xs e f =
    let fs = fronts n xs e f in
    let lt = below_2_64 (drop n xs) fs.1 in
    let sum = joined n xs e in
    let high_is = quotient (from_be_bytes w128 xs) (from_be_bytes w64 (take n xs)) (from_be_bytes w64 (drop n xs)) sum lt in
    let low_is = remainder (from_be_bytes w128 xs) (from_be_bytes w64 (take n xs)) (from_be_bytes w64 (drop n xs)) sum lt in
    halves_at (from_be_bytes w128 xs) (from_be_bytes w64 (take n xs)) (from_be_bytes w64 (drop n xs)) high_is low_is
    ∙ both (to_be_bytes w64 (from_be_bytes w64 (take n xs))) (to_be_bytes w64 (from_be_bytes w64 (drop n xs))) xs (take n xs) (drop n xs)
    (be_bytes_8 (take n xs) (from_be_bytes w64 (take n xs)) fs.0.size fs.0.below refl)
    (be_bytes_8 (drop n xs) (from_be_bytes w64 (drop n xs)) fs.1.size fs.1.below refl)
    (take-append-drop n xs)

from_halves : (hi lo : ℕ) → hi < 2 ^ 64 → lo < 2 ^ 64 → from_be_bytes w128 (to_be_bytes w64 hi ++ to_be_bytes w64 lo) ≡ hi * 18446744073709551616 + lo
from_halves hi lo lh ll =
    joined 8 (to_be_bytes w64 hi ++ to_be_bytes w64 lo) refl ∙ (ap (λ h. h * 18446744073709551616 + from_be_bytes w64 (to_be_bytes w64 lo)) (from_be_bytes-to_be_bytes_8 hi lh) ∙ ap (λ l. hi * 18446744073709551616 + l) (from_be_bytes-to_be_bytes_8 lo ll))

client_here : (c : ℕ) → c < 2 ^ 128 → from_be_bytes w128 (to_be_bytes w128 c) ≡ c
client_here c lt =
    let hi : c / 18446744073709551616 < 2 ^ 64 = omega arith in
    let lo : c % 18446744073709551616 < 2 ^ 64 = omega arith in
    let sum : c / 18446744073709551616 * 18446744073709551616 + c % 18446744073709551616 ≡ c = omega arith in
    ap (from_be_bytes w128) (halves_of c) ∙ (from_halves (c / 18446744073709551616) (c % 18446744073709551616) hi lo ∙ sum)

client_kept : (n : ℕ) (xs : List ℕ) → n ≡ 8 → IsFront 16 xs → from_be_bytes w128 xs < 2 ^ 128
client_kept n xs e f =
    let fs = fronts n xs e f in
    omega (arith, joined n xs e, below_2_64 (take n xs) fs.0, below_2_64 (drop n xs) fs.1)

pub client_is : IsForm client
unfolding client
client_is = seen_is (front 16) _ _ _ (front_is 16) (record {
  kept = λ xs h. lt-ltb (from_be_bytes w128 xs) (2 ^ 128) (client_kept 8 xs refl (is_front 16 xs h));
  there = λ xs h. client_there 8 xs refl (is_front 16 xs h);
  here = λ c h. let e = client_here c.0 (ltb-true c.0 (2 ^ 128) h) in ap (λ n. record { 0 = n }) e;
})
