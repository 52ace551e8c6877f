-- The 16 bytes of a client are those of its number, most significant first.
use Rattle.std.proofs.Common.{◌≡◌, ℕ, ◌+◌, ◌*◌, ◌/◌, ◌%◌, ◌^◌, ◌<◌, List, [], ◌∷◌, ◌++◌, sym, ap, subst, ◌∙◌, arith}
use Rattle.std.specs.Int.{w64, w128, to_be_bytes}
use native.Mathlib.Nat as nat

-- its upper and its lower eight bytes
abbrev pub client_halves : ℕ → List ℕ
client_halves c = to_be_bytes w64 (c / 2 ^ 64) ++ to_be_bytes w64 (c % 2 ^ 64)

high : (c p : ℕ) → c / (18446744073709551616 * p) % 256 ≡ c / 18446744073709551616 / p % 256
high c p = ap (λ x. x % 256) (sym (nat.div-div-eq-div-mul c 18446744073709551616 p))

low_0 : (c : ℕ) → c % 256 ≡ c % 18446744073709551616 % 256
low_0 c = omega arith

low_1 : (c : ℕ) → c / 256 % 256 ≡ c % 18446744073709551616 / 256 % 256
low_1 c = omega arith

low_7 : (c : ℕ) → c / 72057594037927936 % 256 ≡ c % 18446744073709551616 / 72057594037927936 % 256
low_7 c = omega arith

low_2 : (c : ℕ) → c / 65536 % 256 ≡ c % 18446744073709551616 / 65536 % 256
low_2 c = omega arith

low_3 : (c : ℕ) → c / 16777216 % 256 ≡ c % 18446744073709551616 / 16777216 % 256
low_3 c = omega arith

low_4 : (c : ℕ) → c / 4294967296 % 256 ≡ c % 18446744073709551616 / 4294967296 % 256
low_4 c = omega arith

low_5 : (c : ℕ) → c / 1099511627776 % 256 ≡ c % 18446744073709551616 / 1099511627776 % 256
low_5 c = omega arith

low_6 : (c : ℕ) → c / 281474976710656 % 256 ≡ c % 18446744073709551616 / 281474976710656 % 256
low_6 c = omega arith

pub client_is : (c : ℕ) → to_be_bytes w128 c ≡ client_halves c
client_is c = λ i.
    high c 72057594037927936 i ∷ high c 281474976710656 i ∷ high c 1099511627776 i ∷ high c 4294967296 i ∷ high c 16777216 i ∷ high c 65536 i ∷ high c 256 i ∷ (c / 18446744073709551616 % 256)
    ∷ low_7 c i ∷ low_6 c i ∷ low_5 c i ∷ low_4 c i ∷ low_3 c i ∷ low_2 c i ∷ low_1 c i ∷ low_0 c i ∷ []

-- no client is spelled where no number of eight bytes begins
pub no_client : (bytes : List ℕ) → ((n : ℕ) (rest : List ℕ) → to_be_bytes w64 n ++ rest ≡ bytes → ⊥) → (c : ℕ) (rest : List ℕ) → to_be_bytes w128 c ++ rest ≡ bytes → ⊥
no_client bytes none c rest e = none (c / 2 ^ 64) (to_be_bytes w64 (c % 2 ^ 64) ++ rest) (sym (ap (λ x. x ++ rest) (client_is c)) ∙ e)

upper : (h l : ℕ) → l < 2 ^ 64 → (h * 2 ^ 64 + l) / 2 ^ 64 ≡ h
upper h l small = omega arith

lower : (h l : ℕ) → l < 2 ^ 64 → (h * 2 ^ 64 + l) % 2 ^ 64 ≡ l
lower h l small = omega arith

in_range : (h l : ℕ) → h < 2 ^ 64 → l < 2 ^ 64 → h * 2 ^ 64 + l < 2 ^ 128
in_range h l high low = omega arith

joined : (bytes behind rest : List ℕ) (h l : ℕ) → h < 2 ^ 64 → l < 2 ^ 64 → to_be_bytes w64 h ++ behind ≡ bytes → to_be_bytes w64 l ++ rest ≡ behind
    → (h * 2 ^ 64 + l < 2 ^ 128) × (to_be_bytes w128 (h * 2 ^ 64 + l) ++ rest ≡ bytes)
joined bytes behind rest h l high low e f = (
  in_range h l high low,
  ap (λ x. x ++ rest) (client_is (h * 2 ^ 64 + l))
      ∙ ((λ i. to_be_bytes w64 (upper h l low i) ++ (to_be_bytes w64 (lower h l low i) ++ rest)) ∙ (ap (λ x. to_be_bytes w64 h ++ x) f ∙ e)),
)

-- two numbers of eight bytes, one after the other, are a client
pub is_client : (bytes behind rest : List ℕ) (h l x y : ℕ) → x ≡ h → y ≡ l → (h < 2 ^ 64) × (to_be_bytes w64 h ++ behind ≡ bytes) → (l < 2 ^ 64) × (to_be_bytes w64 l ++ rest ≡ behind)
    → (x * 2 ^ 64 + y < 2 ^ 128) × (to_be_bytes w128 (x * 2 ^ 64 + y) ++ rest ≡ bytes)
is_client bytes behind rest h l x y ex ey high low =
    subst (λ n. (n < 2 ^ 128) × (to_be_bytes w128 n ++ rest ≡ bytes)) (sym (λ i. ex i * 2 ^ 64 + ey i)) (joined bytes behind rest h l high.0 low.0 high.1 low.1)
