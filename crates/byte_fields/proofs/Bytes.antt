-- Bytes at the front.
use Rattle.std.proofs.Common.{◌≡◌, nat_lt, length, take, drop, get_or, ℕ, zero, suc, ◌<◌, ◌≤◌, true, List, [], ◌∷◌, Ok, refl, arith}
use Rattle.std.proofs.lemmas.Bool.{le-leb, lt-ltb, and_from, and_parts, ltb-true}
use Rattle.byte_fields.specs.Forms.{front, are_bytes}

pub are_bytes_by : (bytes : List ℕ) → ((i : ℕ) → get_or bytes i 0 < 256) → are_bytes bytes ≡ true
are_bytes_by [] below = refl
are_bytes_by (b ∷ bytes) below = and_from (nat_lt b 256) (are_bytes bytes) (lt-ltb b 256 (below 0)) (are_bytes_by bytes (λ i. below (suc i)))

pub byte_at : (bytes : List ℕ) → are_bytes bytes ≡ true → (i : ℕ) → get_or bytes i 0 < 256
byte_at [] known i = omega arith
byte_at (b ∷ bytes) known zero = ltb-true b 256 (and_parts (nat_lt b 256) (are_bytes bytes) known).0
byte_at (b ∷ bytes) known (suc i) = byte_at bytes (and_parts (nat_lt b 256) (are_bytes bytes) known).1 i

pub front_reads : (count : ℕ) (before view bytes rest : List ℕ) → before ≡ view → count ≤ length before → bytes ≡ take count before → rest ≡ drop count before → are_bytes bytes ≡ true → (front count).reads view ≡ Ok (bytes, rest)
front_reads count before view bytes rest same le f r known =
    let here : (front count).reads before ≡ Ok (bytes, rest) = rw (← f, ← r, le-leb count (length before) le, known) refl in
    rw (← same) here
