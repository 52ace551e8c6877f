-- Numbers in their ranges fit their fields, and what fits a field is in its range.
use Rattle.std.proofs.Common.{◌≡◌, ℕ, ◌<◌, ◌≤◌, ◌/◌, ◌%◌, ◌^◌, ◌&&◌, Bool, true, nat_lt, nat_le, le-leb, leb-true, lt-ltb, length, List, refl, arith}
use Rattle.std.specs.Prelude.{Option, Some, None, IfSome}
use Rattle.std.proofs.lemmas.Bool.{and_from, and_parts}
use Rattle.byte_fields.specs.Fields.{chunk, inode_id, kind, mode, number_1, number_2, number_4, number_8, optional, stripe, text, time, within}
use Rattle.byte_fields.specs.Forms.{Form, are_bytes}
use Rattle.fs_base.specs.declared.kind.Kind.{Kind}
use Rattle.fs_base.specs.declared.kind.Kind.TheVariants as kinds

pub both : {a b : Bool} → a ≡ true → b ≡ true → (a && b) ≡ true
both {a} {b} = and_from a b

-- ---- numbers by their bytes

byte : (n : ℕ) → nat_lt (n % 256) 256 ≡ true
byte n = lt-ltb (n % 256) 256 (omega arith)

pub fits_2 : (n : ℕ) → n < 2 ^ 16 → number_2.fits n ≡ true
unfolding number_2
fits_2 n small = both (lt-ltb n 65536 small) (both (byte n) (both (byte (n / 256)) refl))

pub fits_4 : (n : ℕ) → n < 2 ^ 32 → number_4.fits n ≡ true
unfolding number_4
fits_4 n small = both (lt-ltb n 4294967296 small) (both (byte n) (both (byte (n / 256)) (both (byte (n / 65536)) (both (byte (n / 16777216)) refl))))

pub fits_8 : (n : ℕ) → n < 2 ^ 64 → number_8.fits n ≡ true
unfolding number_8
fits_8 n small =
    both (lt-ltb n 18446744073709551616 small)
    (both (byte n)
    (both (byte (n / 256))
    (both (byte (n / 65536))
    (both (byte (n / 16777216))
    (both (byte (n / 4294967296)) (both (byte (n / 1099511627776)) (both (byte (n / 281474976710656)) (both (byte (n / 72057594037927936)) refl))))))))

-- ---- numbers from low to high

pub within_fits : (form : Form ℕ) (low high n : ℕ) → form.fits n ≡ true → low ≤ n → n ≤ high → (within form low high).fits n ≡ true
within_fits form low high n fits from to = both fits (both (le-leb low n from) (le-leb n high to))

-- at most the greatest
pub at_most : (form : Form ℕ) (low high n : ℕ) → (within form low high).fits n ≡ true → n ≤ high
at_most form low high n fits = leb-true n high (and_parts (nat_le low n) (nat_le n high) (and_parts (form.fits n) (nat_le low n && nat_le n high) fits).1).1

pub id_fits : (n : ℕ) → n < 2 ^ 36 → inode_id.fits n ≡ true
unfolding inode_id
id_fits n small = within_fits number_8 0 68719476735 n (fits_8 n (omega arith)) (omega arith) (omega arith)

pub mode_fits : (n : ℕ) → n < 4096 → mode.fits n ≡ true
unfolding mode
mode_fits n small = within_fits number_2 0 4095 n (fits_2 n (omega arith)) (omega arith) (omega arith)

pub small_mode : (n : ℕ) → mode.fits n ≡ true → n < 4096
unfolding mode
small_mode n fits = let most = at_most number_2 0 4095 n fits in omega arith

pub time_fits : (n : ℕ) → n < 2 ^ 53 → time.fits n ≡ true
unfolding time
time_fits n small = within_fits number_8 0 9007199254740991 n (fits_8 n (omega arith)) (omega arith) (omega arith)

pub small_time : (n : ℕ) → time.fits n ≡ true → n < 2 ^ 53
unfolding time
small_time n fits = let most = at_most number_8 0 9007199254740991 n fits in omega arith

pub chunk_fits : (n : ℕ) → 1 ≤ n → n ≤ 4194304 → chunk.fits n ≡ true
unfolding chunk
chunk_fits n from to = within_fits number_4 1 4194304 n (fits_4 n (omega arith)) from to

pub stripe_fits : (n : ℕ) → 1 ≤ n → n ≤ 256 → stripe.fits n ≡ true
unfolding stripe
stripe_fits n from to = within_fits number_2 1 256 n (fits_2 n (omega arith)) from to

-- ---- other fields

pub kind_fits : (k : Kind) → kind.fits k ≡ true
unfolding kind number_1
kind_fits kinds.Dir = refl
kind_fits kinds.File = refl
kind_fits kinds.Link = refl

pub optional_fits : {X : Type 0} (form : Form X) (o : Option X) → IfSome o (λ x. form.fits x ≡ true) → (optional form).fits o ≡ true
unfolding number_1
optional_fits form None h = refl
optional_fits form (Some x) h = h

pub text_fits : (bytes : List ℕ) → length bytes ≤ 65535 → are_bytes bytes ≡ true → text.fits bytes ≡ true
unfolding text
text_fits bytes short are = both (fits_2 (length bytes) (omega arith)) are
