-- The order of bytes that begin with as many bytes each.
use Rattle.std.proofs.Common.{◌≡◌, ℕ, List, [], ◌∷◌, ◌++◌, length, refl, sym, ap, ◌∙◌}
use Rattle.std.specs.Int.{w64, w128, to_le_bytes, to_be_bytes}
use Rattle.std.specs.Ordering.{nat_cmp, ordering_then}
use Rattle.std.specs.declared.cmp.Ordering.{Ordering}
use Rattle.std.specs.declared.cmp.Ordering.TheVariants.{Less, Equal, Greater}
use Rattle.std.specs.Cmp.Lexicographic.{slice_cmp}
use Rattle.std.specs.FinMap.{slice_cmp-IsAntisymmetric, nat_cmp-IsAntisymmetric}
use Rattle.fs_base.specs.declared.ids.ClientId.{ClientId}
use Rattle.key_schema.specs.declared.key.Key.{Key}
use Rattle.key_schema.specs.declared.key.Key.TheVariants as keys
use Rattle.key_schema.specs.Keys.{spelled_key, letters, body}
use Rattle.key_schema.specs.Ranges.{key_order}

then_assoc : (a b c : Ordering) → ordering_then a (ordering_then b c) ≡ ordering_then (ordering_then a b) c
then_assoc Less b c = refl
then_assoc Equal b c = refl
then_assoc Greater b c = refl

-- the first bytes, and then the others
pub parted : (p q x y : List ℕ) → length p ≡ length q → slice_cmp nat_cmp (p ++ x) (q ++ y) ≡ ordering_then (slice_cmp nat_cmp p q) (slice_cmp nat_cmp x y)
parted [] [] x y e = refl
parted [] (b ∷ q) x y e = absurd (cc)
parted (a ∷ p) [] x y e = absurd (cc)
parted (a ∷ p) (b ∷ q) x y e = ap (ordering_then (nat_cmp a b)) (parted p q x y (cc)) ∙ then_assoc (nat_cmp a b) (slice_cmp nat_cmp p q) (slice_cmp nat_cmp x y)

pub after_id : (a b : ℕ) (x y : List ℕ) → slice_cmp nat_cmp (to_le_bytes w64 a ++ x) (to_le_bytes w64 b ++ y) ≡ ordering_then (slice_cmp nat_cmp (to_le_bytes w64 a) (to_le_bytes w64 b)) (slice_cmp nat_cmp x y)
after_id a b x y = parted (to_le_bytes w64 a) (to_le_bytes w64 b) x y refl

pub after_client : (c d : ℕ) (x y : List ℕ) → slice_cmp nat_cmp (to_be_bytes w128 c ++ x) (to_be_bytes w128 d ++ y) ≡ ordering_then (slice_cmp nat_cmp (to_be_bytes w128 c) (to_be_bytes w128 d)) (slice_cmp nat_cmp x y)
after_client c d x y = parted (to_be_bytes w128 c) (to_be_bytes w128 d) x y refl

four : (k : Key) → length (letters k) ≡ 4
four (keys.Alloc server) = refl
four (keys.Dent parent name) = refl
four (keys.Gc id) = refl
four (keys.Idem client) = refl
four (keys.Inode id) = refl
four (keys.Session inode client number) = refl

-- the order of the letters, and of what follows where they are the same
pub by_letters : (a b : Key) (l r : Ordering) → l ≡ slice_cmp nat_cmp (letters a) (letters b) → (letters a ≡ letters b → r ≡ slice_cmp nat_cmp (body a) (body b)) → ordering_then l r ≡ key_order a b
unfolding spelled_key
by_letters a b l r is same = go l is ∙ sym (parted (letters a) (letters b) (body a) (body b) (four a ∙ sym (four b)))
  where
    go : (o : Ordering) → o ≡ slice_cmp nat_cmp (letters a) (letters b) → ordering_then o r ≡ ordering_then (slice_cmp nat_cmp (letters a) (letters b)) (slice_cmp nat_cmp (body a) (body b))
    go Less e = ap (λ o. ordering_then o (slice_cmp nat_cmp (body a) (body b))) e
    go Equal e = same (slice_cmp-IsAntisymmetric nat_cmp-IsAntisymmetric (letters a) (letters b) (sym e)) ∙ ap (λ o. ordering_then o (slice_cmp nat_cmp (body a) (body b))) e
    go Greater e = ap (λ o. ordering_then o (slice_cmp nat_cmp (body a) (body b))) e

-- two sessions' ids, and then their clients and numbers
pub session_order : (x y : Key) (a b : ℕ) (c d : ClientId) (m n : ℕ) (ids holders : Ordering) → x ≡ keys.Session a c m → y ≡ keys.Session b d n
    → ids ≡ slice_cmp nat_cmp (to_le_bytes w64 a) (to_le_bytes w64 b)
    → holders ≡ slice_cmp nat_cmp (to_be_bytes w128 c.0 ++ to_be_bytes w64 m) (to_be_bytes w128 d.0 ++ to_be_bytes w64 n)
    → ordering_then ids holders ≡ slice_cmp nat_cmp (body x) (body y)
session_order x y a b c d m n ids holders ex ey first then =
    (λ i. ordering_then (first i) (then i))
    ∙ (sym (after_id a b (to_be_bytes w128 c.0 ++ to_be_bytes w64 m) (to_be_bytes w128 d.0 ++ to_be_bytes w64 n))
    ∙ (λ i. slice_cmp nat_cmp (body (sym ex i)) (body (sym ey i))))
