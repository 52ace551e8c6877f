-- The keys between a prefix and the prefix raised by one are those that begin with it.
use Rattle.std.proofs.Common.{◌≡◌, ℕ, ◌+◌, ◌<◌, ◌^◌, ◌&&◌, List, [], ◌∷◌, ◌++◌, Bool, true, false, drop, refl, sym, ap, subst, ◌∙◌, arith}
use Rattle.std.specs.Prelude.{codes}
use Rattle.std.specs.Int.{w64, w128, to_le_bytes, to_be_bytes, from_be_bytes}
use Rattle.fs_base.specs.declared.ids.ClientId.{ClientId}
use Rattle.std.specs.Ordering.{is_lt, is_ge, nat_cmp, ordering_then}
use Rattle.std.specs.declared.cmp.Ordering.{Ordering}
use Rattle.std.specs.declared.cmp.Ordering.TheVariants.{Less, Equal, Greater}
use Rattle.std.specs.Cmp.Lexicographic.{slice_cmp}
use Rattle.std.specs.FinMap.{nat_cmp-IsAntisymmetric}
use Rattle.std.proofs.lemmas.Cmp.{nat_cmp_total, tied_itself}
use Rattle.std.proofs.lemmas.Nat.{from_le_bytes-to_le_bytes_8}
use Rattle.key_schema.specs.declared.key.Key.TheVariants as keys
use Rattle.key_schema.specs.Keys.{spelled_key}
use Rattle.key_schema.specs.Ranges.{is_between, raised, dir_prefix, session_prefix, IsDentOf, IsSessionOf, HoldsExactly}
use Rattle.key_schema.proofs.KeyLaws.{key_of, key_of-spelled_key, spellable, client_at}

nat_below : (b : ℕ) → nat_cmp b (b + 1) ≡ Less
nat_below b = grind arith

prefix_from : (p n : List ℕ) → is_ge (slice_cmp nat_cmp (p ++ n) p) ≡ true
prefix_from [] [] = refl
prefix_from [] (x ∷ n) = refl
prefix_from (x ∷ p) n = rw (tied_itself nat_cmp_total x) (prefix_from p n)

prefix_below : (b : ℕ) (p n : List ℕ) → is_lt (slice_cmp nat_cmp ((b ∷ p) ++ n) (raised (b ∷ p))) ≡ true
prefix_below b [] n = rw (nat_below b) refl
prefix_below b (c ∷ p) n = rw (tied_itself nat_cmp_total b) (prefix_below c p n)

-- bytes that begin with the prefix
pub inside_prefix : (b : ℕ) (p n : List ℕ) → is_between (b ∷ p) (raised (b ∷ p)) ((b ∷ p) ++ n) ≡ true
inside_prefix b p n = rw (prefix_from (b ∷ p) n) (prefix_below b p n)

next_is : (b h : ℕ) → is_ge (nat_cmp h b) ≡ true → is_lt (nat_cmp h (b + 1)) ≡ true → h ≡ b
next_is b h g l = grind arith

and_true : (a b : Bool) → (a && b) ≡ true → (a ≡ true) × (b ≡ true)
and_true true b e = (refl, e)
and_true false b e = absurd (cc)

ge_first : (o r : Ordering) → is_ge (ordering_then o r) ≡ true → is_ge o ≡ true
ge_first Less r e = e
ge_first Equal r e = refl
ge_first Greater r e = refl

lt_first : (o r : Ordering) → is_lt r ≡ false → is_lt (ordering_then o r) ≡ true → is_lt o ≡ true
lt_first Less r n e = refl
lt_first Equal r n e = sym n ∙ e
lt_first Greater r n e = e

never_below : (q : List ℕ) → is_lt (slice_cmp nat_cmp q []) ≡ false
never_below [] = refl
never_below (x ∷ q) = refl

not_true : {P : Type 0} → false ≡ true → P
not_true e = absurd (cc)

prefix_in : (b : ℕ) (p q : List ℕ) → is_ge (slice_cmp nat_cmp q (b ∷ p)) ≡ true → is_lt (slice_cmp nat_cmp q (raised (b ∷ p))) ≡ true → (n : List ℕ) × (q ≡ (b ∷ p) ++ n)
prefix_in b p [] g l = not_true g
prefix_in b [] (h ∷ q) g l = (q, ap (λ x. x ∷ q) (next_is b h (ge_first (nat_cmp h b) (slice_cmp nat_cmp q []) g) (lt_first (nat_cmp h (b + 1)) (slice_cmp nat_cmp q []) (never_below q) l)))
prefix_in b (c ∷ p) (h ∷ q) g l =
    (elim (nat_cmp h b) as (λ o. nat_cmp h b ≡ o → is_ge (ordering_then o (slice_cmp nat_cmp q (c ∷ p))) ≡ true → is_lt (ordering_then o (slice_cmp nat_cmp q (raised (c ∷ p)))) ≡ true → (n : List ℕ) × (h ∷ q ≡ (b ∷ c ∷ p) ++ n)) [
      | Less ↦ λ e g' l'. not_true g'
      | Equal ↦ λ e g' l'. let found = prefix_in c p q g' l' in (found.0, λ i. nat_cmp-IsAntisymmetric h b e i ∷ found.1 i)
      | Greater ↦ λ e g' l'. not_true l'
    ]) refl g l

-- and every key between them begins with it
pub prefix_of : (b : ℕ) (p q : List ℕ) → is_between (b ∷ p) (raised (b ∷ p)) q ≡ true → (n : List ℕ) × (q ≡ (b ∷ p) ++ n)
prefix_of b p q e = let h = and_true (is_ge (slice_cmp nat_cmp q (b ∷ p))) (is_lt (slice_cmp nat_cmp q (raised (b ∷ p)))) e in prefix_in b p q h.0 h.1

-- ---- a directory's entries
is_dent : (id : ℕ) (n : List ℕ) → id < 2 ^ 64 → key_of (dir_prefix id ++ n) ≡ keys.Dent id n
unfolding key_of
is_dent id n small = ap (λ x. keys.Dent x n) (from_le_bytes-to_le_bytes_8 id small)

dent_key : (id : ℕ) (n : List ℕ) → spelled_key (keys.Dent id n) ≡ dir_prefix id ++ n
unfolding spelled_key
dent_key id n = refl

dents_between : (id : ℕ) → id < 2 ^ 36 → HoldsExactly (dir_prefix id) (raised (dir_prefix id)) (IsDentOf id)
dents_between id small key valid = (
  λ inside.
      let found = prefix_of 68 (codes "ENT" ++ to_le_bytes w64 id) (spelled_key key) inside in
      (found.0, sym (key_of-spelled_key key (spellable key valid)) ∙ (ap key_of found.1 ∙ is_dent id found.0 (omega arith))),
  λ is. ap (is_between (dir_prefix id) (raised (dir_prefix id))) (ap spelled_key is.1 ∙ dent_key id is.0) ∙ inside_prefix 68 (codes "ENT" ++ to_le_bytes w64 id) is.0,
)

-- ---- an inode's sessions
is_session : (id : ℕ) (n : List ℕ) → id < 2 ^ 64
    → key_of (session_prefix id ++ n) ≡ keys.Session id (record { 0 = client_at 12 (session_prefix id ++ n) }) (from_be_bytes w64 (drop 28 (session_prefix id ++ n)))
unfolding key_of
is_session id n small =
    ap (λ x. keys.Session x (record { 0 = client_at 12 (session_prefix id ++ n) }) (from_be_bytes w64 (drop 28 (session_prefix id ++ n)))) (from_le_bytes-to_le_bytes_8 id small)

session_key : (id : ℕ) (client : ClientId) (number : ℕ) → spelled_key (keys.Session id client number) ≡ session_prefix id ++ (to_be_bytes w128 client.0 ++ to_be_bytes w64 number)
unfolding spelled_key
session_key id client number = refl

sessions_between : (id : ℕ) → id < 2 ^ 36 → HoldsExactly (session_prefix id) (raised (session_prefix id)) (IsSessionOf id)
sessions_between id small key valid = (
  λ inside.
      let found = prefix_of 83 (codes "ESS" ++ to_le_bytes w64 id) (spelled_key key) inside in
      (_, _, sym (key_of-spelled_key key (spellable key valid)) ∙ (ap key_of found.1 ∙ is_session id found.0 (omega arith))),
  λ is.
      ap (is_between (session_prefix id) (raised (session_prefix id))) (ap spelled_key is.2 ∙ session_key id is.0 is.1)
      ∙ inside_prefix 83 (codes "ESS" ++ to_le_bytes w64 id) (to_be_bytes w128 is.0.0 ++ to_be_bytes w64 is.1),
)

-- ---- a range that was made
pub dents_in : (id x : ℕ) (range : List ℕ × List ℕ) → x ≡ id → id < 2 ^ 36 → range ≡ (dir_prefix x, raised (dir_prefix x)) → HoldsExactly range.0 range.1 (IsDentOf id)
dents_in id x range same small is =
    subst (λ (r : List ℕ × List ℕ). HoldsExactly r.0 r.1 (IsDentOf id)) (sym (is ∙ (λ i. (dir_prefix (same i), raised (dir_prefix (same i)))))) (dents_between id small)

pub sessions_in : (id x : ℕ) (range : List ℕ × List ℕ) → x ≡ id → id < 2 ^ 36 → range ≡ (session_prefix x, raised (session_prefix x)) → HoldsExactly range.0 range.1 (IsSessionOf id)
sessions_in id x range same small is =
    subst (λ (r : List ℕ × List ℕ). HoldsExactly r.0 r.1 (IsSessionOf id)) (sym (is ∙ (λ i. (session_prefix (same i), raised (session_prefix (same i)))))) (sessions_between id small)
