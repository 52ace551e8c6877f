-- Held keys, read by read.
use Rattle.std.proofs.Common.{◌≡◌, ℕ, ◌<◌, ◌+◌, ◌-◌, List, [], ◌∷◌, Some, None, Bool, true, false, cond, ◌&&◌, ◌||◌, length, take, get_or, sym, ◌∙◌, ap, refl, arith, suc, zero, subst}
use Rattle.std.specs.Prelude.{slice_get, ◌==◌}
use Rattle.std.specs.List.{list_any}
use Rattle.std.specs.Ordering.{is_eq, is_le, is_ge}
use Rattle.conflict_sets.specs.Keys.{key_cmp}
use Rattle.conflict_sets.specs.Rows.{is_inside}
use Rattle.conflict_sets.specs.Reads.{range_holds, is_up_to_last}
use Rattle.conflict_sets.specs.declared.sets.RangeRead.{RangeRead}
use Rattle.conflict_sets.proofs.KeyOrder.{key_exact}
use Rattle.conflict_sets.proofs.RowLemmas.{by_place}
use Rattle.conflict_sets.proofs.HeldLemmas.{up_to_last_at}
use Rattle.fs_base.specs.declared.row.Row.{Row}

pub or_either : {P : Type 0} (a b : Bool) → (a || b) ≡ true → (a ≡ true → P) → (b ≡ true → P) → P
or_either true b h f g = f refl
or_either false b h f g = g h

-- one read further
pub any_more : {X P : Type 0} (p : X → Bool) (xs : List X) (i : ℕ) (x : X) → i < length xs → get_or xs i x ≡ x → list_any p (take (i + 1) xs) ≡ true → (list_any p (take i xs) ≡ true → P) → (p x ≡ true → P) → P
any_more {X} {P} p xs i x l at h before here = subst (λ k. list_any p (take k xs) ≡ true → P) (next i) (more xs i l at before) h
  where
    next : (i : ℕ) → suc i ≡ i + 1
    next i = omega arith

    more : (xs : List X) (i : ℕ) → i < length xs → get_or xs i x ≡ x → (list_any p (take i xs) ≡ true → P) → list_any p (take (suc i) xs) ≡ true → P
    more [] i l at before h = absurd (omega arith)
    more (y ∷ xs) zero l at before h = or_either (p y) false h (λ t. here (ap p (sym at) ∙ t)) (λ f. absurd (let e : false ≡ true = f in cc))
    more (y ∷ xs) (suc i) l at before h =
        or_either (p y) (list_any p (take (suc i) xs)) h
        (λ t. before (rw t refl))
        (λ t. more xs i (omega arith) at (λ u. before (rw u (or_true (p y)))) t)
      where
        or_true : (b : Bool) → (b || true) ≡ true
        or_true true = refl
        or_true false = refl

pub same_key : (a b : List ℕ) → is_eq (key_cmp a b) ≡ true → b ≡ a
same_key a b t = by_place (b ≡ a) a b
    (λ p. absurd (let f : false ≡ true = (rw p at t) in cc))
    (λ p. sym (key_exact a b p))
    (λ p. absurd (let f : false ≡ true = (rw p at t) in cc))

-- a held key lies in the range, and up to the last row where the range is full
pub held_inside : (read : RangeRead) (key : List ℕ) → range_holds read key ≡ true → is_inside read.lo read.hi key ≡ true
held_inside read key h = first (is_inside read.lo read.hi key) (cond (length read.rows == read.limit) (is_up_to_last read.rows key) true) h
  where
    first : (a b : Bool) → (a && b) ≡ true → a ≡ true
    first true b h = refl
    first false b h = h

pub inside_from : (lo hi key : List ℕ) → is_inside lo hi key ≡ true → is_ge (key_cmp key lo) ≡ true
inside_from lo hi key h = first (is_ge (key_cmp key lo)) (Rattle.std.specs.Ordering.is_lt (key_cmp key hi)) h
  where
    first : (a b : Bool) → (a && b) ≡ true → a ≡ true
    first true b h = refl
    first false b h = h

pub inside_until : (lo hi key : List ℕ) → is_inside lo hi key ≡ true → is_le (key_cmp key hi) ≡ true
inside_until lo hi key h = by_place (is_le (key_cmp key hi) ≡ true) key hi
    (λ e. rw e refl)
    (λ e. rw e refl)
    (λ e. absurd (let f : false ≡ true = second (is_ge (key_cmp key lo)) ∙ (rw e at h) in cc))
  where
    second : (a : Bool) → false ≡ (a && false)
    second true = refl
    second false = refl

pub held_up_to : (read : RangeRead) (key : List ℕ) → (length read.rows == read.limit) ≡ true → range_holds read key ≡ true → is_up_to_last read.rows key ≡ true
held_up_to read key full h = second (is_inside read.lo read.hi key) (length read.rows == read.limit) (is_up_to_last read.rows key) full h
  where
    second : (a b d : Bool) → b ≡ true → (a && cond b d true) ≡ true → d ≡ true
    second true true d f h = h
    second true false d f h = absurd (let e : false ≡ true = f in cc)
    second false b d f h = absurd (let e : false ≡ true = h in cc)

pub held_last : (read : RangeRead) (key : List ℕ) (last : Row) → (length read.rows == read.limit) ≡ true → Some last ≡ slice_get read.rows (length read.rows - 1) → range_holds read key ≡ true → is_le (key_cmp key last.key) ≡ true
held_last read key last full at h = sym (up_to_last_at read.rows last key at) ∙ held_up_to read key full h

pub held_nothing : {P : Type 0} (read : RangeRead) (key : List ℕ) → (length read.rows == read.limit) ≡ true → None ≡ slice_get read.rows (length read.rows - 1) → range_holds read key ≡ true → P
held_nothing read key full at h = none read.rows at (held_up_to read key full h)
  where
    last_there : (row : Row) (rows : List Row) → None ≡ slice_get (row ∷ rows) (length rows) → ⊥
    last_there row [] e = let f : None ≡ Some row = e in cc
    last_there row (next ∷ rows) e = last_there next rows e

    none : {P : Type 0} (rows : List Row) → None ≡ slice_get rows (length rows - 1) → is_up_to_last rows key ≡ true → P
    none [] e t = absurd (let f : false ≡ true = t in cc)
    none (row ∷ rows) e t = let n : length (row ∷ rows) - 1 ≡ length rows = omega arith in absurd (last_there row rows (e ∙ ap (slice_get (row ∷ rows)) n))
