-- Runs in row are the fewest that have their bytes.
use Rattle.std.proofs.Common.{◌≡◌, ◌≢◌, inl, inr, ℕ, zero, suc, ◌+◌, ◌-◌, ◌<◌, ◌≤◌, List, [], ◌∷◌, ◌++◌, length, drop, replicate, Option, Some, None, refl, sym, ap, subst, ◌∙◌, arith}
use Rattle.std.proofs.lemmas.Bool.{cases_eq, cases_lt}
use Rattle.std.proofs.lemmas.List.{drop-replicate, length-replicate}
use Rattle.chunk_node.specs.declared.runs.Run.{Run}
use Rattle.chunk_node.specs.Reading.{run_bytes, InRow}
use Rattle.chunk_node.proofs.Joins.{run_length}
use Rattle.chunk_node.proofs.Parts.{drop_parts}

abbrev first : List ℕ → Option ℕ
first [] = None
first (x ∷ xs) = Some x

first_equal : (n f : ℕ) (xs : List ℕ) → n ≢ 0 → first (replicate n f ++ xs) ≡ Some f
first_equal zero f xs some = absurd (some refl)
first_equal (suc n) f xs some = refl

same_fill : (m n : ℕ) → Some m ≡ Some n → m ≡ n
same_fill m n e = cc

behind : (k m f : ℕ) (xs : List ℕ) → drop k (replicate m f ++ xs) ≡ replicate (m - k) f ++ drop (k - m) xs
behind k m f xs =
    drop_parts k (replicate m f) xs ∙ ap (λ (bs : List ℕ). bs ++ drop (k - length (replicate m f)) xs) (drop-replicate k m f)
    ∙ ap (λ n. replicate (m - k) f ++ drop (k - n) xs) (length-replicate m f)

-- two beginnings of equal bytes, the first of them at most as long as the second
shortened : (k m f g : ℕ) (xs ys : List ℕ) → k ≤ m → replicate k f ++ xs ≡ replicate m g ++ ys → xs ≡ replicate (m - k) g ++ ys
shortened k m f g xs ys l e =
    let own : k - k ≡ 0 = omega arith in
    let less : k - m ≡ 0 = omega arith in
    sym (behind k k f xs ∙ ap (λ n. replicate n f ++ drop n xs) own) ∙ ap (drop k) e ∙ behind k m g ys ∙ ap (λ n. replicate (m - k) g ++ drop n ys) less

abbrev IsLeast : List Run → Type 0
IsLeast others = (from : ℕ) (runs : List Run) → InRow from runs → run_bytes others ≡ run_bytes runs → length runs ≤ length others

-- one more of the others
module _ (o : Run) (others : List Run) (so_far : IsLeast others) (from : ℕ) (r : Run) where
  -- it ends within the first run
  ends_within : (runs : List Run) → InRow from (r ∷ runs) → o.len < r.len → run_bytes (o ∷ others) ≡ run_bytes (r ∷ runs) → length (r ∷ runs) ≤ length (o ∷ others)
  ends_within runs row less e =
      let l : length (record { offset = from + o.len; len = r.len - o.len; fill = r.fill } ∷ runs) ≤ length others
      = so_far (from + o.len) (record { offset = from + o.len; len = r.len - o.len; fill = r.fill } ∷ runs) (refl, omega arith, row.2, subst (λ n. InRow n runs) (omega arith) row.3)
      (shortened o.len r.len o.fill r.fill (run_bytes others) (run_bytes runs) (omega arith) e) in
      omega arith

  -- it doesn't: the run behind is of another value, so it ends with the first
  ends_with : (runs : List Run) → InRow from (r ∷ runs) → r.len ≤ o.len → run_bytes (o ∷ others) ≡ run_bytes (r ∷ runs) → length (r ∷ runs) ≤ length (o ∷ others)
  ends_with [] row more e = omega arith
  ends_with (s ∷ runs) row more e =
      let some : 1 ≤ r.len = row.1 in
      let next : 1 ≤ s.len = row.3.1 in
      let left : run_bytes (s ∷ runs) ≡ replicate (o.len - r.len) o.fill ++ run_bytes others = shortened r.len o.len r.fill o.fill (run_bytes (s ∷ runs)) (run_bytes others) more (sym e) in
      elim (cases_eq (o.len - r.len) 0) [
        | inl none ↦
            (let l : length (s ∷ runs) ≤ length others = so_far (from + r.len) (s ∷ runs) row.3 (sym (left ∙ ap (λ n. replicate n o.fill ++ run_bytes others) none)) in omega arith)
        | inr over ↦ absurd (row.2 (same_fill r.fill s.fill
            (sym (first_equal r.len r.fill (run_bytes (s ∷ runs)) (λ z. omega (arith, z))) ∙ ap first (sym e) ∙ first_equal o.len o.fill (run_bytes others) (λ z. omega (arith, z))
            ∙ sym (first_equal (o.len - r.len) o.fill (run_bytes others) over) ∙ ap first (sym left) ∙ first_equal s.len s.fill (run_bytes runs) (λ z. omega (arith, z)))))
      ]

  one_more : (runs : List Run) → InRow from (r ∷ runs) → run_bytes (o ∷ others) ≡ run_bytes (r ∷ runs) → length (r ∷ runs) ≤ length (o ∷ others)
  one_more runs row e = elim (cases_lt o.len r.len) [
    | inl less ↦ ends_within runs row less e
    | inr more ↦ ends_with runs row more e
  ]

pub least : (others : List Run) → IsLeast others
least [] from [] row e = omega arith
least [] from (r ∷ runs) row e = absurd (let some : 1 ≤ r.len = row.1 in let none : length (run_bytes []) ≡ length (run_bytes (r ∷ runs)) = ap length e in omega (arith, run_length r runs, none))
least (o ∷ others) from [] row e = omega arith
least (o ∷ others) from (r ∷ runs) row e = one_more o others (least others) from r runs row e
