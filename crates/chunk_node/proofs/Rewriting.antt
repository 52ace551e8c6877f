-- A chunk's runs after a change: those before, new ones, and those behind.
use Rattle.std.proofs.Common.{◌≡◌, inl, inr, ℕ, ◌+◌, ◌-◌, min, List, [], ◌++◌, length, take, drop, replicate, sym, ap, subst, ◌∙◌, arith, append_assoc}
use Rattle.std.proofs.lemmas.Bool.{cases_eq}
use Rattle.std.proofs.lemmas.List.{append-nil, drop_all, take_min}
use Rattle.chunk_node.specs.declared.runs.Run.{Run}
use Rattle.chunk_node.specs.Chunks.{overwritten, resized}
use Rattle.chunk_node.specs.Reading.{run_bytes, BeginsApart, InRow, AreRuns}
use Rattle.chunk_node.specs.Joining.{GoesOn, ended_runs, bytes_so_far, IsJoined, IsFront, IsRest}
use Rattle.chunk_node.proofs.Joins.{run_bytes-append, ended_bytes, ended_behind, ended_row}
use Rattle.chunk_node.proofs.Parts.{take_padded}

-- what was ended between those before and those behind
module _ (before new behind : List Run) (run : Run) where
  between : before ++ ended_runs new run ++ behind ≡ ended_runs (before ++ new) run ++ behind
  between = ap (λ (xs : List Run). xs ++ behind) (ended_behind before new run)

  pub between_bytes : run_bytes (before ++ ended_runs new run ++ behind) ≡ bytes_so_far (before ++ new) run ++ run_bytes behind
  between_bytes = ap run_bytes between ∙ run_bytes-append (ended_runs (before ++ new) run) behind ∙ ap (λ (bs : List ℕ). bs ++ run_bytes behind) (ended_bytes (before ++ new) run)

  pub between_row : GoesOn 0 (before ++ new) run → BeginsApart run.fill behind → InRow (run.offset + run.len) behind → InRow 0 (before ++ ended_runs new run ++ behind)
  between_row goes apart row = subst (InRow 0) (sym between) (ended_row 0 (before ++ new) run behind goes apart row)

-- the first bytes, with zeros up to a place
padded : (runs : List Run) (place n : ℕ) (first : Run) (start : ℕ) → start ≡ min place (length (run_bytes runs)) → IsFront runs start n first → (new : List Run) (next : Run) → IsJoined [] first (place - start) 0 new next
    → GoesOn 0 (take n runs ++ new) next × (bytes_so_far (take n runs ++ new) next ≡ take place (run_bytes runs ++ replicate place 0))
padded runs place n first start is f new next j = (
  j.goes (take n runs) 0 (subst (λ (xs : List Run). GoesOn 0 xs first) (sym (append-nil (take n runs))) f.goes),
  j.bytes (take n runs) ∙ ap (λ (xs : List Run). bytes_so_far xs first ++ replicate (place - start) 0) (append-nil (take n runs))
      ∙ ap (λ (bs : List ℕ). bs ++ replicate (place - start) 0) (f.bytes ∙ ap (λ k. take k (run_bytes runs)) is ∙ take_min place (run_bytes runs))
      ∙ ap (λ k. take place (run_bytes runs) ++ replicate k 0) gap
      ∙ sym (take_padded place place (run_bytes runs) (omega arith)),
)
  where
    gap : place - start ≡ place - length (run_bytes runs)
    gap = omega (arith, is)

-- ---- a range of one value

module _ (runs : List Run) (offset len fill start n m : ℕ) (first last : Run) (is : start ≡ min offset (length (run_bytes runs))) (f : IsFront runs start n first) (r : IsRest runs (offset + len) m last)
    (p q s : List Run) (second third whole : Run) (gap : IsJoined [] first (offset - start) 0 p second) (range : IsJoined p second len fill q third) (rest : IsJoined q third last.len last.fill s whole)
    (ends : whole.offset + whole.len ≡ offset + len + last.len) where
  overwritten_apart : BeginsApart whole.fill (drop m runs)
  overwritten_apart = elim (cases_eq last.len 0) [
    | inl none ↦ subst (BeginsApart whole.fill) (sym (drop_all m runs (omega (arith, r.over none)))) tt
    | inr some ↦ subst (λ k. BeginsApart k (drop m runs)) (sym (rest.last some)) r.apart
  ]

  pub overwritten_runs : AreRuns (overwritten (run_bytes runs) offset len fill) 0 (take n runs ++ ended_runs s whole ++ drop m runs)
  unfolding overwritten
  overwritten_runs =
      let begin = padded runs offset n first start is f p second gap in
      let bytes : bytes_so_far (take n runs ++ s) whole ≡ ((take offset (run_bytes runs ++ replicate offset 0) ++ replicate len fill) ++ replicate last.len last.fill)
      = rest.bytes (take n runs) ∙ ap (λ (bs : List ℕ). bs ++ replicate last.len last.fill) (range.bytes (take n runs) ∙ ap (λ (bs : List ℕ). bs ++ replicate len fill) begin.1) in (
        between_bytes (take n runs) s (drop m runs) whole ∙ ap (λ (bs : List ℕ). bs ++ run_bytes (drop m runs)) bytes
            ∙ append_assoc (take offset (run_bytes runs ++ replicate offset 0) ++ replicate len fill) (replicate last.len last.fill) (run_bytes (drop m runs))
            ∙ ap (λ (bs : List ℕ). (take offset (run_bytes runs ++ replicate offset 0) ++ replicate len fill) ++ bs) r.bytes,
        between_row (take n runs) s (drop m runs) whole (rest.goes (take n runs) 0 (range.goes (take n runs) 0 begin.0)) overwritten_apart (subst (λ k. InRow k (drop m runs)) (sym ends) r.row),
      )

-- ---- a length

pub resized_runs : (runs : List Run) (size start n m : ℕ) (first : Run) → start ≡ min size (length (run_bytes runs)) → IsFront runs start n first → m ≡ length runs
    → (new : List Run) (whole : Run) → IsJoined [] first (size - start) 0 new whole → AreRuns (resized (run_bytes runs) size) 0 (take n runs ++ ended_runs new whole ++ drop m runs)
unfolding resized
resized_runs runs size start n m first is f all new whole gap =
    let begin = padded runs size n first start is f new whole gap in
    let none : drop m runs ≡ [] = drop_all m runs (omega (arith, all)) in (
      between_bytes (take n runs) new (drop m runs) whole ∙ ap (λ (xs : List Run). bytes_so_far (take n runs ++ new) whole ++ run_bytes xs) none
          ∙ append-nil (bytes_so_far (take n runs ++ new) whole) ∙ begin.1,
      between_row (take n runs) new (drop m runs) whole begin.0 (subst (BeginsApart whole.fill) (sym none) tt) (subst (InRow (whole.offset + whole.len)) (sym none) tt),
    )
