-- Runs that are cut at a place.
use Rattle.std.proofs.Common.{◌≡◌, inl, inr, ℕ, zero, suc, ◌+◌, ◌-◌, ◌<◌, ◌≤◌, min, true, List, [], ◌∷◌, ◌++◌, length, get_or, take, drop, replicate, refl, sym, ap, subst, ◌∙◌, arith, leb}
use Rattle.std.specs.List.Sorted.{IsNonDecreasingBy}
use Rattle.std.proofs.lemmas.Bool.{cases_lt, leb-true}
use Rattle.std.proofs.lemmas.List.{append-nil, drop_all, drop_more, drop-replicate, length-append, length-drop, length-replicate, take_all, take_more, take-append-drop}
use Rattle.chunk_node.specs.declared.runs.Run.{Run}
use Rattle.chunk_node.specs.Reading.{run_bytes, BeginsApart, InRow}
use Rattle.chunk_node.specs.Joining.{EndsApart, GoesOn, IsFront, IsRest}
use Rattle.chunk_node.proofs.Joins.{run_bytes-append, run_bytes-push, run_length}
use Rattle.chunk_node.proofs.Parts.{take_parts, drop_parts, take_equal}

-- ---- parts of runs in row

begins-take : (fill n : ℕ) (xs : List Run) → BeginsApart fill xs → BeginsApart fill (take n xs)
begins-take fill zero xs h = tt
begins-take fill (suc n) [] h = tt
begins-take fill (suc n) (x ∷ xs) h = h

in_row-take : (from n : ℕ) (xs : List Run) → InRow from xs → InRow from (take n xs)
in_row-take from zero xs row = tt
in_row-take from (suc n) [] row = tt
in_row-take from (suc n) (x ∷ xs) row = (row.0, row.1, begins-take x.fill n xs row.2, in_row-take (from + x.len) n xs row.3)

in_row-drop : (from n : ℕ) (xs : List Run) → InRow from xs → InRow (from + length (run_bytes (take n xs))) (drop n xs)
in_row-drop from zero xs row = subst (λ k. InRow k xs) (omega arith) row
in_row-drop from (suc n) [] row = tt
in_row-drop from (suc n) (x ∷ xs) row = subst (λ k. InRow k (drop n xs)) (omega (arith, run_length x (take n xs))) (in_row-drop (from + x.len) n xs row.3)

ends_apart-take : (from n : ℕ) (d : Run) (xs : List Run) → InRow from xs → n < length xs → EndsApart (take n xs) (get_or xs n d).fill
ends_apart-take from zero d xs row inside = tt
ends_apart-take from (suc n) d [] row inside = absurd (omega arith)
ends_apart-take from (suc zero) d (x ∷ []) row inside = absurd (omega arith)
ends_apart-take from (suc zero) d (x ∷ y ∷ xs) row inside = row.2
ends_apart-take from (suc (suc n)) d (x ∷ []) row inside = absurd (omega arith)
ends_apart-take from (suc (suc n)) d (x ∷ y ∷ xs) row inside = ends_apart-take (from + x.len) (suc n) d (y ∷ xs) row.3 (omega arith)

-- runs of no bytes are none
none-in_row : (from : ℕ) (xs : List Run) → InRow from xs → length (run_bytes xs) ≡ 0 → xs ≡ []
none-in_row from [] row e = refl
none-in_row from (x ∷ xs) row e = absurd (let some : 1 ≤ x.len = row.1 in omega (arith, run_length x xs))

pub whole_bytes : (n : ℕ) (xs : List Run) → run_bytes xs ≡ run_bytes (take n xs) ++ run_bytes (drop n xs)
whole_bytes n xs = sym (ap run_bytes (take-append-drop n xs)) ∙ run_bytes-append (take n xs) (drop n xs)

pub whole_length : (n : ℕ) (xs : List Run) → length (run_bytes xs) ≡ length (run_bytes (take n xs)) + length (run_bytes (drop n xs))
whole_length n xs = ap length (whole_bytes n xs) ∙ length-append (run_bytes (take n xs)) (run_bytes (drop n xs))

-- the run of this index
module _ (xs : List Run) (n : ℕ) (d : Run) (row : InRow 0 xs) (inside : n < length xs) where
  pub row_at : InRow (0 + length (run_bytes (take n xs))) (get_or xs n d ∷ drop (n + 1) xs)
  row_at = subst (InRow (0 + length (run_bytes (take n xs)))) (drop_more xs n d inside) (in_row-drop 0 n xs row)

  pub offset_at : (get_or xs n d).offset ≡ length (run_bytes (take n xs))
  offset_at = let e : (get_or xs n d).offset ≡ 0 + length (run_bytes (take n xs)) = row_at.0 in omega arith

  pub some_at : 1 ≤ (get_or xs n d).len
  some_at = row_at.1

  pub take_at : run_bytes (take (n + 1) xs) ≡ run_bytes (take n xs) ++ replicate (get_or xs n d).len (get_or xs n d).fill
  take_at = ap run_bytes (take_more xs n d inside) ∙ run_bytes-push (take n xs) (get_or xs n d)

  pub end_at : (get_or xs n d).offset + (get_or xs n d).len ≡ length (run_bytes (take (n + 1) xs))
  end_at =
      let e : (get_or xs n d).offset ≡ length (run_bytes (take n xs)) = offset_at in
      let l : length (run_bytes (take (n + 1) xs)) ≡ length (run_bytes (take n xs)) + (get_or xs n d).len
      = ap length take_at ∙ length-append (run_bytes (take n xs)) (replicate (get_or xs n d).len (get_or xs n d).fill) ∙ ap (λ k. length (run_bytes (take n xs)) + k) (length-replicate (get_or xs n d).len (get_or xs n d).fill) in
      omega arith

  pub bytes_at : run_bytes xs ≡ run_bytes (take n xs) ++ (replicate (get_or xs n d).len (get_or xs n d).fill ++ run_bytes (drop (n + 1) xs))
  bytes_at = whole_bytes n xs ∙ ap (λ (ys : List Run). run_bytes (take n xs) ++ run_bytes ys) (drop_more xs n d inside)

pub prefix_rises : (xs : List Run) (n m : ℕ) → n ≤ m → length (run_bytes (take n xs)) ≤ length (run_bytes (take m xs))
prefix_rises xs zero m l = omega arith
prefix_rises [] (suc n) m l = omega arith
prefix_rises (x ∷ xs) (suc n) zero l = absurd (omega arith)
prefix_rises (x ∷ xs) (suc n) (suc m) l =
    let r : length (run_bytes (take n xs)) ≤ length (run_bytes (take m xs)) = prefix_rises xs n m (omega arith) in
    omega (arith, run_length x (take n xs), run_length x (take m xs))

pub rising : (xs : List Run) → InRow 0 xs → IsNonDecreasingBy (λ (r : Run). r.offset + r.len) xs
rising xs row i j d l inside =
    let r : length (run_bytes (take (i + 1) xs)) ≤ length (run_bytes (take (j + 1) xs)) = prefix_rises xs (i + 1) (j + 1) (omega arith) in
    omega (arith, end_at xs i d row (omega arith), end_at xs j d row inside)

-- as many runs as end by there have no bytes behind it
pub ended_of : (xs : List Run) (at n : ℕ) → InRow 0 xs → n ≤ length xs → ((k : ℕ) (d : Run) → 0 ≤ k → k < n → leb ((get_or xs k d).offset + (get_or xs k d).len) at ≡ true) → length (run_bytes (take n xs)) ≤ at
ended_of xs at zero row within all = omega arith
ended_of xs at (suc n) row within all =
    let l : (get_or xs n (record { offset = 0; len = 0; fill = 0 })).offset + (get_or xs n (record { offset = 0; len = 0; fill = 0 })).len ≤ at = leb-true _ at (all n (record { offset = 0; len = 0; fill = 0 }) (omega arith) (omega arith)) in
    let on : n + 1 ≡ suc n = omega arith in
    let e : (get_or xs n (record { offset = 0; len = 0; fill = 0 })).offset + (get_or xs n (record { offset = 0; len = 0; fill = 0 })).len ≡ length (run_bytes (take (suc n) xs))
    = end_at xs n (record { offset = 0; len = 0; fill = 0 }) row (omega arith) ∙ ap (λ k. length (run_bytes (take k xs))) on in
    omega arith

-- ---- the first bytes

module _ (xs : List Run) (size n : ℕ) (row : InRow 0 xs) (fits : size ≤ length (run_bytes xs)) (within : n ≤ length xs) (ended : length (run_bytes (take n xs)) ≤ size - 1) where
  pub front_none : n ≡ length xs → IsFront xs size n (record { offset = 0; len = 0; fill = 0 })
  front_none all =
      let whole : length (run_bytes (take n xs)) ≡ length (run_bytes xs) = ap (λ (ys : List Run). length (run_bytes ys)) (take_all n xs (omega arith)) in
      let none : size ≡ 0 = omega arith in
      let empty : take n xs ≡ [] = none-in_row 0 (take n xs) (in_row-take 0 n xs row) (omega arith) in
      record {
        within = within;
        goes = subst (λ (ys : List Run). GoesOn 0 ys (record { offset = 0; len = 0; fill = 0 })) (sym empty) (record { row = tt; apart = tt; at = omega arith; begun = λ e. refl });
        ends = omega arith;
        bytes = ap (λ (ys : List Run). run_bytes ys ++ []) empty ∙ sym (ap (λ k. take k (run_bytes xs)) none);
      }

  pub front_some : (d : Run) → n < length xs → size - 1 < (get_or xs n d).offset + (get_or xs n d).len
      → IsFront xs size n (record { offset = (get_or xs n d).offset; len = size - (get_or xs n d).offset; fill = (get_or xs n d).fill })
  front_some d inside beyond =
      let at : (get_or xs n d).offset ≡ length (run_bytes (take n xs)) = offset_at xs n d row inside in
      record {
        within = within;
        goes = record {
          row = in_row-take 0 n xs row;
          apart = ends_apart-take 0 n d xs row inside;
          at = omega arith;
          begun = λ e. none-in_row 0 (take n xs) (in_row-take 0 n xs row) (omega (arith, e));
        };
        ends = omega arith;
        bytes = sym cut;
      }
    where
      cut : take size (run_bytes xs) ≡ run_bytes (take n xs) ++ replicate (size - (get_or xs n d).offset) (get_or xs n d).fill
      cut =
          let at : (get_or xs n d).offset ≡ length (run_bytes (take n xs)) = offset_at xs n d row inside in
          let left : size - length (run_bytes (take n xs)) ≡ size - (get_or xs n d).offset = omega arith in
          let least : min (size - (get_or xs n d).offset) (get_or xs n d).len ≡ size - (get_or xs n d).offset = omega arith in
          let over : size - (get_or xs n d).offset - length (replicate (get_or xs n d).len (get_or xs n d).fill) ≡ 0 = omega (arith, length-replicate (get_or xs n d).len (get_or xs n d).fill) in
          ap (take size) (bytes_at xs n d row inside)
          ∙ take_parts size (run_bytes (take n xs)) (replicate (get_or xs n d).len (get_or xs n d).fill ++ run_bytes (drop (n + 1) xs))
          ∙ ap (λ (bs : List ℕ). bs ++ take (size - length (run_bytes (take n xs))) (replicate (get_or xs n d).len (get_or xs n d).fill ++ run_bytes (drop (n + 1) xs))) (take_all size (run_bytes (take n xs)) (omega arith))
          ∙ ap (λ k. run_bytes (take n xs) ++ take k (replicate (get_or xs n d).len (get_or xs n d).fill ++ run_bytes (drop (n + 1) xs))) left
          ∙ ap (λ (bs : List ℕ). run_bytes (take n xs) ++ bs)
          (take_parts (size - (get_or xs n d).offset) (replicate (get_or xs n d).len (get_or xs n d).fill) (run_bytes (drop (n + 1) xs))
          ∙ ap (λ k. take (size - (get_or xs n d).offset) (replicate (get_or xs n d).len (get_or xs n d).fill) ++ take k (run_bytes (drop (n + 1) xs))) over
          ∙ append-nil (take (size - (get_or xs n d).offset) (replicate (get_or xs n d).len (get_or xs n d).fill))
          ∙ take_equal (size - (get_or xs n d).offset) (get_or xs n d).len (get_or xs n d).fill
          ∙ ap (λ k. replicate k (get_or xs n d).fill) least)

-- ---- the bytes behind

pub rest_none : (xs : List Run) (size n : ℕ) → n ≡ length xs → length (run_bytes (take n xs)) ≤ size → IsRest xs size n (record { offset = size; len = 0; fill = 0 })
rest_none xs size n all ended =
    let none : drop n xs ≡ [] = drop_all n xs (omega arith) in
    let whole : length (run_bytes (take n xs)) ≡ length (run_bytes xs) = ap (λ (ys : List Run). length (run_bytes ys)) (take_all n xs (omega arith)) in
    record {
      within = omega arith;
      bytes = ap run_bytes none ∙ sym (drop_all size (run_bytes xs) (omega arith));
      row = subst (InRow (size + 0)) (sym none) tt;
      apart = subst (BeginsApart 0) (sym none) tt;
      over = λ e. all;
      past = inr all;
    }

pub rest_some : (xs : List Run) (size n : ℕ) (d : Run) → InRow 0 xs → n < length xs → length (run_bytes (take n xs)) ≤ size → size < (get_or xs n d).offset + (get_or xs n d).len
    → IsRest xs size (n + 1) (record { offset = size; len = (get_or xs n d).len - (size - (get_or xs n d).offset); fill = (get_or xs n d).fill })
rest_some xs size n d row inside ended beyond =
    let at : (get_or xs n d).offset ≡ length (run_bytes (take n xs)) = offset_at xs n d row inside in
    let left : size - length (run_bytes (take n xs)) ≡ size - (get_or xs n d).offset = omega arith in
    let over : size - (get_or xs n d).offset - length (replicate (get_or xs n d).len (get_or xs n d).fill) ≡ 0 = omega (arith, length-replicate (get_or xs n d).len (get_or xs n d).fill) in
    record {
      within = omega arith;
      bytes = sym
          (ap (drop size) (bytes_at xs n d row inside)
          ∙ drop_parts size (run_bytes (take n xs)) (replicate (get_or xs n d).len (get_or xs n d).fill ++ run_bytes (drop (n + 1) xs))
          ∙ ap (λ (bs : List ℕ). bs ++ drop (size - length (run_bytes (take n xs))) (replicate (get_or xs n d).len (get_or xs n d).fill ++ run_bytes (drop (n + 1) xs))) (drop_all size (run_bytes (take n xs)) ended)
          ∙ ap (λ k. drop k (replicate (get_or xs n d).len (get_or xs n d).fill ++ run_bytes (drop (n + 1) xs))) left
          ∙ drop_parts (size - (get_or xs n d).offset) (replicate (get_or xs n d).len (get_or xs n d).fill) (run_bytes (drop (n + 1) xs))
          ∙ ap (λ k. drop (size - (get_or xs n d).offset) (replicate (get_or xs n d).len (get_or xs n d).fill) ++ drop k (run_bytes (drop (n + 1) xs))) over
          ∙ ap (λ (bs : List ℕ). bs ++ run_bytes (drop (n + 1) xs)) (drop-replicate (size - (get_or xs n d).offset) (get_or xs n d).len (get_or xs n d).fill));
      row = subst (λ k. InRow k (drop (n + 1) xs)) (omega arith) (row_at xs n d row inside).3;
      apart = (row_at xs n d row inside).2;
      over = λ e. absurd (omega (arith, e));
      past = inl (omega (arith, end_at xs n d row inside));
    }

-- ---- a front and a rest

module _ (xs : List Run) (size n : ℕ) (first : Run) (at m : ℕ) (last : Run) (f : IsFront xs size n first) (r : IsRest xs at m last) where
  pub in_order : size ≤ at → n ≤ m
  in_order l = elim r.past [
    | inr all ↦ (let w : n ≤ length xs = f.within in omega arith)
    | inl past ↦ elim (cases_lt m n) [
      | inr after ↦ after
      | inl before ↦ absurd
          (let rise : length (run_bytes (take m xs)) ≤ length (run_bytes (take n xs)) = prefix_rises xs m n (omega arith) in
          let ends : first.offset + first.len ≡ size = f.ends in
          let begins : first.offset ≡ 0 + length (run_bytes (take n xs)) = f.goes.at in
          omega arith)
    ]
  ]

pub rest_fits : (xs : List Run) (at m : ℕ) (last : Run) → IsRest xs at m last → last.len ≤ length (run_bytes xs) - at
rest_fits xs at m last r =
    let long : last.len + length (run_bytes (drop m xs)) ≡ length (run_bytes xs) - at = sym (run_length last (drop m xs)) ∙ ap length r.bytes ∙ length-drop at (run_bytes xs) in
    omega arith
