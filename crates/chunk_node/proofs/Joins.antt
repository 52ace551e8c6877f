-- Runs in row, one after another.
use Rattle.std.proofs.Common.{◌≡◌, ◌≢◌, ℕ, ◌+◌, ◌≤◌, Bool, true, false, cond, List, [], ◌∷◌, ◌++◌, length, replicate, refl, sym, ap, subst, ◌∙◌, arith, append_assoc}
use Rattle.std.specs.Prelude.{nat_lt}
use Rattle.std.proofs.lemmas.Bool.{ltb-true, ltb-false}
use Rattle.std.proofs.lemmas.List.{append-nil, length-append, length-replicate, replicate-append-replicate}
use Rattle.chunk_node.specs.declared.runs.Run.{Run}
use Rattle.chunk_node.specs.Reading.{run_bytes, BeginsApart, InRow}
use Rattle.chunk_node.specs.Joining.{EndsApart, GoesOn, ended_runs, bytes_so_far, IsJoined}

pub run_bytes-append : (xs ys : List Run) → run_bytes (xs ++ ys) ≡ run_bytes xs ++ run_bytes ys
run_bytes-append [] ys = refl
run_bytes-append (x ∷ xs) ys = ap (λ (bs : List ℕ). replicate x.len x.fill ++ bs) (run_bytes-append xs ys) ∙ sym (append_assoc (replicate x.len x.fill) (run_bytes xs) (run_bytes ys))

pub run_bytes-push : (xs : List Run) (r : Run) → run_bytes (xs ++ r ∷ []) ≡ run_bytes xs ++ replicate r.len r.fill
run_bytes-push xs r = run_bytes-append xs (r ∷ []) ∙ ap (λ (bs : List ℕ). run_bytes xs ++ bs) (append-nil (replicate r.len r.fill))

pub run_length : (r : Run) (xs : List Run) → length (run_bytes (r ∷ xs)) ≡ r.len + length (run_bytes xs)
run_length r xs = length-append (replicate r.len r.fill) (run_bytes xs) ∙ ap (λ n. n + length (run_bytes xs)) (length-replicate r.len r.fill)

-- a run between two lists that are in row
in_row-between : (from : ℕ) (xs : List Run) (r : Run) (ys : List Run) → InRow from xs → EndsApart xs r.fill → r.offset ≡ from + length (run_bytes xs) → 1 ≤ r.len
    → BeginsApart r.fill ys → InRow (r.offset + r.len) ys → InRow from (xs ++ r ∷ ys)
in_row-between from [] r ys row apart at some begins after =
    let here : r.offset ≡ from = omega (arith, at) in
    (here, some, begins, subst (λ n. InRow (n + r.len) ys) here after)
in_row-between from (x ∷ []) r ys row apart at some begins after =
    (row.0, row.1, apart, in_row-between (from + x.len) [] r ys tt tt (omega (arith, at, run_length x [])) some begins after)
in_row-between from (x ∷ y ∷ xs) r ys row apart at some begins after =
    (row.0, row.1, row.2, in_row-between (from + x.len) (y ∷ xs) r ys row.3 apart (omega (arith, at, run_length x (y ∷ xs))) some begins after)

pub in_row-push : (from : ℕ) (xs : List Run) (r : Run) → InRow from xs → EndsApart xs r.fill → r.offset ≡ from + length (run_bytes xs) → 1 ≤ r.len → InRow from (xs ++ r ∷ [])
in_row-push from xs r row apart at some = in_row-between from xs r [] row apart at some tt tt

ends_apart-push : (xs : List Run) (r : Run) (fill : ℕ) → r.fill ≢ fill → EndsApart (xs ++ r ∷ []) fill
ends_apart-push [] r fill n = n
ends_apart-push (x ∷ []) r fill n = n
ends_apart-push (x ∷ y ∷ ys) r fill n = ends_apart-push (y ∷ ys) r fill n

-- ---- so many bytes more

-- none
pub joined_none : (runs : List Run) (run : Run) (len fill : ℕ) → len ≡ 0 → IsJoined runs run len fill runs run
joined_none runs run len fill none =
    record {
      goes = λ before from h. h;
      bytes = λ before. sym (ap (λ n. bytes_so_far (before ++ runs) run ++ replicate n fill) none ∙ append-nil (bytes_so_far (before ++ runs) run));
      last = λ some. absurd (some none);
    }

-- of the same value
pub joined_same : (runs : List Run) (run : Run) (len fill : ℕ) → len ≢ 0 → run.fill ≡ fill → IsJoined runs run len fill runs (record { offset = run.offset; len = run.len + len; fill = run.fill })
joined_same runs run len fill some same =
    record {
      goes = λ before from h. record { row = h.row; apart = h.apart; at = h.at; begun = λ e. absurd (some (omega (arith, e))) };
      bytes = λ before.
          ap (λ (bs : List ℕ). run_bytes (before ++ runs) ++ bs) (sym (replicate-append-replicate run.len len run.fill))
          ∙ sym (append_assoc (run_bytes (before ++ runs)) (replicate run.len run.fill) (replicate len run.fill))
          ∙ ap (λ f. bytes_so_far (before ++ runs) run ++ replicate len f) same;
      last = λ some. same;
    }

-- of another
module _ (runs : List Run) (run : Run) (len fill : ℕ) (some : len ≢ 0) (other : run.fill ≢ fill) where
  abbrev next : Run
  next = record { offset = run.offset + run.len; len = len; fill = fill }

  other_goes : (from : ℕ) → GoesOn from runs run → GoesOn from (ended_runs runs run) next
  other_goes from h = by_length (nat_lt 0 run.len) refl
    where
      by_length : (b : Bool) → nat_lt 0 run.len ≡ b → GoesOn from (cond b (runs ++ run ∷ []) runs) next
      by_length true e =
          let begun : 1 ≤ run.len = ltb-true 0 run.len e in
          let at : run.offset ≡ from + length (run_bytes runs) = h.at in
          let long : length (run_bytes (runs ++ run ∷ [])) ≡ length (run_bytes runs) + run.len
          = ap length (run_bytes-push runs run) ∙ length-append (run_bytes runs) (replicate run.len run.fill) ∙ ap (λ n. length (run_bytes runs) + n) (length-replicate run.len run.fill) in
          record {
            row = in_row-push from runs run h.row h.apart h.at begun;
            apart = ends_apart-push runs run fill other;
            at = omega arith;
            begun = λ e. absurd (some e);
          }
      by_length false e =
          let none : run.len ≡ 0 = (let l : run.len ≤ 0 = ltb-false 0 run.len e in omega arith) in
          let at : run.offset ≡ from + length (run_bytes runs) = h.at in
          record {
            row = h.row;
            apart = subst (λ (xs : List Run). EndsApart xs fill) (sym (h.begun none)) tt;
            at = omega arith;
            begun = λ e. absurd (some e);
          }

-- what was ended has the bytes so far
pub ended_bytes : (runs : List Run) (run : Run) → run_bytes (ended_runs runs run) ≡ bytes_so_far runs run
ended_bytes runs run = by_length (nat_lt 0 run.len) refl
  where
    by_length : (b : Bool) → nat_lt 0 run.len ≡ b → run_bytes (cond b (runs ++ run ∷ []) runs) ≡ bytes_so_far runs run
    by_length true e = run_bytes-push runs run
    by_length false e =
        let none : run.len ≡ 0 = (let l : run.len ≤ 0 = ltb-false 0 run.len e in omega arith) in
        sym (ap (λ n. run_bytes runs ++ replicate n run.fill) none ∙ append-nil (run_bytes runs))

pub ended_behind : (before runs : List Run) (run : Run) → before ++ ended_runs runs run ≡ ended_runs (before ++ runs) run
ended_behind before runs run = by_length (nat_lt 0 run.len)
  where
    by_length : (b : Bool) → before ++ cond b (runs ++ run ∷ []) runs ≡ cond b ((before ++ runs) ++ run ∷ []) (before ++ runs)
    by_length true = sym (append_assoc before runs (run ∷ []))
    by_length false = refl

pub joined_other : (runs : List Run) (run : Run) (len fill : ℕ) → len ≢ 0 → run.fill ≢ fill
    → IsJoined runs run len fill (ended_runs runs run) (record { offset = run.offset + run.len; len = len; fill = fill })
joined_other runs run len fill some other =
    record {
      goes = λ before from h. subst (λ (xs : List Run). GoesOn from xs (record { offset = run.offset + run.len; len = len; fill = fill })) (sym (ended_behind before runs run)) (other_goes (before ++ runs) run len fill some other from h);
      bytes = λ before. ap (λ (xs : List Run). run_bytes xs ++ replicate len fill) (ended_behind before runs run) ∙ ap (λ (bs : List ℕ). bs ++ replicate len fill) (ended_bytes (before ++ runs) run);
      last = λ some. refl;
    }

-- ---- all of them

-- the run ended, with others behind it
pub ended_row : (from : ℕ) (runs : List Run) (run : Run) (rest : List Run) → GoesOn from runs run → BeginsApart run.fill rest → InRow (run.offset + run.len) rest → InRow from (ended_runs runs run ++ rest)
ended_row from runs run rest h apart after = by_length (nat_lt 0 run.len) refl
  where
    by_length : (b : Bool) → nat_lt 0 run.len ≡ b → InRow from (cond b (runs ++ run ∷ []) runs ++ rest)
    by_length true e = subst (InRow from) (sym (append_assoc runs (run ∷ []) rest)) (in_row-between from runs run rest h.row h.apart h.at (ltb-true 0 run.len e) apart after)
    by_length false e =
        let none : run.len ≡ 0 = (let l : run.len ≤ 0 = ltb-false 0 run.len e in omega arith) in
        let empty : runs ≡ [] = h.begun none in
        let at : run.offset ≡ from + length (run_bytes runs) = h.at in
        let first : run.offset ≡ from = (let l : length (run_bytes runs) ≡ 0 = ap (λ (xs : List Run). length (run_bytes xs)) empty in omega arith) in
        let here : run.offset + run.len ≡ from = omega arith in
        subst (λ (xs : List Run). InRow from (xs ++ rest)) (sym empty) (subst (λ n. InRow n rest) here after)
