-- Loops over the items of a list, read and written.
use Rattle.std.proofs.Common.{◌≡◌, ℕ, zero, suc, ◌+◌, ◌-◌, ◌<◌, ◌≤◌, Bool, true, false, List, [], ◌∷◌, ◌++◌, length, get_or, take, Option, Some, None, Result, Ok, Err, refl, sym, ap, subst, ◌∙◌, append_assoc, arith}
use Rattle.std.specs.Prelude.{IfSome}
use Rattle.std.proofs.lemmas.List.{append-nil}
use Rattle.fs_base.specs.Gives.{◌>>=◌}
use Rattle.byte_fields.specs.Forms.{Form, reads_items, spelled_items}

abbrev pub last_of : {X : Type 0} → List X → Option X
last_of [] = None
last_of (x ∷ []) = Some x
last_of (x ∷ y ∷ ys) = last_of (y ∷ ys)

pub last_added : {X : Type 0} (xs : List X) (x : X) → last_of (xs ++ x ∷ []) ≡ Some x
last_added [] x = refl
last_added (y ∷ []) x = refl
last_added (y ∷ z ∷ zs) x = last_added (z ∷ zs) x

-- what was read before, and what is still read
abbrev pub behind : {X : Type 0} → List X → Result (List X × List ℕ) ℕ → Result (List X × List ℕ) ℕ
behind items (Ok (xs, rest)) = Ok (items ++ xs, rest)
behind items (Err left) = Err left

regroup : {X : Type 0} (items : List X) (x : X) (r : Result (List X × List ℕ) ℕ) → behind items (r >>= λ (ys, end). Ok (x ∷ ys, end)) ≡ behind (items ++ x ∷ []) r
regroup {X} items x (Ok (ys, end)) = ap (λ (zs : List X). let r : Result (List X × List ℕ) ℕ = Ok (zs, end) in r) (simp append_assoc)
regroup items x (Err left) = refl

abbrev step : {X : Type 0} → Form X → (Option X → X → Bool) → Option X → ℕ → List ℕ → Result (List X × List ℕ) ℕ
step form follows before n bytes = reads_items form follows before (suc n) bytes

pub items_more : {X : Type 0} (form : Form X) (follows : Option X → X → Bool) (items : List X) (i n : ℕ) (bytes rest : List ℕ) (x : X) (total : Result (List X × List ℕ) ℕ) → i < n → form.reads bytes ≡ Ok (x, rest) → follows (last_of items) x ≡ true
    → behind items (reads_items form follows (last_of items) (n - i) bytes) ≡ total → behind (items ++ x ∷ []) (reads_items form follows (last_of (items ++ x ∷ [])) (n - (i + 1)) rest) ≡ total
items_more {X} form follows items i n bytes rest x total lt reads may so_far =
    let one : n - i ≡ suc (n - (i + 1)) = omega arith in
    let here : behind items (step form follows (last_of items) (n - (i + 1)) bytes) ≡ total = subst (λ k. behind items (reads_items form follows (last_of items) k bytes) ≡ total) one so_far in
    let read : step form follows (last_of items) (n - (i + 1)) bytes ≡ (reads_items form follows (Some x) (n - (i + 1)) rest >>= λ (ys, end). Ok (x ∷ ys, end)) = rw (reads, may) refl in
    rw (last_added items x) (sym (regroup items x (reads_items form follows (Some x) (n - (i + 1)) rest)) ∙ (ap (behind items) (sym read) ∙ here))

pub items_refused : {X : Type 0} (form : Form X) (follows : Option X → X → Bool) (items : List X) (i n : ℕ) (bytes : List ℕ) (why : Option ℕ) (total : Result (List X × List ℕ) ℕ) → i < n → IfSome why (λ left. form.reads bytes ≡ Err left)
    → behind items (reads_items form follows (last_of items) (n - i) bytes) ≡ total → IfSome why (λ left. total ≡ Err left)
items_refused form follows items i n bytes None total lt reads so_far = tt
items_refused form follows items i n bytes (Some left) total lt reads so_far =
    let one : n - i ≡ suc (n - (i + 1)) = omega arith in
    let read : step form follows (last_of items) (n - (i + 1)) bytes ≡ Err left = rw reads refl in
    sym so_far ∙ (ap (λ k. behind items (reads_items form follows (last_of items) k bytes)) one ∙ ap (behind items) read)

pub items_break : {X : Type 0} (form : Form X) (follows : Option X → X → Bool) (items : List X) (i n : ℕ) (bytes rest : List ℕ) (x : X) (total : Result (List X × List ℕ) ℕ) → i < n → form.reads bytes ≡ Ok (x, rest) → follows (last_of items) x ≡ false
    → behind items (reads_items form follows (last_of items) (n - i) bytes) ≡ total → total ≡ Err (length bytes)
items_break form follows items i n bytes rest x total lt reads may so_far =
    let one : n - i ≡ suc (n - (i + 1)) = omega arith in
    let read : step form follows (last_of items) (n - (i + 1)) bytes ≡ Err (length bytes) = rw (reads, may) refl in
    sym so_far ∙ (ap (λ k. behind items (reads_items form follows (last_of items) k bytes)) one ∙ ap (behind items) read)

pub items_done : {X : Type 0} (form : Form X) (follows : Option X → X → Bool) (items : List X) (i n : ℕ) (bytes : List ℕ) (total : Result (List X × List ℕ) ℕ) → n ≤ i
    → behind items (reads_items form follows (last_of items) (n - i) bytes) ≡ total → total ≡ Ok (items, bytes)
items_done {X} form follows items i n bytes total le so_far =
    let none : n - i ≡ 0 = omega arith in
    sym so_far ∙ (ap (λ k. behind items (reads_items form follows (last_of items) k bytes)) none ∙ ap (λ (zs : List X). let r : Result (List X × List ℕ) ℕ = Ok (zs, bytes) in r) (append-nil items))

pub spelled_more : {X : Type 0} (form : Form X) (xs : List X) (i : ℕ) (d : X) → i < length xs → spelled_items form (take (i + 1) xs) ≡ spelled_items form (take i xs) ++ form.spelled (get_or xs i d)
spelled_more form [] i d lt = absurd (omega arith)
spelled_more form (x ∷ xs) zero d lt = append-nil (form.spelled x)
spelled_more {X} form (x ∷ xs) (suc i) d lt =
    let one : suc i + 1 ≡ suc (i + 1) = omega arith in
    ap (λ k. spelled_items form (take k (x ∷ xs))) one ∙ (ap (λ r. form.spelled x ++ r) (spelled_more form xs i d (omega arith)) ∙ sym (append_assoc (form.spelled x) (spelled_items form (take i xs)) (form.spelled (get_or xs i d))))

behind_none : {X : Type 0} (r : Result (List X × List ℕ) ℕ) → behind [] r ≡ r
behind_none (Ok (xs, rest)) = refl
behind_none (Err left) = refl

pub items_first : {X : Type 0} (form : Form X) (follows : Option X → X → Bool) (n : ℕ) (bytes : List ℕ) → behind [] (reads_items form follows None (n - 0) bytes) ≡ reads_items form follows None n bytes
items_first form follows n bytes =
    let all : n - 0 ≡ n = omega arith in
    behind_none (reads_items form follows None (n - 0) bytes) ∙ ap (λ k. reads_items form follows None k bytes) all

pub written_more : {X : Type 0} (form : Form X) (xs : List X) (i : ℕ) (x d : X) → i < length xs → x ≡ get_or xs i d → (start before after : List ℕ) → before ≡ start ++ spelled_items form (take i xs) → after ≡ before ++ form.spelled x → after ≡ start ++ spelled_items form (take (i + 1) xs)
written_more form xs i x d lt e start before after so_far more =
    more ∙ (ap (λ s. s ++ form.spelled x) so_far ∙ (append_assoc start (spelled_items form (take i xs)) (form.spelled x) ∙ ap (λ s. start ++ s) (ap (λ y. spelled_items form (take i xs) ++ form.spelled y) e ∙ sym (spelled_more form xs i d lt))))
