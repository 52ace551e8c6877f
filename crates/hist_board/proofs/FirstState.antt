-- A new board and its first pass.
use Rattle.std.proofs.Common.{◌≡◌, ℕ, zero, suc, ◌+◌, ◌*◌, ◌<◌, ◌≤◌, List, [], ◌∷◌, length, take, get_or, set, replicate, true, refl, sym, ap, ◌∙◌, subst, arith, length-set, length-take}
use Rattle.std.specs.Prelude.{slice_index, is_some}
use Rattle.std.proofs.Math.Seq.{get_or-set_same, get_or-set_other}
use mathlib.Core.Option.{some, some-injective}
use native.Mathlib.Decide.{ℕ_discrete}
use lib.ListN.{get_elem?, length-map}
use Rattle.atomic_table.proofs.Lists.{at_index}
use Rattle.hist_board.specs.Rule.{frame_of, first_view}
use Rattle.hist_board.specs.Passes.{AtRest, Counts, FirstWords}
use Rattle.hist_board.proofs.Lanes.{within}
use Rattle.hist_board.proofs.Ends.{get_or_map, some_at}

pub zeros : (n k : ℕ) → let none_yet : ℕ = 0 in get_or (replicate n none_yet) k 0 ≡ 0
zeros zero k = refl
zeros (suc n) zero = refl
zeros (suc n) (suc k) = zeros n k

at_take : (n : ℕ) (l : List ℕ) (k : ℕ) → k < n → get_or (take n l) k 0 ≡ get_or l k 0
at_take zero l k h = absurd (omega arith)
at_take (suc n) [] k h = refl
at_take (suc n) (x ∷ xs) zero h = refl
at_take (suc n) (x ∷ xs) (suc k) h = at_take n xs k (omega arith)

module _ {S I : Type 0} (hist : S → List I) where
  abbrev Below : List S → List ℕ → List ℕ → ℕ → Type 0
  Below objects words lengths i = (o : ℕ) (x : S) → o < i → get_elem? objects o ≡ some x →
      (get_or words (3 * o + 2) 0 ≡ length (hist x)) × (get_or lengths o 0 ≡ length (hist x))

  abbrev Zeros : List ℕ → Type 0
  Zeros words = ((o : ℕ) → get_or words (3 * o) 0 ≡ 0) × ((o : ℕ) → get_or words (3 * o + 1) 0 ≡ 0)

  pub more_words : (objects : List S) (words lengths : List ℕ) (i n : ℕ) (a : S) → i < 17 → length words ≡ 51
      → length lengths ≡ 17 → Zeros words → Below objects words lengths i → i < length objects
      → a ≡ get_or objects i a → n ≡ length (hist a)
      → (length (set words (3 * i + 2) n) ≡ 51) × (length (set lengths i n) ≡ 17)
      × ((o : ℕ) → get_or (set words (3 * i + 2) n) (3 * o) 0 ≡ 0)
      × ((o : ℕ) → get_or (set words (3 * i + 2) n) (3 * o + 1) 0 ≡ 0) × Below objects
      (set words (3 * i + 2) n) (set lengths i n) (i + 1)
  more_words objects words lengths i n a few long sized zero_at below near is len = (
    length-set words (3 * i + 2) n ∙ long,
    length-set lengths i n ∙ sized,
    (λ o. get_or-set_other words (3 * i + 2) (3 * o) n 0 (omega arith) ∙ zero_at.0 o),
    (λ o. get_or-set_other words (3 * i + 2) (3 * o + 1) n 0 (omega arith) ∙ zero_at.1 o),
    (λ o x lt e. decided o x lt e (ℕ_discrete o i)),
  )
    where
      decided : (o : ℕ) (x : S) → o < i + 1 → get_elem? objects o ≡ some x → Dec (o ≡ i)
          → (get_or (set words (3 * i + 2) n) (3 * o + 2) 0 ≡ length (hist x))
          × (get_or (set lengths i n) o 0 ≡ length (hist x))
      decided o x lt e (yes y) = let same : a ≡ x = some-injective a x (sym (at_index objects i a near is) ∙ subst (λ (k : ℕ). get_elem? objects k ≡ some x) y e) in
          let m : n ≡ length (hist x) = len ∙ ap (λ (z : S). length (hist z)) same in
          subst (λ (k : ℕ). (get_or (set words (3 * i + 2) n) (3 * k + 2) 0 ≡ length (hist x))
          × (get_or (set lengths i n) k 0 ≡ length (hist x))) (sym y) (
            get_or-set_same words (3 * i + 2) n 0 (omega arith) ∙ m,
            get_or-set_same lengths i n 0
                (omega arith) ∙ m,
          )
      decided o x lt e (no d) = let old = below o x (omega arith) e in (
        get_or-set_other words (3 * i + 2) (3 * o + 2) n 0 (omega arith)
            ∙ old.0,
        get_or-set_other lengths i o n 0 d ∙ old.1,
      )

  pub first_words_of : (objects : List S) (words : List ℕ) (n : ℕ) → n ≡ length objects → n ≤ 17
      → length words ≡ 51
      → ((o : ℕ) (x : S) → get_elem? objects o ≡ some x → (slice_index words (3 * o) ≡ 0)
      × (slice_index words (3 * o + 1) ≡ 0) × (slice_index words (3 * o + 2) ≡ length (hist x)))
      → FirstWords hist objects (take (3 * n) words)
  first_words_of objects words n is few long each = (
    (let l = length-take (3 * n) words in omega arith),
    λ o x e. let w = within objects o x e in let r = each o x e in (
      at_take (3 * n) words (3 * o) (omega arith) ∙ r.0,
      at_take (3 * n) words (3 * o + 1) (omega arith) ∙ r.1,
      at_take (3 * n) words (3 * o + 2) (omega arith) ∙ r.2,
    ),
  )

module _ {S I F : Type 0} (hist : S → List I) (frame : S → F) (kind : S → ℕ) where
  named : (objects : List S) → 0 < length objects → is_some (frame_of frame objects) ≡ true
  named [] h = absurd (omega arith)
  named (x ∷ xs) h = refl

  pub first_rests : (objects : List S) (words : ℕ) → words ≡ 3 * length objects → 0 < length objects
      → length objects ≤ 17 → AtRest {S = S} words (first_view hist frame kind objects, [])
  first_rests objects words is many few = let n = length-map objects kind in let m = length-map objects hist in
      record {
        words_are = omega arith;
        none_out = refl;
        live = named objects many;
        no_turns = refl;
        some_object = omega arith;
        few = omega arith;
        places = m ∙ sym n;
        told = refl;
      }

  pub first_counts : (objects : List S) (lengths : List ℕ)
      → ((o : ℕ) (x : S) → get_elem? objects o ≡ some x → slice_index lengths o ≡ length (hist x))
      → Counts lengths (first_view hist frame kind objects)
  first_counts objects lengths each o lt = let n = length-map objects kind in
      let it = some_at objects o (omega arith) in
      each o it.0 it.1 ∙ ap (λ (l : List I). length l) (sym (get_or_map hist objects o it.0 [] it.1))
