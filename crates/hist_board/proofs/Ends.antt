-- How a board begins and ends, what a join tells, and how errands are dealt.
use Rattle.std.proofs.Common.{◌≡◌, ◌⊎◌, ℕ, zero, suc, ◌+◌, ◌*◌, ◌<◌, ◌≤◌, ◌==◌, List, [], ◌∷◌, length, map, get_or, set, Bool, true, false, not, cond, Option, refl, sym, ap, ◌∙◌, subst, ⊎_elim, inl, inr, arith, eq-eqb, ne_eqb, min, fold, filter}
use Rattle.std.specs.Prelude.{Contains, slice_index, slice_index_or, is_some}
use mathlib.Core.Option.{none, some, some-ne-none, some-injective}
use mathlib.Core.Option as maybe
use native.Mathlib.Decide.{dec_le, ℕ_discrete}
use lib.ListN.{get_elem?, length-map}
use Rattle.atomic_table.specs.Table.{State, Me, step, Allows, Splits, Joins, keeps, opening, Final, Seen}
use Rattle.atomic_table.proofs.Lists.{at_map, set_again}
use Rattle.hist_board.specs.Turn.{Turn, no_turn}
use Rattle.hist_board.specs.Rule.{Lane, LaneKept, ObjectKept, Fitted, Live, Told, turn_at, lane, told, ERRANDS, numbers_from, all_errands, frame_of, errands_under, fits_under, IsAs, IsBoard, first_view, least_errand, other_errands, handing, handed, copied, joined, spent}
use Rattle.hist_board.specs.Plays.{recalled}
use Rattle.hist_board.specs.Passes.{AllSeen, OneFrame, FirstWords}
use Rattle.hist_board.specs.declared.view.View.{View}
use Rattle.hist_board.proofs.Lanes as lanes
use Rattle.hist_board.proofs.Contained.{off, none_in_nil, contains_cons, contains_more, contains_first}
use Rattle.hist_board.proofs.Lanes.{within}
use Rattle.hist_board.proofs.Moves.{set_same, at_or, fitted, moved, same_words, none_told}
use Rattle.hist_board.proofs.Splitting.{splits}
use Rattle.hist_board.proofs.Meeting.{joins}
use Rattle.hist_board.proofs.Turning.{map_one, length_one}

module _ {A : Type 0} where
  in_if : (b : Bool) (x : A) (xs : List A) (y : A) → Contains (cond b (x ∷ xs) xs) y
      → ((b ≡ true) × (x ≡ y)) ⊎ Contains xs y
  in_if true x xs y c = ⊎_elim (λ (e : x ≡ y). inl (refl, e)) (λ (d : Contains xs y). inr d)
      (contains_cons x xs y c)
  in_if false x xs y c = inr c

  filtered : (p : A → Bool) (xs : List A) (y : A) → Contains (filter p xs) y → Contains xs y × (p y ≡ true)
  filtered p [] y c = absurd (none_in_nil y c)
  filtered p (x ∷ xs) y c =
      ⊎_elim
      (λ (e : (p x ≡ true) × (x ≡ y)). (
        subst (λ (z : A). Contains (x ∷ xs) z) e.1 (contains_first x xs),
        subst
            (λ (z : A). p z ≡ true) e.1 e.0,
      ))
      (λ (d : Contains (filter p xs) y). let r = filtered p xs y d in (contains_more x xs y r.0, r.1))
      (in_if (p x) x (filter p xs) y c)

  keeps_if : (b : Bool) (x : A) (xs : List A) (y : A) → Contains xs y → Contains (cond b (x ∷ xs) xs) y
  keeps_if true x xs y c = contains_more x xs y c
  keeps_if false x xs y c = c

  first_if : (b : Bool) (x : A) (xs : List A) → b ≡ true → Contains (cond b (x ∷ xs) xs) x
  first_if true x xs e = contains_first x xs
  first_if false x xs e = absurd (off e)

  passes_filter : (p : A → Bool) (xs : List A) (y : A) → Contains xs y → p y ≡ true → Contains (filter p xs) y
  passes_filter p [] y c e = absurd (none_in_nil y c)
  passes_filter p (x ∷ xs) y c e =
      ⊎_elim
      (λ (is : x ≡ y). subst (λ (z : A). Contains (filter p (x ∷ xs)) z) is
      (first_if (p x) x (filter p xs) (subst (λ (z : A). p z ≡ true) (sym is) e)))
      (λ (d : Contains xs y). keeps_if (p x) x (filter p xs) y (passes_filter p xs y d e))
      (contains_cons x xs y c)

-- the least of some numbers is one of them
least_in : (x : ℕ) (xs : List ℕ) → Contains (x ∷ xs) (fold min x xs)
least_in x [] = contains_first x []
least_in x (y ∷ ys) =
    ⊎_elim
    (λ (e : min x y ≡ fold min (min x y) ys). one (dec_le x y) e)
    (λ (d : Contains ys (fold min (min x y) ys)). contains_more x (y ∷ ys) _ (contains_more y ys _ d))
    (contains_cons (min x y) ys _ (least_in (min x y) ys))
  where
    one : Dec (x ≤ y) → min x y ≡ fold min (min x y) ys → Contains (x ∷ y ∷ ys) (fold min (min x y) ys)
    one (yes d) e = let m : min x y ≡ x = omega arith in
        subst (λ (z : ℕ). Contains (x ∷ y ∷ ys) z) (sym m ∙ e) (contains_first x (y ∷ ys))
    one (no d) e = let m : min x y ≡ y = omega arith in
        subst (λ (z : ℕ). Contains (x ∷ y ∷ ys) z) (sym m ∙ e)
        (contains_more x (y ∷ ys) y (contains_first y ys))

pub least_sub : (es : List ℕ) (e : ℕ) → Contains (least_errand es) e → Contains es e
least_sub [] e c = c
least_sub (x ∷ xs) e c = ⊎_elim
    (λ (is : fold min x xs ≡ e). subst (λ (z : ℕ). Contains (x ∷ xs) z) is (least_in x xs))
    (λ (d : Contains [] e). absurd (none_in_nil e d)) (contains_cons (fold min x xs) [] e c)

pub other_sub : (es : List ℕ) (e : ℕ) → Contains (other_errands es) e → Contains es e
other_sub [] e c = c
other_sub (x ∷ xs) e c = (filtered (λ y. not (y == fold min x xs)) (x ∷ xs) e c).0

not_true : (b : Bool) → not b ≡ true → b ≡ true → ⊥
not_true true n e = off n
not_true false n e = off e

pub dealt_apart : (es : List ℕ) (e : ℕ) → Contains (other_errands es) e → Contains (least_errand es) e → ⊥
dealt_apart [] e c d = none_in_nil e c
dealt_apart (x ∷ xs) e c d = ⊎_elim
    (λ (is : fold min x xs ≡ e). not_true (e == fold min x xs)
    ((filtered (λ y. not (y == fold min x xs)) (x ∷ xs) e c).1) (eq-eqb e (fold min x xs) (sym is)))
    (λ (r : Contains [] e). none_in_nil e r) (contains_cons (fold min x xs) [] e d)

pub dealt_all : (es : List ℕ) (e : ℕ) → Contains es e
    → Contains (other_errands es) e ⊎ Contains (least_errand es) e
dealt_all [] e c = inl c
dealt_all (x ∷ xs) e c = decided (ℕ_discrete e (fold min x xs))
  where
    decided : Dec (e ≡ fold min x xs)
        → Contains (other_errands (x ∷ xs)) e ⊎ Contains (least_errand (x ∷ xs)) e
    decided (yes is) = inr
        (subst (λ (z : ℕ). Contains (fold min x xs ∷ []) z) (sym is) (contains_first (fold min x xs) []))
    decided (no n) = inl
        (passes_filter (λ y. not (y == fold min x xs)) (x ∷ xs) e c (ap not (ne_eqb e (fold min x xs) n)))

in_numbers : (n a e : ℕ) → a ≤ e → e < a + n → Contains (numbers_from a n) e
unfolding numbers_from
in_numbers zero a e lo hi = absurd (omega arith)
in_numbers (suc n) a e lo hi = decided (ℕ_discrete a e) (λ lo'. in_numbers n (suc a) e lo' (omega arith))
  where
    decided : Dec (a ≡ e) → (suc a ≤ e → Contains (numbers_from (suc a) n) e)
        → Contains (a ∷ numbers_from (suc a) n) e
    decided (yes is) _ = subst (λ (z : ℕ). Contains (a ∷ numbers_from (suc a) n) z) is
        (contains_first a (numbers_from (suc a) n))
    decided (no d) later = contains_more a (numbers_from (suc a) n) e (later (omega arith))

pub in_all : (e : ℕ) → e < ERRANDS → Contains all_errands e
unfolding all_errands
in_all e lt = in_numbers ERRANDS 0 e (omega arith) (omega arith)

-- two lists of one length that agree everywhere are one
same_lists : {A : Type 0} (d : A) (xs ys : List A) → length xs ≡ length ys
    → ((i : ℕ) → i < length xs → get_or xs i d ≡ get_or ys i d) → xs ≡ ys
same_lists d [] [] e f = refl
same_lists d [] (y ∷ ys) e f = absurd (omega arith)
same_lists d (x ∷ xs) [] e f = absurd (omega arith)
same_lists d (x ∷ xs) (y ∷ ys) e f = λ i. f 0 (omega arith) i ∷ same_lists d xs ys (omega arith)
    (λ j lt. f (suc j) (omega arith)) i

pub get_or_map : {A B : Type 0} (f : A → B) (l : List A) (i : ℕ) (a : A) (d : B) → get_elem? l i ≡ some a
    → get_or (map f l) i d ≡ f a
get_or_map f [] i a d e = absurd (some-ne-none a (sym e))
get_or_map f (x ∷ xs) zero a d e = ap f (some-injective x a e)
get_or_map f (x ∷ xs) (suc i) a d e = get_or_map f xs i a d e

pub some_at : {A : Type 0} (l : List A) (i : ℕ) → i < length l → (a : A) × (get_elem? l i ≡ some a)
some_at [] i h = absurd (omega arith)
some_at (x ∷ xs) zero h = (x, refl)
some_at (x ∷ xs) (suc i) h = some_at xs i (omega arith)

map_map_one : {A B C : Type 0} (c : C) (f : A → B) (l : List A) (i : ℕ)
    → get_or (map (λ _. c) (map f l)) i c ≡ c
map_map_one c f l i = map_one c (map f l) i

module _ {S I F : Type 0} (hist : S → List I) (frame : S → F) (kind : S → ℕ) (errands : F → I → List ℕ)
    (fits : F → List (List I) → Type 0) (made : List S) where
  abbrev R : State S (View I F) → Type 0
  R = IsBoard hist frame kind errands fits made

  abbrev fr : Option F
  fr = frame_of frame made

  abbrev kinds : List ℕ
  kinds = map kind made

  abbrev alike : ℕ → S → Type 0
  alike o = IsAs frame kind fr (slice_index kinds o)

  abbrev E : I → List ℕ
  E = errands_under errands fr

  abbrev Fit : List (List I) → Type 0
  Fit = fits_under fits fr

  some_object : (l : List S) → is_some (frame_of frame l) ≡ true → 0 < length (map kind l)
  some_object [] e = absurd (off e)
  some_object (x ∷ xs) e = omega arith

  pub recall_allowed : (slots id : ℕ) (me : Me S (View I F)) → Live me.0
      → Allows R slots id me 0 (λ n. n) (recalled errands (step slots 0 0 0 none) me)
  recall_allowed slots id me live s k sl at lt = let v = me.0 in
      let fit = fitted hist alike E Fit fr kinds s k id v at live in
      let many = some_object made (ap (λ (f : Option F). is_some f) (sym fit.same_frame) ∙ live) in
      let old = k.objects 0 many in (
        told v,
        keeps,
        tt,
        same_words hist alike E Fit fr kinds s 0 s.homes (set s.views id (told v))
            (moved hist alike E Fit fr kinds s k 0 id v (told v) s.words s.homes (lane 0 v)
            (slice_index s.words 0) (slice_index s.words 1) (slice_index s.words 2)
            (slice_index_or s.homes 0 none) (slice_index_or k.histories 0 [])
            many at record { same_frame = fit.same_frame; same_kinds = fit.same_kinds; each_seen = fit.each_seen; each_turn = fit.each_turn } refl refl (λ p _. refl) refl (λ i _ _ _. refl) refl (λ p _. refl)
            refl refl refl refl refl
            (subst (λ (l : List (Lane I)). ObjectKept hist (alike 0) E (slice_index s.words 0)
            (slice_index s.words 1) (slice_index s.words 2) (slice_index_or s.homes 0 none)
            (slice_index_or k.histories 0 []) l)
            (sym (set_again (map (lane 0) s.views) id (lane 0 v) (at_map (lane 0) s.views id v at))) old)
            (subst Fit (sym (set_same k.histories 0 [])) k.fit)),
        (
          refl,
          refl,
          subst (λ (f : Option F). Told (errands_under errands f) v) (sym fit.same_frame)
              (all_told s k id v at live),
        ),
      )
    where
      all_told : (s : State S (View I F)) → R s → (id : ℕ) (v : View I F) → get_elem? s.views id ≡ some v
          → Live v → Told E v
      all_told s k id v at live = ⊎_elim
          (λ e. absurd (off (ap (λ (u : View I F). is_some u.frame) (sym e) ∙ live)))
          (λ (r : Fitted fr kinds v × Told E v). r.1) (k.views id v at)

  one_view : View I F
  one_view = first_view hist frame kind made

  only : {A : Type 0} (a b : A) (i : ℕ) → get_elem? (a ∷ []) i ≡ some b → (i ≡ 0) × (a ≡ b)
  only a b zero e = (refl, some-injective a b e)
  only a b (suc i) e = absurd (some-ne-none b (sym e))

  -- a new board keeps the rule
  pub starts : (words : List ℕ) → OneFrame frame made → FirstWords hist made words → Fit (map hist made)
      → R (opening words made (first_view hist frame kind made))
  starts words one first fit = record {
    histories = map hist made;
    count = length-map made hist ∙ sym (length-map made kind);
    homes = length-map made some ∙ sym (length-map made kind);
    words = first.0 ∙ ap (λ (n : ℕ). 3 * n) (sym (length-map made kind));
    objects = λ o near. object o near;
    views = λ i v e. inr
        (subst (λ (u : View I F). Fitted fr kinds u × Told E u)
        (only (first_view hist frame kind made) v i e).1 (
          record {
            same_frame = refl;
            same_kinds = refl;
            each_seen = length-map made hist ∙ sym
                (length-map made kind);
            each_turn = length_one no_turn (map kind made);
          },
          none_told hist alike E Fit fr kinds (first_view hist frame kind made) refl,
        ));
    apart = λ i j v w e a b _ _. (only (first_view hist frame kind made) v i a).0 ∙ sym
        ((only (first_view hist frame kind made) w j b).0);
    held = λ e lt. (0, first_view hist frame kind made, refl, in_all e lt);
    fit = fit;
  }
    where
      object : (o : ℕ) → o < length kinds
          → ObjectKept hist (alike o) E (slice_index words (3 * o)) (slice_index words (3 * o + 1))
          (slice_index words (3 * o + 2)) (slice_index_or (map some made) o none)
          (slice_index_or (map hist made) o []) (lane o (first_view hist frame kind made) ∷ [])
      object o near = let l : Lane I = lane o (first_view hist frame kind made) in
          let n = length-map made kind in let it = some_at made o (omega arith) in let x = it.0 in
          let at = it.1 in let w = first.1 o x at in
          let h : slice_index_or (map hist made) o [] ≡ hist x = get_or_map hist made o x [] at in
          let free : turn_at
          (first_view hist frame kind made) o ≡ no_turn = map_map_one no_turn kind made o in
          let home : slice_index_or (map some made) o none ≡ some x = get_or_map some made o x none at in
          let w0 = w.0 in let w1 = w.1 in record {
            behind = omega arith;
            room = omega arith;
            each_lane = λ i m e. subst
                (λ (u : Lane I). LaneKept E (slice_index words (3 * o)) (slice_index words (3 * o + 1))
                (slice_index_or (map hist made) o []) u) (only l m i e).1 record {
                  ticket = λ z. absurd (off (sym (ap (λ (u : Turn). u.has) free) ∙ z));
                  whole = λ z. absurd (off (sym (ap (λ (u : Turn). u.whole) free) ∙ z));
                  out = λ z. absurd (off (sym (ap (λ (u : Turn). u.out) free) ∙ z));
                  knows = lanes.knows_all E all_errands (slice_index_or (map hist made) o []);
                };
            distinct = λ i j a b e f _ _ _. (only l a i e).0 ∙ sym ((only l b j f).0);
            each_ticket = λ q lo hi. absurd (omega arith);
            place = subst
                (λ (z : maybe.Option S). lanes.Place hist (alike o) (slice_index_or (map hist made) o [])
                (l ∷ []) z) (sym home) (
                  sym h,
                  (one o x at, sym (get_or_map kind made o x 0 at)),
                  λ i m e. sym
                      (ap (λ (u : Lane I). u.turn.out) (only l m i e).1) ∙ ap (λ (u : Turn). u.out) free,
                );
            long = w.2 ∙ ap (λ (z : List I). length z) (sym h);
            longest = (0, l, refl, refl);
          }

  -- a view that is served everywhere has all of every history
  pub finishes : (words : List ℕ) (objects : List S) (id : ℕ) (v : View I F) → Live v
      → length objects ≡ length v.kinds
      → ((o : ℕ) → o < length v.kinds → ((turn_at v o).has ≡ true) × ((turn_at v o).whole ≡ true)
      × ((turn_at v o).out ≡ false))
      → Final (Seen R id v) words objects → AllSeen hist frame kind fits v objects
  finishes words objects id v live long turns end = let s = end.0 in let k = end.1.0 in let at = end.1.1 in
      let fit = fitted hist alike E Fit fr kinds s k id v at live in
      let same_kinds = fit.same_kinds in let c = k.count in let d = fit.each_seen in
      let len = ap (λ (ks : List ℕ). length ks) same_kinds in
      let whole : k.histories ≡ v.seen = same_lists [] k.histories v.seen (c ∙ sym d)
      (λ o lt. let o_near : o < length kinds = omega arith in let z = turns o (omega arith) in
      sym (((k.objects o o_near).each_lane id (lane o v) (at_map (lane o) s.views id v at)).whole z.1).2) in
      let each = λ (o : ℕ) (near : o < length kinds). lanes.takes hist (alike o) E (slice_index s.words (3 * o)) (slice_index s.words (3 * o + 1)) (slice_index s.words (3 * o + 2)) (slice_index_or s.homes o none) (slice_index_or k.histories o []) (map (lane o) s.views) id (lane o v) (k.objects o near) (at_map (lane o) s.views id v at)
      (turns o (omega arith)) in
      let slot = λ (o : ℕ) (near : o < length kinds). let h = k.homes in
      end.4 o ((each o near).0.0)
      (at_or s.homes o (some ((each o near).0.0)) none (omega arith) ((each o near).0.1)) in
      record {
        count = long;
        histories = same_lists [] (map hist objects) v.seen (length-map objects hist ∙ (long ∙ (len ∙ sym d)))
            (λ o lt. let n = length-map objects hist in let near : o < length kinds = omega arith in
            let x = (each o near).0.0 in
            get_or_map hist objects o x [] (slot o near) ∙
            ((each o near).0.2 ∙ ap (λ (hs : List (List I)). get_or hs o []) whole));
        alike = λ o x e. let near : o < length kinds = (let w = within objects o x e in omega arith) in
            let is : (each o near).0.0 ≡ x = some-injective _ _ (sym (slot o near) ∙ e) in
            subst (λ (y : S). IsAs frame kind v.frame (slice_index v.kinds o) y) is
            (subst (λ (z : Option F × List ℕ). IsAs frame kind z.0 (slice_index z.1 o)
            ((each o near).0.0)) (λ i. (sym fit.same_frame i, sym same_kinds i)) ((each o near).0.3));
        fit = subst (λ (z : Option F). fits_under fits z v.seen) (sym fit.same_frame)
            (subst (λ (hs : List (List I)). Fit hs) whole k.fit);
      }

  pub hand_allowed : (id : ℕ) (v : View I F) → Live v → Splits R id v (handing v) (handed v)
  hand_allowed id v live = splits hist alike E Fit fr kinds id v (handing v)
      (handed v) live refl refl refl refl refl refl (refl, refl) (refl, refl) (other_sub v.errands)
      (least_sub v.errands) (dealt_apart v.errands) (dealt_all v.errands)

  pub copy_allowed : (id : ℕ) (v : View I F) → Live v → v.olds ≡ [] → Splits R id v v (copied v)
  copy_allowed id v live none_old = splits hist alike E Fit fr kinds id v v
      (copied v) live refl refl refl refl none_old refl (refl, refl) (refl, refl) (λ e c. c)
      (λ e c. absurd (none_in_nil e c)) (λ e _ d. none_in_nil e d) (λ e c. inl c)

  pub meet_allowed : (id : ℕ) (v : View I F) (other : ℕ) (w : View I F) → Live v → Live w
      → w.turns ≡ map (λ _. no_turn) w.kinds → Joins R id v other w (joined v w) spent
  meet_allowed id v other w live_v live_w free = joins hist alike E Fit fr kinds id v other w live_v live_w free

-- the errands from a on, which are dealt one after another
low_min : (n a m : ℕ) → m ≤ a → fold min m (numbers_from a n) ≡ m
unfolding numbers_from
low_min zero a m h = refl
low_min (suc n) a m h = let e : min m a ≡ m = omega arith in
    ap (λ (k : ℕ). fold min k (numbers_from (suc a) n)) e ∙ low_min n (suc a) m (omega arith)

above_kept : (n a m : ℕ) → m < a → filter (λ y. not (y == m)) (numbers_from a n) ≡ numbers_from a n
unfolding numbers_from
above_kept zero a m h = refl
above_kept (suc n) a m h = ap
    (λ (b : Bool). cond (not b) (a ∷ filter (λ y. not (y == m)) (numbers_from (suc a) n))
    (filter (λ y. not (y == m)) (numbers_from (suc a) n))) (ne_eqb a m (λ e. omega arith))
    ∙ ap (λ (l : List ℕ). a ∷ l) (above_kept n (suc a) m (omega arith))

pub least_number : (a n : ℕ) → least_errand (numbers_from a (suc n)) ≡ a ∷ []
unfolding numbers_from
least_number a n = ap (λ (k : ℕ). k ∷ []) (low_min n (suc a) a (omega arith))

pub other_numbers : (a n : ℕ) → other_errands (numbers_from a (suc n)) ≡ numbers_from (suc a) n
unfolding numbers_from
other_numbers a n = ap (λ (m : ℕ). filter (λ y. not (y == m)) (a ∷ numbers_from (suc a) n))
    (low_min n (suc a) a (omega arith))
    ∙ (ap (λ (b : Bool). cond (not b) (a ∷ filter (λ y. not (y == a)) (numbers_from (suc a) n))
    (filter (λ y. not (y == a)) (numbers_from (suc a) n))) (eq-eqb a a refl)
    ∙ above_kept n (suc a) a (omega arith))

-- n errands are left, from a on
pub all_are : all_errands ≡ numbers_from 0 ERRANDS
unfolding all_errands
all_are = refl
