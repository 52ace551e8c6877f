-- Passes meet.
use Rattle.std.proofs.Common.{◌≡◌, ◌≢◌, ◌⊎◌, ℕ, zero, suc, ◌+◌, ◌*◌, ◌<◌, ◌≤◌, List, [], ◌∷◌, ◌++◌, length, map, get_or, set, Bool, true, false, Option, refl, sym, ap, ◌∙◌, subst, ⊎_elim, inl, inr, max, arith, length-append}
use Rattle.std.specs.Prelude.{Contains, slice_index, slice_index_or, nat_lt, if◌then◌else◌}
use Rattle.std.proofs.lemmas.Bool.Decides.{nat_tests}
use mathlib.Core.Option.{none, some, some-ne-none, some-injective}
use native.Mathlib.Decide.{dec_le, ℕ_discrete}
use lib.ListN.{get_elem?}
use lib.Seq.{map-set}
use Rattle.atomic_table.specs.Table.{Me, Joins}
use Rattle.atomic_table.proofs.Lists.{at_set, at_map, set_else}
use Rattle.hist_board.specs.Turn.{Turn, Past, no_turn}
use Rattle.hist_board.specs.Rule.{Lane, Knows, ObjectKept, Kept, Fitted, Live, Told, seen_at, lane, spent, longer, longer_each, joined, told, errands_under}
use Rattle.hist_board.specs.Passes.{AtRest, Counts, SeesOn}
use Rattle.hist_board.specs.declared.view.View.{View}
use Rattle.hist_board.proofs.Lanes as lanes
use Rattle.hist_board.proofs.Contained.{none_in_nil, contains_append, contains_left, contains_right}
use Rattle.hist_board.proofs.Lanes.{within, here, same_there, each_set}
use Rattle.hist_board.proofs.Moves.{fitted, known}
use Rattle.hist_board.proofs.Turning.{map_one}

lt_yes : (a b : ℕ) → a < b → nat_lt a b ≡ true
lt_yes a b h = grind (arith, nat_tests)

lt_no : (a b : ℕ) → b ≤ a → nat_lt a b ≡ false
lt_no a b h = grind (arith, nat_tests)

module _ {I : Type 0} where
  -- of two beginnings of one list the shorter begins the longer
  prefix_split : (xs rx ys ry : List I) → xs ++ rx ≡ ys ++ ry → length xs ≤ length ys
      → (mid : List I) × (ys ≡ xs ++ mid) × (rx ≡ mid ++ ry)
  prefix_split [] rx ys ry e h = (ys, refl, e)
  prefix_split (x ∷ xs) rx [] ry e h = absurd (omega arith)
  prefix_split (x ∷ xs) rx (y ∷ ys) ry e h = let same : x ≡ y = cc in let tail : xs ++ rx ≡ ys ++ ry = cc in
      let r = prefix_split xs rx ys ry tail (omega arith) in
      (r.0, (λ i. sym same i ∷ r.1 i), r.2)

  nil_of : (l : List I) → length l ≡ 0 → l ≡ []
  nil_of [] e = refl
  nil_of (x ∷ xs) e = absurd (omega arith)

  longer_right : (xs ys : List I) → length xs < length ys → longer xs ys ≡ ys
  longer_right xs ys h = ap (λ (b : Bool). if b then ys else xs) (lt_yes (length xs) (length ys) h)

  longer_left : (xs ys : List I) → length ys ≤ length xs → longer xs ys ≡ xs
  longer_left xs ys h = ap (λ (b : Bool). if b then ys else xs) (lt_no (length xs) (length ys) h)

  longer_at : (xs ys : List (List I)) (p : ℕ) → length xs ≡ length ys
      → get_or (longer_each xs ys) p [] ≡ longer (get_or xs p []) (get_or ys p [])
  longer_at [] [] p e = refl
  longer_at [] (y ∷ ys) p e = absurd (omega arith)
  longer_at (x ∷ xs) [] p e = absurd (omega arith)
  longer_at (x ∷ xs) (y ∷ ys) zero e = refl
  longer_at (x ∷ xs) (y ∷ ys) (suc p) e = longer_at xs ys p (omega arith)

  length_longer : (xs ys : List (List I)) → length (longer_each xs ys) ≡ length xs
  length_longer [] ys = refl
  length_longer (x ∷ xs) [] = refl
  length_longer (x ∷ xs) (y ∷ ys) = ap suc (length_longer xs ys)

  -- how long the longer is
  length_of_longer : (xs ys : List I) → length (longer xs ys) ≡ max (length xs) (length ys)
  length_of_longer xs ys = decided (dec_le (suc (length xs)) (length ys))
    where
      decided : Dec (suc (length xs) ≤ length ys) → length (longer xs ys) ≡ max (length xs) (length ys)
      decided (yes y) = ap (λ (l : List I). length l) (longer_right xs ys (omega arith)) ∙ omega arith
      decided (no n) = ap (λ (l : List I). length l) (longer_left xs ys (omega arith)) ∙ omega arith

  -- what two views know of one history
  pub record Both (errands : I → List ℕ) (ma mb : List ℕ) (a b c h : List I) : Type 0 where
    pub all : Knows errands (ma ++ mb) c h
    pub first : Knows errands ma a c
    pub second : Knows errands mb b c
    pub first_whole : a ≡ h → c ≡ h
    pub second_whole : b ≡ h → c ≡ h

  module _ (errands : I → List ℕ) (ma mb : List ℕ) (a b h : List I) (ka : Knows errands ma a h)
      (kb : Knows errands mb b h) where
    short_b : length b ≤ length h
    short_b = let e = ap (λ (l : List I). length l) kb.is in let f = length-append b kb.rest in omega arith

    short_a : length a ≤ length h
    short_a = let e = ap (λ (l : List I). length l) ka.is in let f = length-append a ka.rest in omega arith

    later_b : length a < length b → Both errands ma mb a b b h
    later_b lt = let r = prefix_split a ka.rest b kb.rest (sym ka.is ∙ kb.is) (omega arith) in record {
      all = record {
        rest = kb.rest;
        is = kb.is;
        free = λ e x c d. ⊎_elim
            (λ (y : Contains ma e). ka.free e x y
            (subst (λ (l : List I). Contains l x) (sym r.2) (contains_right r.0 kb.rest x d)))
            (λ (y : Contains mb e). kb.free e x y d) (contains_append ma mb e c);
      };
      first = record {
        rest = r.0;
        is = r.1;
        free = λ e x c d. ka.free e x c
            (subst (λ (l : List I). Contains l x) (sym r.2) (contains_left r.0 kb.rest x d));
      };
      second = lanes.knows_all errands mb b;
      first_whole = λ e. let l = ap (λ (z : List I). length z) e in let s = short_b in absurd (omega arith);
      second_whole = λ e. e;
    }

    later_a : length b ≤ length a → Both errands ma mb a b a h
    later_a le = let r = prefix_split b kb.rest a ka.rest (sym kb.is ∙ ka.is) le in record {
      all = record {
        rest = ka.rest;
        is = ka.is;
        free = λ e x c d. ⊎_elim
            (λ (y : Contains ma e). ka.free e x y d)
            (λ (y : Contains mb e). kb.free e x y
            (subst (λ (l : List I). Contains l x) (sym r.2) (contains_right r.0 ka.rest x d)))
            (contains_append ma mb e c);
      };
      first = lanes.knows_all errands ma a;
      second = record {
        rest = r.0;
        is = r.1;
        free = λ e x c d. kb.free e x c
            (subst (λ (l : List I). Contains l x) (sym r.2) (contains_left r.0 ka.rest x d));
      };
      first_whole = λ e. e;
      second_whole = λ e. let l = ap (λ (z : List I). length z) e in
          let m = ap (λ (l : List I). length l) ka.is in let f = length-append a ka.rest in
          sym (ka.is ∙ (ap (λ (l : List I). a ++ l) (nil_of ka.rest (omega arith)) ∙ lanes.append_none a));
    }

    pub meets : Both errands ma mb a b (longer a b) h
    meets = decided (dec_le (suc (length a)) (length b))
      where
        decided : Dec (suc (length a) ≤ length b) → Both errands ma mb a b (longer a b) h
        decided (yes y) = subst (λ (c : List I). Both errands ma mb a b c h)
            (sym (longer_right a b (omega arith))) (later_b (omega arith))
        decided (no n) = subst (λ (c : List I). Both errands ma mb a b c h)
            (sym (longer_left a b (omega arith))) (later_a (omega arith))

module _ {S I F : Type 0} (hist : S → List I) (same : ℕ → S → Type 0) (errands : I → List ℕ)
    (fits : List (List I) → Type 0) (frame : Option F) (kinds : List ℕ) where
  pub joins : (id : ℕ) (v : View I F) (other : ℕ) (w : View I F) → Live v → Live w
      → w.turns ≡ map (λ _. no_turn) w.kinds
      → Joins (Kept hist same errands fits frame kinds) id v other w (joined v w) spent
  joins id v other w live_v live_w free s k at ne at' = record {
    histories = k.histories;
    count = k.count;
    homes = k.homes;
    words = k.words;
    objects = object;
    views = each_set (λ _ (z : View I F). (z ≡ spent) ⊎ (Fitted frame kinds z × Told errands z))
        (set s.views id both) other spent
        (λ j u _ e. each_set
        (λ _ (z : View I F). (z ≡ spent) ⊎ (Fitted frame kinds z × Told errands z)) s.views id both
        (λ i z _ e. k.views i z e) (inr (both_fits, both_told)) j u e) (inl refl);
    apart = λ i j x y e ax ay hx hy. ⊎_elim
        (λ (p : (i ≡ other) × (spent ≡ x)). absurd
        (none_in_nil e (subst (λ (z : View I F). Contains z.errands e) (sym p.1) hx)))
        (λ (p : (i ≢ other) × (get_elem? (set s.views id both) i ≡ some x)). ⊎_elim
        (λ (q : (j ≡ other) × (spent ≡ y)). absurd
        (none_in_nil e (subst (λ (z : View I F). Contains z.errands e) (sym q.1) hy)))
        (λ (q : (j ≢ other)
        × (get_elem? (set s.views id both) j ≡ some y)). old i j x y e p.0 q.0 p.1 q.1 hx hy)
        (at_set (set s.views id both) other j spent y ay))
        (at_set (set s.views id both) other i spent x ax);
    held = λ e lt. holder e (k.held e lt);
    fit = k.fit;
  }
    where
      both : View I F
      both = joined v w

      at_w : get_elem? s.views other ≡ some w
      at_w = sym (set_else s.views id other (joined v w) ne) ∙ at'

      fit_v : Fitted frame kinds v
      fit_v = fitted hist same errands fits frame kinds s k id v at live_v

      fit_w : Fitted frame kinds w
      fit_w = fitted hist same errands fits frame kinds s k other w at_w live_w

      long : length v.seen ≡ length w.seen
      long = fit_v.each_seen ∙ sym fit_w.each_seen

      seen_both : (p : ℕ) → seen_at (joined v w) p ≡ longer (seen_at v p) (seen_at w p)
      seen_both p = longer_at v.seen w.seen p long

      meet : (p : ℕ)
          → Both errands v.errands w.errands (seen_at v p) (seen_at w p) (seen_at (joined v w) p)
          (slice_index_or k.histories p [])
      meet p = subst
          (λ (c : List I). Both errands v.errands w.errands (seen_at v p) (seen_at w p) c
          (slice_index_or k.histories p [])) (sym (seen_both p))
          (meets errands v.errands w.errands (seen_at v p) (seen_at w p) (slice_index_or k.histories p [])
          (known hist same errands fits frame kinds s k id v at fit_v p)
          (known hist same errands fits frame kinds s k other w at_w fit_w p))

      both_fits : Fitted frame kinds (joined v w)
      both_fits = record { same_frame = fit_v.same_frame; same_kinds = fit_v.same_kinds; each_seen = length_longer v.seen w.seen ∙ fit_v.each_seen; each_turn = fit_v.each_turn }

      both_told : Told errands (joined v w)
      both_told zero a e o = subst
          (λ (z : Past I). Knows errands z.mine (get_or z.seen o []) (seen_at (joined v w) o))
          (some-injective _ _ e) ((meet o).first)
      both_told (suc zero) a e o = subst
          (λ (z : Past I). Knows errands z.mine (get_or z.seen o []) (seen_at (joined v w) o))
          (some-injective _ _ e) ((meet o).second)
      both_told (suc (suc n)) a e o = absurd (some-ne-none a (sym e))

      object : (p : ℕ) → p < length kinds
          → ObjectKept hist (same p) errands (slice_index s.words (3 * p)) (slice_index s.words (3 * p + 1))
          (slice_index s.words (3 * p + 2)) (slice_index_or s.homes p none)
          (slice_index_or k.histories p []) (map (lane p) (set (set s.views id (joined v w)) other spent))
      object p near = let h = slice_index_or k.histories p [] in let ls = map (lane p) s.views in
          let there = at_map (lane p) s.views id v at in let m = meet p in
          let one = lanes.relearns hist (same p) errands (slice_index s.words (3 * p))
          (slice_index s.words (3 * p + 1)) (slice_index s.words (3 * p + 2))
          (slice_index_or s.homes p none) h ls id (lane p v) (lane p (joined v w))
          (k.objects p near) there refl m.first_whole m.all in
          let is_set : map (lane p) (set s.views id (joined v w)) ≡ set ls id (lane p (joined v w)) = map-set
          (lane p) s.views id (joined v w) in
          let two = lanes.spends hist (same p) errands (slice_index s.words (3 * p)) (slice_index s.words (3 * p + 1)) (slice_index s.words (3 * p + 2)) (slice_index_or s.homes p none) h (set ls id (lane p (joined v w))) other (lane p w) id (lane p (joined v w)) one
          (set_else ls id other (lane p (joined v w)) ne ∙ at_map (lane p) s.views other w at_w)
          (ap (λ (l : List Turn). get_or l p no_turn) free ∙ map_one no_turn w.kinds p) (λ e. ne (sym e))
          (here ls id (lane p v) (lane p (joined v w)) there) m.second_whole in
          subst (λ (l : List (Lane I)). ObjectKept hist (same p) errands (slice_index s.words (3 * p))
          (slice_index s.words (3 * p + 1)) (slice_index s.words (3 * p + 2))
          (slice_index_or s.homes p none) h l)
          (sym (map-set (lane p) (set s.views id (joined v w)) other spent ∙ ap
          (λ (l : List (Lane I)). set l other (lane {F = F} p spent)) is_set)) two

      old : (i j : ℕ) (x y : View I F) (e : ℕ) → i ≢ other → j ≢ other
          → get_elem? (set s.views id (joined v w)) i ≡ some x
          → get_elem? (set s.views id (joined v w)) j ≡ some y → Contains x.errands e → Contains y.errands e
          → i ≡ j
      old i j x y e ni nj ax ay hx hy = ⊎_elim
          (λ (p : (i ≡ id) × (joined v w ≡ x)). ⊎_elim
          (λ (q : (j ≡ id) × (joined v w ≡ y)). p.0 ∙ sym q.0)
          (λ (q : (j ≢ id) × (get_elem? s.views j ≡ some y)). p.0 ∙ with_both j y e nj q.1 hy
          (subst (λ (z : View I F). Contains z.errands e) (sym p.1) hx))
          (at_set s.views id j (joined v w) y ay))
          (λ (p : (i ≢ id) × (get_elem? s.views i ≡ some x)). ⊎_elim
          (λ (q : (j ≡ id) × (joined v w ≡ y)). sym
          (with_both i x e ni p.1 hx (subst (λ (z : View I F). Contains z.errands e) (sym q.1) hy))
          ∙ sym q.0)
          (λ (q : (j ≢ id) × (get_elem? s.views j ≡ some y)). k.apart i j x y e p.1 q.1 hx hy)
          (at_set s.views id j (joined v w) y ay))
          (at_set s.views id i (joined v w) x ax)
        where
          with_both : (j : ℕ) (y : View I F) (e : ℕ) → j ≢ other → get_elem? s.views j ≡ some y
              → Contains y.errands e → Contains (v.errands ++ w.errands) e → id ≡ j
          with_both j y e nj ay hy c = ⊎_elim (λ (d : Contains v.errands e). k.apart id j v y e at ay d hy)
              (λ (d : Contains w.errands e). absurd (nj (sym (k.apart other j w y e at_w ay d hy))))
              (contains_append v.errands w.errands e c)

      holder : (e : ℕ) → (i : ℕ) × (u : View I F) × (get_elem? s.views i ≡ some u) × Contains u.errands e
          → (i : ℕ) × (u : View I F) × (get_elem? (set (set s.views id (joined v w)) other spent) i ≡ some u)
          × Contains u.errands e
      holder e x = found (ℕ_discrete x.0 other) (ℕ_discrete x.0 id)
        where
          there : get_elem? (set (set s.views id (joined v w)) other spent) id ≡ some (joined v w)
          there = set_else (set s.views id (joined v w)) other id spent (λ e. ne (sym e)) ∙ here s.views id v
              (joined v w) at

          found : Dec (x.0 ≡ other) → Dec (x.0 ≡ id)
              → (i : ℕ) × (u : View I F)
              × (get_elem? (set (set s.views id (joined v w)) other spent) i ≡ some u)
              × Contains u.errands e
          found (yes y) _ = let is : x.1 ≡ w = same_there s.views other x.1 w (subst (λ (j : ℕ). get_elem? s.views j ≡ some x.1) y x.2) at_w in (
            id,
            joined v w,
            there,
            contains_right v.errands w.errands e
                (subst (λ (z : View I F). Contains z.errands e) is x.3),
          )
          found (no n) (yes y) = let is : x.1 ≡ v = same_there s.views id x.1 v (subst (λ (j : ℕ). get_elem? s.views j ≡ some x.1) y x.2) at in (
            id,
            joined v w,
            there,
            contains_left v.errands w.errands e
                (subst (λ (z : View I F). Contains z.errands e) is x.3),
          )
          found (no n) (no m) = (
            x.0,
            x.1,
            set_else (set s.views id (joined v w)) other x.0 spent n ∙
                (set_else s.views id x.0 (joined v w) m ∙ x.2),
            x.3,
          )

module _ {S I F : Type 0} where
  same_many : (words words' : ℕ) (m n : Me S (View I F)) → AtRest words m → AtRest words' n → words ≡ words'
      → length m.0.kinds ≡ length n.0.kinds
  same_many words words' m n a b e = let x = a.words_are in let y = b.words_are in omega arith

  pub join_counts : (words words' : ℕ) (m n m' : Me S (View I F)) (ls ms ns : List ℕ) → AtRest words m
      → AtRest words' n → words ≡ words' → Counts ls m.0 → Counts ms n.0
      → ((o : ℕ) → o < 17 → slice_index ns o ≡ max (slice_index ls o) (slice_index ms o))
      → m'.0 ≡ told (joined m.0 n.0) → Counts ns m'.0
  join_counts words words' m n m' ls ms ns a b e c d f is = subst (λ (v : View I F). Counts ns v) (sym is)
      (λ o lt.
      let few = a.few in let k = same_many words words' m n a b e in let p = a.places in let q = b.places in
      let x : slice_index ls o ≡ length (seen_at m.0 o) = c o lt in
      let y : slice_index ms o ≡ length (seen_at n.0 o) = d o (omega arith) in
      f o (omega arith) ∙
      ((λ i. max (x i) (y i)) ∙
      (sym (length_of_longer (seen_at m.0 o) (seen_at n.0 o)) ∙ ap (λ (l : List I). length l)
      (sym (longer_at m.0.seen n.0.seen o (omega arith))))))

  pub join_rests : (words words' : ℕ) (m m1 m2 : Me S (View I F)) (w : View I F) → AtRest words m
      → words ≡ words' → m1 ≡ (joined m.0 w, m.1) → m2 ≡ (told m1.0, m1.1) → AtRest words' m2
  join_rests words words' m m1 m2 w r e is is' = subst (λ (x : Me S (View I F)). AtRest words' x)
      (sym (is' ∙ ap (λ (x : Me S (View I F)). (told x.0, x.1)) is)) record {
        words_are = sym e ∙ r.words_are;
        none_out = r.none_out;
        live = r.live;
        no_turns = r.no_turns;
        some_object = r.some_object;
        few = r.few;
        places = length_longer m.0.seen w.seen ∙ r.places;
        told = refl;
      }

  -- what a join tells
  -- what is newly seen by a join has no entry of an errand of either pass
  pub join_tells : (errands : F → I → List ℕ) (v w : View I F) (m1 m2 : Me S (View I F)) (c : List (ℕ × S))
      → w.frame ≡ v.frame → w.kinds ≡ v.kinds
      → m1 ≡ (joined v w, c) → m2.0 ≡ told m1.0 → Told (errands_under errands m1.0.frame) m1.0
      → SeesOn errands v m2.0 × SeesOn errands w m2.0
  join_tells errands v w m1 m2 c same_frame same_kinds e f t = let t' = subst (λ (m : Me S (View I F)). Told (errands_under errands m.0.frame) m.0) e t in
      let is : m2.0 ≡ told (joined v w) = f ∙ ap (λ (m : Me S (View I F)). told m.0) e in
      subst (λ (u : View I F). SeesOn errands v u × SeesOn errands w u) (sym is) (
        (refl, refl, λ o. t' 0 record { seen = v.seen; mine = v.errands } refl o),
        (
          same_frame,
          same_kinds,
          λ o. subst
              (λ (x : Option F). Knows (errands_under errands x) w.errands (seen_at w o)
              (seen_at (told (joined v w)) o)) (sym same_frame)
              (t' 1 record { seen = w.seen; mine = w.errands } refl o),
        ),
      )
