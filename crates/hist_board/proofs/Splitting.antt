-- A pass is split.
use Rattle.std.proofs.Common.{◌≡◌, ◌≢◌, ◌⊎◌, ℕ, zero, suc, ◌+◌, ◌*◌, ◌<◌, List, [], ◌∷◌, ◌++◌, length, map, get_or, set, Option, refl, sym, ap, ◌∙◌, subst, ⊎_elim, inl, inr}
use Rattle.std.specs.Prelude.{Contains, slice_index, slice_index_or}
use mathlib.Core.Option.{none, some, some-ne-none, some-injective}
use mathlib.Core.List.{map-append}
use native.Mathlib.Decide.{ℕ_discrete}
use lib.ListN.{get_elem?}
use lib.Seq.{map-set}
use Rattle.atomic_table.specs.Table.{State, Splits}
use Rattle.atomic_table.proofs.Lists.{at_set, at_map, at_longer, at_last, set_else}
use Rattle.hist_board.specs.Turn.{Turn, no_turn}
use Rattle.hist_board.specs.Rule.{Lane, Knows, ObjectKept, Kept, Fitted, Live, Told, seen_at, lane, spent}
use Rattle.hist_board.specs.declared.view.View.{View}
use Rattle.hist_board.proofs.Lanes as lanes
use Rattle.hist_board.proofs.Lanes.{within, here, same_there, each_set}
use Rattle.hist_board.proofs.Moves.{fitted, none_told}
use Rattle.hist_board.proofs.Turning.{map_one, length_one}

-- what is in a list with one more at its end is in the list, or it is the last
snoc_at : {A : Type 0} (l : List A) (a b : A) (j : ℕ) → get_elem? (l ++ a ∷ []) j ≡ some b
    → (get_elem? l j ≡ some b) ⊎ ((j ≡ length l) × (a ≡ b))
snoc_at [] a b zero e = inr (refl, some-injective a b e)
snoc_at [] a b (suc j) e = absurd (some-ne-none b (sym e))
snoc_at (x ∷ xs) a b zero e = inl e
snoc_at (x ∷ xs) a b (suc j) e = ⊎_elim (λ (p : get_elem? xs j ≡ some b). inl p)
    (λ (p : (j ≡ length xs) × (a ≡ b)). inr (ap suc p.0, p.1)) (snoc_at xs a b j e)

module _ {S I F : Type 0} (hist : S → List I) (same : ℕ → S → Type 0) (errands : I → List ℕ)
    (fits : List (List I) → Type 0) (frame : Option F) (kinds : List ℕ) where
  abbrev Rule : State S (View I F) → Type 0
  Rule = Kept hist same errands fits frame kinds

  fewer : (mine less : List ℕ) (seen h : List I) → ((e : ℕ) → Contains less e → Contains mine e)
      → Knows errands mine seen h → Knows errands less seen h
  fewer mine less seen h sub k = record { rest = k.rest; is = k.is; free = λ e x c d. k.free e x (sub e c) d }

  -- The errands of a view are dealt to it and to a new one
  pub splits : (id : ℕ) (v left right : View I F) → Live v → left.seen ≡ v.seen → right.seen ≡ v.seen
      → left.turns ≡ v.turns → right.turns ≡ map (λ _. no_turn) v.turns → left.olds ≡ [] → right.olds ≡ []
      → (left.frame ≡ v.frame) × (left.kinds ≡ v.kinds) → (right.frame ≡ v.frame) × (right.kinds ≡ v.kinds)
      → ((e : ℕ) → Contains left.errands e → Contains v.errands e)
      → ((e : ℕ) → Contains right.errands e → Contains v.errands e)
      → ((e : ℕ) → Contains left.errands e → Contains right.errands e → ⊥)
      → ((e : ℕ) → Contains v.errands e → Contains left.errands e ⊎ Contains right.errands e)
      → Splits Rule id v left right
  splits id v left right live ls rs lt rt lo ro lf rf l_sub r_sub apart all s k at = record {
    histories = k.histories;
    count = k.count;
    homes = k.homes;
    words = k.words;
    objects = λ p near. object p near;
    views = λ j u e. ⊎_elim
        (λ (x : get_elem? (set s.views id left) j ≡ some u). each_set
        (λ _ (z : View I F). (z ≡ spent) ⊎ (Fitted frame kinds z × Told errands z)) s.views id left
        (λ j z _ e. k.views j z e)
        (inr (left_fits, none_told hist same errands fits frame kinds left lo)) j u x)
        (λ (x : (j ≡ length (set s.views id left)) × (right ≡ u)). subst
        (λ (z : View I F). (z ≡ spent) ⊎ (Fitted frame kinds z × Told errands z)) x.1
        (inr (right_fits, none_told hist same errands fits frame kinds right ro)))
        (snoc_at (set s.views id left) right u j e);
    apart = λ i j x y e ax ay hx hy. alone i j x y e ax ay hx hy;
    held = λ e lt. holder e (k.held e lt);
    fit = k.fit;
  }
    where
      fit_v : Fitted frame kinds v
      fit_v = fitted hist same errands fits frame kinds s k id v at live

      left_fits : Fitted frame kinds left
      left_fits = record {
        same_frame = lf.0 ∙ fit_v.same_frame;
        same_kinds = lf.1
            ∙ fit_v.same_kinds;
        each_seen = ap (λ (l : List (List I)). length l) ls
            ∙ fit_v.each_seen;
        each_turn = ap (λ (l : List Turn). length l) lt ∙ fit_v.each_turn;
      }

      right_fits : Fitted frame kinds right
      right_fits = record {
        same_frame = rf.0 ∙ fit_v.same_frame;
        same_kinds = rf.1
            ∙ fit_v.same_kinds;
        each_seen = ap (λ (l : List (List I)). length l) rs
            ∙ fit_v.each_seen;
        each_turn = ap (λ (l : List Turn). length l) rt ∙
            (length_one no_turn v.turns ∙ fit_v.each_turn);
      }

      object : (p : ℕ) → p < length kinds
          → ObjectKept hist (same p) errands (slice_index s.words (3 * p)) (slice_index s.words (3 * p + 1))
          (slice_index s.words (3 * p + 2)) (slice_index_or s.homes p none)
          (slice_index_or k.histories p []) (map (lane p) (set s.views id left ++ right ∷ []))
      object p near = let h = slice_index_or k.histories p [] in let there = at_map (lane p) s.views id v at in
          let kn = ((k.objects p near).each_lane id (lane p v) there).knows in
          let seen_l : seen_at left p ≡ seen_at v p = ap (λ (l : List (List I)). get_or l p []) ls in
          let seen_r : seen_at right p ≡ seen_at v p = ap (λ (l : List (List I)). get_or l p []) rs in
          let one = lanes.relearns hist (same p) errands (slice_index s.words (3 * p)) (slice_index s.words (3 * p + 1)) (slice_index s.words (3 * p + 2)) (slice_index_or s.homes p none) h (map (lane p) s.views) id (lane p v) (lane p left) (k.objects p near) there
          (ap (λ (l : List Turn). get_or l p no_turn) lt) (λ e. seen_l ∙ e)
          (subst (λ (z : List I). Knows errands left.errands z h) (sym seen_l)
          (fewer v.errands left.errands (seen_at v p) h l_sub kn)) in
          let two = lanes.comes hist (same p) errands (slice_index s.words (3 * p)) (slice_index s.words (3 * p + 1)) (slice_index s.words (3 * p + 2)) (slice_index_or s.homes p none) h (set (map (lane p) s.views) id (lane p left)) (lane p right) one
          (ap (λ (l : List Turn). get_or l p no_turn) rt ∙ map_one no_turn v.turns p)
          (subst (λ (z : List I). Knows errands right.errands z h) (sym seen_r)
          (fewer v.errands right.errands (seen_at v p) h r_sub kn)) in
          subst (λ (l : List (Lane I)). ObjectKept hist (same p) errands (slice_index s.words (3 * p))
          (slice_index s.words (3 * p + 1)) (slice_index s.words (3 * p + 2))
          (slice_index_or s.homes p none) h l)
          (sym (map-append (lane p) (set s.views id left) (right ∷ []) ∙ ap
          (λ (l : List (Lane I)). l ++ lane p right ∷ []) (map-set (lane p) s.views id left))) two

      -- a view of the old ones that holds an errand of v is v
      mine : (i : ℕ) (x : View I F) (e : ℕ) → get_elem? (set s.views id left) i ≡ some x
          → Contains x.errands e
          → Contains v.errands e → i ≡ id
      mine i x e ax hx hv = ⊎_elim (λ (p : (i ≡ id) × (left ≡ x)). p.0)
          (λ (p : (i ≢ id) × (get_elem? s.views i ≡ some x)). k.apart i id x v e p.1 at hx hv)
          (at_set s.views id i left x ax)

      -- and then it has what is left
      at_id : (i : ℕ) (x : View I F) → get_elem? (set s.views id left) i ≡ some x → i ≡ id → left ≡ x
      at_id i x ax e = ⊎_elim (λ (p : (i ≡ id) × (left ≡ x)). p.1)
          (λ (p : (i ≢ id) × (get_elem? s.views i ≡ some x)). absurd (p.0 e)) (at_set s.views id i left x ax)

      old : (i j : ℕ) (x y : View I F) (e : ℕ) → get_elem? (set s.views id left) i ≡ some x
          → get_elem? (set s.views id left) j ≡ some y → Contains x.errands e → Contains y.errands e → i ≡ j
      old i j x y e ax ay hx hy = ⊎_elim
          (λ (p : (i ≡ id) × (left ≡ x)). p.0 ∙ sym
          (mine j y e ay hy (l_sub e (subst (λ (z : View I F). Contains z.errands e) (sym p.1) hx))))
          (λ (p : (i ≢ id) × (get_elem? s.views i ≡ some x)). ⊎_elim
          (λ (q : (j ≡ id) × (left ≡ y)). k.apart i id x v e p.1 at hx
          (l_sub e (subst (λ (z : View I F). Contains z.errands e) (sym q.1) hy)) ∙ sym q.0)
          (λ (q : (j ≢ id) × (get_elem? s.views j ≡ some y)). k.apart i j x y e p.1 q.1 hx hy)
          (at_set s.views id j left y ay))
          (at_set s.views id i left x ax)

      crossed : (i : ℕ) (x y : View I F) (e : ℕ) → get_elem? (set s.views id left) i ≡ some x → right ≡ y
          → Contains x.errands e → Contains y.errands e → ⊥
      crossed i x y e ax ry hx hy = let hr : Contains right.errands e = subst (λ (z : View I F). Contains z.errands e) (sym ry) hy in
          let is = at_id i x ax (mine i x e ax hx (r_sub e hr)) in
          apart e (subst (λ (z : View I F). Contains z.errands e) (sym is) hx) hr

      alone : (i j : ℕ) (x y : View I F) (e : ℕ) → get_elem? (set s.views id left ++ right ∷ []) i ≡ some x
          → get_elem? (set s.views id left ++ right ∷ []) j ≡ some y → Contains x.errands e
          → Contains y.errands e → i ≡ j
      alone i j x y e ax ay hx hy = ⊎_elim
          (λ (p : get_elem? (set s.views id left) i ≡ some x). ⊎_elim
          (λ (q : get_elem? (set s.views id left) j ≡ some y). old i j x y e p q hx hy)
          (λ (q : (j ≡ length (set s.views id left)) × (right ≡ y)). absurd (crossed i x y e p q.1 hx hy))
          (snoc_at (set s.views id left) right y j ay))
          (λ (p : (i ≡ length (set s.views id left)) × (right ≡ x)). ⊎_elim
          (λ (q : get_elem? (set s.views id left) j ≡ some y). absurd (crossed j y x e q p.1 hy hx))
          (λ (q : (j ≡ length (set s.views id left)) × (right ≡ y)). p.0 ∙ sym q.0)
          (snoc_at (set s.views id left) right y j ay))
          (snoc_at (set s.views id left) right x i ax)

      holder : (e : ℕ) → (i : ℕ) × (u : View I F) × (get_elem? s.views i ≡ some u) × Contains u.errands e
          → (i : ℕ) × (u : View I F) × (get_elem? (set s.views id left ++ right ∷ []) i ≡ some u)
          × Contains u.errands e
      holder e x = found (ℕ_discrete x.0 id)
        where
          found : Dec (x.0 ≡ id)
              → (i : ℕ) × (u : View I F) × (get_elem? (set s.views id left ++ right ∷ []) i ≡ some u)
              × Contains u.errands e
          found (yes y) = let both : x.1 ≡ v = same_there s.views id x.1 v (subst (λ (j : ℕ). get_elem? s.views j ≡ some x.1) y x.2) at in
              ⊎_elim
              (λ (c : Contains left.errands e). (
                id,
                left,
                at_longer (set s.views id left) (right ∷ []) id left
                    (here s.views id v left at),
                c,
              ))
              (λ (c : Contains right.errands e). (
                length (set s.views id left),
                right,
                at_last (set s.views id left) right
                    (length (set s.views id left)) refl,
                c,
              ))
              (all e (subst (λ (z : View I F). Contains z.errands e) both x.3))
          found (no n) = (
            x.0,
            x.1,
            at_longer (set s.views id left) (right ∷ []) x.0 x.1
                (set_else s.views id x.0 left n ∙ x.2),
            x.3,
          )
