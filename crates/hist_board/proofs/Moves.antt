-- Each step keeps the rule of the board.
use Rattle.std.proofs.Common.{◌≡◌, ◌≢◌, ◌⊎◌, ℕ, zero, suc, ◌+◌, ◌*◌, ◌<◌, ◌≤◌, List, [], ◌∷◌, length, map, get_or, set, Option, refl, sym, ap, ◌∙◌, subst, ⊎_elim, inr, arith, length-set}
use Rattle.std.specs.Prelude.{Contains, slice_index, slice_index_or, is_some}
use Rattle.std.proofs.Math.Seq.{get_or-set_same, get_or-set_other}
use mathlib.Core.Option.{none, some, some-ne-none, some-injective}
use mathlib.Core.Option as maybe
use native.Mathlib.Decide.{dec_le, ℕ_discrete}
use lib.ListN.{get_elem?}
use lib.Seq.{map-set}
use Rattle.atomic_table.specs.Table.{State}
use Rattle.atomic_table.proofs.Lists.{at_set, at_map, set_else, set_again}
use Rattle.hist_board.specs.Turn.{Past}
use Rattle.hist_board.specs.Rule.{Lane, Knows, ObjectKept, Kept, Fitted, Live, Told, seen_at, lane, spent}
use Rattle.hist_board.specs.declared.view.View.{View}
use Rattle.hist_board.proofs.Lanes as lanes
use Rattle.hist_board.proofs.Contained.{off}
use Rattle.hist_board.proofs.Lanes.{within, here, same_there, each_set}

pub set_same : {A : Type 0} (l : List A) (i : ℕ) (d : A) → set l i (get_or l i d) ≡ l
set_same [] i d = refl
set_same (x ∷ xs) zero d = refl
set_same (x ∷ xs) (suc i) d = ap (λ (ys : List _). x ∷ ys) (set_same xs i d)

pub past : {A : Type 0} (l : List A) (i : ℕ) (d : A) → length l ≤ i → get_or l i d ≡ d
past [] i d h = refl
past (x ∷ xs) zero d h = absurd (omega arith)
past (x ∷ xs) (suc i) d h = past xs i d (omega arith)

pub at_or : {A : Type 0} (l : List A) (i : ℕ) (a d : A) → i < length l → get_or l i d ≡ a
    → get_elem? l i ≡ some a
at_or [] i a d h e = absurd (omega arith)
at_or (x ∷ xs) zero a d h e = ap some e
at_or (x ∷ xs) (suc i) a d h e = at_or xs i a d (omega arith) e

-- what the mapped list has comes from the list
pub map_at : {A B : Type 0} (f : A → B) (l : List A) (i : ℕ) (b : B) → get_elem? (map f l) i ≡ some b
    → (a : A) × (get_elem? l i ≡ some a) × (f a ≡ b)
map_at f [] i b e = absurd (some-ne-none b (sym e))
map_at f (x ∷ xs) zero b e = (x, refl, some-injective (f x) b e)
map_at f (x ∷ xs) (suc i) b e = map_at f xs i b e

module _ {S I F : Type 0} (hist : S → List I) (same : ℕ → S → Type 0) (errands : I → List ℕ)
    (fits : List (List I) → Type 0) (frame : Option F) (kinds : List ℕ) where
  abbrev Rule : State S (View I F) → Type 0
  Rule = Kept hist same errands fits frame kinds

  pub none_told : (v : View I F) → v.olds ≡ [] → Told errands v
  none_told v e k a at = absurd (some-ne-none a (sym at ∙ ap (λ (l : List (Past I)). get_elem? l k) e))

  -- a view that is not spent has a place for each object
  pub fitted : (s : State S (View I F)) → Rule s → (id : ℕ) (v : View I F) → get_elem? s.views id ≡ some v
      → Live v → Fitted frame kinds v
  fitted s k id v at live = ⊎_elim
      (λ (e : v ≡ spent). absurd (off (ap (λ (u : View I F). is_some u.frame) (sym e) ∙ live)))
      (λ (r : Fitted frame kinds v × Told errands v). r.0) (k.views id v at)

  object_by : (o : ℕ) (t t' s s' n n' : ℕ) (home home' : maybe.Option S) (h h' : List I)
      (ls ls' : List (Lane I))
      → t ≡ t' → s ≡ s' → n ≡ n' → home ≡ home' → h ≡ h' → ls ≡ ls'
      → ObjectKept hist (same o) errands t s n home h ls
      → ObjectKept hist (same o) errands t' s' n' home' h' ls'
  object_by o t t' s s' n n' home home' h h' ls ls' a b c d e f =
      subst (λ (x : ℕ × ℕ × ℕ × maybe.Option S × List I × List (Lane I)). ObjectKept hist
      (same o) errands x.0 x.1 x.2 x.3 x.4 x.5) (λ i. (a i, b i, c i, d i, e i, f i))

  -- One object changes, and one view in what it has of this object
  pub moved : (s : State S (View I F)) (k : Rule s) (o id : ℕ) (v w : View I F) (words : List ℕ)
      (homes : List (maybe.Option S)) (l : Lane I) (t' s' n' : ℕ) (home' : maybe.Option S) (h' : List I)
      → o < length kinds → get_elem? s.views id ≡ some v → Fitted frame kinds w → w.olds ≡ []
      → w.errands ≡ v.errands → ((p : ℕ) → p ≢ o → lane p w ≡ lane p v)
      → length words ≡ length s.words
      → ((i : ℕ) → i ≢ 3 * o → i ≢ 3 * o + 1 → i ≢ 3 * o + 2 → slice_index words i ≡ slice_index s.words i)
      → length homes ≡ length s.homes
      → ((p : ℕ) → p ≢ o → slice_index_or homes p none ≡ slice_index_or s.homes p none)
      → lane o w ≡ l → slice_index words (3 * o) ≡ t' → slice_index words (3 * o + 1) ≡ s'
      → slice_index words (3 * o + 2) ≡ n' → slice_index_or homes o none ≡ home'
      → ObjectKept hist (same o) errands t' s' n' home' h' (set (map (lane o) s.views) id l)
      → fits (set k.histories o h')
      → Rule record { words = words; homes = homes; views = set s.views id w }
  moved s k o id v w words homes l t' s' n' home' h' near at fit_w no_olds same_errands others long words_else long_homes homes_else is a b c d new fit = record {
    histories = set k.histories o h';
    count = length-set k.histories o h' ∙ k.count;
    homes = long_homes ∙ k.homes;
    words = long ∙ k.words;
    objects = λ p lt. object p lt (ℕ_discrete p o);
    views = each_set (λ _ (u : View I F). (u ≡ spent) ⊎ (Fitted frame kinds u × Told errands u)) s.views id w
        (λ j u _ e. k.views j u e) (inr (fit_w, none_told w no_olds));
    apart = λ i j x y e ax ay hx hy.
        ⊎_elim
        (λ (p : (i ≡ id) × (w ≡ x)). ⊎_elim
        (λ (q : (j ≡ id) × (w ≡ y)). p.0 ∙ sym q.0)
        (λ (q : (j ≢ id) × (get_elem? s.views j ≡ some y)). p.0 ∙ k.apart id j v y e at q.1
        (mine e x p.1 hx) hy)
        (at_set s.views id j w y ay))
        (λ (p : (i ≢ id) × (get_elem? s.views i ≡ some x)). ⊎_elim
        (λ (q : (j ≡ id) × (w ≡ y)). k.apart i id x v e p.1 at hx (mine e y q.1 hy) ∙ sym q.0)
        (λ (q : (j ≢ id) × (get_elem? s.views j ≡ some y)). k.apart i j x y e p.1 q.1 hx hy)
        (at_set s.views id j w y ay))
        (at_set s.views id i w x ax);
    held = λ e lt. holder e (k.held e lt);
    fit = fit;
  }
    where
      mine : (e : ℕ) (x : View I F) → w ≡ x → Contains x.errands e → Contains v.errands e
      mine e x is has = subst (λ (es : List ℕ). Contains es e) same_errands
          (subst (λ (u : View I F). Contains u.errands e) (sym is) has)

      holder : (e : ℕ) → (i : ℕ) × (u : View I F) × (get_elem? s.views i ≡ some u) × Contains u.errands e
          → (i : ℕ) × (u : View I F) × (get_elem? (set s.views id w) i ≡ some u) × Contains u.errands e
      holder e x = found (ℕ_discrete x.0 id)
        where
          found : Dec (x.0 ≡ id)
              → (i : ℕ) × (u : View I F) × (get_elem? (set s.views id w) i ≡ some u) × Contains u.errands e
          found (yes y) = let both : x.1 ≡ v = same_there s.views id x.1 v (subst (λ (j : ℕ). get_elem? s.views j ≡ some x.1) y x.2) at in (
            id,
            w,
            here s.views id v w at,
            subst (λ (es : List ℕ). Contains es e)
                (ap (λ (u : View I F). u.errands) both ∙ sym same_errands) x.3,
          )
          found (no n) = (x.0, x.1, set_else s.views id x.0 w n ∙ x.2, x.3)

      object : (p : ℕ) → p < length kinds → Dec (p ≡ o)
          → ObjectKept hist (same p) errands (slice_index words (3 * p)) (slice_index words (3 * p + 1))
          (slice_index words (3 * p + 2)) (slice_index_or homes p none)
          (slice_index_or (set k.histories o h') p []) (map (lane p) (set s.views id w))
      object p lt (yes y) = subst
          (λ (p : ℕ). ObjectKept hist (same p) errands (slice_index words (3 * p))
          (slice_index words (3 * p + 1)) (slice_index words (3 * p + 2)) (slice_index_or homes p none)
          (slice_index_or (set k.histories o h') p []) (map (lane p) (set s.views id w))) (sym y)
          (let c' = k.count in
          object_by o t' (slice_index words (3 * o)) s' (slice_index words (3 * o + 1)) n'
          (slice_index words (3 * o + 2)) home' (slice_index_or homes o none) h'
          (slice_index_or (set k.histories o h') o []) (set (map (lane o) s.views) id l)
          (map (lane o) (set s.views id w))
          (sym a) (sym b) (sym c) (sym d) (sym (get_or-set_same k.histories o h' [] (omega arith)))
          (sym (map-set (lane o) s.views id w ∙ ap
          (λ (u : Lane I). set (map (lane o) s.views) id u) is)) new)
      object p lt (no y) =
          object_by p (slice_index s.words (3 * p)) (slice_index words (3 * p))
          (slice_index s.words (3 * p + 1)) (slice_index words (3 * p + 1))
          (slice_index s.words (3 * p + 2)) (slice_index words (3 * p + 2))
          (slice_index_or s.homes p none) (slice_index_or homes p none)
          (slice_index_or k.histories p []) (slice_index_or (set k.histories o h') p [])
          (map (lane p) s.views) (map (lane p) (set s.views id w))
          (sym (words_else (3 * p) (omega arith) (omega arith) (omega arith)))
          (sym (words_else (3 * p + 1) (omega arith) (omega arith) (omega arith)))
          (sym (words_else (3 * p + 2) (omega arith) (omega arith) (omega arith))) (sym (homes_else p y))
          (sym (get_or-set_other k.histories o p h' [] y))
          (sym (map-set (lane p) s.views id w ∙
          (ap (λ (u : Lane I). set (map (lane p) s.views) id u) (others p y) ∙ set_again
          (map (lane p) s.views) id (lane p v) (at_map (lane p) s.views id v at))))
          (k.objects p lt)

  -- nothing changes
  pub still : (s : State S (View I F)) (i id : ℕ) (v : View I F) → Rule s → get_elem? s.views id ≡ some v
      → Rule record {
        words = set s.words i
            (slice_index s.words i);
        homes = s.homes;
        views = set s.views id v;
      }
  still s i id v k at = subst
      (λ (x : List ℕ × List (View I F)). Rule record { words = x.0; homes = s.homes; views = x.1 })
      (λ j. (sym (set_same s.words i 0) j, sym (set_again s.views id v at) j)) k

  pub same_words : (s : State S (View I F)) (i : ℕ) (homes : List (maybe.Option S)) (views : List (View I F))
      → Rule record { words = s.words; homes = homes; views = views }
      → Rule record { words = set s.words i (slice_index s.words i); homes = homes; views = views }
  same_words s i homes views k = subst
      (λ (x : List ℕ). Rule record { words = x; homes = homes; views = views }) (sym (set_same s.words i 0)) k

  -- what a view knows of each history
  pub known : (s : State S (View I F)) (k : Rule s) (id : ℕ) (v : View I F) → get_elem? s.views id ≡ some v
      → Fitted frame kinds v → (p : ℕ)
      → Knows errands v.errands (seen_at v p) (slice_index_or k.histories p [])
  known s k id v at fit p = here_or (dec_le (suc p) (length kinds))
    where
      here_or : Dec (suc p ≤ length kinds)
          → Knows errands v.errands (seen_at v p) (slice_index_or k.histories p [])
      here_or (yes y) =
          ((k.objects p (omega arith)).each_lane id (lane p v) (at_map (lane p) s.views id v at)).knows
      here_or (no n) = let a = fit.each_seen in let b = k.count in
          subst (λ (x : List I × List I). Knows errands v.errands x.0 x.1)
          (λ i. (sym (past v.seen p [] (omega arith)) i, sym (past k.histories p [] (omega arith)) i))
          (lanes.knows_all errands v.errands [])
