-- A board that is closed.
use Rattle.std.proofs.Common.{◌≡◌, ◌≢◌, ℕ, zero, suc, ◌+◌, ◌<◌, ◌≤◌, List, [], ◌∷◌, ◌++◌, length, get_or, set, take, Bool, Option, true, false, refl, sym, ap, ◌∙◌, subst, arith, add-one, length-set}
use Rattle.std.proofs.Math.Seq.{get_or-set_same, get_or-set_other}
use mathlib.Core.Option.{some, some-ne-none, some-injective}
use native.Mathlib.Decide.{ℕ_discrete}
use lib.ListN.{get_elem?}
use Rattle.atomic_table.specs.Table.{Me}
use Rattle.hist_board.specs.Turn.{Turn, no_turn, served}
use Rattle.hist_board.specs.Rule.{Knows, errands_under, turn_at, seen_at}
use Rattle.hist_board.specs.Passes.{AtRest, Closing, SeesOn, staged}
use Rattle.hist_board.specs.declared.view.View.{View}
use Rattle.hist_board.proofs.Lanes as lanes
use Rattle.hist_board.proofs.Turning.{map_one, length_one}

module _ {S I F : Type 0} (errands : F → I → List ℕ) where
  pub closing_starts : (words : ℕ) (m : Me S (View I F)) → AtRest words m → Closing errands m 0 m
  closing_starts words m r = record {
    none_out = r.none_out;
    same = (refl, refl, refl);
    places = (r.places, ap (λ (l : List Turn). length l) r.no_turns ∙ length_one no_turn m.0.kinds);
    kept = λ o lt. absurd (omega arith);
    later = λ o _.
        (ap (λ (l : List Turn). get_or l o no_turn) r.no_turns ∙ map_one no_turn m.0.kinds o, refl);
    seen = λ o. lanes.knows_all (errands_under errands m.0.frame) m.0.errands (seen_at m.0 o);
  }

  pub closing_more : (m0 m m' : Me S (View I F)) (i : ℕ) → Closing errands m0 i m → i < length m0.0.kinds
      → (h : List I) × (t : ℕ) × Knows (errands_under errands m.0.frame) m.0.errands (seen_at m.0 i) h
      × (m'.0 ≡ staged i (served t) h m.0)
      → m'.1 ≡ m.1 → Closing errands m0 (i + 1) m'
  closing_more m0 m m' i c near told out = let h = told.0 in let t = told.1 in let p0 = c.places.0 in
      let p1 = c.places.1 in
      subst (λ (x : View I F × List (ℕ × S)). Closing errands m0 (i + 1) x) (λ k. (sym told.3 k, sym out k))
      record {
        none_out = c.none_out;
        same = c.same;
        places = (length-set m.0.seen i h ∙ p0, length-set m.0.turns i (served t) ∙ p1);
        kept = λ o lt. kept o lt (ℕ_discrete o i);
        later = λ o lt. let l = c.later o (omega arith) in let ne : o ≢ i = (λ e. omega arith) in (
          get_or-set_other m.0.turns i o (served t) no_turn ne ∙ l.0,
          get_or-set_other m.0.seen i o h [] ne
              ∙ l.1,
        );
        seen = λ o. seen o (ℕ_discrete o i);
      }
    where
      kept : (o : ℕ) → o < i + 1 → Dec (o ≡ i)
          → ((turn_at (staged i (served told.1) told.0 m.0) o).has ≡ true)
          × ((turn_at (staged i (served told.1) told.0 m.0) o).whole ≡ true)
          × ((turn_at (staged i (served told.1) told.0 m.0) o).out ≡ false)
      kept o lt (yes y) = let p1 = c.places.1 in
          let at : get_or (set m.0.turns i (served told.1)) o no_turn ≡ served told.1 = ap
          (λ (k : ℕ). get_or (set m.0.turns i (served told.1)) k no_turn) y
          ∙ get_or-set_same m.0.turns i (served told.1) no_turn (omega arith) in
          (ap (λ (u : Turn). u.has) at, ap (λ (u : Turn). u.whole) at, ap (λ (u : Turn). u.out) at)
      kept o lt (no n) = let at = get_or-set_other m.0.turns i o (served told.1) no_turn n in
          let k = c.kept o (omega arith) in (
            ap (λ (u : Turn). u.has) at ∙ k.0,
            ap (λ (u : Turn). u.whole) at ∙ k.1,
            ap (λ (u : Turn). u.out) at
                ∙ k.2,
          )

      seen : (o : ℕ) → Dec (o ≡ i)
          → Knows (errands_under errands m0.0.frame) m0.0.errands (seen_at m0.0 o)
          (seen_at (staged i (served told.1) told.0 m.0) o)
      seen o (yes y) = let p0 = c.places.0 in let l = (c.later i (omega arith)).1 in
          let k1 = subst
          (λ (x : Option F × List ℕ). Knows (errands_under errands x.0) x.1 (seen_at m.0 i) told.0)
          (λ k. (c.same.0 k, c.same.2 k)) told.2 in
          let k2 = subst
          (λ (x : List I). Knows (errands_under errands m0.0.frame) m0.0.errands x told.0) l k1 in
          subst (λ (k : ℕ). Knows (errands_under errands m0.0.frame) m0.0.errands (seen_at m0.0 k)
          (seen_at (staged i (served told.1) told.0 m.0) k)) (sym y)
          (subst (λ (x : List I). Knows (errands_under errands m0.0.frame) m0.0.errands (seen_at m0.0 i) x)
          (sym (get_or-set_same m.0.seen i told.0 [] (omega arith))) k2)
      seen o (no n) = subst
          (λ (x : List I). Knows (errands_under errands m0.0.frame) m0.0.errands (seen_at m0.0 o) x)
          (sym (get_or-set_other m.0.seen i o told.0 [] n)) (c.seen o)

take_suc : {A : Type 0} (l : List A) (i : ℕ) (a : A) → get_elem? l i ≡ some a
    → take (suc i) l ≡ take i l ++ a ∷ []
take_suc [] i a e = absurd (some-ne-none a (sym e))
take_suc (x ∷ xs) zero a e = λ k. some-injective x a e k ∷ []
take_suc (x ∷ xs) (suc i) a e = ap (λ (ys : List _). x ∷ ys) (take_suc xs i a e)

pub take_snoc : {A : Type 0} (l : List A) (i : ℕ) (a : A) → get_elem? l i ≡ some a
    → take (i + 1) l ≡ take i l ++ a ∷ []
take_snoc l i a e = rw add-one (take_suc l i a e)

-- one place is emptied
pub emptied : (fs : List Bool) (i n : ℕ) → i < length fs →
    ((k : ℕ) → i ≤ k → k < n → get_or fs k false ≡ true)
    → ((k : ℕ) → k < i → get_or fs k false ≡ false)
    → ((k : ℕ) → i + 1 ≤ k → k < n → get_or (set fs i false) k false ≡ true)
    × ((k : ℕ) → k < i + 1 → get_or (set fs i false) k false ≡ false)
emptied fs i n near full out = (
  (λ k lo hi. get_or-set_other fs i k false false (λ e. omega arith) ∙ full k (omega arith) hi),
  (λ k lo. decided k lo (ℕ_discrete k i)),
)
  where
    decided : (k : ℕ) → k < i + 1 → Dec (k ≡ i) → get_or (set fs i false) k false ≡ false
    decided k lo (yes y) = ap (λ (j : ℕ). get_or (set fs i false) j false) y
        ∙ get_or-set_same fs i false false near
    decided k lo (no n) = get_or-set_other fs i k false false n ∙ out k (omega arith)

module _ {S I F : Type 0} (errands : F → I → List ℕ) where
  -- what a closing pass has seen in the end
  pub sees_on : (m0 m : Me S (View I F)) (n : ℕ) → Closing errands m0 n m → SeesOn errands m0.0 m.0
  sees_on m0 m n c = (sym c.same.0, sym c.same.1, c.seen)

  pub all_served : (m0 m : Me S (View I F)) (n : ℕ) → n ≡ length m0.0.kinds → Closing errands m0 n m → (o : ℕ)
      → o < length m.0.kinds
      → ((turn_at m.0 o).has ≡ true) × ((turn_at m.0 o).whole ≡ true) × ((turn_at m.0 o).out ≡ false)
  all_served m0 m n is c o lt = c.kept o (let k = ap (λ (ks : List ℕ). length ks) c.same.1 in omega arith)
