-- A hint that is doubled until it is above a place.
use Rattle.std.proofs.Common.{◌≡◌, ℕ, zero, suc, ◌+◌, ◌-◌, ◌<◌, ◌≤◌, nat_lt, Bool, true, false, cond, refl, sym, ap, ◌∙◌, arith, lt-ltb, le-ltb}
use Rattle.std.proofs.lemmas.Bool.{ltb-false}
use Rattle.tree_model.specs.Sessions.{at_most, doubled, hint_over}

pub doubled_above : (times place hint : ℕ) → place < hint → doubled times place hint ≡ hint
unfolding doubled
doubled_above zero place hint above = refl
doubled_above (suc times) place hint above = ap (λ b. cond b hint (doubled times place (hint + hint))) (lt-ltb place hint above)

-- a doubling, one of the times that are left
doubled_once : (times place hint : ℕ) → hint ≤ place → doubled (suc times) place hint ≡ doubled times place (hint + hint)
unfolding doubled
doubled_once times place hint below = ap (λ b. cond b hint (doubled times place (hint + hint))) (le-ltb place hint below)

pub doubled_next : (left place hint : ℕ) → 1 ≤ left → hint ≤ place → doubled (left - 1) place (hint + hint) ≡ doubled left place hint
doubled_next zero place hint some below = omega arith
doubled_next (suc times) place hint some below =
    let fewer : suc times - 1 ≡ times = omega arith in
    ap (λ (n : ℕ). doubled n place (hint + hint)) fewer ∙ sym (doubled_once times place hint below)

pub doubled_no_more : (place hint : ℕ) → doubled 0 place hint ≡ hint
unfolding doubled
doubled_no_more place hint = refl

doubled_rises : (times place hint : ℕ) → hint ≤ doubled times place hint
unfolding doubled
doubled_rises zero place hint = omega arith
doubled_rises (suc times) place hint = by (nat_lt place hint) (doubled_rises times place (hint + hint))
  where
    by : (b : Bool) → hint + hint ≤ doubled times place (hint + hint) → hint ≤ cond b hint (doubled times place (hint + hint))
    by true more = omega arith
    by false more = omega arith

-- it doesn't fall
pub hint_over_rises : (stripe place hint : ℕ) → place < stripe → hint ≤ hint_over stripe place hint
hint_over_rises stripe place hint within = by (nat_lt place hint) refl
  where
    least : hint ≤ place → (b : Bool) → hint ≤ cond b stripe (doubled 16 place hint)
    least below true = omega arith
    least below false = doubled_rises 16 place hint

    by : (b : Bool) → nat_lt place hint ≡ b → hint ≤ cond b hint (at_most stripe (doubled 16 place hint))
    by true e = omega arith
    by false e = least (ltb-false place hint e) (nat_lt stripe (doubled 16 place hint))

-- some places are in use, and at most those of the stripe
pub hint_over_fits : (stripe place hint : ℕ) → 1 ≤ hint → hint ≤ stripe → (1 ≤ hint_over stripe place hint) × (hint_over stripe place hint ≤ stripe)
hint_over_fits stripe place hint used few = by (nat_lt place hint)
  where
    most : (b : Bool) → nat_lt stripe (doubled 16 place hint) ≡ b → (1 ≤ cond b stripe (doubled 16 place hint)) × (cond b stripe (doubled 16 place hint) ≤ stripe)
    most true e = (omega arith, omega arith)
    most false e = let more = doubled_rises 16 place hint in let fits = ltb-false stripe (doubled 16 place hint) e in (omega arith, omega arith)

    by : (b : Bool) → (1 ≤ cond b hint (at_most stripe (doubled 16 place hint))) × (cond b hint (at_most stripe (doubled 16 place hint)) ≤ stripe)
    by true = (used, few)
    by false = most (nat_lt stripe (doubled 16 place hint)) refl
