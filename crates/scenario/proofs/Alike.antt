-- Stops no two of which are alike.
use Rattle.std.proofs.Common.{◌≡◌, ℕ, zero, suc, List, [], ◌∷◌, true, false, Bool, ◌||◌, not, refl, ap, sym, ◌∙◌, true≢false, eq-eqb}
use Rattle.std.specs.Prelude.{slice_get, Some}
use Rattle.std.proofs.lemmas.Bool.{and_parts}
use Rattle.client_core.specs.Plans.{AreStopsDistinct}
use Rattle.client_core.specs.declared.plan.Stop.{Stop}
use Rattle.client_core.specs.declared.plan.StopAfter.{StopAfter}
use Rattle.client_core.specs.declared.plan.StopAfter.TheVariants.{Ask, Commit}
use Rattle.scenario.specs.Stops.{are_alike, are_different, count_alike, has_stop}

or_true : (p : Bool) → (p || true) ≡ true
or_true true = refl
or_true false = refl

counts_itself : (after : StopAfter) → count_alike after after ≡ true
counts_itself Ask = refl
counts_itself Commit = refl

alike_itself : (stop : Stop) → are_alike stop stop ≡ true
alike_itself stop =
    rw (eq-eqb stop.server stop.server refl, counts_itself stop.after, eq-eqb stop.n stop.n refl) refl

stop_found : (stop : Stop) (stops : List Stop) (k : ℕ) → slice_get stops k ≡ Some stop → has_stop stop stops ≡ true
stop_found stop [] k there = absurd (cc there)
stop_found stop (s ∷ stops) zero there =
    let here : s ≡ stop = cc in
    rw (here, alike_itself stop) refl
stop_found stop (s ∷ stops) (suc k) there = rw (stop_found stop stops k there) (or_true (are_alike stop s))

-- a stop that comes again isn't the only one of its kind
stop_again : (s : Stop) (stops : List Stop) (k : ℕ) → are_different (s ∷ stops) ≡ true → slice_get stops k ≡ Some s → ⊥
stop_again s stops k h there =
    let first : not (has_stop s stops) ≡ true = (and_parts (not (has_stop s stops)) (are_different stops) h).0 in
    let found : has_stop s stops ≡ true = stop_found s stops k there in
    true≢false (sym (rw found at first))

pub stops_distinct_from : (stops : List Stop) → are_different stops ≡ true → AreStopsDistinct stops
stops_distinct_from [] h j k stop at_j at_k = absurd (cc at_j)
stops_distinct_from (s ∷ stops) h zero zero stop at_j at_k = refl
stops_distinct_from (s ∷ stops) h zero (suc k) stop at_j at_k =
    let here : s ≡ stop = cc in
    absurd (stop_again s stops k h (at_k ∙ ap (λ (x : Stop). Some x) (sym here)))
stops_distinct_from (s ∷ stops) h (suc j) zero stop at_j at_k =
    let here : s ≡ stop = cc in
    absurd (stop_again s stops j h (at_j ∙ ap (λ (x : Stop). Some x) (sym here)))
stops_distinct_from (s ∷ stops) h (suc j) (suc k) stop at_j at_k =
    ap suc (stops_distinct_from stops (and_parts (not (has_stop s stops)) (are_different stops) h).1 j k stop at_j at_k)
