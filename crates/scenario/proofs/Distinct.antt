-- Clients with an id of their own.
use Rattle.std.proofs.Common.{◌≡◌, ℕ, zero, suc, List, [], ◌∷◌, true, false, Bool, ◌||◌, not, refl, ap, sym, ◌∙◌, true≢false, eq-eqb}
use Rattle.std.specs.Prelude.{slice_get, Some, ◌==◌}
use Rattle.std.proofs.lemmas.Bool.{and_parts}
use Rattle.fs_base.specs.declared.ids.ClientId.{ClientId}
use Rattle.client_core.specs.Plans.{AreDistinct}
use Rattle.client_core.specs.declared.plan.Script.{Script}
use Rattle.scenario.specs.Scenario.{has_id, are_distinct}

-- ---- ids

or_true : (p : Bool) → (p || true) ≡ true
or_true true = refl
or_true false = refl

id_found : (id : ClientId) (scripts : List Script) (k : ℕ) (b : Script) → slice_get scripts k ≡ Some b → b.id ≡ id → has_id id scripts ≡ true
id_found id [] k b there same = absurd (cc there)
id_found id (s ∷ scripts) zero b there same =
    let here : s ≡ b = cc in
    let equal : s.id.0 ≡ id.0 = cc in
    rw (eq-eqb s.id.0 id.0 equal) refl
id_found id (s ∷ scripts) (suc k) b there same = rw (id_found id scripts k b there same) (or_true (s.id.0 == id.0))

-- an id that comes again isn't distinct
again : (s : Script) (scripts : List Script) (k : ℕ) (b : Script) → are_distinct (s ∷ scripts) ≡ true → slice_get scripts k ≡ Some b → b.id ≡ s.id → ⊥
again s scripts k b h there same =
    let first : not (has_id s.id scripts) ≡ true = (and_parts (not (has_id s.id scripts)) (are_distinct scripts) h).0 in
    let found : has_id s.id scripts ≡ true = id_found s.id scripts k b there same in
    true≢false (sym (rw found at first))

pub distinct_from : (scripts : List Script) → are_distinct scripts ≡ true → AreDistinct scripts
distinct_from [] h j k a b at_j at_k same = absurd (cc at_j)
distinct_from (s ∷ scripts) h zero zero a b at_j at_k same = refl
distinct_from (s ∷ scripts) h zero (suc k) a b at_j at_k same =
    let here : s ≡ a = cc in
    absurd (again s scripts k b h at_k (sym same ∙ ap (λ (x : Script). x.id) (sym here)))
distinct_from (s ∷ scripts) h (suc j) zero a b at_j at_k same =
    let here : s ≡ b = cc in
    absurd (again s scripts j a h at_j (same ∙ ap (λ (x : Script). x.id) (sym here)))
distinct_from (s ∷ scripts) h (suc j) (suc k) a b at_j at_k same =
    ap suc (distinct_from scripts (and_parts (not (has_id s.id scripts)) (are_distinct scripts) h).1 j k a b at_j at_k same)
