-- When a test decides a fact, and how tests that do are put together.
use Rattle.std.proofs.Common.{◌≡◌, ℕ, ◌<◌, ◌≤◌, Bool, true, false, not, ◌&&◌, ◌||◌, ◌==◌, nat_le, nat_lt, refl, sym, subst, eqb-true, eq-eqb, leb-true, le-leb, ltb-true, lt-ltb}
use Rattle.std.specs.Prelude.{Option, Some, None}
use Rattle.std.specs.declared.cmp.Ordering.{Ordering}
use Rattle.std.specs.FinMap.{FinMap, get}
use Rattle.tree_model.specs.Maps.{all_pass}
use Rattle.tree_model.proofs.MapLaws.{IsKeyOrder, found_passes, passes_each, and_true, and_both, some_injective}
use Rattle.row_tree.specs.Deciding.{some_passes}

-- the test is true exactly where the fact holds
pub record IsTest (b : Bool) (P : Type 0) : Type 0 where
  pub holds : b ≡ true → P
  pub pass : P → b ≡ true

pub decides_eq : (a b : ℕ) → IsTest (a == b) (a ≡ b)
decides_eq a b = record { holds = eqb-true a b; pass = eq-eqb a b }

pub decides_le : (a b : ℕ) → IsTest (nat_le a b) (a ≤ b)
decides_le a b = record { holds = leb-true a b; pass = le-leb a b }

pub decides_lt : (a b : ℕ) → IsTest (nat_lt a b) (a < b)
decides_lt a b = record { holds = ltb-true a b; pass = lt-ltb a b }

pub decides_true : (b : Bool) → IsTest b (b ≡ true)
decides_true b = record { holds = λ h. h; pass = λ h. h }

pub decides_and : {P Q : Type 0} (a b : Bool) → IsTest a P → IsTest b Q → IsTest (a && b) (P × Q)
decides_and a b p q =
    record {
      holds = λ h. let both = and_true a b h in (p.holds both.0, q.holds both.1);
      pass = λ h. and_both a b (p.pass h.0) (q.pass h.1);
    }

-- a test that was false is true when turned
turned : (a : Bool) → (a ≡ true → ⊥) → not a ≡ true
turned true fails = absurd (fails refl)
turned false fails = refl

unturned : (a : Bool) → not a ≡ true → a ≡ true → ⊥
unturned true h e = cc
unturned false h e = cc

pub decides_not : {P : Type 0} (a : Bool) → IsTest a P → IsTest (not a) (P → ⊥)
decides_not a p = record { holds = λ h x. unturned a h (p.pass x); pass = λ fails. turned a (λ e. fails (p.holds e)) }

-- not the first, or the second
pub decides_then : {P Q : Type 0} (a b : Bool) → IsTest a P → IsTest b Q → IsTest (not a || b) (P → Q)
decides_then true b p q = record { holds = λ h x. q.holds h; pass = λ h. q.pass (h (p.holds refl)) }
decides_then false b p q = record { holds = λ h x. let e : false ≡ true = p.pass x in cc; pass = λ h. refl }

-- the first, or the second where the first fails
pub decides_unless : {P Q : Type 0} (a b : Bool) → IsTest a P → IsTest b Q → IsTest (a || b) ((P → ⊥) → Q)
decides_unless true b p q = record { holds = λ h fails. absurd (fails (p.holds refl)); pass = λ h. refl }
decides_unless false b p q = record { holds = λ h fails. q.holds h; pass = λ h. q.pass (h (λ x. let e : false ≡ true = p.pass x in cc)) }

pub decides_as : {P Q : Type 0} {b : Bool} → IsTest b P → (P → Q) → (Q → P) → IsTest b Q
decides_as p to from = record { holds = λ h. to (p.holds h); pass = λ q. p.pass (from q) }

pub decides_some : {X : Type 0} {P : X → Type 0} (p : X → Bool) (o : Option X) → ((x : X) → IsTest (p x) (P x)) → IsTest (some_passes p o) ((x : X) × (o ≡ Some x) × P x)
decides_some p None each = record { holds = λ h. cc; pass = λ at. let e : None ≡ Some at.0 = at.1 in cc }
decides_some {P = P} p (Some x) each =
    record {
      holds = λ h. (x, refl, (each x).holds h);
      pass = λ at. (each x).pass (subst P (sym (some_injective x at.0 at.1)) at.2);
    }

-- each entry passes exactly where the fact holds of all that is found
pub decides_each : {K X : Type 0} {R : K → K → Ordering} {P : K → X → Type 0} (o : IsKeyOrder R) (p : K → X → Bool) (m : FinMap R X) → ((k : K) (v : X) → get m k ≡ Some v → IsTest (p k v) (P k v)) → IsTest (all_pass p m) ((k : K) (v : X) → get m k ≡ Some v → P k v)
decides_each o p m each =
    record {
      holds = λ all k v is. (each k v is).holds (found_passes o p m all k v is);
      pass = λ all. passes_each o p m (λ k v is. (each k v is).pass (all k v is));
    }
