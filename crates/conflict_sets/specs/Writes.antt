-- Writes in the order of keys, each key once.
use Rattle.std.specs.Prelude.{◌≡◌, ℕ, List, [], ◌∷◌}
use Rattle.std.specs.Coded.{×_prop, Unit-prop}
use Rattle.std.specs.Ordering.{Ordering-set}
use Rattle.std.specs.declared.cmp.Ordering.TheVariants.{Less}
use Rattle.conflict_sets.specs.Keys.{key_cmp}
use Rattle.conflict_sets.specs.declared.sets.Write.{Write}

-- each key comes after this one
abbrev pub WritesAbove : List ℕ → List Write → Type 0
WritesAbove key [] = Unit {0}
WritesAbove key (write ∷ writes) = (key_cmp key write.key ≡ Less) × WritesAbove key writes

-- keys ascend, so each stands once
abbrev pub AreAscending : List Write → Type 0
AreAscending [] = Unit {0}
AreAscending (write ∷ writes) = WritesAbove write.key writes × AreAscending writes

-- ---- each fact has one proof at most
WritesAbove-prop : (key : List ℕ) (writes : List Write) → IsProp (WritesAbove key writes)
WritesAbove-prop key [] = Unit-prop
WritesAbove-prop key (write ∷ writes) = ×_prop (Ordering-set _ Less) (WritesAbove-prop key writes)

pub AreAscending-prop : (writes : List Write) → IsProp (AreAscending writes)
AreAscending-prop [] = Unit-prop
AreAscending-prop (write ∷ writes) = ×_prop (WritesAbove-prop write.key writes) (AreAscending-prop writes)
