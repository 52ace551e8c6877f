-- The keys between a prefix and the prefix raised by one are those that begin with it, in the store's order.
use Rattle.std.proofs.Common.{◌≡◌, ℕ, true, List, ◌∷◌, ◌++◌}
use Rattle.conflict_sets.specs.Keys.{key_cmp}
use Rattle.conflict_sets.specs.Rows.{is_inside}
use Rattle.key_schema.specs.Ranges.{raised}
use Rattle.key_schema.proofs.Prefixes as prefixes

pub inside_prefix : (b : ℕ) (p n : List ℕ) → is_inside (b ∷ p) (raised (b ∷ p)) ((b ∷ p) ++ n) ≡ true
unfolding key_cmp
inside_prefix b p n = prefixes.inside_prefix b p n

pub prefix_of : (b : ℕ) (p q : List ℕ) → is_inside (b ∷ p) (raised (b ∷ p)) q ≡ true → (n : List ℕ) × (q ≡ (b ∷ p) ++ n)
unfolding key_cmp
prefix_of b p q e = prefixes.prefix_of b p q e
