-- Rows that no typed rows spell: a key that is none, or a value that isn't one of the key's form.
use Rattle.std.proofs.Common.{◌≡◌, ℕ, List, [], ◌∷◌, ◌++◌, Some, refl, sym, ap, ◌∙◌}
use Rattle.std.specs.declared.cmp.Ordering.TheVariants.{Less}
use Rattle.conflict_sets.specs.Keys.{key_cmp}
use Rattle.conflict_sets.specs.Rows.{KeysAbove, IsAscending, value_at_key}
use Rattle.conflict_sets.proofs.KeyOrder.{key_self, key_less_flips}
use Rattle.fs_base.specs.declared.row.Row.{Row}
use Rattle.key_schema.specs.Keys.{IsKeyOf, IsNoKey}
use Rattle.key_schema.specs.declared.key.Key.{Key}
use Rattle.row_tree.specs.Spelling.{Spells, IsValueOf}
use Rattle.row_tree.specs.TypedRows.{TypedRows, value_at}
use Rattle.row_tree.specs.Values.{Value, spelled_value}
use Rattle.row_tree.proofs.SpellingLaws.{found_back, lookup-form}

-- each row's value stands at its key
pub value_there : (pre : List Row) (row : Row) (post : List Row) → IsAscending (pre ++ row ∷ post) → value_at_key (pre ++ row ∷ post) row.key ≡ Some row.value
value_there [] row post h = rw (key_self row.key) refl
value_there (r ∷ pre) row post h = rw (key_less_flips r.key row.key (below pre h.0)) (value_there pre row post h.1)
  where
    below : (xs : List Row) → KeysAbove r.key (xs ++ row ∷ post) → key_cmp r.key row.key ≡ Less
    below [] a = a.0
    below (x ∷ xs) a = below xs a.1

pub no_key_there : (R : List Row) (b v : List ℕ) → value_at_key R b ≡ Some v → IsNoKey b → (S : TypedRows) → Spells R S → ⊥
no_key_there R b v is none S spells = let key = spells.only b v is in none key.0 (key.1, sym key.2)

pub no_value_there : (R : List Row) (b v : List ℕ) (k : Key) → value_at_key R b ≡ Some v → IsKeyOf b k → ((w : Value) → IsValueOf k (Some w) → spelled_value w ≡ v → ⊥) → (S : TypedRows) → Spells R S → ⊥
no_value_there R b v k is key none S spells =
    let found =
    found_back (value_at S k) v (sym is ∙ (ap (value_at_key R) (sym key.1) ∙ spells.at k key.0)) in
    none found.0 (lookup-form S k found.0 found.1, (spells.fits k found.0 found.1).1) found.2
