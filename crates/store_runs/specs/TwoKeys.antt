-- The law of the store that the lists are run on: the keys a and b have a value, and an entry sets one key.
use Rattle.std.specs.Prelude.{◌≡◌, ℕ, List, [], ◌∷◌, Option, Some, Bool, true, false, cond, IsSome, refl}
use Rattle.std.specs.Ordering.{is_eq}
use Rattle.std.proofs.Common.{sym, subst}
use Rattle.conflict_sets.specs.Keys.{key_cmp}
use Rattle.conflict_sets.specs.Rows.{IsAscending, value_at_key, with_write, with_writes}
use Rattle.conflict_sets.proofs.RowLemmas.{value-with_write}
use Rattle.conflict_sets.specs.declared.sets.Write.{Write}
use Rattle.fs_base.specs.declared.row.Row.{Row}

abbrev pub HasBoth : List Row → Type 0
HasBoth rows = IsSome (value_at_key rows (97 ∷ [])) × IsSome (value_at_key rows (98 ∷ []))

pub record SetsOne (writes : List Write) : Type 0 where
  pub key : List ℕ
  pub value : List ℕ
  pub is : writes ≡ record { key = key; value = Some value } ∷ []

set_keeps : (key value q : List ℕ) (rows : List Row) → IsAscending rows → IsSome (value_at_key rows q)
    → IsSome (value_at_key (with_write key (Some value) rows) q)
set_keeps key value q rows a h =
    subst (λ (o : Option (List ℕ)). IsSome o) (sym (value-with_write key q (Some value) rows a))
    (some (is_eq (key_cmp q key)) (value_at_key rows q) h)
  where
    some : (b : Bool) (o : Option (List ℕ)) → IsSome o → IsSome (cond b (Some value) o)
    some true o h = refl
    some false o h = h

-- an entry that sets one key leaves both a value
pub keeps_both : (rows : List Row) (writes : List Write) → IsAscending rows → SetsOne writes → HasBoth rows
    → HasBoth (with_writes rows writes)
keeps_both rows writes a s h =
    subst (λ ws. HasBoth (with_writes rows ws)) (sym s.is)
    (set_keeps s.key s.value (97 ∷ []) rows a h.0, set_keeps s.key s.value (98 ∷ []) rows a h.1)
