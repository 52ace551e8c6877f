-- Keys that rise one by one ascend; a row behind them all is the last.
use Rattle.std.proofs.Common.{◌≡◌, ℕ, true, ◌↔◌, List, [], ◌∷◌, ◌++◌, Some, refl, ap, ◌∙◌}
use Rattle.std.specs.Ordering.{is_lt}
use Rattle.std.specs.declared.cmp.Ordering.{Ordering}
use Rattle.std.specs.declared.cmp.Ordering.TheVariants.{Less, Equal, Greater}
use Rattle.conflict_sets.specs.Keys.{key_cmp}
use Rattle.conflict_sets.specs.Rows.{KeysAbove, KeysBefore, IsAscending, with_write}
use Rattle.conflict_sets.proofs.KeyOrder.{key_less_flips}
use Rattle.conflict_sets.proofs.RowLemmas.{KeysAbove_lower, with_write_greater}
use Rattle.fs_base.specs.declared.row.Row.{Row}
use Rattle.tree_model.proofs.MapLaws.{and_true, and_both}
use Rattle.row_tree.specs.Ascending.{rises, is_ascending}

is_less : (o : Ordering) → is_lt o ≡ true → o ≡ Less
is_less Less e = refl
is_less Equal e = absurd (cc)
is_less Greater e = absurd (cc)

risen : (key : List ℕ) (rows : List Row) → rises key rows ≡ true → KeysAbove key rows × IsAscending rows
risen key [] e = (tt, tt)
risen key (row ∷ rows) e =
    let both = and_true (is_lt (key_cmp key row.key)) (rises row.key rows) e in
    let less = is_less (key_cmp key row.key) both.0 in
    let later = risen row.key rows both.1 in
    ((less, KeysAbove_lower key row.key rows less later.0), later)

raised : (key : List ℕ) (rows : List Row) → KeysAbove key rows → IsAscending rows → rises key rows ≡ true
raised key [] above asc = refl
raised key (row ∷ rows) above asc = and_both (is_lt (key_cmp key row.key)) (rises row.key rows) (ap is_lt above.0) (raised row.key rows asc.0 asc.1)

pub ascends : (rows : List Row) → (is_ascending rows ≡ true) ↔ IsAscending rows
ascends [] = (λ e. tt, λ e. refl)
ascends (row ∷ rows) = (λ e. risen row.key rows e, λ h. raised row.key rows h.0 h.1)

-- all but the last row of ascending rows come before it
pub before_the_last : (rows : List Row) (last : Row) → IsAscending (rows ++ last ∷ []) → IsAscending rows × KeysBefore last.key rows
before_the_last [] last h = (tt, tt)
before_the_last (row ∷ rows) last h =
    let later = before_the_last rows last h.1 in
    let above = parted rows h.0 in
    ((above.0, later.0), (key_less_flips row.key last.key above.1, later.1))
  where
    parted : (xs : List Row) → KeysAbove row.key (xs ++ last ∷ []) → KeysAbove row.key xs × (key_cmp row.key last.key ≡ Less)
    parted [] a = (tt, a.0)
    parted (x ∷ xs) a = let rest = parted xs a.1 in ((a.0, rest.0), rest.1)

-- a row behind them all is written at their end
pub with_write_last : (rows : List Row) (last : Row) → KeysBefore last.key rows → with_write last.key (Some last.value) rows ≡ rows ++ last ∷ []
with_write_last [] last h = refl
with_write_last (row ∷ rows) last h = with_write_greater last.key (Some last.value) row rows h.0 ∙ ap (λ xs. row ∷ xs) (with_write_last rows last h.1)
