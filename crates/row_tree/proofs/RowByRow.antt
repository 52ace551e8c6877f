-- Rows of bytes are put into typed rows one by one.
use Rattle.std.proofs.Common.{◌≡◌, ℕ, zero, suc, ◌+◌, ◌<◌, List, [], ◌∷◌, ◌++◌, take, drop, length, get_or, sym, ap, subst, ◌∙◌, append_assoc}
use Rattle.std.proofs.lemmas.Grind.{take_at_read}
use Rattle.std.proofs.lemmas.List.{take-append-drop}
use Rattle.std.specs.Prelude.{Some}
use Rattle.conflict_sets.specs.Rows.{KeysAbove, IsAscending, with_write}
use Rattle.fs_base.specs.declared.row.Row.{Row}
use Rattle.key_schema.specs.Keys.{spelled_key}
use Rattle.row_tree.specs.Reading.{PutsRow, IsNoRow}
use Rattle.row_tree.specs.Spelling.{Spells}
use Rattle.row_tree.specs.TypedRows.{TypedRows, write}
use Rattle.row_tree.specs.Values.{spelled_value}
use Rattle.row_tree.proofs.Ascends.{before_the_last, with_write_last}
use Rattle.row_tree.proofs.Refusals.{value_there, no_value_there}
use Rattle.row_tree.proofs.SpellingLaws.{spells_write}

-- one row more, behind the others
pub row_more : (rows : List Row) (row : Row) (S U : TypedRows) → IsAscending (rows ++ row ∷ []) → Spells rows S → PutsRow S U row → Spells (rows ++ row ∷ []) U
row_more rows row S U asc spells puts =
    let key = puts.0 in
    let is_key = puts.1 in
    let put = puts.2 in
    let before = before_the_last rows row asc in
    let after : Spells (with_write (spelled_key key) (Some (spelled_value put.0)) rows) (write S key (Some put.0)) = spells_write rows S before.0 spells key (Some put.0) is_key.0 put.1 in
    let bytes : with_write (spelled_key key) (Some (spelled_value put.0)) rows ≡ rows ++ row ∷ [] =
    (λ i. with_write (is_key.1 i) (Some (put.2 i)) rows) ∙ with_write_last rows row before.1 in
    subst (λ V. Spells (rows ++ row ∷ []) V) (sym put.3) (subst (λ R. Spells R (write S key (Some put.0))) bytes after)

-- rows with a row that is none are spelled by no typed rows
pub row_less : (pre : List Row) (row : Row) (post : List Row) → IsAscending (pre ++ row ∷ post) → IsNoRow row → (S : TypedRows) → Spells (pre ++ row ∷ post) S → ⊥
row_less pre row post asc none S spells =
    let there = value_there pre row post asc in
    let key = spells.only row.key row.value there in
    no_value_there (pre ++ row ∷ post) row.key row.value key.0 there (key.1, sym key.2) (none key.0 (key.1, sym key.2)) S spells

above_take : (n : ℕ) (key : List ℕ) (rows : List Row) → KeysAbove key rows → KeysAbove key (take n rows)
above_take zero key rows h = tt
above_take (suc n) key [] h = tt
above_take (suc n) key (row ∷ rows) h = (h.0, above_take n key rows h.1)

ascending_take : (n : ℕ) (rows : List Row) → IsAscending rows → IsAscending (take n rows)
ascending_take zero rows h = tt
ascending_take (suc n) [] h = tt
ascending_take (suc n) (row ∷ rows) h = (above_take n row.key rows h.0, ascending_take n rows h.1)

-- the rows up to an index, and the one there
taken : (rows : List Row) (i : ℕ) (row : Row) → i < length rows → row ≡ get_or rows i row → take (i + 1) rows ≡ take i rows ++ row ∷ []
taken rows i row l is = (take_at_read rows i row l).1 ∙ ap (λ r. take i rows ++ r ∷ []) (sym is)

pub row_put : (rows : List Row) (i : ℕ) (row : Row) (S U : TypedRows) → IsAscending rows → i < length rows → row ≡ get_or rows i row → Spells (take i rows) S → PutsRow S U row → Spells (take (i + 1) rows) U
row_put rows i row S U asc l is spells puts =
    let front = taken rows i row l is in
    subst (λ R. Spells R U) (sym front) (row_more (take i rows) row S U (subst IsAscending front (ascending_take (i + 1) rows asc)) spells puts)

pub row_bad : (rows : List Row) (i : ℕ) (row : Row) → IsAscending rows → i < length rows → row ≡ get_or rows i row → IsNoRow row → (S : TypedRows) → Spells rows S → ⊥
row_bad rows i row asc l is none S spells =
    let parts : rows ≡ take i rows ++ row ∷ drop (i + 1) rows =
    sym (take-append-drop (i + 1) rows) ∙ (ap (λ front. front ++ drop (i + 1) rows) (taken rows i row l is) ∙ append_assoc (take i rows) (row ∷ []) (drop (i + 1) rows)) in
    row_less (take i rows) row (drop (i + 1) rows) (subst IsAscending parts asc) none S (subst (λ R. Spells R S) parts spells)
