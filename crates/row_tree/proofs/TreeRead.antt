-- Rows that aren't well formed are no tree's.
use Rattle.std.proofs.Common.{◌≡◌, ◌↔◌, Bool, true, false, List, sym, subst, ◌∙◌}
use Rattle.std.specs.Prelude.{IsTrue}
use Rattle.conflict_sets.specs.Rows.{IsAscending}
use Rattle.fs_base.specs.Config.{Settings}
use Rattle.fs_base.specs.declared.row.Row.{Row}
use Rattle.tree_model.specs.Tree.{Tree}
use Rattle.row_tree.specs.Ascending.{is_ascending}
use Rattle.row_tree.specs.HasTree.{HasTree}
use Rattle.row_tree.specs.Spelling.{Spells}
use Rattle.row_tree.specs.TypedRows.{TypedRows}
use Rattle.row_tree.specs.WellFormed.{IsWellFormed}
use Rattle.row_tree.proofs.Ascends.{ascends}
use Rattle.row_tree.proofs.OneValue.{one_value_each}
use Rattle.row_tree.proofs.SpellingLaws.{same_typed_rows}

never : false ≡ true → ⊥
never e = absurd (cc)

pub falls : (rows : List Row) → false ≡ is_ascending rows → IsAscending rows → ⊥
falls rows e h = never (e ∙ (ascends rows).1 h)

pub rise : (rows : List Row) → true ≡ is_ascending rows → IsAscending rows
rise rows e = (ascends rows).0 (sym e)

pub no_tree_unread : (C : Settings) (R : List Row) → ((S : TypedRows) → Spells R S → ⊥) → (T : Tree) → HasTree C R T → ⊥
no_tree_unread C R none T h = none h.0 h.1

pub no_tree : (C : Settings) (R : List Row) (S : TypedRows) (test : Bool) → Spells R S → (IsTrue test ↔ IsWellFormed C S) → test ≡ false → (T : Tree) → HasTree C R T → ⊥
no_tree C R S test spells decides fails T h =
    never (sym fails ∙ decides.1 (subst (IsWellFormed C) (same_typed_rows one_value_each R h.0 S h.1 spells) h.2))
