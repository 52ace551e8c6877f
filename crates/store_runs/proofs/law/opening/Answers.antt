use Rattle.std.proofs.Common.{◌≡◌, ◌∙◌, ◌∷◌, ◌++◌, [], ap, sym, subst, refl, List, ℕ}
use Rattle.conflict_sets.specs.Keys.{key_cmp}
use Rattle.conflict_sets.specs.Rows.{IsAscending}
use Rattle.fs_base.specs.declared.row.Row.{Row}
use Rattle.store_runs.specs.TwoKeys.{HasBoth}
use Rattle.store_runs.proofs.law.opening.Goals as goal

abbrev row_of : ℕ → Row
row_of letter = record { key = letter ∷ []; value = 45 ∷ [] }

ascend : (rows : List Row) → rows ≡ row_of 97 ∷ row_of 98 ∷ [] → IsAscending rows
unfolding key_cmp
ascend rows r = subst IsAscending (sym r) ((refl, tt), (tt, tt))

both : (rows : List Row) → rows ≡ row_of 97 ∷ row_of 98 ∷ [] → HasBoth rows
unfolding key_cmp
both rows r = subst (λ rs. HasBoth rs) (sym r) (refl, refl)

pushed : {empty one two : List Row} {a b : Row} → two ≡ one ++ b ∷ [] → one ≡ empty ++ a ∷ [] → empty ≡ [] → a ≡ row_of 97 → b ≡ row_of 98 → two ≡ row_of 97 ∷ row_of 98 ∷ []
pushed {empty} {one} {two} {a} {b} t o e x y = t ∙ (ap (λ rs. rs ++ b ∷ []) (o ∙ ap (λ rs. rs ++ a ∷ []) e) ∙ (λ i. x i ∷ y i ∷ []))

pub returns-clause-ascending : goal.returns-clause-ascending
returns-clause-ascending c = ascend c.push-2.new.self (pushed c.in_ok-push-2.ensures.ok c.in_ok-push.ensures.ok c.new-rows.ensures c.in_ok-row.ensures c.in_ok-row-2.ensures)

pub returns-clause-both : goal.returns-clause-both
returns-clause-both c = both c.push-2.new.self (pushed c.in_ok-push-2.ensures.ok c.in_ok-push.ensures.ok c.new-rows.ensures c.in_ok-row.ensures c.in_ok-row-2.ensures)
