use Rattle.std.proofs.Common.{rules, ◌≡◌, [], sym, subst}
use Rattle.row_tree.specs.Spelling.{Spells}
use Rattle.row_tree.specs.TypedRows.{TypedRows}
use Rattle.row_tree.specs.declared.tree.TreeError.TheVariants as errors
use Rattle.row_tree.proofs.RowByRow.{row_put, row_bad}
use Rattle.row_tree.proofs.SpellingLaws.{spells_nothing}
use Rattle.row_tree.proofs.reading.read_rows.Goals as goal

-- src/reading.rt:161:1
pub loop-row-init : goal.loop-row-init
loop-row-init c = subst (λ S. Spells [] S) (sym c.new-typed.ensures) spells_nothing

-- src/reading.rt:168:9
pub returns-in_err-put_row-clause-bad : goal.returns-in_err-put_row-clause-bad
returns-in_err-put_row-clause-bad c =
    let bad : c.in_err-put_row.field-0.0 ≡ errors.BadRows → (S : TypedRows) → Spells c.args.rows.now S → ⊥ = λ e. row_bad c.args.rows.now c.loop-row.row-index c.row-item.result c.requires c.loop-row-test.true c.row-item.is (c.in_err-put_row.ensures.bad e) in
    search rules

-- src/reading.rt:161:1
pub loop-row-preserved : goal.loop-row-preserved
loop-row-preserved c = row_put c.args.rows.now c.loop-row.row-index c.row-item.result c.loop-row.typed c.put_row.new.self c.requires c.loop-row-test.true c.row-item.is c.loop-row.invariant c.in_ok-put_row.ensures.ok
