use Rattle.std.proofs.Common.{rules, ◌≡◌, List, ℕ, sym, subst}
use Rattle.std.specs.Prelude.{Some, Ok, Option}
use Rattle.row_records.specs.Rows.{read_kept}
use Rattle.meta_task.specs.Steps.{TellsKept}
use Rattle.meta_task.proofs.KeptLaws.{tells_row}
use Rattle.meta_task.proofs.kept.kept_of.Goals as goal

pub returns-in-Ok : goal.returns-in-Ok
returns-in-Ok c =
    let read : read_kept c.in-Some.bytes ≡ Ok c.in-Ok.row = search rules in
    let value : c.args.value.now ≡ Some c.in-Some.bytes = search rules in
    subst (λ (v : Option (List ℕ)). TellsKept v c.args.number c.kept_row.result) (sym value) (tells_row c.in-Some.bytes c.in-Ok.row c.args.number c.kept_row.result read c.kept_row.ensures)
