use Rattle.std.proofs.Common.{rules}
use Rattle.row_records.specs.Rows.{read_kept}
use Rattle.row_tree.proofs.Putting.{no_kept, puts_kept, told_place}
use Rattle.row_tree.proofs.typed.TypedRows.put_kept.Goals as goal

pub returns-in_ok-insert-in-Ok-clause-ok : goal.returns-in_ok-insert-in-Ok-clause-ok
returns-in_ok-insert-in-Ok-clause-ok c = puts_kept c.args.client c.args.self.now _ c.args.value.now c.in-Ok.row c.in-Ok.ensures (search rules)

pub returns-in-Err-NotARecord-clause-bad : goal.returns-in-Err-NotARecord-clause-bad
returns-in-Err-NotARecord-clause-bad c = λ same.
    no_kept c.args.client c.args.value.now c.in-Err-NotARecord.field-0-0
    (told_place c.read.result (read_kept c.args.value.now) c.in-Err-NotARecord.field-0 c.in-Err-NotARecord.field-0-0 c.in-Err-NotARecord.is c.in-Err-NotARecord.field-0-is c.read.ensures)
