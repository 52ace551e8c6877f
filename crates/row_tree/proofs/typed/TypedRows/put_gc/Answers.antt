use Rattle.std.proofs.Common.{rules}
use Rattle.row_records.specs.Rows.{read_gc}
use Rattle.row_tree.proofs.Putting.{has_gc, no_gc, puts_gc, told_place}
use Rattle.row_tree.proofs.typed.TypedRows.put_gc.Goals as goal

pub returns-in_ok-insert-in-Ok-clause-ok : goal.returns-in_ok-insert-in-Ok-clause-ok
returns-in_ok-insert-in-Ok-clause-ok c = puts_gc c.args.id c.args.self.now _ c.args.value.now c.in-Ok.row c.in-Ok.ensures.gives (search rules)

pub returns-in-Err-NotARecord-clause-bad : goal.returns-in-Err-NotARecord-clause-bad
returns-in-Err-NotARecord-clause-bad c = λ same.
    no_gc c.args.id c.args.value.now c.in-Err-NotARecord.field-0-0
    (told_place c.read.result (read_gc c.args.value.now) c.in-Err-NotARecord.field-0 c.in-Err-NotARecord.field-0-0 c.in-Err-NotARecord.is c.in-Err-NotARecord.field-0-is c.read.ensures.gives)

pub returns-in_err-insert-in-Ok-clause-memory : goal.returns-in_err-insert-in-Ok-clause-memory
returns-in_err-insert-in-Ok-clause-memory c = λ none. absurd (has_gc c.args.id c.args.value.now c.in-Ok.row c.in-Ok.ensures.gives none)

pub returns-in_ok-insert-in-Ok-clause-memory : goal.returns-in_ok-insert-in-Ok-clause-memory
returns-in_ok-insert-in-Ok-clause-memory c = λ none. absurd (has_gc c.args.id c.args.value.now c.in-Ok.row c.in-Ok.ensures.gives none)
