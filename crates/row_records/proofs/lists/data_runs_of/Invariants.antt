use Rattle.std.proofs.Common.{◌≡◌, ◌-◌, None}
use Rattle.byte_fields.specs.Forms.{anywhere, reads_items}
use Rattle.byte_fields.proofs.Lists.{behind, last_of}
use Rattle.row_records.specs.Replies.{data_run}
use Rattle.row_records.proofs.lists.data_runs_of.Given as goal

abbrev pub invariant-loop : goal.invariant-loop
invariant-loop l = behind l.items (reads_items data_run anywhere (last_of l.items) (l.count - l.counter) l.cursor) ≡ reads_items data_run anywhere None l.count l.initial.cursor
