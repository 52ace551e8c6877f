use Rattle.std.proofs.Common.{◌≡◌, ◌++◌, take}
use Rattle.byte_fields.specs.Forms.{spelled_items}
use Rattle.row_records.specs.Replies.{data_run}
use Rattle.row_records.proofs.lists.put_data_runs_of.Given as goal

abbrev pub invariant-loop-item : goal.invariant-loop-item
invariant-loop-item l = l.writer ≡ l.initial.writer ++ spelled_items data_run (take l.item-index l.items)
