use Rattle.std.proofs.Common.{◌≡◌, ◌++◌, take}
use Rattle.byte_fields.specs.Forms.{spelled_items}
use Rattle.row_records.specs.Replies.{entry}
use Rattle.row_records.proofs.lists.put_names_of.Given as goal

abbrev pub invariant-loop-item : goal.invariant-loop-item
invariant-loop-item l = l.writer ≡ l.initial.writer ++ spelled_items entry (take l.item-index l.items)
