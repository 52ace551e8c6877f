use Rattle.std.proofs.Common.{◌≡◌, ◌++◌, take}
use Rattle.byte_fields.specs.Forms.{spelled_items}
use Rattle.byte_fields.specs.Fields.{client}
use Rattle.row_records.proofs.lists.put_clients_of.Given as goal

abbrev pub invariant-loop-item : goal.invariant-loop-item
invariant-loop-item l = l.writer ≡ l.initial.writer ++ spelled_items client (take l.item-index l.items)
