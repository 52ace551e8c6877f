use Rattle.std.proofs.Common.{◌≡◌, ◌-◌, None}
use Rattle.byte_fields.specs.Fields.{client}
use Rattle.byte_fields.specs.Forms.{reads_items}
use Rattle.byte_fields.proofs.Lists.{behind, last_of}
use Rattle.row_records.specs.Calls.{ascends}
use Rattle.row_records.proofs.lists.clients_of.Given as goal

abbrev pub invariant-loop : goal.invariant-loop
invariant-loop l = (l.before ≡ last_of l.items) × (behind l.items (reads_items client ascends (last_of l.items) (l.count - l.counter) l.cursor) ≡ reads_items client ascends None l.count l.initial.cursor)
