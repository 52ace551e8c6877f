use Rattle.std.proofs.Common.{◌≡◌, ◌++◌, take}
use Rattle.std.specs.List.{flat_map}
use Rattle.run_record.specs.Replies.{receipt_lines}
use Rattle.run_record.proofs.replies.push_receipts.Given as goal

abbrev pub invariant-loop-listed : goal.invariant-loop-listed
invariant-loop-listed l = l.out.items ≡ l.fn.out.items ++ flat_map receipt_lines (take l.listed-index l.receipts)
