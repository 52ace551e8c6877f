use Rattle.std.proofs.Common.{◌≡◌, ◌++◌, take, string_bytes}
use Rattle.run_record.specs.Replies.{conflict_lines}
use Rattle.run_record.proofs.replies.push_conflicts.Given as goal

abbrev pub invariant-loop-place : goal.invariant-loop-place
invariant-loop-place l = string_bytes l.out ≡ string_bytes l.fn.out ++ conflict_lines l.fn.client l.fn.receipt 1 (take l.place l.pair-items)
