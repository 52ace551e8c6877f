use Rattle.std.proofs.Common.{◌≡◌, ◌++◌, take, string_bytes}
use Rattle.std.specs.List.{flat_map}
use Rattle.run_record.specs.Replies.{gone_line}
use Rattle.run_record.proofs.replies.push_gone.Given as goal

abbrev pub invariant-loop-stop : goal.invariant-loop-stop
invariant-loop-stop l = string_bytes l.out ≡ string_bytes l.fn.out ++ flat_map (gone_line l.fn.client l.fn.receipt) (take l.stop-index l.stop-items)
