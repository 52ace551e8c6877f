use Rattle.std.proofs.Common.{sym, ◌∙◌}
use Rattle.chunk_node.proofs.Leasts.{least}
use Rattle.chunk_node.proofs.runs.runs_are_least.Goals as goal

pub returns : goal.returns
returns c bytes from runs others are same = least others from runs are.1 (same ∙ sym are.0)
