use Rattle.std.proofs.Common.{sym, true≢false}
use Rattle.scenario.proofs.Values.{json_of-read, json_of-refused}
use Rattle.scenario.proofs.read.json_of.Goals as goal

pub returns-in-Ok : goal.returns-in-Ok
returns-in-Ok c = json_of-read _ _ c.in-Ok.ensures.ok.0 c.in-Ok.ensures.ok.1

pub returns-else-is_memory : goal.returns-else-is_memory
returns-else-is_memory c = json_of-refused _ (c.in-Err.ensures.err (λ m. true≢false (sym (c.if-is_memory.ensures.1 m))))
