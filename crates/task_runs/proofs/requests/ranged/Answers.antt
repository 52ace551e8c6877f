use Rattle.byte_fields.proofs.Spellings.{whole_is}
use Rattle.row_records.specs.Calls.{stamped_call}
use Rattle.row_records.proofs.CallLaws.{stamped_call_is}
use Rattle.task_runs.proofs.requests.ranged.Goals as goal

pub returns : goal.returns
returns c = ((whole_is stamped_call stamped_call_is).exact c.as_slice.result.now c.in_ok-read.read c.in_ok-read.ensures).0
