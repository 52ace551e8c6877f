use Rattle.byte_fields.proofs.Spellings.{whole_is}
use Rattle.row_records.proofs.CallLaws.{stamped_call_is}
use Rattle.row_records.proofs.laws.calls_are_spelled.Goals as goal

pub returns : goal.returns
returns c = whole_is _ stamped_call_is
