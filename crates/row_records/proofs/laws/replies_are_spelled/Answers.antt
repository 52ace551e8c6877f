use Rattle.byte_fields.proofs.Spellings.{whole_is}
use Rattle.row_records.proofs.ReplyLaws.{reply_is}
use Rattle.row_records.proofs.laws.replies_are_spelled.Goals as goal

pub returns : goal.returns
returns c = whole_is _ reply_is
