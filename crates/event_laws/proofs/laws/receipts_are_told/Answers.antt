use Rattle.event_laws.proofs.Receiving.{receipts_told}
use Rattle.event_laws.proofs.laws.receipts_are_told.Goals as goal

pub returns : goal.returns
returns c = receipts_told
