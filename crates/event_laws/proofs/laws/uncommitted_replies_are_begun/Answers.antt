use Rattle.event_laws.proofs.Telling.{uncommitted_begun}
use Rattle.event_laws.proofs.laws.uncommitted_replies_are_begun.Goals as goal

pub returns : goal.returns
returns c = uncommitted_begun
