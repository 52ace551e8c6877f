use Rattle.event_laws.proofs.Telling.{asked_once}
use Rattle.event_laws.proofs.laws.events_ask.Goals as goal

pub returns : goal.returns
returns c = asked_once
