use Rattle.event_laws.proofs.Stopping.{stops_when_due}
use Rattle.event_laws.proofs.stops.stops_come_when_due.Goals as goal

pub returns : goal.returns
returns c = stops_when_due
