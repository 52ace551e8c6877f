use Rattle.event_laws.proofs.Running.{runs_happen}
use Rattle.event_laws.proofs.laws.runs_are_events.Goals as goal

pub returns : goal.returns
returns c = runs_happen
