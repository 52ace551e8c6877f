use Rattle.event_laws.proofs.Telling.{begins_fresh}
use Rattle.event_laws.proofs.laws.a_begin_is_fresh.Goals as goal

pub returns : goal.returns
returns c = begins_fresh
