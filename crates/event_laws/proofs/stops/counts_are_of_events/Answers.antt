use Rattle.event_laws.proofs.Asked.{counts_of_events, unasked_stay}
use Rattle.event_laws.proofs.stops.counts_are_of_events.Goals as goal

pub returns-clause-all : goal.returns-clause-all
returns-clause-all c = counts_of_events

pub returns-clause-others : goal.returns-clause-others
returns-clause-others c = unasked_stay
