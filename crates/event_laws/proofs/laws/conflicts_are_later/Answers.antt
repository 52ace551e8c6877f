use Rattle.event_laws.proofs.Telling.{conflicts_later, conflicts_met, undisturbed}
use Rattle.event_laws.proofs.laws.conflicts_are_later.Goals as goal

pub returns-clause-met : goal.returns-clause-met
returns-clause-met c = conflicts_met

pub returns-clause-later : goal.returns-clause-later
returns-clause-later c = conflicts_later

pub returns-clause-alone : goal.returns-clause-alone
returns-clause-alone c = undisturbed
