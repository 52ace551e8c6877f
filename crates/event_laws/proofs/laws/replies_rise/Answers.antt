use Rattle.event_laws.proofs.Rising.{replies_rising}
use Rattle.event_laws.proofs.laws.replies_rise.Goals as goal

pub returns : goal.returns
returns c = replies_rising
