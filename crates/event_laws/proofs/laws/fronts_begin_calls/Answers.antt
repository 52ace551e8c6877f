use Rattle.event_laws.proofs.Telling.{fronts_begin}
use Rattle.event_laws.proofs.laws.fronts_begin_calls.Goals as goal

pub returns : goal.returns
returns c = fronts_begin
