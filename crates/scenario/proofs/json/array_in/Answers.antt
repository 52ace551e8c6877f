use Rattle.std.proofs.Common.{refl}
use Rattle.scenario.proofs.Values.{list_of-view}
use Rattle.scenario.proofs.json.array_in.Goals as goal

pub returns-in-Some : goal.returns-in-Some
returns-in-Some c = rw (← c.in-Some.ensures, c.as_slice.ensures.value, list_of-view) refl
