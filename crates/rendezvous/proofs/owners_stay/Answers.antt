use Rattle.rendezvous.proofs.OwnerLaws.{keeps_owners}
use Rattle.rendezvous.proofs.owners_stay.Goals as goal

pub returns : goal.returns
returns c = keeps_owners
