use Rattle.std.proofs.Common.{sym, subst}
use Rattle.rendezvous.specs.Owners.{IsOwner}
use Rattle.rendezvous.proofs.OwnerLaws.{is_owner}
use Rattle.rendezvous.proofs.owner.Goals as goal

pub returns-clause-owner : goal.returns-clause-owner
returns-clause-owner c =
    subst (λ owner. IsOwner c.args.inode c.args.servers.now owner) (sym c.highest.ensures)
    (is_owner c.args.inode c.args.servers.now c.requires.some c.requires.rising)
