use Rattle.std.proofs.Common.{◌≡◌, drop}
use Rattle.rendezvous.specs.Owners.{owner_from, owner_of}
use Rattle.rendezvous.proofs.highest.Given as goal

abbrev pub invariant-loop-server : goal.invariant-loop-server
invariant-loop-server l = owner_from l.inode l.owner (drop l.server-index l.server-items) ≡ owner_of l.inode l.fn.servers
