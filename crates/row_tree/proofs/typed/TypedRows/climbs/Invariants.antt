use Rattle.std.proofs.Common.{◌≡◌}
use Rattle.std.specs.FinMap.{len}
use Rattle.row_tree.specs.Deciding.{climbs}
use Rattle.row_tree.proofs.typed.TypedRows.climbs.Given as goal

-- from here with the steps that are left, as from the inode with all
abbrev pub invariant-loop-left : goal.invariant-loop-left
invariant-loop-left l = climbs l.self l.left l.here ≡ climbs l.self (len l.self.inodes) l.id

abbrev pub decreases-loop-left : goal.decreases-loop-left
decreases-loop-left l = l.left
