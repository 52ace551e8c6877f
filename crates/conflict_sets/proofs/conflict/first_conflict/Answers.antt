use Rattle.conflict_sets.proofs.HeldLemmas.{placed_by, tells_none, tells_some, tells_least}
use Rattle.conflict_sets.proofs.conflict.first_conflict.Goals as goal

pub returns-clause-none : goal.returns-clause-none
returns-clause-none c = tells_none c.args.reads.now c.args.writes.now.writes c.held_place.result (placed_by c.args.reads.now c.as_slice.ensures c.held_place.ensures)

pub returns-clause-some : goal.returns-clause-some
returns-clause-some c = tells_some c.args.reads.now c.args.writes.now.writes c.held_place.result (placed_by c.args.reads.now c.as_slice.ensures c.held_place.ensures)

pub returns-clause-least : goal.returns-clause-least
returns-clause-least c =
    tells_least c.args.reads.now c.args.writes.now.writes c.held_place.result (placed_by c.args.reads.now c.as_slice.ensures c.held_place.ensures) c.args.writes.now.ascending
