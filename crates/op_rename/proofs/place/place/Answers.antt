use Rattle.op_rename.proofs.PlaceLaws.{asks_dir, nowhere}
use Rattle.op_rename.proofs.place.place.Goals as goal

pub returns-in-Ask : goal.returns-in-Ask
returns-in-Ask c = let spots = c.args.spots.now in asks_dir spots.from c.args.stamp c.args.entry spots.to.dir spots.to.name c.args.txn.now c.requires.writes c.in-Ask.key (rw c.in-Ask.is at c.in_ok-key.ensures)

pub returns-in-NotDir : goal.returns-in-NotDir
returns-in-NotDir c = let spots = c.args.spots.now in nowhere spots.from c.args.stamp c.args.entry spots.to.dir spots.to.name c.args.txn.now c.requires.writes c.requires.entry (rw c.in-NotDir.is at c.in_ok-key.ensures)

pub place_in-requires-clause-dir : goal.place_in-requires-clause-dir
place_in-requires-clause-dir c = rw c.in-Dir.is at c.in_ok-key.ensures
