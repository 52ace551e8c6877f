use Rattle.std.proofs.Common.{rules}
use Rattle.op_session.proofs.HeldLaws.{extended, too_far}
use Rattle.op_session.proofs.held.extend.Goals as goal

pub returns-then-place-file : goal.returns-then-place-file
returns-then-place-file c = too_far c.args.txn.now c.requires.writes c.args.client c.args.session.now c.requires.held c.args.row c.requires.row c.args.file c.requires.file c.args.place (search rules)

pub returns : goal.returns
returns c =
    extended c.args.txn.now c.requires.writes c.args.client c.args.session.now c.requires.held c.args.row c.requires.row c.args.file c.requires.file c.args.place c.hint_over-hint.result (search rules) c.hint_over-hint.ensures
    (search rules) (search rules) c.put_hint.new.txn c.new.result c.new.ensures (search rules)
