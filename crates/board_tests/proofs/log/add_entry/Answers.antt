use Rattle.std.proofs.Common.{rules, arith}
use Rattle.board_tests.specs.Adding.{HasAdded}
use Rattle.hist_board.specs.Rule.{seen_at}
use Rattle.hist_board.specs.Calls.{view_of}
use Rattle.board_tests.proofs.Own.{own_turn, seen_here}
use Rattle.board_tests.proofs.log.add_entry.Goals as goal

pub returns-clause-own : goal.returns-clause-own
returns-clause-own g c = let t = c.turn_with.ensures.turn in let v = view_of c.args.pass.now in
    let w = view_of c.turn_with.new.self in
    let rest = c.args.pass.now.rest in let given = t.given in let before = t.before in let after = t.after in
    let places = rest.places in let some_object = rest.some_object in
    let added : HasAdded before.items.items
    (record { client = c.args.client; number = c.args.number }) c.turn_with.result after.items.items = search rules in
    own_turn v.frame v.errands c.args.client c.args.number (seen_at v 0) before.items.items after.items.items
    (seen_at w 0) c.turn_with.result rest.live c.requires.errand t.lent.later added
    (seen_here v w after.items.items (omega arith) t.seen)
