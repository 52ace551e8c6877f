use Rattle.std.proofs.Common.{◌∙◌, arith}
use Rattle.hist_board.proofs.Allowed.{look_allowed, looked_here}
use Rattle.hist_board.proofs.steps.await_turn.Goals as goal

pub load-requires : goal.load-requires
load-requires g c = let i = c.loop.invariant in let r = c.requires.word in let h = g.S.Held in
    (i.0 ∙ c.requires.table, omega arith, look_allowed h.history h.frame h.kind h.errands h.fits _ _ _ c.loop.seat.me c.args.object c.args.ticket (rw i.1 r.1) (rw i.1 c.requires.view.0) (rw i.1 c.requires.view.1))

pub returns-then-load-ticket-clause-seen : goal.returns-then-load-ticket-clause-seen
returns-then-load-ticket-clause-seen g c = let i = c.loop.invariant in let h = g.S.Held in
    rw (← i.1) (looked_here h.errands c.args.shared.now.table_id.slots c.args.object c.args.ticket c.load.result c.loop.seat.me c.load.new.seat.me (rw i.1 c.requires.view.1) (omega arith) c.load.ensures.2)
