use Rattle.hist_board.proofs.Allowed.{take_allowed}
use Rattle.hist_board.proofs.steps.take.Goals as goal

pub load-requires : goal.load-requires
load-requires g c = let r = c.requires.word in let h = g.S.Held in
    (c.requires.table, r.0, take_allowed h.history h.frame h.kind h.errands h.fits _ _ _ c.args.seat.now.me c.args.object _ r.1 c.requires.view.0 c.requires.view.1)
