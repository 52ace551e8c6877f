use Rattle.std.proofs.Common.{◌∙◌, sym, ap, length-set}
use Rattle.std.specs.Fn.{FnOnceTakesAtMut, FnOnceReturnsAtMut}
use Rattle.hist_board.proofs.Turning.{may_close, ends, tells, rests, counts}
use Rattle.hist_board.proofs.pass.Pass.turn_with.Goals as goal

pub close_turn-requires-clause-held : goal.close_turn-requires-clause-held
close_turn-requires-clause-held g c = let h = g.S.Held in
    may_close h.history h.frame h.kind h.errands h.fits (FnOnceTakesAtMut g.F.FnOnce c.args.work)
    (FnOnceReturnsAtMut g.F.FnOnce c.args.work) _ c.args.object _ _ c.lend-answer.result.0 c.args.self.now.seat.me c.open_turn-before.new.seat.me c.lend-answer.new.seat.me
    c.args.self.now.rest c.requires.object c.requires.work c.open_turn-before.ensures.taken c.lend-answer.ensures.worked

pub returns-clause-turn : goal.returns-clause-turn
returns-clause-turn g c = let h = g.S.Held in
    tells h.history h.frame h.kind h.errands h.fits (FnOnceTakesAtMut g.F.FnOnce c.args.work)
    (FnOnceReturnsAtMut g.F.FnOnce c.args.work) _ c.args.object _ _ c.lend-answer.result.0 c.args.self.now.seat.me c.open_turn-before.new.seat.me c.lend-answer.new.seat.me
    c.args.self.now.rest c.requires.object c.requires.work c.open_turn-before.ensures.taken c.lend-answer.ensures.worked c.close_turn.new.seat.me c.close_turn.ensures.view

pub invariant_of-self : goal.invariant_of-self
invariant_of-self g c = let h = g.S.Held in
    let e = ends h.history h.frame h.kind h.errands h.fits (FnOnceTakesAtMut g.F.FnOnce c.args.work) (FnOnceReturnsAtMut g.F.FnOnce c.args.work) _ c.args.object _ _ c.lend-answer.result.0 c.args.self.now.seat.me c.open_turn-before.new.seat.me c.lend-answer.new.seat.me
    c.args.self.now.rest c.requires.object c.requires.work c.open_turn-before.ensures.taken c.lend-answer.ensures.worked c.close_turn.new.seat.me c.close_turn.ensures.view in
    let same = sym
    (c.close_turn.ensures.table ∙ (c.lend-answer.ensures.table ∙ c.open_turn-before.ensures.table)) in
    record {
      rest = rests h.history h.frame h.kind h.errands h.fits _ _ c.args.object _ c.args.self.now.seat.me c.close_turn.new.seat.me c.args.self.now.rest (ap (λ t. t.words) same) e;
      sized = length-set c.args.self.now.lengths c.args.object c.lend-answer.result.1 ∙ c.args.self.now.sized;
      counted = counts h.history h.frame h.kind h.errands h.fits _ c.args.object c.lend-answer.result.1 _ c.args.self.now.lengths c.args.self.now.seat.me c.close_turn.new.seat.me c.args.self.now.rest c.requires.object c.args.self.now.sized c.args.self.now.counted c.lend-answer.ensures.worked.5 e;
    }
