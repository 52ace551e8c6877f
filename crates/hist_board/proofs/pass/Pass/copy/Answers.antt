use Rattle.std.proofs.Common.{refl, sym, ap, subst, arith}
use Rattle.hist_board.specs.Rule.{copied}
use Rattle.hist_board.specs.Passes.{Counts}
use Rattle.hist_board.proofs.Ends.{copy_allowed}
use Rattle.hist_board.proofs.Turning.{made_at_rest}
use Rattle.hist_board.proofs.pass.Pass.copy.Goals as goal

pub split_seat-seat-requires : goal.split_seat-seat-requires
split_seat-seat-requires g c = let h = g.S.Held in let r = c.args.self.now.rest in let w = r.words_are in
    let n = r.some_object in let w' = ap (λ t. t.words) c.requires.board.0 in
    (c.requires.board.0, omega arith, copy_allowed h.history h.frame h.kind h.errands h.fits c.args.board.now.table.shared.key.value.items c.args.self.now.seat.id c.args.self.now.seat.me.0 r.live c.args.self.now.rest.told)

pub invariant_of-result : goal.invariant_of-result
invariant_of-result g c = let s = c.split_seat-seat.ensures in record {
  rest = made_at_rest _ _ c.args.self.now.seat.me c.split_seat-seat.result.me
      (copied c.args.self.now.seat.me.0) c.args.self.now.rest
      (sym (ap (λ t. t.words) s.3)) s.4 refl refl refl refl refl;
  sized = c.args.self.now.sized;
  counted = subst (λ m. Counts c.args.self.now.lengths m.0) (sym s.4) c.args.self.now.counted;
}
