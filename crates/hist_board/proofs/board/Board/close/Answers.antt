use Rattle.std.proofs.Common.{◌≡◌, ℕ, List, length, ◌∙◌, sym, ap, subst, arith}
use Rattle.std.specs.Prelude.{is_some}
use Rattle.std.specs.Slots.{slots_items, slots_counts}
use Rattle.hist_board.specs.Passes.{AllSeen}
use Rattle.hist_board.proofs.Ends.{finishes}
use Rattle.hist_board.proofs.ClosingLemmas.{sees_on, all_served}
use Rattle.hist_board.proofs.board.Board.close.Goals as goal

pub returns : goal.returns
returns g c = let h = g.S.Held in let m0 = c.args.last.seat.me in let seat = c.hold_all-seat.result in
    let held = c.hold_all-seat.ensures.held in let e = c.close_with-closed.ensures in
    let n = slots_counts c.close_with-closed.result.slots in let sized = c.args.self.sized in
    let r = c.args.last.rest.words_are in let t = ap (λ t. t.words) c.requires.board.0 in
    let k : length seat.me.0.kinds ≡ length m0.0.kinds = ap (λ (ks : List ℕ). length ks) held.same.1 in
    let counts = e.counts in (
      seat.me.0,
      sees_on h.errands m0 seat.me _ held,
      subst (λ (objects : List g.row.S.Denot). AllSeen h.history h.frame h.kind h.fits seat.me.0 objects)
          (sym c.unload.ensures)
          (finishes h.history h.frame h.kind h.errands h.fits c.args.self.table.shared.key.value.items _
          (slots_items c.close_with-closed.result.slots) seat.id seat.me.0
          (ap (λ f. is_some f) held.same.0 ∙ c.args.last.rest.live) (omega arith)
          (all_served h.errands m0 seat.me _ (omega arith) held) e.values.2),
    )
