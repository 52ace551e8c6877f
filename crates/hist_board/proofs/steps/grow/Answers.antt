use Rattle.std.proofs.Common.{◌*◌, ◌+◌, ◌^◌, ◌%◌, ℕ, List, sym, subst}
use mathlib.Core.Option.{none}
use Rattle.atomic_table.specs.Table.{step, Allows}
use Rattle.hist_board.specs.Rule.{IsBoard}
use Rattle.hist_board.specs.Plays.{grown}
use Rattle.hist_board.proofs.Allowed.{grow_allowed}
use Rattle.hist_board.proofs.steps.grow.Goals as goal

pub fetch_add-requires : goal.fetch_add-requires
fetch_add-requires g c = let r = c.requires.word in let h = g.S.Held in let d = c.requires.held in
    let v = c.args.seat.now.me.0 in let o = c.args.object in let n = c.args.shared.now.table_id.slots in (
      c.requires.table,
      r.0,
      subst (λ (l : List (ℕ × g.row.S.Denot)). Allows
          (IsBoard h.history h.frame h.kind h.errands h.fits c.args.shared.now.key.value.items) n c.args.seat.now.id (v, l) (3 * o + 2) (λ n. (n + 1) % 2 ^ 64) (grown h.history (step n (3 * o + 2) 1 0 none) (v, l))) (sym d.1)
          (grow_allowed h.history h.frame h.kind h.errands h.fits _ n _ v d.0 d.2.entry o _ r.1 c.requires.view.0 c.requires.view.1 d.2.longer d.3 d.2.own d.2.fit),
    )
