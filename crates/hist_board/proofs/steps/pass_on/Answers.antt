use Rattle.std.proofs.Common.{◌*◌, ◌+◌, ◌^◌, ◌%◌, ℕ, List, sym, subst, arith}
use mathlib.Core.Option.{none}
use Rattle.atomic_table.specs.Table.{step, Allows}
use Rattle.hist_board.specs.Rule.{IsBoard}
use Rattle.hist_board.specs.Plays.{passed}
use Rattle.hist_board.proofs.Allowed.{pass_allowed}
use Rattle.hist_board.proofs.steps.pass_on.Goals as goal

pub fetch_add-requires : goal.fetch_add-requires
fetch_add-requires g c = let r = c.requires.word in let h = g.S.Held in let d = c.requires.held in
    let v = c.args.seat.now.me.0 in let o = c.args.object in let n = c.args.shared.now.table_id.slots in (
      c.requires.table,
      omega arith,
      subst (λ (l : List (ℕ × g.row.S.Denot)). Allows
          (IsBoard h.history h.frame h.kind h.errands h.fits c.args.shared.now.key.value.items) n c.args.seat.now.id (v, l) (3 * o + 1) (λ n. (n + 1) % 2 ^ 64) (passed (step n (3 * o + 1) 1 0 none) (v, l))) (sym d.1)
          (pass_allowed h.history h.frame h.kind h.errands h.fits _ n _ v d.0 o _ r.1 c.requires.view.0 c.requires.view.1 d.2 d.3),
    )
