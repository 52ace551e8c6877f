use Rattle.std.proofs.Common.{refl, sym, ◌∙◌}
use Rattle.hist_board.specs.Rule.{seen_at}
use Rattle.hist_board.specs.Calls.{view_of}
use Rattle.hist_board.proofs.Contained.{off}
use Rattle.board_tests.specs.Errands.{numbers_of}
use Rattle.board_tests.proofs.Own.{up_to_none, own_more}
use Rattle.board_tests.proofs.threads.add_all.Goals.{then-is_err, else-is_err}
use Rattle.board_tests.proofs.threads.add_all.Goals as goal

pub loop-number-init : goal.loop-number-init
loop-number-init g c = (c.requires.board, refl, refl, λ _. c.requires.none ∙ sym up_to_none)

pub loop-number-preserved : goal.loop-number-preserved
loop-number-preserved g c = let i = c.loop-number.invariant in let e = c.add_entry.ensures in
    let client = c.args.client in (
      e.board,
      e.errands ∙ i.1,
      e.kinds ∙ i.2,
      elim c.if-is_err.branch [
        | then-is_err w ↦ λ t. absurd (off (sym w.all-is ∙ t))
        | else-is_err w ↦ λ t. own_more c.loop-number.number
            (numbers_of client (seen_at (view_of c.loop-number.pass) 0))
            (numbers_of client (seen_at (view_of c.add_entry.new.pass) 0)) c.add_entry.result
            e.own (sym c.is_err.ensures.value ∙ w.if-is_err.false) (i.3 (sym w.all-is ∙ t))
      ],
    )
