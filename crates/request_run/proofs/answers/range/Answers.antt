use Rattle.std.proofs.Common.{refl}
use Rattle.request_run.proofs.Answering.{page_same}
use Rattle.request_run.proofs.answers.range.Goals as goal

pub returns : goal.returns
returns c =
    (refl, page_same c.args.store.now c.args.snapshot c.as_slice.result.now c.args.lo.now c.as_slice-2.result.now c.args.hi.now c.args.limit c.in_ok-rows.rows c.requires.open c.as_slice.ensures c.as_slice-2.ensures c.in_ok-rows.ensures)
