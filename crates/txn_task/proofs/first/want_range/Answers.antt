use Rattle.std.proofs.Common.{rules}
use Rattle.txn_task.proofs.PageRows.{dir_tells}
use Rattle.txn_task.proofs.first.want_range.Goals as goal

pub returns : goal.returns
returns c =
    dir_tells c.args.txn.now.reads c.args.dir c.as_slice.result.now c.as_slice-2.result.now c.dir_range.result.0 c.dir_range.result.1 c.want_first.result (search rules) (search rules) (search rules) c.dir_range.ensures.value c.want_first.ensures
