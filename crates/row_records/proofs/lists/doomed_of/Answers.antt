use Rattle.std.proofs.Common.{refl}
use Rattle.std.proofs.lemmas.Result.{err_from_is_err_and}
use Rattle.byte_fields.specs.Forms.{anywhere}
use Rattle.byte_fields.specs.Outcome.{left_of}
use Rattle.byte_fields.proofs.Lists.{items_first, items_more, items_refused, items_done}
use Rattle.row_records.specs.Replies.{doomed_inode}
use Rattle.row_records.proofs.lists.doomed_of.Goals as goal

pub loop-init : goal.loop-init
loop-init c = rw c.new-items.ensures (items_first doomed_inode anywhere c.args.count c.args.cursor.now)

pub loop-preserved : goal.loop-preserved
loop-preserved c =
    rw c.in_ok-push.ensures.ok (items_more doomed_inode anywhere c.loop.items c.loop.counter c.args.count c.loop.cursor c.doomed_inode.new.cursor c.in_ok-item.item _ c.loop-test.true c.in_ok-item.ensures refl c.loop.invariant)

pub returns-in_err-item : goal.returns-in_err-item
returns-in_err-item c =
    let p = err_from_is_err_and c.from_residual.result c.from_residual.ensures.1 in
    rw (p.1, p.2) (items_refused doomed_inode anywhere c.loop.items c.loop.counter c.args.count c.loop.cursor (left_of c.in_err-item.field-0.0) _ c.loop-test.true c.in_err-item.ensures c.loop.invariant)

pub returns : goal.returns
returns c = items_done doomed_inode anywhere c.loop.items c.loop.counter c.args.count c.loop.cursor _ c.loop-test.false c.loop.invariant
