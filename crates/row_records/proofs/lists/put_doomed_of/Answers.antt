use Rattle.row_records.specs.Replies.{doomed_inode}
use Rattle.byte_fields.proofs.Lists.{written_more}
use Rattle.row_records.proofs.lists.put_doomed_of.Goals as goal

pub loop-item-preserved : goal.loop-item-preserved
loop-item-preserved c = written_more doomed_inode c.args.items.now c.loop-item.item-index c.item-item.result c.item-item.result c.loop-item-test.true c.item-item.is c.args.writer.now c.loop-item.writer _ c.loop-item.invariant c.in_ok-put_doomed_inode.ensures
