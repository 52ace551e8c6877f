use Rattle.std.proofs.Common.{codes}
use Rattle.run_record.specs.ReplyText.{doomed_word}
use Rattle.run_record.proofs.Lists.{list_written}
use Rattle.run_record.proofs.reply_text.push_doomed.Goals as goal

pub returns : goal.returns
returns c = list_written doomed_word _ (codes "ids") c.args.inodes.now c.loop-inode.inode-index _ c.loop-inode-test.false c.loop-inode.invariant
