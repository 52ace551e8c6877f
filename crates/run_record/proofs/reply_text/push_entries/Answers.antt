use Rattle.std.proofs.Common.{codes}
use Rattle.run_record.specs.ReplyText.{entry_word}
use Rattle.run_record.proofs.Lists.{list_written}
use Rattle.run_record.proofs.reply_text.push_entries.Goals as goal

pub returns : goal.returns
returns c = list_written entry_word _ (codes "names") c.args.entries.now c.loop-entry.entry-index _ c.loop-entry-test.false c.loop-entry.invariant
