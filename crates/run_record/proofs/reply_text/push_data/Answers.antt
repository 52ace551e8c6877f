use Rattle.std.proofs.Common.{codes}
use Rattle.run_record.specs.ReplyText.{data_word}
use Rattle.run_record.proofs.Lists.{list_written}
use Rattle.run_record.proofs.reply_text.push_data.Goals as goal

pub returns : goal.returns
returns c = list_written data_word _ (codes "data") c.args.runs.now c.loop-run.run-index _ c.loop-run-test.false c.loop-run.invariant
