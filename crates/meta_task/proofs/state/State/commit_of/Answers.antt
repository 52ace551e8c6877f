use Rattle.std.proofs.Common.{sym, ◌∙◌}
use Rattle.meta_task.proofs.UnderLaws.{under_sound, query_told}
use Rattle.meta_task.proofs.state.State.commit_of.Goals as goal

pub commit-requires-clause-sound : goal.commit-requires-clause-sound
commit-requires-clause-sound c =
    under_sound c.args.self.now.config c.args.self.now.request c.args.op c.args.self.now.txn c.args.reply c.args.asked c.requires.going.taken (sym c.is_query.ensures ∙ c.if-is_query.false) c.requires.under c.requires.made

pub tell-requires-clause-told : goal.tell-requires-clause-told
tell-requires-clause-told c =
    query_told c.args.self.now.config c.args.self.now.request c.args.op c.args.self.now.txn c.args.reply c.args.asked (sym c.is_query.ensures ∙ c.if-is_query.true) c.requires.under c.requires.made
