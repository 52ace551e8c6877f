use Rattle.meta_task.proofs.UnderLaws.{under_may, under_read, under_told}
use Rattle.meta_task.proofs.state.State.settle.Goals as goal

pub look-requires-clause-touched : goal.look-requires-clause-touched
look-requires-clause-touched c =
    let step = rw c.in-Ask.is at c.requires.step in
    under_may c.args.self.now.config c.args.self.now.request c.args.self.now.txn.reads c.args.op c.in-Ask.ask c.requires.under step.1

pub tell-requires-clause-told : goal.tell-requires-clause-told
tell-requires-clause-told c =
    let step = rw c.in-Reply.is at c.requires.step in
    under_told c.args.self.now.config c.args.self.now.request c.args.self.now.txn.reads c.args.op c.in-Reply.reply c.requires.under step.1

pub tell-requires-clause-all : goal.tell-requires-clause-all
tell-requires-clause-all c =
    let step = rw c.in-Reply.is at c.requires.step in
    under_read c.args.self.now.config c.args.self.now.request c.args.self.now.txn.reads c.args.op c.requires.under step.0

pub commit_of-requires-clause-all : goal.commit_of-requires-clause-all
commit_of-requires-clause-all c =
    let step = rw c.in-Commit.is at c.requires.step in
    under_read c.args.self.now.config c.args.self.now.request c.args.self.now.txn.reads c.args.op c.requires.under step.0
