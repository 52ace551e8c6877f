use Rattle.std.proofs.Common.{sym, subst}
use Rattle.fs_base.specs.declared.code.Code.TheVariants.{NotFound}
use Rattle.tree_model.specs.declared.walk.Walked.TheVariants.{Stopped}
use Rattle.txn_task.specs.Wanted.{IsUnread}
use Rattle.path_walk.specs.Walks.{LooksAt, trip_of}
use Rattle.path_walk.proofs.WalkLaws.{keeps_self, loop_comes, looks_at_link, absent_never, other_never, followed_keeps, followed_moves}
use Rattle.path_walk.proofs.walk.Walk.link.Goals as goal

pub returns-then-self-eq0-clause-moved : goal.returns-then-self-eq0-clause-moved
returns-then-self-eq0-clause-moved c = loop_comes c.args.self.now c.args.txn.now.reads c.args.id c.requires.base c.requires.link c.if-self-eq0.true

pub returns-in-Ask-clause-moved : goal.returns-in-Ask-clause-moved
returns-in-Ask-clause-moved c =
    let want = rw c.in-Ask.is at c.in_ok-key.ensures in (
      subst (IsUnread c.args.txn.now.reads) (sym want.0) want.1,
      subst (LooksAt (trip_of c.args.self.now) c.args.txn.now.reads) (sym want.0) (looks_at_link c.args.self.now c.args.txn.now.reads c.args.id c.requires.base c.requires.link c.if-self-eq0.false),
    )

pub returns-in-Absent-clause-moved : goal.returns-in-Absent-clause-moved
returns-in-Absent-clause-moved c =
    let want = rw c.in-Absent.is at c.in_ok-key.ensures in
    absent_never c.args.self.now c.args.txn.now.reads c.args.id c.requires.base c.requires.link want.1 (Stopped NotFound)

pub returns-in-Link-clause-keeps : goal.returns-in-Link-clause-keeps
returns-in-Link-clause-keeps c =
    let want = rw c.in-There.is at c.in_ok-key.ensures in
    followed_keeps c.args.self.now c.args.txn.now.reads c.args.id c.requires.base c.requires.link c.in-There.row want.1 want.0 c.in-Link.target c.in-Link.is c.if-self-eq0.false c.follow.new.self c.follow.result c.follow.ensures.moved

pub returns-in-Link-clause-moved : goal.returns-in-Link-clause-moved
returns-in-Link-clause-moved c =
    let want = rw c.in-There.is at c.in_ok-key.ensures in
    followed_moves c.args.self.now c.args.txn.now.reads c.args.id c.requires.base c.requires.link c.in-There.row want.1 want.0 c.in-Link.target c.in-Link.is c.if-self-eq0.false c.follow.new.self c.follow.result c.follow.ensures.moved

pub returns : goal.returns
returns c =
    let want = rw c.in-There.is at c.in_ok-key.ensures in
    record {
      base = c.requires.base;
      keeps = keeps_self (trip_of c.args.self.now) c.args.txn.now.reads;
      moved = other_never c.args.self.now c.args.txn.now.reads c.args.id c.requires.base c.requires.link c.in-There.row want.1 c.in_default.not-Link (Stopped NotFound);
    }
