use Rattle.std.proofs.Common.{refl, ap, subst, sym}
use Rattle.txn_task.specs.Wanted.{IsUnread}
use Rattle.inode_record.specs.declared.inode.InodePart.{InodePart}
use Rattle.row_tree.specs.TypedRows.{kind_of}
use Rattle.path_walk.specs.Walks.{LooksAt, trip_of}
use Rattle.path_walk.proofs.WalkLaws.{keeps_self, base_absent, base_dir, base_other, looks_at_base}
use Rattle.path_walk.proofs.walk.Walk.look_at_base.Goals as goal

pub returns-in-Absent-clause-step : goal.returns-in-Absent-clause-step
returns-in-Absent-clause-step c =
    let want = rw c.in-Absent.is at c.in_ok-key.ensures in
    base_absent c.args.self.now c.if-not-self.false c.args.txn.now.reads want.0 want.1

pub returns-in-Dir-clause-keeps : goal.returns-in-Dir-clause-keeps
returns-in-Dir-clause-keeps c =
    let want = rw c.in-There.is at c.in_ok-key.ensures in
    base_dir c.args.self.now c.if-not-self.false c.args.txn.now.reads want.0 c.in-There.row want.1 (ap (λ (p : InodePart). kind_of p) c.in-Dir.is) _ refl

pub returns : goal.returns
returns c =
    let want = rw c.in-There.is at c.in_ok-key.ensures in
    record {
      keeps = keeps_self (trip_of c.args.self.now) c.args.txn.now.reads;
      step = base_other c.args.self.now c.if-not-self.false c.args.txn.now.reads want.0 c.in-There.row want.1 c.in_default.not-Dir;
    }

pub returns-in-Ask-clause-step : goal.returns-in-Ask-clause-step
returns-in-Ask-clause-step c =
    let w = c.args.self.now in
    let want = rw c.in-Ask.is at c.in_ok-key.ensures in (
      subst (IsUnread c.args.txn.now.reads) (sym want.0) want.1,
      subst (LooksAt (trip_of w) c.args.txn.now.reads) (sym want.0) (looks_at_base w c.if-not-self.false c.args.txn.now.reads),
    )
