use Rattle.std.proofs.Common.{refl, sym, subst, ◌∙◌, drop}
use Rattle.tree_model.specs.declared.walk.WalkEnd.{WalkEnd}
use Rattle.tree_model.specs.declared.walk.Walked.TheVariants.{AtParent}
use Rattle.tree_model.specs.Walk.{ends_at}
use Rattle.txn_task.specs.Wanted.{IsUnread}
use Rattle.path_walk.specs.Walks.{HasEnd, LooksAt, trip_of}
use Rattle.path_walk.proofs.WalkLaws.{absent_comes, dir_comes, file_step, link_stays, looks_at_entry, none_left, parent_comes}
use Rattle.path_walk.proofs.walk.Walk.step.Goals as goal

pub returns-in-Absent-clause-moved : goal.returns-in-Absent-clause-moved
returns-in-Absent-clause-moved c =
    let tail = drop 1 c.args.self.now.rest in
    let more = sym c.stops_at_parent.ensures ∙ c.if-stops_at_parent.false in
    let want = rw c.in-Absent.is at c.in_ok-key.ensures in
    absent_comes c.args.self.now c.args.txn.now.reads c.in-Some.name.now tail c.requires c.in-Some.ensures more want.0 want.1

pub returns-in-Dir-clause-keeps : goal.returns-in-Dir-clause-keeps
returns-in-Dir-clause-keeps c =
    let tail = drop 1 c.args.self.now.rest in
    let more = sym c.stops_at_parent.ensures ∙ c.if-stops_at_parent.false in
    let want = rw c.in-There.is at c.in_ok-key.ensures in
    dir_comes c.args.self.now c.args.txn.now.reads c.in-Some.name.now tail c.requires c.in-Some.ensures more want.0 c.in-There.entry want.1 c.in-Dir.is (record c.args.self.now { here = c.in-There.entry.inode; rest = c.skip.new.self }) c.requires refl refl c.skip.ensures refl

pub returns-in-File-clause-moved : goal.returns-in-File-clause-moved
returns-in-File-clause-moved c =
    let tail = drop 1 c.args.self.now.rest in
    let more = sym c.stops_at_parent.ensures ∙ c.if-stops_at_parent.false in
    let want = rw c.in-There.is at c.in_ok-key.ensures in
    file_step c.args.self.now c.args.txn.now.reads c.in-Some.name.now tail c.requires c.in-Some.ensures more want.0 c.in-There.entry want.1 c.in-File.is c.at_file.result c.at_file.ensures

pub returns-then-stops_at_link-clause-moved : goal.returns-then-stops_at_link-clause-moved
returns-then-stops_at_link-clause-moved c =
    let tail = drop 1 c.args.self.now.rest in
    let more = sym c.stops_at_parent.ensures ∙ c.if-stops_at_parent.false in
    let want = rw c.in-There.is at c.in_ok-key.ensures in
    link_stays c.args.self.now c.args.txn.now.reads c.in-Some.name.now tail c.requires c.in-Some.ensures more want.0 c.in-There.entry want.1 c.in-Link.is (sym c.stops_at_link.ensures ∙ c.if-stops_at_link.true)

pub returns-in-Parent-clause-moved : goal.returns-in-Parent-clause-moved
returns-in-Parent-clause-moved c =
    let w = c.args.self.now in
    subst (λ (e : WalkEnd). HasEnd (trip_of w) c.args.txn.now.reads (ends_at e w.here)) c.in-Parent.is (none_left w c.args.txn.now.reads c.requires c.in_default.ensures)

pub returns-in-Follow-clause-moved : goal.returns-in-Follow-clause-moved
returns-in-Follow-clause-moved c =
    let w = c.args.self.now in
    subst (λ (e : WalkEnd). HasEnd (trip_of w) c.args.txn.now.reads (ends_at e w.here)) c.in-Follow.is (none_left w c.args.txn.now.reads c.requires c.in_default.ensures)

pub returns-in-NoFollow-clause-moved : goal.returns-in-NoFollow-clause-moved
returns-in-NoFollow-clause-moved c =
    let w = c.args.self.now in
    subst (λ (e : WalkEnd). HasEnd (trip_of w) c.args.txn.now.reads (ends_at e w.here)) c.in-NoFollow.is (none_left w c.args.txn.now.reads c.requires c.in_default.ensures)

pub returns-then-stops_at_parent-clause-moved : goal.returns-then-stops_at_parent-clause-moved
returns-then-stops_at_parent-clause-moved c =
    let w = c.args.self.now in
    let last = sym c.stops_at_parent.ensures ∙ c.if-stops_at_parent.true in
    subst (λ name. HasEnd (trip_of w) c.args.txn.now.reads (AtParent w.here name)) (sym c.in_ok-try_clone.ensures) (parent_comes w c.args.txn.now.reads c.in-Some.name.now (drop 1 w.rest) c.requires c.in-Some.ensures last)

pub returns-in-Ask-clause-moved : goal.returns-in-Ask-clause-moved
returns-in-Ask-clause-moved c =
    let w = c.args.self.now in
    let more = sym c.stops_at_parent.ensures ∙ c.if-stops_at_parent.false in
    let want = rw c.in-Ask.is at c.in_ok-key.ensures in (
      subst (IsUnread c.args.txn.now.reads) (sym want.0) want.1,
      subst (LooksAt (trip_of w) c.args.txn.now.reads) (sym want.0) (looks_at_entry w c.args.txn.now.reads c.in-Some.name.now (drop 1 w.rest) c.requires c.in-Some.ensures more),
    )
