use Rattle.std.proofs.Common.{rules, ◌≡◌, ◌∙◌, Some, sym, true, false}
use Rattle.txn_task.specs.Pages.{first_read}
use Rattle.txn_task.proofs.PageRows.{first_empty, first_used}
use Rattle.txn_task.proofs.first.want_first.Goals as goal

pub returns-then-is_empty : goal.returns-then-is_empty
returns-then-is_empty c =
    let read : first_read c.args.lo.now c.args.hi.now c.args.txn.now.reads.ranges ≡ Some c.in-Some.read.now = search rules in
    ((c.in-Some.read.now, read), first_empty c.args.txn.now.reads c.args.lo.now c.args.hi.now c.in-Some.read.now read (c.is_empty.ensures.0 c.if-is_empty.true))

pub returns : goal.returns
returns c =
    let read : first_read c.args.lo.now c.args.hi.now c.args.txn.now.reads.ranges ≡ Some c.in-Some.read.now = search rules in
    ((c.in-Some.read.now, read), first_used c.args.txn.now.reads c.args.lo.now c.args.hi.now c.in-Some.read.now read (λ none. clash (sym c.if-is_empty.false ∙ c.is_empty.ensures.1 none)))
  where
    clash : false ≡ true → ⊥
    clash e = cc
