use Rattle.op_rename.proofs.MoveLaws.{asks_range, at_leaf, at_used}
use Rattle.op_rename.proofs.replace.over_dir.Goals as goal

pub returns-in-File : goal.returns-in-File
returns-in-File c = λ stamp.
    at_leaf c.args.spots.now stamp c.args.entry c.args.old c.args.txn.now c.requires.writes c.requires.known c.requires.other c.requires.beside (λ d. let file = c.in-File.is in cc)

pub returns-in-Link : goal.returns-in-Link
returns-in-Link c = λ stamp.
    at_leaf c.args.spots.now stamp c.args.entry c.args.old c.args.txn.now c.requires.writes c.requires.known c.requires.other c.requires.beside (λ d. let kept = c.in-Link.is in cc)

pub returns-in-Ask : goal.returns-in-Ask
returns-in-Ask c = λ stamp.
    asks_range c.args.spots.now stamp c.args.entry c.args.old c.args.txn.now c.requires.writes c.requires.known c.requires.other c.requires.beside c.in-Dir.is
    c.in-Ask.ask (rw c.in-Ask.is at c.in_ok-ask.ensures)

pub returns-in-Used : goal.returns-in-Used
returns-in-Used c = λ stamp.
    let want = rw c.in-Used.is at c.in_ok-ask.ensures in
    at_used c.args.spots.now stamp c.args.entry c.args.old c.args.txn.now c.requires.writes c.requires.known c.requires.other c.requires.beside c.in-Dir.is want.0 want.1

pub carry-requires-clause-cleared : goal.carry-requires-clause-cleared
carry-requires-clause-cleared c = let want = rw c.in-Empty.is at c.in_ok-ask.ensures in (c.in-Dir.is, want.0, want.1)
