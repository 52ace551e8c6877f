use Rattle.std.proofs.Common.{◌-◌, ◌∙◌, sym, arith}
use Rattle.op_rename.proofs.ClimbSteps.{are_two, asks_on, clear, found, goes_on, is_one, never_longer, never_nothing, starts}
use Rattle.op_rename.proofs.climb.climb_from.Goals as goal

pub returns-then-eq : goal.returns-then-eq
returns-then-eq c = found c.args.txn.now.reads c.args.source c.args.dir c.loop-alloc.left c.loop-alloc.here c.loop-alloc.invariant (is_one _ _ c.if-eq.ensures)

pub returns-then-eq-2 : goal.returns-then-eq-2
returns-then-eq-2 c = clear c.args.txn.now.reads c.args.source c.args.dir c.loop-alloc.left c.loop-alloc.here c.loop-alloc.invariant (are_two _ _ c.if-eq.ensures) (is_one _ _ c.if-eq-2.ensures ∙ c.root.ensures)

pub returns-in-Ask : goal.returns-in-Ask
returns-in-Ask c =
    asks_on c.args.txn.now.reads c.args.source c.args.dir c.loop-alloc.left c.loop-alloc.here c.loop-alloc.invariant (are_two _ _ c.if-eq.ensures) (λ z. are_two _ _ c.if-eq-2.ensures (z ∙ sym c.root.ensures))
    c.in-Ask.key (rw c.in-Ask.is at c.in_ok-key.ensures)

pub returns-in-Nothing : goal.returns-in-Nothing
returns-in-Nothing c =
    never_nothing c.args.txn.now.reads c.args.source c.args.dir c.loop-alloc.left c.loop-alloc.here c.loop-alloc.invariant
    (rw c.in-Nothing.is at c.in_ok-key.ensures).1

pub returns-then-left-eq0 : goal.returns-then-left-eq0
returns-then-left-eq0 c =
    let up = rw c.in-Dir.is at c.in_ok-key.ensures in
    never_longer c.args.txn.now.reads c.args.source c.args.dir c.loop-alloc.left c.loop-alloc.here c.loop-alloc.invariant (are_two _ _ c.if-eq.ensures) (λ z. are_two _ _ c.if-eq-2.ensures (z ∙ sym c.root.ensures))
    c.in-Dir.parent up.0 up.1 c.if-left-eq0.true

pub loop-alloc-preserved : goal.loop-alloc-preserved
loop-alloc-preserved c =
    let up = rw c.in-Dir.is at c.in_ok-key.ensures in
    goes_on c.args.txn.now.reads c.args.source c.args.dir c.loop-alloc.left c.loop-alloc.here c.loop-alloc.invariant (are_two _ _ c.if-eq.ensures) (λ z. are_two _ _ c.if-eq-2.ensures (z ∙ sym c.root.ensures))
    c.in-Dir.parent up.0 up.1 (c.loop-alloc.left - 1) (omega (arith, c.if-left-eq0.false))

pub loop-alloc-init : goal.loop-alloc-init
loop-alloc-init c = starts c.args.txn.now.reads c.args.source c.args.dir c.keys_read-left.result c.keys_read-left.ensures c.requires
