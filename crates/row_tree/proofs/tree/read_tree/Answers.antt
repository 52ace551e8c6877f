use Rattle.std.proofs.Common.{sym, ap}
use Rattle.tree_model.specs.Tree.{Served}
use Rattle.row_tree.proofs.TreeRead.{falls, rise, no_tree}
use Rattle.row_tree.proofs.tree.read_tree.Goals as goal

pub returns-then-not-are_ascending-clause-bad : goal.returns-then-not-are_ascending-clause-bad
returns-then-not-are_ascending-clause-bad c = λ same ascending T h. falls c.args.rows.now c.if-not-are_ascending.ensures ascending

pub read_rows-requires : goal.read_rows-requires
read_rows-requires c = rise c.args.rows.now c.if-not-are_ascending.ensures

pub returns-then-not-branch-clause-bad : goal.returns-then-not-branch-clause-bad
returns-then-not-branch-clause-bad c = λ same ascending.
    no_tree c.args.config.now c.args.rows.now c.in_ok-typed.typed c.in_ok-is_well_formed.field-0 c.in_ok-typed.ensures.ok c.in_ok-is_well_formed.ensures c.if-not-branch.true

pub returns-clause-ascending : goal.returns-clause-ascending
returns-clause-ascending c = rise c.args.rows.now c.if-not-are_ascending.ensures

pub returns-clause-ok : goal.returns-clause-ok
returns-clause-ok c =
    (c.in_ok-typed.typed, c.in_ok-typed.ensures.ok, c.in_ok-is_well_formed.ensures.0 c.if-not-branch.false, sym (ap (λ (t : Served). t.tree) c.in_ok-into_tree.ensures))

pub returns-in_err-typed-clause-memory : goal.returns-in_err-typed-clause-memory
returns-in_err-typed-clause-memory c = λ falling. absurd (falling (rise c.args.rows.now c.if-not-are_ascending.ensures))

pub returns-in_err-is_well_formed-clause-memory : goal.returns-in_err-is_well_formed-clause-memory
returns-in_err-is_well_formed-clause-memory c = λ falling. absurd (falling (rise c.args.rows.now c.if-not-are_ascending.ensures))

pub returns-in_err-into_tree-clause-memory : goal.returns-in_err-into_tree-clause-memory
returns-in_err-into_tree-clause-memory c = λ falling. absurd (falling (rise c.args.rows.now c.if-not-are_ascending.ensures))

pub returns-clause-memory : goal.returns-clause-memory
returns-clause-memory c = λ falling. absurd (falling (rise c.args.rows.now c.if-not-are_ascending.ensures))
