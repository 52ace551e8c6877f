use Rattle.std.proofs.Common.{sym, ◌∙◌}
use Rattle.row_tree.proofs.Decided.{rows_decided}
use Rattle.row_tree.proofs.typed.TypedRows.is_well_formed.Goals as goal

pub returns : goal.returns
returns c =
    let decided = rows_decided c.args.config.now c.args.self.now in
    (λ yes. decided.holds (sym c.passes.ensures ∙ yes), λ good. c.passes.ensures ∙ decided.pass good)
