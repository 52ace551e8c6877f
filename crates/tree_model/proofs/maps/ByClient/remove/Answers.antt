use Rattle.std.proofs.Common.{ap, sym, ◌∙◌}
use Rattle.std.specs.Prelude.{None}
use Rattle.std.specs.FinMap as map
use Rattle.tree_model.proofs.MapLaws.{ids, get_entries, set_entries}
use Rattle.tree_model.proofs.maps.ByClient.remove.Goals as goal

pub returns-clause-before : goal.returns-clause-before
returns-clause-before g c = c.remove.ensures.value ∙ sym (get_entries ids c.self.inside.pairs.entries c.args.key) ∙ ap (λ m. map.get m c.args.key) c.self.view_is

pub returns-clause-removed : goal.returns-clause-removed
returns-clause-removed g c =
    set_entries ids c.self.inside.pairs.entries c.remove.new.self.entries c.args.key None c.remove.ensures.updates.0
    ∙ ap (λ m. map.remove m c.args.key) c.self.view_is
