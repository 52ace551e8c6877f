use Rattle.std.proofs.Common.{ap, sym, ◌∙◌}
use Rattle.std.specs.FinMap as map
use Rattle.tree_model.proofs.MapLaws.{names, get_entries}
use Rattle.tree_model.proofs.maps.ByName.get.Goals as goal

pub returns : goal.returns
returns g c = c.get.ensures.value ∙ sym (get_entries names c.self.inside.pairs.entries c.args.key.now) ∙ ap (λ m. map.get m c.args.key.now) c.self.view_is
