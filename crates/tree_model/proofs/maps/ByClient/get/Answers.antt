use Rattle.std.proofs.Common.{ap, sym, ◌∙◌}
use Rattle.std.specs.FinMap as map
use Rattle.tree_model.proofs.MapLaws.{ids, get_entries}
use Rattle.tree_model.proofs.maps.ByClient.get.Goals as goal

pub returns : goal.returns
returns g c = c.get.ensures.value ∙ sym (get_entries ids c.self.inside.pairs.entries c.args.key) ∙ ap (λ m. map.get m c.args.key) c.self.view_is
