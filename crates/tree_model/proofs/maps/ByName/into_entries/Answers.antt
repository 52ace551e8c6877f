use Rattle.std.proofs.Common.{ap, sym, ◌∙◌}
use Rattle.std.specs.FinMap as map
use Rattle.tree_model.proofs.MapLaws.{names, entries_are}
use Rattle.tree_model.proofs.maps.ByName.into_entries.Goals as goal

pub returns : goal.returns
returns g c = c.into_iter.ensures.into_iter_gives.0 ∙ sym (entries_are names c.self.inside.pairs.entries c.into_iter.ensures.into_iter_gives.5) ∙ ap map.entries c.self.view_is
