use Rattle.std.proofs.Common.{ap, sym, ◌∙◌}
use Rattle.std.specs.FinMap as map
use Rattle.tree_model.proofs.MapLaws.{names, entries_are}
use Rattle.tree_model.proofs.maps.ByName.iter.Goals as goal

pub returns-clause-entries : goal.returns-clause-entries
returns-clause-entries g c = c.iter.ensures.rest ∙ sym (entries_are names c.self.inside.pairs.entries c.iter.ensures.ordered) ∙ ap map.entries c.self.view_is
