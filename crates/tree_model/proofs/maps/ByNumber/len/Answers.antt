use Rattle.std.proofs.Common.{length, ap, sym, ◌∙◌}
use Rattle.std.specs.FinMap as map
use Rattle.tree_model.proofs.MapLaws.{ids, entries_are}
use Rattle.tree_model.proofs.maps.ByNumber.len.Goals as goal

pub returns : goal.returns
returns g c =
    c.len.ensures.len ∙ ap length (sym (entries_are ids c.self.inside.pairs.entries c.len.ensures.ordered))
    ∙ sym (map.len-entries (map.from_entries c.self.inside.pairs.entries)) ∙ ap map.len c.self.view_is
