use Rattle.std.proofs.Common.{rules, ◌≡◌, None, ap, sym, ◌∙◌}
use Rattle.std.specs.Prelude.{Some}
use Rattle.std.specs.FinMap as map
use Rattle.tree_model.proofs.MapLaws.{ids, get_entries, set_entries}
use Rattle.tree_model.proofs.maps.ByClient.insert.Goals as goal

pub returns-in_err-insert-clause-absent : goal.returns-in_err-insert-clause-absent
returns-in_err-insert-clause-absent g c =
    let none : map.get c.args.self.now c.args.key ≡ None = ap (λ m. map.get m c.args.key) (sym c.self.view_is) ∙ get_entries ids c.self.inside.pairs.entries c.args.key ∙ c.in_err-insert.ensures.absent in
    search rules

pub returns-clause-before : goal.returns-clause-before
returns-clause-before g c = c.in_ok-insert.ensures.old ∙ sym (get_entries ids c.self.inside.pairs.entries c.args.key) ∙ ap (λ m. map.get m c.args.key) c.self.view_is

pub returns-clause-ok : goal.returns-clause-ok
returns-clause-ok g c =
    set_entries ids c.self.inside.pairs.entries c.insert.new.self.entries c.args.key (Some c.args.value) c.in_ok-insert.ensures.updates.0
    ∙ ap (λ m. map.insert m c.args.key c.args.value) c.self.view_is
