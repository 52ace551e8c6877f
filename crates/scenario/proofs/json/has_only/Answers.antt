use Rattle.std.proofs.Common.{rules, tests, ◌∙◌, string_bytes}
use Rattle.std.specs.List.{list_any}
use Rattle.std.specs.Str.{bytes_eq}
use Rattle.std.proofs.lemmas.Iterator.Search.{all_from_yields_List}
use Rattle.std.proofs.lemmas.Iterator.Consumers.{YieldsList-from_rest}
use Rattle.scenario.proofs.Values.{only_keys-view}
use Rattle.scenario.proofs.json.has_only.Goals as goal

pub returns-in-Some : goal.returns-in-Some
returns-in-Some c =
    let answered = all_from_yields_List (λ name. list_any (λ k. bytes_eq (string_bytes name) k.now) c.args.known.now) _ _ c.all.result c.all.ensures.ran (YieldsList-from_rest _ c.keys.ensures.rest) (λ x b q k. search (rules, tests)) in
    rw (← c.in-Some.ensures) (answered ∙ only_keys-view c.args.known.now c.in-Some.members.now.entries)
