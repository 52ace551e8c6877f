use Rattle.std.proofs.Common.{◌≡◌, None, refl, sym, true≢false}
use Rattle.uuid.specs.Text.{parsed}
use Rattle.scenario.proofs.Values.{none_from}
use Rattle.scenario.proofs.read.id_in.Goals as goal

pub returns-in-Err-clause-gives : goal.returns-in-Err-clause-gives
returns-in-Err-clause-gives c =
    let none : parsed c.args.text.now ≡ None = none_from (parsed c.args.text.now) (λ p. true≢false (sym (c.in-Err.ensures.ok.1 p))) in
    rw (c.not_built.ensures, none) refl
