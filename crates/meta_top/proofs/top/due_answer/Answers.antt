use Rattle.std.proofs.Common.{◌≡◌, true, ◌∙◌, sym, ap, Err}
use Rattle.std.proofs.lemmas.Result.{IfOk-weaker}
use Rattle.meta_top.specs.Top.{is_step, bad_line}
use Rattle.meta_top.proofs.Due.{due_too_long}
use Rattle.meta_top.proofs.top.due_answer.Goals as goal

pub returns-in-Err-TooLong-clause-due : goal.returns-in-Err-TooLong-clause-due
returns-in-Err-TooLong-clause-due g c =
    let word : is_step c.args.words.now ≡ true = sym c.is_step.ensures ∙ c.if-not-is_step.false in
    IfOk-weaker c.bad.result _ _
    (λ a p. due_too_long c.args.words.now _ _ a.status a.text.items word (c.read_all.ensures.long (c.in-Err-TooLong.is ∙ ap Err c.in-Err-TooLong.field-0-is)) (p.0, p.1 ∙ ap bad_line c.too_long.ensures))
    c.bad.ensures.ok
