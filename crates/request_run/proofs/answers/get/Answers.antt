use Rattle.std.proofs.Common.{◌∙◌, refl}
use Rattle.key_schema.specs.Keys.{spelled_key}
use Rattle.request_run.proofs.Answering.{value_same, writer_is}
use Rattle.request_run.proofs.answers.get.Goals as goal

pub returns-clause-answer : goal.returns-clause-answer
returns-clause-answer c =
    let bytes = c.as_slice.ensures.value ∙ c.in_ok-bytes.ensures in (
      refl,
      value_same c.args.store.now c.args.snapshot c.as_slice.result.now (spelled_key c.args.key.now) c.in_ok-got.got.value c.requires.open bytes c.in_ok-got.ensures.value,
      writer_is c.args.store.now c.args.snapshot c.as_slice.result.now (spelled_key c.args.key.now) c.in_ok-got.got.version bytes c.in_ok-got.ensures.version,
    )
