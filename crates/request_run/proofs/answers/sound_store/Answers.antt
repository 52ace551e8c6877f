use Rattle.request_run.proofs.Rows.{sound_journal}
use Rattle.request_run.proofs.answers.sound_store.Goals as goal

pub returns-clause-sound : goal.returns-clause-sound
returns-clause-sound c = sound_journal c.args.store.now c.requires c.facts.ensures.ascending c.facts.ensures.good c.facts.ensures.run
