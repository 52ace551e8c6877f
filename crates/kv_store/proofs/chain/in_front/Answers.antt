use Rattle.std.proofs.Common.{◌∙◌, take}
use Rattle.kv_store.proofs.ChainLemmas.{last_of_slice}
use Rattle.kv_store.proofs.chain.in_front.Goals as goal

pub returns : goal.returns
returns c = c.last.ensures.value ∙ last_of_slice (take c.args.place c.args.versions.now)
