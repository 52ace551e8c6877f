use Rattle.std.proofs.Common.{◌∙◌, ap}
use Rattle.kv_store.specs.Chains.{last_of}
use Rattle.kv_store.proofs.ChainLemmas.{split_seen}
use Rattle.kv_store.proofs.chain.VersionChain.seen.Goals as goal

pub returns : goal.returns
returns c = c.in_front.ensures ∙ ap last_of (split_seen _ _ _ _ (c.as_slice-versions.ensures.value ∙ c.self.view_is) c.place_in-place.ensures)
