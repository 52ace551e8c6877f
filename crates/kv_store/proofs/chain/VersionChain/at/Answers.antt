use Rattle.std.proofs.Common.{◌∙◌, ap}
use Rattle.std.specs.Option.{option_map}
use Rattle.kv_store.specs.Chains.{last_of}
use Rattle.kv_store.specs.declared.chain.Version.{Version}
use Rattle.kv_store.proofs.ChainLemmas.{split_seen}
use Rattle.kv_store.proofs.chain.VersionChain.at.Goals as goal

pub returns-clause-value : goal.returns-clause-value
returns-clause-value g c =
    c.number.ensures ∙ ap (option_map (λ (v : Version). v.version)) (c.in_front.ensures ∙ ap last_of (split_seen _ _ _ _ (c.as_slice-versions.ensures.value ∙ c.self.view_is) c.place_of-place.ensures.split))
