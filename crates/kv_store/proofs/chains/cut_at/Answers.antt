use Rattle.std.proofs.Common.{◌∙◌, ap, sym, Some, None}
use Rattle.kv_store.specs.Chains.{up_to}
use Rattle.kv_store.specs.Versions.{chain_at}
use Rattle.kv_store.proofs.MapLemmas.{chain_found, changed, cut_none, some_found}
use Rattle.kv_store.proofs.chains.cut_at.Goals as goal

pub returns-in-Some : goal.returns-in-Some
returns-in-Some c =
    λ other. changed (up_to c.args.front) c.args.key.now other c.args.chains.now.entries _ c.cut.new.self
    (λ q. ((c.get_mut.follows.holds c.cut.new.self).3 (some_found _ _ c.in-Some.ensures.value)).0 q)
    (c.cut.ensures ∙ ap (up_to c.args.front) (sym (chain_found c.args.key.now c.args.chains.now.entries (Some c.in-Some.chain.now) c.in-Some.ensures.value)))

pub returns-in-None : goal.returns-in-None
returns-in-None c =
    λ other. ap (λ m. chain_at m.entries other) c.get_mut.follows.holds-at-none
    ∙ cut_none c.args.front c.args.key.now other c.args.chains.now.entries (chain_found c.args.key.now c.args.chains.now.entries None c.in-None.ensures.value)
