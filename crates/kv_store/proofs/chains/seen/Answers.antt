use Rattle.std.proofs.Common.{◌∙◌, ap, sym, Some, None}
use Rattle.kv_store.specs.Chains.{up_to, last_of}
use Rattle.kv_store.proofs.MapLemmas.{chain_found}
use Rattle.kv_store.proofs.chains.seen.Goals as goal

pub returns-in-None : goal.returns-in-None
returns-in-None c = sym (ap (λ chain. last_of (up_to c.args.version chain)) (chain_found c.args.key.now c.args.chains.now.entries None c.in-None.ensures.value))

pub returns-in-Some : goal.returns-in-Some
returns-in-Some c =
    c.seen.ensures ∙ ap (λ chain. last_of (up_to c.args.version chain)) (sym (chain_found c.args.key.now c.args.chains.now.entries (Some c.in-Some.chain.now) c.in-Some.ensures.value))
