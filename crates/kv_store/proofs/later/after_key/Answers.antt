use Rattle.std.proofs.Common.{sym, subst, Some, None}
use Rattle.kv_store.specs.Chains.{AreOutside}
use Rattle.kv_store.proofs.MapLemmas.{chain_found}
use Rattle.kv_store.proofs.later.after_key.Goals as goal

pub returns-in-None-clause-outside : goal.returns-in-None-clause-outside
returns-in-None-clause-outside c =
    subst (AreOutside c.args.version c.args.until) (sym (chain_found c.args.key.now c.args.chains.now.entries None c.in-None.ensures.value)) tt

pub returns-in-Some-clause-outside : goal.returns-in-Some-clause-outside
returns-in-Some-clause-outside c =
    subst (AreOutside c.args.version c.first_after.result) (sym (chain_found c.args.key.now c.args.chains.now.entries (Some c.in-Some.chain.now) c.in-Some.ensures.value)) c.first_after.ensures.outside
