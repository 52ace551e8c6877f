use Rattle.std.proofs.Common.{◌≡◌, ◌∙◌, ◌∷◌, ◌++◌, [], ap, sym, subst, Some, List, ℕ}
use Rattle.kv_store.specs.declared.chain.Version.{Version}
use Rattle.kv_store.specs.Chains.{AreBelow}
use Rattle.kv_store.specs.Versions.{chain_at}
use Rattle.kv_store.proofs.MapLemmas.{chain_found, changed, unchanged, some_found, on_err, not_there}
use Rattle.kv_store.proofs.chains.extend.Goals as goal

pub push-requires : goal.push-requires
push-requires c =
    subst (AreBelow c.args.version) (chain_found c.args.key.now c.args.chains.now.entries (Some c.in-Some.chain.now) c.in-Some.ensures.value) c.requires.below

pub returns-in_err-push-in-Some-clause-err : goal.returns-in_err-push-in-Some-clause-err
returns-in_err-push-in-Some-clause-err c =
    let same : (other : List ℕ) → chain_at (c.get_mut.follows.lender c.push.new.self).entries other ≡ chain_at c.args.chains.now.entries other
    = λ other. unchanged c.args.key.now other c.args.chains.now.entries _ c.push.new.self
    (λ q. ((c.get_mut.follows.holds c.push.new.self).3 (some_found _ _ c.in-Some.ensures.value)).0 q)
    (c.in_err-push-in-Some.ensures.err ∙ sym (chain_found c.args.key.now c.args.chains.now.entries (Some c.in-Some.chain.now) c.in-Some.ensures.value)) in
    on_err _ same

pub returns-in_ok-push-in-Some-clause-ok : goal.returns-in_ok-push-in-Some-clause-ok
returns-in_ok-push-in-Some-clause-ok c =
    let more : List Version → List Version = λ chain. chain ++ record { version = c.args.version; value = c.args.value } ∷ [] in
    λ other. changed more c.args.key.now other c.args.chains.now.entries _ c.push.new.self
    (λ q. ((c.get_mut.follows.holds c.push.new.self).3 (some_found _ _ c.in-Some.ensures.value)).0 q)
    (c.in_ok-push-in-Some.ensures.ok ∙ ap more (sym (chain_found c.args.key.now c.args.chains.now.entries (Some c.in-Some.chain.now) c.in-Some.ensures.value)))

pub returns-in-None-clause-ok : goal.returns-in-None-clause-ok
returns-in-None-clause-ok c = not_there c.args.key.now c.args.chains.now.entries c.in-None.ensures.value c.requires.there
