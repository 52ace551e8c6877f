use Rattle.std.proofs.Common.{◌∙◌, ◌∷◌, ◌++◌, [], ap, sym, cond, Some, List}
use Rattle.std.specs.Ordering.{is_eq, nat_cmp}
use Rattle.std.specs.Cmp.Lexicographic.{slice_cmp}
use Rattle.kv_store.specs.declared.chain.Version.{Version}
use Rattle.kv_store.proofs.MapLemmas.{changed, no_chain, found_at}
use Rattle.kv_store.proofs.chains.begin.Goals as goal

pub returns-clause-ok : goal.returns-clause-ok
returns-clause-ok c =
    let more : List Version → List Version = λ chain. chain ++ record { version = c.args.version; value = c.args.value } ∷ [] in
    λ other. changed more c.args.key.now other c.args.chains.now.entries c.insert.new.self.entries c.push.new.self
    (λ q. c.in_ok-insert.ensures.updates.0 q ∙ ap (λ k. cond (is_eq (slice_cmp nat_cmp k q)) (Some c.push.new.self) (found_at c.args.chains.now.entries q)) c.in_ok-key.ensures)
    (c.in_ok-push.ensures.ok ∙ ap more (c.new-chain.ensures ∙ sym (no_chain c.args.key.now c.args.chains.now.entries c.requires)))
