use Rattle.std.proofs.Common.{◌≡◌, ◌∙◌, ap, ℕ}
use Rattle.std.specs.Option.{option_copied}
use Rattle.std.proofs.lemmas.Result.{IfOk-weaker}
use Rattle.conflict_sets.specs.Rows.{value_at_key}
use Rattle.kv_store.specs.Journal.{rows_at, last_writer}
use Rattle.kv_store.specs.Chains.{up_to, last_of, value_of, number_of}
use Rattle.kv_store.specs.Versions.{chain_at}
use Rattle.kv_store.proofs.VersionLemmas.{seen_value, seen_number}
use Rattle.kv_store.proofs.store.KvState.get_at.Goals as goal

pub returns-clause-value : goal.returns-clause-value
returns-clause-value g c =
    let writes_of = g.E.EntryLaw.writes_of in
    let opening = c.self.inside.opening in
    let journal = c.self.inside.journal.items in
    let version : ℕ = c.args.version in
    let says : value_of (option_copied c.seen.result) ≡ value_at_key (rows_at writes_of opening journal version) c.args.key.now
    = ap value_of c.seen.ensures
    ∙ (ap (λ k. value_of (last_of (up_to version (chain_at c.self.inside.chains.entries k)))) c.in_ok-key.ensures
    ∙ (ap (λ chain. value_of (last_of (up_to version chain))) (c.self.invariant.chains_are c.args.key.now)
    ∙ seen_value writes_of opening journal version c.args.key.now c.self.invariant.kept.ascending)) in
    rw (← c.self.view_is) (IfOk-weaker c.got.result _ _ (λ got h. h ∙ says) c.got.ensures.value)

pub returns-clause-version : goal.returns-clause-version
returns-clause-version g c =
    let writes_of = g.E.EntryLaw.writes_of in
    let opening = c.self.inside.opening in
    let journal = c.self.inside.journal.items in
    let version : ℕ = c.args.version in
    let says : number_of (option_copied c.seen.result) ≡ last_writer writes_of journal version c.args.key.now
    = ap number_of c.seen.ensures
    ∙ (ap (λ k. number_of (last_of (up_to version (chain_at c.self.inside.chains.entries k)))) c.in_ok-key.ensures
    ∙ (ap (λ chain. number_of (last_of (up_to version chain))) (c.self.invariant.chains_are c.args.key.now)
    ∙ seen_number writes_of opening journal version c.args.key.now)) in
    rw (← c.self.view_is) (IfOk-weaker c.got.result _ _ (λ got h. h ∙ says) c.got.ensures.version)
