use Rattle.std.proofs.Common.{◌≡◌, ◌+◌, ◌-◌, ◌≤◌, length, sym, subst, arith}
use Rattle.kv_store.specs.Store.{Store}
use Rattle.kv_store.specs.Chains.{AreOutside}
use Rattle.kv_store.specs.Versions.{chain_of}
use Rattle.kv_store.proofs.SkipLemmas.{skips}
use Rattle.kv_store.proofs.store.KvState.first_touched.Goals as goal

pub returns-clause-skips : goal.returns-clause-skips
returns-clause-skips g c =
    let writes_of = g.E.EntryLaw.writes_of in
    let opening = c.self.inside.opening in
    let journal = c.self.inside.journal.items in
    let next : c.first_after.result ≡ c.first_after.result - 1 + 1 = omega (arith, c.first_after.ensures.later) in
    let within : c.args.snapshot ≤ length journal = subst (λ (s : Store g.row.E.Denot). c.args.snapshot ≤ length s.journal) (sym c.self.view_is) c.requires in
    rw (← c.self.view_is)
    (skips writes_of opening journal c.args.reads.now c.args.snapshot (c.first_after.result - 1) (omega (arith, c.first_after.ensures.later)) within
    (λ key t. subst (λ until. AreOutside c.args.snapshot until (chain_of writes_of opening journal key)) next
    (subst (AreOutside c.args.snapshot c.first_after.result) (c.self.invariant.chains_are key) (c.first_after.ensures.outside key t))))
