use Rattle.kv_store.proofs.RunLemmas.{good_at}
use Rattle.kv_store.proofs.store.KvState.facts.Goals as goal

pub returns-clause-good : goal.returns-clause-good
returns-clause-good g c =
    let config = c.self.inside.config in
    rw (← c.self.view_is)
    (λ n. good_at g.E.EntryLaw.reads_of g.E.EntryLaw.writes_of (g.E.EntryLaw.good config) (g.E.EntryLaw.sound config)
    (λ e rows a s h r. g.met.E.EntryLaw.keeps_good config e rows a s h r)
    c.self.inside.opening c.self.inside.journal.items n c.self.invariant.kept.ascending c.self.invariant.kept.opening_good c.self.invariant.kept.run)
