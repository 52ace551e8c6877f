use Rattle.kv_store.proofs.RunLemmas.{commits_good}
use Rattle.kv_store.proofs.law.optimistic_commits.Goals as goal

pub returns : goal.returns
returns g c =
    λ config opening snapshots journal a good h n.
    commits_good g.E.EntryLaw.reads_of g.E.EntryLaw.writes_of (g.E.EntryLaw.good config) (g.E.EntryLaw.sound config)
    (λ e rows a' s' g' h'. g.met.E.EntryLaw.keeps_good config e rows a' s' g' h') opening snapshots journal n a good h
