use Rattle.kv_store.proofs.LaterLemmas.{first_later_first}
use Rattle.kv_store.proofs.law.first_later_is_least.Goals as goal

pub returns : goal.returns
returns g c = λ journal snapshot reads. first_later_first g.E.EntryLaw.writes_of journal snapshot reads
