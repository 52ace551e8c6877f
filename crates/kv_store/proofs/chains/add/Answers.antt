use Rattle.kv_store.proofs.MapLemmas.{there, absent}
use Rattle.kv_store.proofs.chains.add.Goals as goal

pub extend-requires-clause-there : goal.extend-requires-clause-there
extend-requires-clause-there c = there _ _ _ c.contains_key.ensures c.if-contains_key.true

pub begin-requires : goal.begin-requires
begin-requires c = absent _ _ _ c.contains_key.ensures c.if-contains_key.false
