use Rattle.key_schema.proofs.KeyLaws.{one_key_each}
use Rattle.key_schema.proofs.key.one_key_each.Goals as goal

pub returns : goal.returns
returns c = one_key_each
