use Rattle.std.proofs.Common.{rules}
use Rattle.key_schema.specs.Keys.{IsKeyOf}
use Rattle.key_schema.proofs.KeyLaws.{same_key}
use Rattle.key_schema.proofs.key.Key.read.Goals as goal

-- src/read.rt:205:13
pub returns-in-Some-clause-back : goal.returns-in-Some-clause-back
returns-in-Some-clause-back c = λ key is. same_key c.args.bytes.now c.in-Some.key key c.in-Some.ensures is

-- src/read.rt:198:5
pub returns-in-Ok-Some-clause-back : goal.returns-in-Ok-Some-clause-back
returns-in-Ok-Some-clause-back c =
    let found : IsKeyOf c.args.bytes.now c.in-Ok-Some.key = search rules in
    λ key is. same_key c.args.bytes.now c.in-Ok-Some.key key found is
