use Rattle.key_schema.proofs.ClientBytes.{no_client, is_client}
use Rattle.key_schema.proofs.read.client_before.Goals as goal

-- src/read.rt:43:1
pub returns-in_default : goal.returns-in_default
returns-in_default c = no_client c.args.bytes.now c.in_default.ensures

-- src/read.rt:43:1
pub returns : goal.returns
returns c =
    is_client c.args.bytes.now c.in-Some.rest.now c.in-Some-number_before.rest.now c.in-Some.high c.in-Some-number_before.low c.from.result c.from-2.result
    c.from.ensures c.from-2.ensures c.in-Some.ensures c.in-Some-number_before.ensures
