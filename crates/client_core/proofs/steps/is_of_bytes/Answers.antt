use Rattle.std.proofs.Common.{arith}
use Rattle.byte_fields.proofs.Bytes.{are_bytes_by}
use Rattle.client_core.proofs.steps.is_of_bytes.Goals as goal

pub returns : goal.returns
returns c = are_bytes_by c.args.bytes.now (λ i. omega (arith, c.type_inv.bytes i))
