use Rattle.std.proofs.Common.{◌≡◌, ◌≤◌, arith}
use Rattle.chunk_layout.proofs.Shuffling.{in_bounds}
use Rattle.chunk_layout.proofs.striping.known.Goals as goal

pub returns : goal.returns
returns c =
    in_bounds c.args.config.now c.args.layout.now (omega (arith, c.chains-chains.ensures.value, c.chains-chains.ensures.from))
    (omega (arith, c.chains-chains.ensures.value, c.chains-chains.ensures.to)) c.requires
