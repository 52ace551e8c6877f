use Rattle.std.proofs.Common.{◌≡◌, ◌+◌, ◌-◌, ◌*◌, ◌^◌, ◌<◌, ◌≤◌, ◌⊎◌, inl, inr, ℕ, length, arith}
use Rattle.std.proofs.lemmas.Bool.{cases_lt}
use Rattle.std.proofs.Math.Pow.{pow_mono}
use Rattle.store_runs.proofs.look.at.Goals as goal

-- no more than two, since three steps double one to eight
few : (d n : ℕ) → n ≡ 3 → 2 ^ d ≤ 2 * n + 1 → d ≤ 2
few d n three cost = by_size (cases_lt d 3)
  where
    by_size : (d < 3) ⊎ (3 ≤ d) → d ≤ 2
    by_size (inl l) = omega arith
    by_size (inr m) = let eight : 2 ^ 3 ≤ 2 ^ d = pow_mono m in absurd (omega (arith, eight, cost, three))

pub returns : goal.returns
returns g c =
    let taken : c.at.new.steps - c.args.steps.now ≤ 2 = few (c.at.new.steps - c.args.steps.now) (length c.args.chain.now) c.requires c.at.ensures.cost in
    omega (arith, taken, c.at.ensures.counts)
