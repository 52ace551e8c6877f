use Rattle.std.proofs.Common.{◌≡◌, ◌+◌, ◌-◌, ◌*◌, ◌^◌, ◌/◌, ◌≤◌, length, get_or, sym, arith, ap, subst, ℕ}
use Rattle.kv_store.specs.declared.chain.Version.{Version}
use Rattle.kv_store.proofs.ChainLemmas.{below_place, above_place, power_step, half_step, least_step}
use Rattle.kv_store.proofs.chain.place_of.Goals as goal

pub loop-low-preserved-then-versions-middle : goal.loop-low-preserved-then-versions-middle
loop-low-preserved-then-versions-middle g c =
    let low : ℕ = c.loop-low.low in
    let high : ℕ = c.loop-low.high in
    let here : c.index-versions-middle.result.version ≡ (get_or c.args.versions.now (low + (high - low) / 2) c.index-versions-middle.result).version = ap (λ (v : Version). v.version) c.index-versions-middle.is in
    let total : ℕ = 2 * length c.args.versions.now + 1 in
    let double : 2 ^ (c.tick.new.self - c.args.steps.now) ≡ 2 * 2 ^ (c.loop-low.steps - c.args.steps.now)
    = power_step c.args.steps.now c.loop-low.steps c.tick.new.self c.loop-low.invariant.counts c.tick.ensures in
    let half : 2 ^ (c.loop-low.steps - c.args.steps.now) * (2 * (high - low)) ≤ total = c.loop-low.invariant.halved (omega arith) in
    record {
      ordered = omega arith;
      within = c.loop-low.invariant.within;
      below = below_place c.args.versions.now (low + (high - low) / 2) c.args.version c.index-versions-middle.result c.requires (omega arith) (sym c.index-versions-middle.is) (omega arith);
      above = c.loop-low.invariant.above;
      counts = omega arith;
      least = subst (λ k. k ≤ total) (sym double) (least_step (2 ^ (c.loop-low.steps - c.args.steps.now)) total (high - low) (omega arith) half);
      halved = λ more. subst (λ k. k * (2 * (high - (low + (high - low) / 2 + 1))) ≤ total) (sym double) (half_step (2 ^ (c.loop-low.steps - c.args.steps.now)) total (high - low) (high - (low + (high - low) / 2 + 1)) (omega arith) half);
    }

pub loop-low-preserved : goal.loop-low-preserved
loop-low-preserved g c =
    let low : ℕ = c.loop-low.low in
    let high : ℕ = c.loop-low.high in
    let here : c.index-versions-middle.result.version ≡ (get_or c.args.versions.now (low + (high - low) / 2) c.index-versions-middle.result).version = ap (λ (v : Version). v.version) c.index-versions-middle.is in
    let total : ℕ = 2 * length c.args.versions.now + 1 in
    let double : 2 ^ (c.tick.new.self - c.args.steps.now) ≡ 2 * 2 ^ (c.loop-low.steps - c.args.steps.now)
    = power_step c.args.steps.now c.loop-low.steps c.tick.new.self c.loop-low.invariant.counts c.tick.ensures in
    let half : 2 ^ (c.loop-low.steps - c.args.steps.now) * (2 * (high - low)) ≤ total = c.loop-low.invariant.halved (omega arith) in
    record {
      ordered = omega arith;
      within = omega arith;
      below = c.loop-low.invariant.below;
      above = above_place c.args.versions.now (low + (high - low) / 2) c.args.version c.index-versions-middle.result c.requires (omega arith) (sym c.index-versions-middle.is) (omega arith);
      counts = omega arith;
      least = subst (λ k. k ≤ total) (sym double) (least_step (2 ^ (c.loop-low.steps - c.args.steps.now)) total (high - low) (omega arith) half);
      halved = λ more. subst (λ k. k * (2 * (low + (high - low) / 2 - low)) ≤ total) (sym double) (half_step (2 ^ (c.loop-low.steps - c.args.steps.now)) total (high - low) (low + (high - low) / 2 - low) (omega arith) half);
    }
