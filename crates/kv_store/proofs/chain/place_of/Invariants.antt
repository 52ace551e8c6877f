use Rattle.std.proofs.Common.{◌-◌, ◌+◌, ◌*◌, ◌^◌, ◌<◌, ◌≤◌, length, take, drop}
use Rattle.kv_store.specs.Chains.{AreBelow, AreVersionsAbove}
use Rattle.kv_store.proofs.chain.place_of.Given as goal

abbrev pub invariant-loop-low : goal.invariant-loop-low
invariant-loop-low g l =
    let taken = 2 ^ (l.steps - l.fn.steps) in
    record {
      ordered : l.low ≤ l.high;
      within : l.high ≤ length l.versions;
      below : AreBelow (l.version + 1) (take l.low l.versions);
      above : AreVersionsAbove l.version (drop l.high l.versions);
      counts : l.fn.steps ≤ l.steps;
      least : taken ≤ 2 * length l.versions + 1;
      halved : l.low < l.high → taken * (2 * (l.high - l.low)) ≤ 2 * length l.versions + 1;
    }

abbrev pub decreases-loop-low : goal.decreases-loop-low
decreases-loop-low g l = l.high - l.low
