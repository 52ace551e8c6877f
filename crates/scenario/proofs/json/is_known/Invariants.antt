use Rattle.std.proofs.Common.{◌≡◌, drop}
use Rattle.std.specs.List.{list_any}
use Rattle.std.specs.Str.{bytes_eq}
use Rattle.scenario.proofs.json.is_known.Given as goal

abbrev pub invariant-loop-k : goal.invariant-loop-k
invariant-loop-k l = list_any (λ k. bytes_eq l.name k.now) l.known ≡ list_any (λ k. bytes_eq l.name k.now) (drop l.k-index l.known)
