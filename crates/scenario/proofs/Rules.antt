-- Which rule a scenario breaks, where its bytes alone decide.
use Rattle.std.proofs.Common.{◌≡◌, ℕ, ◌<◌, List, length, Err, refl}
use Rattle.std.proofs.lemmas.Bool.{lt-ltb}
use Rattle.fs_base.specs.declared.limits.TheConstants.{SCENARIO_BYTES}
use Rattle.scenario.specs.Broken.{rule}
use Rattle.scenario.specs.Scenario.{scenario_of}

pub breaks_rule_1 : (bytes : List ℕ) → SCENARIO_BYTES < length bytes → scenario_of bytes ≡ Err (rule 1 SCENARIO_BYTES)
unfolding scenario_of
breaks_rule_1 bytes lt = rw (lt-ltb SCENARIO_BYTES (length bytes) lt) refl
