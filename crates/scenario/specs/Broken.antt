-- Rules that a scenario breaks, by number and place.
use Rattle.std.specs.Prelude.{ℕ, Bool, true, false, Option, Some, None, Result, Ok, Err}
use Rattle.scenario.specs.declared.broken.Broken.{Broken}
use Rattle.scenario.specs.declared.broken.ScenarioError.{ScenarioError}
use Rattle.scenario.specs.declared.broken.ScenarioError.TheVariants as errors

abbrev pub rule : ℕ → ℕ → Broken
rule number place = record { rule = number; place = place }

-- what isn't built yet
abbrev pub not_built : Broken
not_built = rule 11 0

-- a step that only tests
abbrev pub need : Bool → Broken → Result (Unit {0}) Broken
need true broken = Ok tt
need false broken = Err broken

-- The broken rule that an error names.
abbrev pub broken_of : ScenarioError → Option Broken
broken_of (errors.BadScenario broken) = Some broken
broken_of errors.Memory = None
