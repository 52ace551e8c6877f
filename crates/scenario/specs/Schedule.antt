-- The order of turns that a scenario names.
use Rattle.std.specs.Prelude.{ℕ, ◌-◌, List, nat_le, nat_lt, ◌&&◌, ◌||◌, Bool, Result, Ok}
use Rattle.std.specs.Option.{ok_or}
use Rattle.fs_base.specs.Gives.{◌>>=◌, each_from}
use Rattle.client_core.specs.declared.plan.Schedule.{Schedule}
use Rattle.client_core.specs.declared.plan.Schedule.TheVariants.{Items}
use Rattle.serde_json.specs.Data.{Data}
use Rattle.scenario.specs.Broken.{not_built, need}
use Rattle.scenario.specs.Numbers.{whole_number}
use Rattle.scenario.specs.declared.broken.Broken.{Broken}

-- k is one turn of client k, and 100 + k is one whole operation of client k
abbrev pub names_client : ℕ → ℕ → Bool
names_client count item = nat_lt item count || (nat_le 100 item && nat_lt (item - 100) count)

abbrev pub item_of : ℕ → Data → Result ℕ Broken
item_of count d = do
  item ← ok_or (whole_number d) not_built
  named ← need (names_client count item) not_built
  Ok item

abbrev pub items_of : ℕ → List Data → Result (List ℕ) Broken
items_of count ds = each_from (λ _ d. item_of count d) 0 ds

abbrev pub schedule_of : ℕ → List Data → Result Schedule Broken
schedule_of count ds = items_of count ds >>= λ items. Ok (Items items)
