-- JSON values as lists, and what stands at their keys.
use Rattle.std.specs.Prelude.{ℕ, List, [], ◌∷◌, Bool, false, Option, Some, None, Result, Ok, unwrap_or, option_map, option_and_then}
use Rattle.std.specs.List.{list_any, list_all}
use Rattle.std.specs.Option.{ok_or}
use Rattle.std.specs.Str.{bytes_eq}
use Rattle.serde_json.specs.Data.{Data, Items, no_items, item, Members, no_members, member}
use Rattle.serde_json.specs.Find.{get, as_str, as_array, as_object}
use Rattle.scenario.specs.declared.broken.Broken.{Broken}

abbrev pub list_of : Items → List Data
list_of no_items = []
list_of (item d ds) = d ∷ list_of ds

abbrev pub member_names : Members → List (List ℕ)
member_names no_members = []
member_names (member name d ms) = name ∷ member_names ms

abbrev pub only_keys : List (List ℕ) → Members → Bool
only_keys known ms = list_all (λ name. list_any (λ k. bytes_eq name k) known) (member_names ms)

-- an object with no key but these
abbrev pub has_only : List (List ℕ) → Data → Bool
has_only known d = unwrap_or (option_map (only_keys known) (as_object d)) false

abbrev pub text_at : List ℕ → Data → Option (List ℕ)
text_at name d = option_and_then as_str (get name d)

abbrev pub array_at : List ℕ → Data → Option (List Data)
array_at name d = option_map list_of (option_and_then as_array (get name d))

abbrev pub array_in : Data → Option (List Data)
array_in d = option_map list_of (as_array d)

-- no elements where nothing stands
abbrev pub elements_in : Broken → Option Data → Result (List Data) Broken
elements_in broken None = Ok []
elements_in broken (Some d) = ok_or (array_in d) broken

-- the elements of the array at a key that may be missing
abbrev pub elements_at : List ℕ → Broken → Data → Result (List Data) Broken
elements_at name broken d = elements_in broken (get name d)
