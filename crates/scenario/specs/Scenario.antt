-- The plan that the bytes of a scenario read as, or the first rule that they break.
use Rattle.std.specs.Prelude.{ℕ, ◌==◌, ◌%◌, ◌&&◌, not, Bool, true, List, [], ◌∷◌, length, nat_le, nat_lt, Option, Some, None, option_and_then, Result, Ok, Err, codes, if◌then◌else◌}
use Rattle.std.specs.List.{list_any}
use Rattle.std.specs.Option.{ok_or}
use Rattle.std.specs.Str.{is_utf8}
use Rattle.std.specs.Int.{w128, from_be_bytes}
use Rattle.fs_base.specs.Config.{Settings}
use Rattle.fs_base.specs.Gives.{◌>>=◌, each_from}
use Rattle.fs_base.specs.declared.ids.ClientId.{ClientId}
use Rattle.fs_base.specs.declared.limits.TheConstants.{ATTEMPTS, CHAINS, CHUNK_BYTES, CLIENTS, NODES, OPERATIONS, SCENARIO_BYTES, SERVERS}
use Rattle.serde_json.specs.Data.{Data}
use Rattle.serde_json.specs.Read.{read}
use Rattle.uuid.specs.Text.{parsed}
use Rattle.scenario.specs.Broken.{rule, not_built, need}
use Rattle.scenario.specs.Json.{array_at, elements_at, has_only, text_at}
use Rattle.scenario.specs.Numbers.{count_or, number_or}
use Rattle.scenario.specs.Ops.{op_of}
use Rattle.scenario.specs.Schedule.{schedule_of}
use Rattle.scenario.specs.Stops.{stops_at, stops_of}
use Rattle.scenario.specs.declared.broken.Broken.{Broken}
use Rattle.client_core.specs.Plans.{ops_in}
use Rattle.client_core.specs.declared.plan.Op.{Op}
use Rattle.client_core.specs.declared.plan.Plan.{Plan}
use Rattle.client_core.specs.declared.plan.Script.{Script}

-- at most 16 MiB
abbrev pub short_enough : List ℕ → Result (List ℕ) Broken
short_enough bytes = if nat_lt SCENARIO_BYTES (length bytes) then Err (rule 1 SCENARIO_BYTES) else Ok bytes

-- one JSON text, nested no deeper than 127, by `serde_json`'s contract: a number too great for a float or a
-- lone surrogate makes it none
unfoldable pub json_of : List ℕ → Result Data Broken
json_of bytes = if is_utf8 bytes then ok_or (read bytes) (rule 2 0) else Err (rule 2 0)

abbrev pub ops_of : List Data → Result (List Op) Broken
ops_of ds = each_from (λ _ d. op_of d) 0 ds

-- the nil one is 0
abbrev pub client_of : ℕ → Option ClientId
client_of number = if number == 0 then None else Some (record { 0 = number })

-- the client of a text in any form of a UUID, but not the nil one
abbrev pub id_in : List ℕ → Option ClientId
id_in text = option_and_then (λ bytes. client_of (from_be_bytes w128 bytes)) (parsed text)

abbrev pub ops_at : Data → Result (List Op) Broken
ops_at d = do
  list ← ok_or (array_at (codes "ops") d) not_built
  few ← need (nat_le (length list) OPERATIONS) not_built
  ops_of list

-- the servers take the clients in turn, where a client names none
abbrev pub home_of : ℕ → ℕ → Data → Result ℕ Broken
home_of servers ordinal d = number_or (codes "home") servers (ordinal % servers) d

unfoldable pub script_of : ℕ → ℕ → Data → Result Script Broken
script_of servers ordinal d = do
  keys ← need (has_only (codes "id" ∷ codes "home" ∷ codes "ops" ∷ []) d) not_built
  text ← ok_or (text_at (codes "id") d) not_built
  id ← ok_or (id_in text) not_built
  home ← home_of servers ordinal d
  steps ← ops_at d
  Ok (record { id = id; home = home; ops = steps })

abbrev pub scripts_of : ℕ → List Data → Result (List Script) Broken
scripts_of servers ds = each_from (script_of servers) 0 ds

-- ---- clients together

abbrev pub has_id : ClientId → List Script → Bool
has_id id scripts = list_any (λ (s : Script). s.id.0 == id.0) scripts

abbrev pub are_distinct : List Script → Bool
are_distinct [] = true
are_distinct (script ∷ scripts) = not (has_id script.id scripts) && are_distinct scripts

-- an array of 1 to 64
abbrev pub clients_at : Data → Result (List Data) Broken
clients_at d = do
  list ← ok_or (array_at (codes "clients") d) not_built
  few ← need (nat_le 1 (length list) && nat_le (length list) CLIENTS) not_built
  Ok list

-- with at most 4,000 operations in all
unfoldable pub clients_of : ℕ → List Data → Result (List Script) Broken
clients_of servers ds = do
  scripts ← scripts_of servers ds
  distinct ← need (are_distinct scripts) not_built
  short ← need (nat_le (ops_in scripts) OPERATIONS) not_built
  Ok scripts

-- ---- the plan

-- each may be left out
unfoldable pub config_of : Data → Result Settings Broken
config_of d = do
  servers ← count_or (codes "servers") SERVERS 1 d
  nodes ← count_or (codes "nodes") NODES 1 d
  chains ← count_or (codes "chains") CHAINS nodes d
  chunk ← count_or (codes "chunk") CHUNK_BYTES 1048576 d
  stripe ← count_or (codes "stripe") chains chains d
  Ok (record { servers = servers; nodes = nodes; chains = chains; chunk = chunk; stripe = stripe })

abbrev pub top_keys : List (List ℕ)
top_keys =
    codes "clients" ∷ codes "servers" ∷ codes "nodes" ∷ codes "chains" ∷ codes "chunk" ∷ codes "stripe"
    ∷ codes "attempts"
    ∷ codes "stops" ∷ codes "schedule" ∷ []

-- The stops tell the finished program's rules: 4 where there is no array, 10 for all else, tried where it tries
-- them. What is tried beside them tells rule 11 yet, in the order in which it will have rules of its own.
unfoldable pub plan_of : Data → Result Plan Broken
plan_of d = do
  keys ← need (has_only top_keys d) not_built
  clients ← clients_at d
  config ← config_of d
  attempts ← count_or (codes "attempts") ATTEMPTS ATTEMPTS d
  planned ← stops_at d
  turns ← elements_at (codes "schedule") not_built d
  scripts ← clients_of config.servers clients
  stops ← stops_of config.servers planned
  schedule ← schedule_of (length scripts) turns
  Ok (record { config = config; attempts = attempts; clients = scripts; stops = stops; schedule = schedule })

unfoldable pub scenario_of : List ℕ → Result Plan Broken
scenario_of bytes = do
  text ← short_enough bytes
  d ← json_of text
  plan_of d
