-- The stops that a scenario plans.
use Rattle.std.specs.Prelude.{ℕ, ◌==◌, ◌&&◌, not, nat_le, nat_lt, Bool, true, false, List, [], ◌∷◌, length, Option, Some, None, Result, Ok, codes, if◌then◌else◌}
use Rattle.std.specs.List.{list_any}
use Rattle.std.specs.Option.{ok_or}
use Rattle.std.specs.Str.{bytes_eq}
use Rattle.fs_base.specs.Gives.{◌>>=◌, each_from}
use Rattle.fs_base.specs.declared.limits.TheConstants.{STOPS, STOP_COUNT}
use Rattle.client_core.specs.declared.plan.Stop.{Stop}
use Rattle.client_core.specs.declared.plan.StopAfter.{StopAfter}
use Rattle.client_core.specs.declared.plan.StopAfter.TheVariants.{Ask, Commit}
use Rattle.serde_json.specs.Data.{Data}
use Rattle.scenario.specs.Broken.{rule, need}
use Rattle.scenario.specs.Json.{elements_at, has_only, text_at}
use Rattle.scenario.specs.Numbers.{whole_number_at}
use Rattle.scenario.specs.declared.broken.Broken.{Broken}

abbrev pub bad_stop : Broken
bad_stop = rule 10 0

-- one of the servers
abbrev pub stopped_server : ℕ → Data → Result ℕ Broken
stopped_server servers d = do
  server ← ok_or (whole_number_at (codes "server") d) bad_stop
  there ← need (nat_lt server servers) bad_stop
  Ok server

abbrev pub after_word : List ℕ → Option StopAfter
after_word word =
    if bytes_eq word (codes "ask") then Some Ask else (if bytes_eq word (codes "commit") then Some Commit else None)

abbrev pub stop_after : Data → Result StopAfter Broken
stop_after d = do
  word ← ok_or (text_at (codes "after") d) bad_stop
  ok_or (after_word word) bad_stop

-- from 1 to 1,000,000
abbrev pub stop_count : Data → Result ℕ Broken
stop_count d = do
  n ← ok_or (whole_number_at (codes "n") d) bad_stop
  fits ← need (nat_le 1 n && nat_le n STOP_COUNT) bad_stop
  Ok n

unfoldable pub stop_of : ℕ → Data → Result Stop Broken
stop_of servers d = do
  keys ← need (has_only (codes "server" ∷ codes "after" ∷ codes "n" ∷ []) d) bad_stop
  server ← stopped_server servers d
  after ← stop_after d
  n ← stop_count d
  Ok (record { server = server; after = after; n = n })

abbrev pub each_stop : ℕ → List Data → Result (List Stop) Broken
each_stop servers ds = each_from (λ _ d. stop_of servers d) 0 ds

-- ---- stops together

abbrev pub count_alike : StopAfter → StopAfter → Bool
count_alike Ask Ask = true
count_alike Ask Commit = false
count_alike Commit Ask = false
count_alike Commit Commit = true

abbrev pub are_alike : Stop → Stop → Bool
are_alike a b = (a.server == b.server) && count_alike a.after b.after && (a.n == b.n)

abbrev pub has_stop : Stop → List Stop → Bool
has_stop stop stops = list_any (are_alike stop) stops

abbrev pub are_different : List Stop → Bool
are_different [] = true
are_different (stop ∷ stops) = not (has_stop stop stops) && are_different stops

-- at most 64, no two alike
unfoldable pub stops_of : ℕ → List Data → Result (List Stop) Broken
stops_of servers ds = do
  few ← need (nat_le (length ds) STOPS) bad_stop
  stops ← each_stop servers ds
  different ← need (are_different stops) bad_stop
  Ok stops

abbrev pub stops_at : Data → Result (List Data) Broken
stops_at d = elements_at (codes "stops") (rule 4 0) d
