-- A client in its script, wherever stops of servers have moved it.
use Rattle.std.specs.Prelude.{◌≡◌, ◌≤◌, ◌<◌, ℕ, ◌+◌, List, [], ◌∷◌, length, slice_get, Option, Some, None, IfSome}
use Rattle.fs_base.specs.Config.{Settings}
use Rattle.fs_base.specs.declared.call.Request.{Request}
use Rattle.path_walk.specs.Requests.{IsRequest}
use Rattle.client_core.specs.Client.{ClientView, server_after}
use Rattle.client_core.specs.Files.{AreDescriptorsSound}
use Rattle.client_core.specs.Ops.{request_of, session_for}
use Rattle.client_core.specs.Plans.{IsScript}
use Rattle.client_core.specs.declared.plan.Op.{Op}

-- ---- ways

-- where a client is once so many stops have moved it, one server on each time
abbrev pub server_after_stops : Settings → ℕ → List ℕ → ℕ
server_after_stops C server [] = server
server_after_stops C server (stop ∷ stops) = server_after_stops C (server_after C server) stops

-- the stops on its way: each of the server where it was then
abbrev pub gone_from : Settings → ℕ → List ℕ → List (ℕ × ℕ)
gone_from C server [] = []
gone_from C server (stop ∷ stops) = (server, stop) ∷ gone_from C (server_after C server) stops

-- ---- the client

-- nothing is under way, or the next operation's request is, by its number, at the present server
abbrev pub IsAtPlace : ClientView → Option Request → Type 0
IsAtPlace c None = (c.op ≤ length c.script.ops) × (c.number ≡ c.op)
IsAtPlace c (Some request) =
    (step : Op) × (slice_get c.script.ops c.op ≡ Some step)
    × (request ≡ request_of c.script.id c.server (c.op + 1) (session_for c.descriptors step) step)
    × (c.number ≡ c.op + 1)

-- what holds of a client after each of its steps
pub record IsInScript (c : ClientView) : Type 0 where
  pub script : IsScript c.config.servers c.script
  pub server : c.server < c.config.servers
  pub place : IsAtPlace c c.request

-- a server takes what is under way, and each file that is open is laid out as the configuration asks
pub record IsUnderWay (c : ClientView) : Type 0 where
  pub in_script : IsInScript c
  pub valid : IfSome c.request (IsRequest c.config)
  pub files : AreDescriptorsSound c.config c.descriptors
