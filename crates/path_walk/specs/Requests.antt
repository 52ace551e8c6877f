-- A request that a server takes.
use Rattle.std.specs.Prelude.{◌≤◌, ◌<◌, Bool, IsTrue}
use Rattle.fs_base.specs.Config.{Settings}
use Rattle.fs_base.specs.declared.call.Call.{Call}
use Rattle.fs_base.specs.declared.call.Request.{Request}
use Rattle.row_records.specs.Calls.{is_call}
use Rattle.tree_model.specs.Calls.{is_told}

-- the calls that an operation does: all whose effect is told
abbrev pub is_built : Call → Bool
is_built call = is_told call

-- a call that is built, its numbers in their ranges, from a number of 1 on, at one of the servers
pub record IsRequest (C : Settings) (q : Request) : Type 0 where
  pub server : q.server < C.servers
  pub number : 1 ≤ q.number
  pub call : IsTrue (is_call (q.stamp, q.call))
  pub built : IsTrue (is_built q.call)
