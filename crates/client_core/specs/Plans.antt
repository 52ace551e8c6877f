-- What a plan keeps to.
use Rattle.std.specs.Prelude.{◌≡◌, ◌⊎◌, ◌≤◌, ◌<◌, ◌+◌, ◌^◌, ℕ, List, [], ◌∷◌, length, slice_get, All, Option, Some, IfSome}
use Rattle.fs_base.specs.declared.call.Changes.{Changes}
use Rattle.fs_base.specs.declared.call.Place.{Place}
use Rattle.fs_base.specs.declared.layout.DefaultLayout.{DefaultLayout}
use Rattle.fs_base.specs.declared.limits.TheConstants.{ATTEMPTS, CLIENTS, INODE_IDS, MODES, OPERATIONS, STOPS, STOP_COUNT, TEXT_BYTES, TIMES}
use Rattle.client_core.specs.declared.descriptors.TheConstants.{DESCRIPTORS}
use Rattle.client_core.specs.declared.plan.Op.{Op}
use Rattle.client_core.specs.declared.plan.Op.TheVariants as ops
use Rattle.client_core.specs.declared.plan.Plan.{Plan}
use Rattle.client_core.specs.declared.plan.Schedule.{Schedule}
use Rattle.client_core.specs.declared.plan.Schedule.TheVariants.{Items}
use Rattle.client_core.specs.declared.plan.Script.{Script}
use Rattle.client_core.specs.declared.plan.Stop.{Stop}

-- below the limit where it is given
abbrev pub IsGivenBelow : ℕ → Option ℕ → Type 0
IsGivenBelow limit given = IfSome given (λ n. n < limit)

pub record IsPlace (place : Place) : Type 0 where
  pub base_below : place.base < INODE_IDS
  pub text_short : length place.text ≤ TEXT_BYTES

-- no limits of a layout but those of its numbers: BadLayout is the call's own answer
pub record IsGivenLayout (layout : DefaultLayout) : Type 0 where
  pub chunk_below : layout.chunk < 2 ^ 32
  pub stripe_below : layout.stripe < 2 ^ 16

pub record IsChanges (changes : Changes) : Type 0 where
  pub mode_below : IsGivenBelow MODES changes.mode
  pub owner_below : IsGivenBelow (2 ^ 32) changes.owner
  pub group_below : IsGivenBelow (2 ^ 32) changes.group
  pub atime_below : IsGivenBelow TIMES changes.atime
  pub mtime_below : IsGivenBelow TIMES changes.mtime

-- each number and text is in its range
abbrev pub IsOp : Op → Type 0
IsOp (ops.Mkdir stamp place mode layout) =
    (stamp < TIMES) × IsPlace place × (mode < MODES) × IfSome layout IsGivenLayout
IsOp (ops.Create stamp place mode layout) =
    (stamp < TIMES) × IsPlace place × (mode < MODES) × IfSome layout IsGivenLayout
IsOp (ops.Symlink stamp place target) = (stamp < TIMES) × IsPlace place × (length target ≤ TEXT_BYTES)
IsOp (ops.Setattr stamp place changes) = (stamp < TIMES) × IsPlace place × IsChanges changes
IsOp (ops.Link stamp from to) = (stamp < TIMES) × IsPlace from × IsPlace to
IsOp (ops.Unlink stamp place) = (stamp < TIMES) × IsPlace place
IsOp (ops.Rmdir stamp place) = (stamp < TIMES) × IsPlace place
IsOp (ops.Rename stamp from to) = (stamp < TIMES) × IsPlace from × IsPlace to
IsOp (ops.Lookup stamp place) = (stamp < TIMES) × IsPlace place
IsOp (ops.Stat stamp place) = (stamp < TIMES) × IsPlace place
IsOp (ops.List stamp place) = (stamp < TIMES) × IsPlace place
IsOp (ops.Readlink stamp place) = (stamp < TIMES) × IsPlace place
IsOp (ops.Open stamp place fd) = (stamp < TIMES) × IsPlace place × (fd < DESCRIPTORS)
IsOp (ops.Openr stamp place fd) = (stamp < TIMES) × IsPlace place × (fd < DESCRIPTORS)
IsOp (ops.Fstat stamp fd) = (stamp < TIMES) × (fd < DESCRIPTORS)

-- ---- scripts

-- an id of 16 bytes, a server of the configuration, and few operations, each in its ranges
pub record IsScript (servers : ℕ) (script : Script) : Type 0 where
  pub small : script.id.0 < 2 ^ 128
  pub home : script.home < servers
  pub short : length script.ops ≤ OPERATIONS
  pub valid : All IsOp script.ops

-- the id isn't the nil one
abbrev pub HasId : Script → Type 0
HasId script = 1 ≤ script.id.0

-- clients with one id are one
abbrev pub AreDistinct : List Script → Type 0
AreDistinct scripts =
    (j k : ℕ) (a b : Script) → slice_get scripts j ≡ Some a → slice_get scripts k ≡ Some b → a.id ≡ b.id
    → j ≡ k

abbrev pub ops_in : List Script → ℕ
ops_in [] = 0
ops_in (script ∷ scripts) = length script.ops + ops_in scripts

-- ---- stops

-- a stop of one of so many servers
pub record IsStop (servers : ℕ) (stop : Stop) : Type 0 where
  pub server : stop.server < servers
  pub from : 1 ≤ stop.n
  pub to : stop.n ≤ STOP_COUNT

-- stops that are alike are one
abbrev pub AreStopsDistinct : List Stop → Type 0
AreStopsDistinct stops =
    (j k : ℕ) (stop : Stop) → slice_get stops j ≡ Some stop → slice_get stops k ≡ Some stop → j ≡ k

-- ---- schedules

-- a turn, or a whole operation, of one of so many clients
abbrev pub NamesClient : ℕ → ℕ → Type 0
NamesClient count item = (item < count) ⊎ ((k : ℕ) × (item ≡ 100 + k) × (k < count))

abbrev pub IsSchedule : ℕ → Schedule → Type 0
IsSchedule count (Items items) = All (NamesClient count) items

pub record IsPlan (plan : Plan) : Type 0 where
  pub attempts_from : 1 ≤ plan.attempts
  pub attempts_to : plan.attempts ≤ ATTEMPTS
  pub some : 1 ≤ length plan.clients
  pub few : length plan.clients ≤ CLIENTS
  pub scripts : All (IsScript plan.config.servers) plan.clients
  pub ids : All HasId plan.clients
  pub distinct : AreDistinct plan.clients
  pub short : ops_in plan.clients ≤ OPERATIONS
  pub few_stops : length plan.stops ≤ STOPS
  pub stops : All (IsStop plan.config.servers) plan.stops
  pub distinct_stops : AreStopsDistinct plan.stops
  pub schedule : IsSchedule (length plan.clients) plan.schedule
