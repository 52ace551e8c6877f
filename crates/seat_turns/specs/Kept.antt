-- What is kept of a client, from turn to turn.
use Rattle.std.specs.Prelude.{◌≡◌, ◌⊎◌, ◌≤◌, ◌<◌, ℕ, List, [], All, Option, Some, None, length, map}
use Rattle.fs_base.specs.Config.{Settings}
use Rattle.fs_base.specs.declared.call.Request.{Request}
use Rattle.fs_base.specs.declared.ids.ClientId.{ClientId}
use Rattle.txn_task.specs.declared.messages.Entry.{Entry}
use Rattle.client_core.specs.Client.{ClientView, new_client}
use Rattle.client_core.specs.Courses.{Course, IsFrom, after_courses, receipts_along}
use Rattle.client_core.specs.Plans.{IsScript}
use Rattle.client_core.specs.declared.plan.Stop.{Stop}
use Rattle.run_record.specs.Receipts.{AreReceipts, HasReceipt, HasStopped, Rises, newest_seen}
use Rattle.run_record.specs.Stops.{AllPlanned, HasGoneReceipt, IsPlannedStop, StopsBehind}
use Rattle.run_record.specs.declared.run.Listed.{Listed}
use Rattle.request_run.specs.Served.{EachOf, HasMetConflicts, IsAskPending, IsTaskServed}
use Rattle.seat_turns.specs.declared.seats.Seat.{Seat}
use Rattle.seat_turns.specs.declared.seats.Work.{Work}

-- ---- what is done

-- a receipt for each operation that has ended: those that the client's steps have told, and it went on from
-- there
pub record IsPast (C : Settings) (attempts : ℕ) (stops : List Stop) (journal : List Entry) (k : ℕ)
    (client : ClientView) (receipts : List Listed) : Type 0 where
  pub courses : List Course
  pub told : map (λ listed. listed.receipt) receipts
      ≡ receipts_along (new_client C client.script) courses
  pub from : IsFrom (after_courses (new_client C client.script) courses) client client.request
  pub ordinals : All (λ listed. listed.client ≡ k) receipts
  pub each : AreReceipts C attempts journal client.script.id receipts
  pub planned : AllPlanned stops journal receipts
  pub rises : Rises 0 receipts
  pub within : newest_seen 0 receipts ≤ length journal

-- a receipt names the entry at this place, and tells of a stop that came right behind it
pub record IsNamed (stops : List Stop) (journal : List Entry) (receipts : List Listed) (place : ℕ)
    (entry : Entry) : Type 0 where
  pub named : HasReceipt receipts place
  pub told : StopsBehind stops journal place entry → HasGoneReceipt receipts place entry.request.server

-- so it is with each entry of the client
abbrev pub AreNamed : List Stop → List Entry → ClientId → List Listed → Type 0
AreNamed stops journal client receipts = EachOf journal client (IsNamed stops journal receipts)

-- ---- the call under way

-- an entry that was made and not heard of: it was made where the request is or was, and the client knows of a stop
-- that came right behind it
pub record IsUnheard (stops : List Stop) (journal : List Entry) (client : ClientView) (place : ℕ)
    (entry : Entry) : Type 0 where
  pub sent : (entry.request.server ≡ client.server) ⊎ HasStopped client.gone entry.request.server
  pub told : StopsBehind stops journal place entry → HasStopped client.gone entry.request.server

-- the call began with all that its client had seen; a receipt names each entry that the client had made before
pub record IsCall (stops : List Stop) (journal : List Entry) (client : ClientView) (receipts : List Listed)
    (front : ℕ) : Type 0 where
  pub from : newest_seen 0 receipts ≤ front
  pub named : EachOf journal client.script.id
      (λ place entry. place < front → IsNamed stops journal receipts place entry)
  pub unheard : EachOf journal client.script.id
      (λ place entry. front ≤ place → IsUnheard stops journal client place entry)

-- its request is being served
pub record IsWork (C : Settings) (attempts : ℕ) (stops : List Stop) (journal : List Entry) (client : ClientView)
    (receipts : List Listed) (request : Request) (work : Work) : Type 0 where
  pub call : IsCall stops journal client receipts work.front
  pub served : IsTaskServed C attempts journal request work.front work.task
  pub pending : IsAskPending C work.task work.ask
  pub server : work.server ≡ client.server

-- its request is to be sent again
pub record IsTakenAway (C : Settings) (stops : List Stop) (journal : List Entry) (client : ClientView)
    (receipts : List Listed) (request : Request) (front : ℕ) : Type 0 where
  pub call : IsCall stops journal client receipts front
  pub met : HasMetConflicts C journal request front []

-- ---- the client

-- nothing is under way, or one request is
abbrev pub IsWorking : Settings → ℕ → List Stop → List Entry → ClientView → List Listed → Option Request
    → Option Work → Option ℕ → Type 0
IsWorking C attempts stops journal client receipts None None None =
    AreNamed stops journal client.script.id receipts
IsWorking C attempts stops journal client receipts (Some request) (Some work) None =
    IsWork C attempts stops journal client receipts request work
IsWorking C attempts stops journal client receipts (Some request) None (Some front) =
    IsTakenAway C stops journal client receipts request front
IsWorking C attempts stops journal client receipts under_way work again = ⊥

-- what holds of each client, after every turn of any
pub record IsSeat (C : Settings) (attempts : ℕ) (stops : List Stop) (journal : List Entry) (k : ℕ)
    (seat : Seat) : Type 0 where
  pub config : seat.client.config ≡ C
  pub script : IsScript C.servers seat.client.script
  pub planned : All (IsPlannedStop stops journal) seat.client.gone
  pub past : IsPast C attempts stops journal k seat.client seat.receipts
  pub working : IsWorking C attempts stops journal seat.client seat.receipts seat.client.request seat.work
      seat.again
