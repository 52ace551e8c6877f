-- What a client's receipts owe to the journal and to its script.
use Rattle.std.specs.Prelude.{◌≡◌, ◌≢◌, ◌⊎◌, ◌≤◌, ◌<◌, ℕ, ◌+◌, ◌%◌, true, List, [], ◌∷◌, length, map, All, Some, MatchOption, replicate}
use Rattle.conflict_sets.specs.declared.sets.Write.{Write}
use Rattle.fs_base.specs.Config.{Settings}
use Rattle.fs_base.specs.declared.call.Request.{Request}
use Rattle.fs_base.specs.declared.ids.ClientId.{ClientId}
use Rattle.key_schema.specs.Keys.{spelled_key}
use Rattle.key_schema.specs.declared.key.Key.{Key}
use Rattle.path_walk.specs.Footprint.{footprint}
use Rattle.txn_task.specs.declared.messages.Entry.{Entry}
use Rattle.txn_task.specs.declared.outcome.Outcome.{Outcome}
use Rattle.txn_task.specs.declared.outcome.Receipt.{Receipt}
use Rattle.client_core.specs.Client.{has_ended, new_client}
use Rattle.client_core.specs.Courses.{Course, after_courses, receipts_along}
use Rattle.client_core.specs.declared.plan.Script.{Script}
use Rattle.run_record.specs.Legal.{EntryAt, tree_at}
use Rattle.run_record.specs.ReplyText.{text_of}
use Rattle.run_record.specs.Outcomes.{seen_by, AreAttempts, IsOutcome, MayTell}
use Rattle.run_record.specs.Touched.{IsKeyTouched}
use Rattle.run_record.specs.declared.run.Listed.{Listed}

-- ---- requests and fronts

-- the receipt is that of the request: the answering server, the number, the stamp and the call
pub record IsOf (request : Request) (receipt : Receipt) : Type 0 where
  pub server : receipt.server ≡ Some request.server
  pub number : receipt.number ≡ Some request.number
  pub stamp : receipt.stamp ≡ request.stamp
  pub call : receipt.call ≡ request.call

-- how much of the journal the client had seen; no storage node has done anything yet
abbrev pub front_of : List ℕ → ℕ
front_of [] = 0
front_of (front ∷ fronts) = front

abbrev pub fronts_of : Settings → ℕ → List ℕ
fronts_of C front = front ∷ replicate C.nodes 0

-- ---- conflicts

-- some write is of the key
abbrev pub IsWritten : List Write → List ℕ → Type 0
IsWritten [] key = ⊥
IsWritten (write ∷ writes) key = (write.key ≡ key) ⊎ IsWritten writes key

-- a conflict names a later entry of another client, which wrote the key
pub record NamesLater (journal : List Entry) (client : ClientId) (floor : ℕ) (pair : ℕ × Key) : Type 0 where
  pub place : ℕ
  pub version : pair.0 ≡ place + 1
  pub later : floor ≤ place
  pub entry : Entry
  pub at : EntryAt journal place entry
  pub other : entry.request.client ≢ client
  pub wrote : IsWritten entry.writes.writes (spelled_key pair.1)

-- versions rise, from above the front
abbrev pub AreLater : List Entry → ClientId → ℕ → List (ℕ × Key) → Type 0
AreLater journal client floor [] = Unit {0}
AreLater journal client floor (pair ∷ pairs) =
    NamesLater journal client floor pair × AreLater journal client pair.0 pairs

-- the request may read the key at a snapshot before the conflict: at some, since a record doesn't keep where
-- attempts began
pub record MayMeet (C : Settings) (journal : List Entry) (request : Request) (floor : ℕ)
    (pair : ℕ × Key) : Type 0 where
  pub snapshot : ℕ
  pub from : floor ≤ snapshot
  pub before : snapshot < pair.0
  pub touched : IsKeyTouched (footprint C (tree_at C journal snapshot) request) pair.1

-- no attempt begins before the conflict of the one before
abbrev pub MayMeetAll : Settings → List Entry → Request → ℕ → List (ℕ × Key) → Type 0
MayMeetAll C journal request floor [] = Unit {0}
MayMeetAll C journal request floor (pair ∷ pairs) =
    MayMeet C journal request floor pair × MayMeetAll C journal request pair.0 pairs

-- both, of a request's own conflicts
abbrev pub IsConflict : Settings → List Entry → Request → ℕ → ℕ × Key → Type 0
IsConflict C journal request floor pair =
    NamesLater journal request.client floor pair × MayMeet C journal request floor pair

abbrev pub AreConflicts : Settings → List Entry → Request → ℕ → List (ℕ × Key) → Type 0
AreConflicts C journal request floor pairs =
    AreLater journal request.client floor pairs × MayMeetAll C journal request floor pairs

-- ---- receipts

-- what the receipt says of its call's end
abbrev pub outcome_of : Receipt → Outcome
outcome_of receipt =
    record {
      reply = receipt.reply;
      version = receipt.version;
      committed = receipt.committed;
      conflicts = receipt.conflicts;
    }

-- a stop of this server took a request away
abbrev pub HasStopped : List (ℕ × ℕ) → ℕ → Type 0
HasStopped [] server = ⊥
HasStopped (stop ∷ stops) server = (stop.0 ≡ server) ⊎ HasStopped stops server

-- the call was sent to the server: it answered, or it stopped before it could
abbrev pub WasSentTo : Receipt → ℕ → Type 0
WasSentTo receipt server = (receipt.server ≡ Some server) ⊎ HasStopped receipt.gone server

-- an entry that the receipt names was made by a server that the call was sent to, which need not have
-- answered: it may stop behind the commit, and the next one answers with the kept reply
abbrev pub IsMadeBy : List Entry → Receipt → Type 0
IsMadeBy journal receipt =
    receipt.committed ≡ true → (place : ℕ) (entry : Entry) → EntryAt journal place entry
    → receipt.version ≡ place + 1 → WasSentTo receipt entry.request.server

-- a server's receipt is that of a request, whose outcome it tells
pub record IsServedReceipt (C : Settings) (journal : List Entry) (client : ClientId)
    (listed : Listed) : Type 0 where
  pub request : Request
  pub client_is : request.client ≡ client
  pub is_of : IsOf request listed.receipt
  pub outcome : IsOutcome C journal request (front_of listed.fronts) (outcome_of listed.receipt)
  pub made_by : IsMadeBy journal listed.receipt
  pub may : MayTell request.call listed.receipt.reply
  pub conflicts : AreLater journal client (front_of listed.fronts) listed.receipt.conflicts

-- the footprint of its request has each key that it met as a conflict
abbrev pub StaysInside : Settings → List Entry → ClientId → Listed → Type 0
StaysInside C journal client listed =
    (request : Request) → request.client ≡ client → IsOf request listed.receipt
    → MayMeetAll C journal request (front_of listed.fronts) listed.receipt.conflicts

-- a server's receipt, and what the plan and the footprint say of it; the first is all that a record shows
-- without its plan
pub record IsAnsweredReceipt (C : Settings) (attempts : ℕ) (journal : List Entry) (client : ClientId)
    (listed : Listed) : Type 0 where
  pub served : IsServedReceipt C journal client listed
  pub met : AreAttempts attempts listed.receipt.reply (length listed.receipt.conflicts)
  pub inside : StaysInside C journal client listed

pub record IsReceipt (C : Settings) (attempts : ℕ) (journal : List Entry) (client : ClientId)
    (listed : Listed) : Type 0 where
  -- of each storage node nothing was seen
  pub fronts : listed.fronts ≡ fronts_of C (front_of listed.fronts)
  pub text : listed.text ≡ text_of listed.receipt.call listed.receipt.reply
  -- each call that is built is answered by a server
  pub by_server : MatchOption listed.receipt.server ⊥
      (λ server. IsAnsweredReceipt C attempts journal client listed)

abbrev pub AreReceipts : Settings → ℕ → List Entry → ClientId → List Listed → Type 0
AreReceipts C attempts journal client [] = Unit {0}
AreReceipts C attempts journal client (listed ∷ rest) =
    IsReceipt C attempts journal client listed × AreReceipts C attempts journal client rest

-- ---- one client's, in order

-- a call begins with all that its client had seen before, conflicts too
abbrev pub Rises : ℕ → List Listed → Type 0
Rises floor [] = Unit {0}
Rises floor (listed ∷ rest) =
    (floor ≤ front_of listed.fronts) × (front_of listed.fronts ≤ listed.receipt.version)
    × Rises (seen_by (outcome_of listed.receipt)) rest

-- the newest version that the last receipt shows
abbrev pub newest_seen : ℕ → List Listed → ℕ
newest_seen floor [] = floor
newest_seen floor (listed ∷ rest) = newest_seen (seen_by (outcome_of listed.receipt)) rest

-- some receipt names the entry of this place
abbrev pub HasReceipt : List Listed → ℕ → Type 0
HasReceipt [] place = ⊥
HasReceipt (listed ∷ rest) place =
    ((listed.receipt.committed ≡ true) × (listed.receipt.version ≡ place + 1)) ⊎ HasReceipt rest place

-- where a client is that stops have moved so often, one server on each time
abbrev pub server_moved : Settings → ℕ → ℕ → ℕ
server_moved C home moved = (home + moved) % C.servers

-- the server of each receipt is the home, moved on by one for each stop told so far, its own ones too
abbrev pub AreMovedOn : Settings → ℕ → ℕ → List Listed → Type 0
AreMovedOn C home moved [] = Unit {0}
AreMovedOn C home moved (listed ∷ rest) =
    (listed.receipt.server ≡ Some (server_moved C home (moved + length listed.receipt.gone)))
    × AreMovedOn C home (moved + length listed.receipt.gone) rest

-- all the receipts of a client: those that its steps tell, run over what its requests came to, to the
-- script's end
pub record IsSection (C : Settings) (attempts : ℕ) (journal : List Entry) (k : ℕ) (script : Script)
    (own : List Listed) : Type 0 where
  pub courses : List Course
  pub told : map (λ listed. listed.receipt) own ≡ receipts_along (new_client C script) courses
  pub ended : has_ended (after_courses (new_client C script) courses) ≡ true
  pub ordinals : All (λ listed. listed.client ≡ k) own
  pub each : AreReceipts C attempts journal script.id own
  pub rises : Rises 0 own
  pub moved : AreMovedOn C script.home 0 own
