-- What each step of an operation owes: an ask of its own, a justified reply, or a sound commit.
use Rattle.std.specs.Prelude.{◌≡◌, ◌≤◌, ◌<◌, ◌^◌, IsTrue, List, [], ◌++◌, None, MatchOption, ⊤}
use Rattle.std.specs.FinMap.{get}
use Rattle.conflict_sets.specs.declared.sets.ReadSet.{ReadSet}
use Rattle.conflict_sets.specs.declared.sets.Write.{Write}
use Rattle.fs_base.specs.Config.{Settings}
use Rattle.fs_base.specs.declared.call.Request.{Request}
use Rattle.fs_base.specs.declared.ids.ClientId.{ClientId}
use Rattle.fs_base.specs.declared.reply.Reply.{Reply}
use Rattle.key_schema.specs.Keys.{spelled_key}
use Rattle.key_schema.specs.declared.key.Key.TheVariants as keys
use Rattle.row_records.specs.Replies.{is_reply}
use Rattle.row_tree.specs.TreeOf.{tree_of}
use Rattle.row_tree.specs.TypedRows.{TypedRows}
use Rattle.row_tree.specs.WellFormed.{IsWellFormed}
use Rattle.tree_model.specs.Effects.{Effect, Leaves, Makes, at_length, settled_by}
use Rattle.tree_model.specs.Tree.{Tree}
use Rattle.txn_task.specs.Agreeing.{Agrees, AreWrites, LeadsTo}
use Rattle.txn_task.specs.Transactions.{Transaction}
use Rattle.txn_task.specs.Wanted.{IsUnread}
use Rattle.txn_task.specs.Writes.{written_at}
use Rattle.txn_task.specs.declared.messages.Ask.{Ask}
use Rattle.txn_task.specs.declared.messages.Ask.TheVariants as asks
use Rattle.txn_task.specs.declared.messages.Asked.{Asked}
use Rattle.txn_task.specs.declared.messages.OpStep.{OpStep}
use Rattle.txn_task.specs.declared.messages.OpStep.TheVariants as steps
use Rattle.path_walk.specs.Areas.{Area, AreRead, IsNextOf}
use Rattle.path_walk.specs.Sound.{WritesChange}

-- ---- a reply that changes nothing

-- in all well-formed rows that agree with the reads, the effect leaves the tree and gives the reply
abbrev pub IsJustified : Settings → (Tree → Effect) → ReadSet → Reply → Type 0
IsJustified C effect reads reply =
    (S : TypedRows) → IsWellFormed C S → Agrees S reads → effect (tree_of S) ≡ Leaves reply

-- the client's kept reply is absent, or has a smaller number
abbrev pub IsKeptBefore : ReadSet → Request → Type 0
IsKeptBefore reads q =
    (S : TypedRows) → Agrees S reads → MatchOption (get S.kept q.client.0) ⊤ (λ kept. kept.number < q.number)

-- ---- a commit, before the kept reply is added

-- the writes lead all of them to well-formed rows, whose tree the effect makes with the reply; a settling
-- does at the reply's length
abbrev pub IsSoundEffect : Settings → (Tree → Effect) → ReadSet → List Write → Reply → Type 0
IsSoundEffect C effect reads writes reply =
    (S : TypedRows) → IsWellFormed C S → Agrees S reads → (U : TypedRows) × LeadsTo writes S U
    × IsWellFormed C U × (at_length (settled_by reply) (effect (tree_of S)) ≡ Makes (tree_of U) reply)

-- no kept reply is written, a reply's numbers are in their ranges, and no node was asked
pub record IsOpCommit (C : Settings) (effect : Tree → Effect) (t : Transaction) (reply : Reply)
    (asked : List Asked) : Type 0 where
  pub sound : IsSoundEffect C effect t.reads t.writes reply
  pub writes : AreWrites t.writes
  pub no_kept : (client : ClientId) → client.0 < 2 ^ 128
      → written_at t.writes (spelled_key (keys.Idem client)) ≡ None
  pub changes : WritesChange C t.reads t.writes
  pub reply_fits : IsTrue (is_reply reply)
  pub none_asked : asked ≡ []

-- ---- an ask

-- a key that wasn't read, or some rows
abbrev pub IsNewAsk : ReadSet → Ask → Type 0
IsNewAsk reads (asks.Get key) = IsUnread reads key
IsNewAsk reads (asks.Range lo hi limit) = 1 ≤ limit
IsNewAsk reads ask = ⊥

-- in all well-formed rows that agree with the reads, the ask is the next of these areas
abbrev pub MayAsk : Settings → (Tree → List Area) → ReadSet → Ask → Type 0
MayAsk C areas reads ask =
    (S : TypedRows) → IsWellFormed C S → Agrees S reads → IsNextOf reads (areas (tree_of S)) ask

-- in all of them the areas were read whole
abbrev pub HasRead : Settings → (Tree → List Area) → ReadSet → Type 0
HasRead C areas reads =
    (S : TypedRows) → IsWellFormed C S → Agrees S reads → AreRead reads (areas (tree_of S))

-- ---- a step

-- nothing is told before all was read that the call reads
abbrev pub IsOpStep : Settings → (Tree → List Area) → (Tree → Effect) → Transaction → OpStep → Type 0
IsOpStep C areas effect t (steps.Ask ask) = IsNewAsk t.reads ask × MayAsk C areas t.reads ask
IsOpStep C areas effect t (steps.Reply reply) = HasRead C areas t.reads × IsJustified C effect t.reads reply
IsOpStep C areas effect t (steps.Commit reply asked) =
    HasRead C areas t.reads × IsOpCommit C effect t reply asked

-- a step that is no commit has written nothing
abbrev pub LeavesWrites : OpStep → List Write → Type 0
LeavesWrites (steps.Commit reply asked) writes = Unit {0}
LeavesWrites step writes = writes ≡ []

-- a step from one transaction to another: what was read stays, and the step is one of these areas and this
-- effect
pub record HasDone (C : Settings) (areas : Tree → List Area) (effect : Tree → Effect)
    (before after : Transaction) (s : OpStep) : Type 0 where
  pub reads : after.reads ≡ before.reads
  pub snapshot : after.snapshot ≡ before.snapshot
  pub versions : after.versions ≡ before.versions
  pub step : IsOpStep C areas effect after s
  pub unwritten : LeavesWrites s after.writes

-- ---- what a step keeps

-- the effect is what it was
abbrev pub KeepsEffect : Settings → (Tree → Effect) → (Tree → Effect) → ReadSet → Type 0
KeepsEffect C old new reads =
    (S : TypedRows) → IsWellFormed C S → Agrees S reads → new (tree_of S) ≡ old (tree_of S)

-- some of the first areas were read, and these are left
abbrev pub KeepsAreas : Settings → (Tree → List Area) → (Tree → List Area) → ReadSet → Type 0
KeepsAreas C old new reads =
    (S : TypedRows) → IsWellFormed C S → Agrees S reads → (seen : List Area) × AreRead reads seen
    × (old (tree_of S) ≡ seen ++ new (tree_of S))

-- a task's step: it comes to the same, reads what is left, and makes a step of that
pub record HasStepped (C : Settings) (old_areas new_areas : Tree → List Area)
    (old_effect new_effect : Tree → Effect) (before after : Transaction) (s : OpStep) : Type 0 where
  pub effect : KeepsEffect C old_effect new_effect before.reads
  pub areas : KeepsAreas C old_areas new_areas before.reads
  pub done : HasDone C new_areas new_effect before after s
