-- What a step owes where the walk to a file has ended, and what one owes that is by a session.
use Rattle.std.specs.Prelude.{◌≡◌, ◌≢◌, ◌⊎◌, ℕ, [], ◌∷◌, Some}
use Rattle.std.specs.FinMap.{get}
use Rattle.conflict_sets.specs.declared.sets.ReadSet.{ReadSet}
use Rattle.fs_base.specs.Config.{Settings}
use Rattle.fs_base.specs.declared.call.Session.{Session}
use Rattle.fs_base.specs.declared.ids.ClientId.{ClientId}
use Rattle.fs_base.specs.declared.kind.Kind.{Kind}
use Rattle.fs_base.specs.declared.kind.Kind.TheVariants as kinds
use Rattle.fs_base.specs.declared.reply.FileInfo.{FileInfo}
use Rattle.inode_record.specs.declared.inode.InodeRow.{InodeRow}
use Rattle.key_schema.specs.declared.key.Key.TheVariants as keys
use Rattle.row_tree.specs.Steps.{hinted_row}
use Rattle.row_tree.specs.TreeOf.{node_part}
use Rattle.row_tree.specs.TypedRows.{TypedRows}
use Rattle.row_tree.specs.Values.{InodeValue}
use Rattle.tree_model.specs.declared.walk.Walked.{Walked}
use Rattle.tree_model.specs.declared.walk.Walked.TheVariants.{At}
use Rattle.tree_model.specs.Sessions.{file_of}
use Rattle.txn_task.specs.Agreeing.{Agrees}
use Rattle.txn_task.specs.Transactions.{Transaction}
use Rattle.txn_task.specs.Wanted.{IsKeyRead}
use Rattle.txn_task.specs.declared.messages.OpStep.{OpStep}
use Rattle.path_walk.specs.Directories.{IsRowRead}
use Rattle.path_walk.specs.Footprint.{file_row_at, session_areas}
use Rattle.path_walk.specs.Owed.{HasDone}
use Rattle.path_walk.specs.RowPuts.{HasPut}
use Rattle.op_session.specs.Session.{does_by, opens_at}
use Rattle.op_session.specs.declared.task.HeldCall.{HeldCall}
use Rattle.op_session.specs.declared.task.OpenMode.{OpenMode}

-- under whatever configuration it reads what the call reads there, and does what the call does there
abbrev pub IsOpenStep : OpenMode → ClientId → Walked → Transaction → Transaction → OpStep → Type 0
IsOpenStep mode client walked before after s =
    (C : Settings) → HasDone C (λ T. file_row_at walked) (λ T. opens_at mode client T walked) before after s

-- at a node that is no directory by its entry
abbrev pub IsNodeStep : OpenMode → ClientId → ℕ → Transaction → Transaction → OpStep → Type 0
IsNodeStep mode client id before after s =
    (kind : Kind) → kind ≢ kinds.Dir → IsOpenStep mode client (At id kind) before after s

abbrev pub IsHeldStep : HeldCall → ClientId → Session → Transaction → Transaction → OpStep → Type 0
IsHeldStep call client session before after s =
    (C : Settings)
    → HasDone C (λ T. session_areas T client session) (does_by call client session) before after s

-- the session was read, and all rows that agree with the reads have it
pub record IsHeld (reads : ReadSet) (client : ClientId) (session : Session) : Type 0 where
  pub stamp : ℕ
  pub seen : IsKeyRead reads (keys.Session session.inode client session.number)
  pub there : (S : TypedRows) → Agrees S reads
      → get S.sessions (session.inode, (client.0, session.number)) ≡ Some stamp

-- the row of an inode was read, and it is this file
pub record IsFileRead (reads : ReadSet) (id : ℕ) (file : FileInfo) : Type 0 where
  pub row : InodeRow
  pub read : IsRowRead reads id row
  pub is_file : file_of id (node_part row.part) ≡ Some file

-- ---- rows that are put

-- the row is put where the hint changes
abbrev pub PutsHint : ℕ → ℕ → ℕ → InodeRow → Transaction → Transaction → Type 0
PutsHint id old hint row before after =
    ((hint ≡ old) × (after ≡ before))
    ⊎ ((hint ≢ old) × HasPut ((keys.Inode id, Some (InodeValue (hinted_row hint row))) ∷ []) before after)
