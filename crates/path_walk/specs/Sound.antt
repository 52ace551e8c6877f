-- What an entry of the journal owes, and what a reply that changes nothing owes, over rows of bytes.
use Rattle.std.specs.Prelude.{◌≡◌, ◌≢◌, ◌<◌, ℕ, false, List, [], Option, Some, MatchOption, ⊤}
use Rattle.std.specs.FinMap.{get}
use Rattle.conflict_sets.specs.Reads as bytes
use Rattle.conflict_sets.specs.Rows.{IsAscending, value_at_key, with_writes}
use Rattle.conflict_sets.specs.declared.sets.ReadSet.{ReadSet}
use Rattle.conflict_sets.specs.declared.sets.Write.{Write}
use Rattle.fs_base.specs.Config.{Settings}
use Rattle.fs_base.specs.declared.call.Request.{Request}
use Rattle.fs_base.specs.declared.reply.Reply.{Reply}
use Rattle.fs_base.specs.declared.row.Row.{Row}
use Rattle.key_schema.specs.Keys.{spelled_key, IsValidKey}
use Rattle.key_schema.specs.declared.key.Key.{Key}
use Rattle.key_schema.specs.declared.key.Key.TheVariants as keys
use Rattle.row_tree.specs.HasTree.{HasTree}
use Rattle.row_tree.specs.Values.{Value, KeptValue, spelled_value}
use Rattle.tree_model.specs.Calls.{apply, effect, is_query}
use Rattle.tree_model.specs.Effects.{Makes, at_length, settled_by}
use Rattle.tree_model.specs.Tree.{Tree}
use Rattle.txn_task.specs.Agreeing.{HaveValidKeys}
use Rattle.txn_task.specs.Writes.{written_at}
use Rattle.txn_task.specs.declared.messages.Entry.{Entry}

-- in all rows with a tree that agree with the reads, the call leaves the tree and gives the reply, whatever
-- length is settled
abbrev pub IsJustifiedReply : Settings → Request → ReadSet → Reply → Type 0
IsJustifiedReply C q reads reply =
    (rows : List Row) (T : Tree) → IsAscending rows → HasTree C rows T → bytes.RowsAgree rows reads
    → (settled : ℕ) → apply C T q settled ≡ (T, reply)

-- what is kept of a reply: it, and the number of its request
abbrev pub kept_value : Request → Reply → Value
kept_value q reply = KeptValue (record { number = q.number; reply = reply })

-- what is written at the key is another value than stands there
abbrev pub ChangesRow : Settings → ReadSet → List Write → Key → Type 0
ChangesRow C reads writes key =
    (v : Option (List ℕ)) → written_at writes (spelled_key key) ≡ Some v → (rows : List Row) (T : Tree)
    → IsAscending rows → HasTree C rows T → bytes.RowsAgree rows reads
    → value_at_key rows (spelled_key key) ≢ v

-- a session's row may be written without a look at it
abbrev pub IsLookedAt : Key → Type 0
IsLookedAt (keys.Session inode client number) = ⊥
IsLookedAt key = Unit {0}

-- each other row that is written changes
abbrev pub WritesChange : Settings → ReadSet → List Write → Type 0
WritesChange C reads writes = (key : Key) → IsLookedAt key → IsValidKey key → ChangesRow C reads writes key

pub record IsSoundEntry (C : Settings) (e : Entry) : Type 0 where
  pub acts : (rows : List Row) (T : Tree) → IsAscending rows → HasTree C rows T → bytes.RowsAgree rows e.reads
      → (U : Tree) × HasTree C (with_writes rows e.writes.writes) U
      × (apply C T e.request (settled_by e.reply) ≡ (U, e.reply))
  -- it is no refusal, and no query
  pub makes : (rows : List Row) (T : Tree) → IsAscending rows → HasTree C rows T
      → bytes.RowsAgree rows e.reads
      → (V : Tree) × (at_length (settled_by e.reply) (effect C T e.request) ≡ Makes V e.reply)
  pub fresh : (rows : List Row) (T : Tree) → IsAscending rows → HasTree C rows T
      → bytes.RowsAgree rows e.reads
      → MatchOption (get T.kept e.request.client.0) ⊤ (λ kept. kept.number < e.request.number)
  pub valid : HaveValidKeys e.writes.writes
  pub keeps : written_at e.writes.writes (spelled_key (keys.Idem e.request.client))
      ≡ Some (Some (spelled_value (kept_value e.request e.reply)))
  pub changes : WritesChange C e.reads e.writes.writes
  pub update : is_query e.request.call ≡ false
  pub none_asked : e.asked ≡ []
