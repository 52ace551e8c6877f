-- The objects that turns work on: the store, and the storage nodes.
use Rattle.std.specs.Prelude.{◌≡◌, ◌⊎◌, ℕ, List, [], replicate}
use Rattle.fs_base.specs.declared.ids.ClientId.{ClientId}
use Rattle.kv_store.specs.Store.{Store}
use Rattle.meta_task.specs.declared.entry.MetaEntry.{MetaEntry}
use Rattle.txn_task.specs.declared.messages.Entry.{Entry}
use Rattle.request_run.specs.Entries.{store_with_entry}

-- what a storage node has done: nothing yet that it could do
abbrev pub Done : Type 0
Done = ⊥

-- The nodes' histories are lists of a type without values as yet, so a turn's clause says of them what it
-- will say: at most one object grew.
pub record Objects : Type 0 where
  pub store : Store MetaEntry
  -- each node's history
  pub nodes : List (List Done)

-- so many nodes that have done nothing
abbrev pub no_histories : ℕ → List (List Done)
no_histories count = replicate count []

-- the store has one entry more
abbrev pub grown : Objects → Entry → Objects
grown objects entry = record objects { store = store_with_entry objects.store entry }

-- one turn of a client: nothing has changed, or one object grew, by one; the store by an entry of that client
abbrev pub IsStep : Objects → Objects → ClientId → Type 0
IsStep before after client =
    (after ≡ before) ⊎ ((entry : Entry) × (after ≡ grown before entry) × (entry.request.client ≡ client))
