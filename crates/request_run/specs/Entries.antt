-- The store's journal as a list of plain entries.
use Rattle.std.specs.Prelude.{◌≡◌, ◌⊎◌, List, [], ◌∷◌, ◌++◌, map}
use Rattle.fs_base.specs.declared.call.Request.{Request}
use Rattle.fs_base.specs.declared.ids.ClientId.{ClientId}
use Rattle.kv_store.specs.Store.{Store}
use Rattle.meta_task.specs.declared.entry.MetaEntry.{MetaEntry}
use Rattle.txn_task.specs.declared.messages.Entry.{Entry}

abbrev pub entries_of : List MetaEntry → List Entry
entries_of journal = map (λ whole. whole.entry) journal

abbrev pub store_with_entry : Store MetaEntry → Entry → Store MetaEntry
store_with_entry store entry = record store { journal = store.journal ++ record { entry = entry } ∷ [] }

-- one ask of a request, of the store alone: it is as it was, or has one entry more, which is the request's
abbrev pub IsGrowthOf : Store MetaEntry → Store MetaEntry → Request → Type 0
IsGrowthOf before after request =
    (after ≡ before)
    ⊎ ((entry : Entry) × (after ≡ store_with_entry before entry) × (entry.request ≡ request))

-- one turn of a client, of the store alone: it is as it was, or has one entry more, which is the client's
abbrev pub IsGrowth : Store MetaEntry → Store MetaEntry → ClientId → Type 0
IsGrowth before after client =
    (after ≡ before)
    ⊎ ((entry : Entry) × (after ≡ store_with_entry before entry) × (entry.request.client ≡ client))
