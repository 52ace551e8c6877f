-- A store that began with the root alone.
use Rattle.std.specs.Prelude.{◌≡◌}
use Rattle.kv_store.specs.Store.{Store}
use Rattle.meta_task.specs.declared.entry.MetaEntry.{MetaEntry}
use Rattle.row_tree.specs.HasTree.{HasTree}
use Rattle.row_tree.specs.Opening.{opening_bytes}
use Rattle.tree_model.specs.Tree.{new_tree}

pub record IsStoreOpening (store : Store MetaEntry) : Type 0 where
  pub opening : store.opening ≡ opening_bytes store.config
  pub tree : HasTree store.config (opening_bytes store.config) (new_tree store.config)
