-- A name in a directory, and what is read behind it: what was read of them, and which ask is the next.
use Rattle.std.proofs.Common.{◌≡◌, ℕ, List, [], ◌∷◌, refl, sym, ap, subst, ◌∙◌}
use Rattle.std.specs.Prelude.{Option, Some, None}
use Rattle.std.specs.FinMap.{get}
use Rattle.std.specs.Option.{option_map}
use Rattle.conflict_sets.specs.declared.sets.ReadSet.{ReadSet}
use Rattle.fs_base.specs.Config.{Settings}
use Rattle.fs_base.specs.declared.kind.Kind.TheVariants as kinds
use Rattle.fs_base.specs.declared.reply.Reply.{Reply}
use Rattle.inode_record.specs.declared.inode.InodePart.{InodePart}
use Rattle.inode_record.specs.declared.inode.InodePart.TheVariants as parts
use Rattle.key_schema.specs.declared.key.Key.{Key}
use Rattle.key_schema.specs.declared.key.Key.TheVariants as keys
use Rattle.row_records.specs.declared.rows.DentRow.{DentRow}
use Rattle.row_tree.specs.TreeOf.{tree_of, node_part}
use Rattle.row_tree.specs.TypedRows.{TypedRows, kind_of}
use Rattle.row_tree.specs.WellFormed.{IsWellFormed, HasKind}
use Rattle.row_tree.proofs.Telling.{entry_is, node_is}
use Rattle.tree_model.specs.declared.node.Node.{Node}
use Rattle.tree_model.specs.declared.walk.Walked.TheVariants.{AtParent}
use Rattle.tree_model.specs.Effects.{Effect}
use Rattle.tree_model.specs.Tree.{Tree}
use Rattle.txn_task.specs.Agreeing.{Agrees}
use Rattle.txn_task.specs.Transactions.{Transaction}
use Rattle.txn_task.specs.Wanted.{IsKeyRead, IsUnread}
use Rattle.txn_task.specs.declared.messages.Ask.TheVariants as asks
use Rattle.txn_task.specs.declared.messages.OpStep.TheVariants as steps
use Rattle.path_walk.specs.Areas.{Area, OneKey, AreRead}
use Rattle.path_walk.specs.Directories.{IsDirRead, IsNameRead}
use Rattle.path_walk.specs.Footprint.{free_name_at, in_dir, in_named, in_part, if_free, if_taken}
use Rattle.path_walk.specs.Owed.{HasDone, HasRead, IsJustified, KeepsAreas}
use Rattle.path_walk.proofs.AreaLaws.{no_areas}
use Rattle.path_walk.proofs.StepLaws.{tells, asks_key, areas_on, read_behind}

-- in a directory more is read
pub in_directory : (part : InodePart) (areas : List Area) → kind_of part ≡ kinds.Dir → in_part (node_part part) areas ≡ areas
in_directory (parts.Dir parent chunk stripe) areas k = refl
in_directory (parts.File length truncs layout hint) areas k = cc
in_directory (parts.Link target) areas k = cc

-- ---- a name in a directory

module _ (C : Settings) (more : Tree → Option ℕ → List Area) (effect : Tree → Effect) (dir : ℕ) (name : List ℕ) where
  abbrev named : Tree → List Area
  named T = in_named T dir name (more T)

  -- what is read behind the directory's row
  abbrev then_name : Tree → List Area
  then_name T = OneKey (keys.Dent dir name) ∷ more T (get T.entries (dir, name))

  module _ (t : Transaction) (none : t.writes ≡ []) where
    pub asks_its_dir : (key : Key) → (key ≡ keys.Inode dir) × IsUnread t.reads (keys.Inode dir) → HasDone C (λ T. in_named T dir name (more T)) effect t t (steps.Ask (asks.Get key))
    asks_its_dir key unread = asks_key C named effect t none key (keys.Inode dir) (λ T. in_dir (get T.nodes dir) (then_name T)) unread (λ S good agrees. ([], tt, refl))

    -- where no directory is
    pub without_dir : IsKeyRead t.reads (keys.Inode dir) → ((S : TypedRows) → IsWellFormed C S → Agrees S t.reads → HasKind S dir kinds.Dir → ⊥) → (reply : Reply) → IsJustified C effect t.reads reply
        → HasDone C (λ T. in_named T dir name (more T)) effect t t (steps.Reply reply)
    without_dir read not_dir reply told =
        tells C named effect t none reply
        (λ S good agrees. subst (AreRead t.reads) (sym (ap (λ (l : List Area). OneKey (keys.Inode dir) ∷ l) (no_areas S dir (then_name (tree_of S)) (not_dir S good agrees)))) (read, tt))
        told

  module _ (reads : ReadSet) (has : IsDirRead reads dir) where
    behind_its_dir : KeepsAreas C named then_name reads
    behind_its_dir S good agrees = (
      OneKey (keys.Inode dir) ∷ [],
      (has.seen, tt),
      ap (λ (n : Option Node). OneKey (keys.Inode dir) ∷ in_dir n (then_name (tree_of S))) (node_is S dir (Some has.row) (has.there S agrees))
          ∙ ap (λ (l : List Area). OneKey (keys.Inode dir) ∷ l) (in_directory has.row.part (then_name (tree_of S)) has.is_dir),
    )

    pub behind_its_name : (taken : Option DentRow) → IsNameRead reads dir name taken → KeepsAreas C (λ T. in_named T dir name (more T)) (λ T. more T (option_map (λ (e : DentRow). e.inode) taken)) reads
    behind_its_name taken read =
        areas_on C named then_name (λ T. more T (option_map (λ (e : DentRow). e.inode) taken)) reads behind_its_dir
        (λ S good agrees. (OneKey (keys.Dent dir name) ∷ [], (read.seen, tt), ap (λ (o : Option ℕ). OneKey (keys.Dent dir name) ∷ more (tree_of S) o) (entry_is S dir name taken (read.there S agrees))))

  pub asks_its_name : (t : Transaction) → t.writes ≡ [] → IsDirRead t.reads dir → (key : Key) → (key ≡ keys.Dent dir name) × IsUnread t.reads (keys.Dent dir name)
      → HasDone C (λ T. in_named T dir name (more T)) effect t t (steps.Ask (asks.Get key))
  asks_its_name t none has key unread = asks_key C named effect t none key (keys.Dent dir name) (λ T. more T (get T.entries (dir, name))) unread (behind_its_dir t.reads has)

-- ---- a name that is to be free

module _ (C : Settings) (last : Key) (effect : Tree → Effect) (dir : ℕ) (name : List ℕ) where
  abbrev areas : Tree → List Area
  areas T = free_name_at last T (AtParent dir name)

  -- one key more
  abbrev then_last : Tree → Option ℕ → List Area
  then_last T taken = if_free taken (OneKey last ∷ [])

  module _ (t : Transaction) (none : t.writes ≡ []) where
    pub asks_dir : (key : Key) → (key ≡ keys.Inode dir) × IsUnread t.reads (keys.Inode dir) → HasDone C (λ T. free_name_at last T (AtParent dir name)) effect t t (steps.Ask (asks.Get key))
    asks_dir key unread = asks_its_dir C then_last effect dir name t none key unread

    pub nowhere : IsKeyRead t.reads (keys.Inode dir) → ((S : TypedRows) → IsWellFormed C S → Agrees S t.reads → HasKind S dir kinds.Dir → ⊥) → (reply : Reply) → IsJustified C effect t.reads reply
        → HasDone C (λ T. free_name_at last T (AtParent dir name)) effect t t (steps.Reply reply)
    nowhere read not_dir reply told = without_dir C then_last effect dir name t none read not_dir reply told

  -- ---- in a directory

  module _ (reads : ReadSet) (has : IsDirRead reads dir) where
    behind_free : IsKeyRead reads (keys.Dent dir name) → ((S : TypedRows) → Agrees S reads → get S.dents (dir, name) ≡ None) → KeepsAreas C areas (λ T. OneKey last ∷ []) reads
    behind_free read free = behind_its_name C then_last effect dir name reads has None (record { seen = read; there = free })

    pub all_read : IsKeyRead reads (keys.Dent dir name) → ((S : TypedRows) → Agrees S reads → get S.dents (dir, name) ≡ None) → IsKeyRead reads last → HasRead C (λ T. free_name_at last T (AtParent dir name)) reads
    all_read read free seen = read_behind C areas (λ T. OneKey last ∷ []) reads (behind_free read free) (λ S good agrees. (seen, tt))

  module _ (t : Transaction) (none : t.writes ≡ []) (has : IsDirRead t.reads dir) where
    pub asks_name : (key : Key) → (key ≡ keys.Dent dir name) × IsUnread t.reads (keys.Dent dir name) → HasDone C (λ T. free_name_at last T (AtParent dir name)) effect t t (steps.Ask (asks.Get key))
    asks_name key unread = asks_its_name C then_last effect dir name t none has key unread

    -- where an entry stands
    pub taken : (e : DentRow) → IsKeyRead t.reads (keys.Dent dir name) → ((S : TypedRows) → Agrees S t.reads → get S.dents (dir, name) ≡ Some e) → (reply : Reply) → IsJustified C effect t.reads reply
        → HasDone C (λ T. free_name_at last T (AtParent dir name)) effect t t (steps.Reply reply)
    taken e read is reply told =
        tells C areas effect t none reply
        (read_behind C areas (λ T. []) t.reads (behind_its_name C then_last effect dir name t.reads has (Some e) (record { seen = read; there = is })) (λ S good agrees. tt))
        told

    pub asks_last : (key : Key) → IsKeyRead t.reads (keys.Dent dir name) → ((S : TypedRows) → Agrees S t.reads → get S.dents (dir, name) ≡ None) → (key ≡ last) × IsUnread t.reads last
        → HasDone C (λ T. free_name_at last T (AtParent dir name)) effect t t (steps.Ask (asks.Get key))
    asks_last key read free unread = asks_key C areas effect t none key last (λ T. []) unread (behind_free t.reads has read free)

-- ---- an entry that is to be there, and what is read of what it leads to

module _ (C : Settings) (effect : Tree → Effect) (dir : ℕ) (name : List ℕ) (more : Tree → ℕ → List Area) where
  abbrev of_entry : Tree → List Area
  of_entry T = OneKey (keys.Dent dir name) ∷ if_taken (get T.entries (dir, name)) (more T)

  abbrev of_target : Tree → List Area
  of_target T = if_taken (get T.entries (dir, name)) (more T)

  module _ (t : Transaction) (none : t.writes ≡ []) where
    pub asks_entry : (key : Key) → (key ≡ keys.Dent dir name) × IsUnread t.reads (keys.Dent dir name) → HasDone C (λ T. OneKey (keys.Dent dir name) ∷ if_taken (get T.entries (dir, name)) (more T)) effect t t (steps.Ask (asks.Get key))
    asks_entry key unread = asks_key C of_entry effect t none key (keys.Dent dir name) of_target unread (λ S good agrees. ([], tt, refl))

    pub no_entry : IsKeyRead t.reads (keys.Dent dir name) → ((S : TypedRows) → Agrees S t.reads → get S.dents (dir, name) ≡ None) → (reply : Reply) → IsJustified C effect t.reads reply
        → HasDone C (λ T. OneKey (keys.Dent dir name) ∷ if_taken (get T.entries (dir, name)) (more T)) effect t t (steps.Reply reply)
    no_entry read free reply told =
        tells C of_entry effect t none reply
        (λ S good agrees. subst (AreRead t.reads) (sym (ap (λ (o : Option ℕ). OneKey (keys.Dent dir name) ∷ if_taken o (more (tree_of S))) (entry_is S dir name None (free S agrees)))) (read, tt))
        told

  pub behind_entry : (reads : ReadSet) (e : DentRow) → IsKeyRead reads (keys.Dent dir name) → ((S : TypedRows) → Agrees S reads → get S.dents (dir, name) ≡ Some e)
      → KeepsAreas C (λ T. OneKey (keys.Dent dir name) ∷ if_taken (get T.entries (dir, name)) (more T)) (λ T. more T e.inode) reads
  behind_entry reads e read is S good agrees = (
    OneKey (keys.Dent dir name) ∷ [],
    (read, tt),
    ap (λ (o : Option ℕ). OneKey (keys.Dent dir name) ∷ if_taken o (more (tree_of S))) (entry_is S dir name (Some e) (is S agrees)),
  )
