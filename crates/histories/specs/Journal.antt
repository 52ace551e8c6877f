-- The journal as a history of the plain tree.
use Rattle.std.specs.Prelude.{◌≡◌, ℕ, List, [], ◌∷◌, Some, slice_get, take}
use Rattle.fs_base.specs.Config.{Settings}
use Rattle.fs_base.specs.declared.reply.Reply.{Reply}
use Rattle.tree_model.specs.Calls.{apply}
use Rattle.tree_model.specs.Effects.{settled_by}
use Rattle.tree_model.specs.Tree.{Tree, new_tree}
use Rattle.txn_task.specs.declared.messages.Entry.{Entry}

-- the entry of the version that is one more
abbrev pub EntryAt : List Entry → ℕ → Entry → Type 0
EntryAt journal place entry = slice_get journal place ≡ Some entry

-- the tree and the reply after an entry's call; a settling's length is that of the entry's reply
abbrev pub applied : Settings → Tree → Entry → Tree × Reply
applied C T entry = apply C T entry.request (settled_by entry.reply)

-- the tree after these entries' calls
abbrev pub tree_after : Settings → Tree → List Entry → Tree
tree_after C T [] = T
tree_after C T (entry ∷ entries) = tree_after C (applied C T entry).0 entries

abbrev pub tree_at : Settings → List Entry → ℕ → Tree
tree_at C journal n = tree_after C (new_tree C) (take n journal)

-- each reply is the tree's at its place
abbrev pub AreReplies : Settings → Tree → List Entry → Type 0
AreReplies C T [] = Unit {0}
AreReplies C T (entry ∷ entries) =
    ((applied C T entry).1 ≡ entry.reply) × AreReplies C (applied C T entry).0 entries

-- no client's number stands twice
abbrev pub IsOnce : List Entry → Type 0
IsOnce journal =
    (i j : ℕ) (a b : Entry) → EntryAt journal i a → EntryAt journal j b → a.request.client ≡ b.request.client
    → a.request.number ≡ b.request.number → i ≡ j

-- the journal is a history of the plain tree
pub record IsLegalJournal (C : Settings) (journal : List Entry) : Type 0 where
  pub replies : AreReplies C (new_tree C) journal
  pub once : IsOnce journal
