-- What a call comes to: it leaves the tree, or makes another.
use Rattle.std.specs.Prelude.{ℕ, Result, Ok, Err}
use Rattle.fs_base.specs.declared.code.Code.{Code}
use Rattle.fs_base.specs.declared.path.Path.{Path}
use Rattle.fs_base.specs.declared.reply.Reply.{Reply}
use Rattle.fs_base.specs.declared.reply.Reply.TheVariants.{Refused, Settled}
use Rattle.tree_model.specs.Tree.{Tree}

-- A call leaves the tree and replies, or makes a new tree with its reply; a settling makes one of each
-- length. So a reply that leaves the tree is right whatever length is settled.
pub data Effect : Type 0 where
  Leaves : (reply : Reply) → Effect
  Makes : (tree : Tree) → (reply : Reply) → Effect
  Settles : (tree : ℕ → Tree) → Effect

-- the same at a settled length, which is a settling's reply
abbrev pub at_length : ℕ → Effect → Effect
at_length settled (Leaves reply) = Leaves reply
at_length settled (Makes tree reply) = Makes tree reply
at_length settled (Settles tree) = Makes (tree settled) (Settled settled)

-- the length that a reply settles, 0 where it settles none
abbrev pub settled_by : Reply → ℕ
settled_by (Settled length) = length
settled_by reply = 0

abbrev pub refuses : Code → Effect
refuses code = Leaves (Refused code)

-- the words of a path come before anything that the tree says
abbrev pub on_path : Result Path Code → (Path → Effect) → Effect
on_path (Err code) effect = refuses code
on_path (Ok path) effect = effect path
