-- What an operation puts, as one list: the writes of it, the rows that it makes, and what it owes.
use Rattle.std.specs.Prelude.{◌≡◌, ◌≢◌, Bool, true, false, List, [], ◌∷◌, Option}
use Rattle.std.specs.Option.{option_map}
use Rattle.conflict_sets.specs.declared.sets.ReadSet.{ReadSet}
use Rattle.conflict_sets.specs.declared.sets.Write.{Write}
use Rattle.fs_base.specs.Config.{Settings}
use Rattle.fs_base.specs.declared.reply.Reply.{Reply}
use Rattle.key_schema.specs.Keys.{spelled_key, IsValidKey}
use Rattle.key_schema.specs.declared.key.Key.{Key}
use Rattle.key_schema.specs.declared.key.Key.TheVariants as keys
use Rattle.row_tree.specs.Spelling.{IsValueOf}
use Rattle.row_tree.specs.TreeOf.{tree_of}
use Rattle.row_tree.specs.TypedRows.{TypedRows, value_at, write}
use Rattle.row_tree.specs.Values.{Value, spelled_value}
use Rattle.row_tree.specs.WellFormed.{IsWellFormed}
use Rattle.tree_model.specs.Effects.{Effect, Makes, at_length, settled_by}
use Rattle.tree_model.specs.Tree.{Tree}
use Rattle.txn_task.specs.Agreeing.{Agrees}
use Rattle.txn_task.specs.Writes.{set_write}

-- the last put stands first
abbrev pub put_writes : List (Key × Option Value) → List Write
put_writes [] = []
put_writes (put ∷ puts) = set_write (spelled_key put.0) (option_map spelled_value put.1) (put_writes puts)

abbrev pub with_puts : TypedRows → List (Key × Option Value) → TypedRows
with_puts S [] = S
with_puts S (put ∷ puts) = write (with_puts S puts) put.0 put.1

-- the key of a client's kept reply
abbrev pub holds_reply : Key → Bool
holds_reply (keys.Idem client) = true
holds_reply key = false

-- another value than stands at the key; a session's row may be put without a look at it
abbrev pub IsOther : TypedRows → Key → Option Value → Type 0
IsOther S (keys.Session inode client number) value = Unit {0}
IsOther S key value = value_at S key ≢ value

-- a valid key of no kept reply; in all well-formed rows that agree with the reads, a value that it may have
-- and hasn't yet
pub record IsPut (C : Settings) (reads : ReadSet) (key : Key) (value : Option Value) : Type 0 where
  pub valid : IsValidKey key
  pub no_kept : holds_reply key ≡ false
  pub changes : (S : TypedRows) → IsWellFormed C S → Agrees S reads → IsValueOf key value
      × IsOther S key value

abbrev pub ArePuts : Settings → ReadSet → List (Key × Option Value) → Type 0
ArePuts C reads [] = Unit {0}
ArePuts C reads (put ∷ puts) = IsPut C reads put.0 put.1 × ArePuts C reads puts

-- in all well-formed rows that agree with the reads, what is put makes well-formed rows, whose tree the
-- effect makes with the reply
abbrev pub MakesPuts : Settings → (Tree → Effect) → ReadSet → List (Key × Option Value) → Reply → Type 0
MakesPuts C effect reads puts reply =
    (S : TypedRows) → IsWellFormed C S → Agrees S reads → IsWellFormed C (with_puts S puts)
    × (at_length (settled_by reply) (effect (tree_of S)) ≡ Makes (tree_of (with_puts S puts)) reply)
