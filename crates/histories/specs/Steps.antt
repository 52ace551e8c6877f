-- What a call may do to inodes: what of the tree lasts from version to version.
use Rattle.std.specs.Prelude.{◌≡◌, ◌≢◌, ◌⊎◌, ℕ, ◌<◌, ◌≤◌, Option, Some, None}
use Rattle.std.specs.FinMap.{get}
use Rattle.fs_base.specs.Config.{Settings}
use Rattle.fs_base.specs.declared.call.Call.TheVariants as calls
use Rattle.fs_base.specs.declared.call.Request.{Request}
use Rattle.fs_base.specs.declared.layout.Layout.{Layout}
use Rattle.fs_base.specs.declared.reply.Reply.{Reply}
use Rattle.fs_base.specs.declared.reply.Reply.TheVariants.{Done}
use Rattle.fs_base.specs.declared.limits.TheConstants.{SERVERS}
use Rattle.tree_model.specs.declared.kept.Doom.TheVariants.{Waiting, Purged}
use Rattle.tree_model.specs.declared.node.Node.{Node}
use Rattle.tree_model.specs.declared.node.NodePart.{NodePart}
use Rattle.tree_model.specs.declared.node.NodePart.TheVariants.{Dir, File, Link}
use Rattle.tree_model.specs.Calls.{effect}
use Rattle.tree_model.specs.Creating.{id_of}
use Rattle.tree_model.specs.Effects.{Leaves, Makes, at_length, settled_by}
use Rattle.tree_model.specs.Tree.{Tree, next_at}
use Rattle.histories.specs.Files.{file_at}

-- a node stays of its kind, a file keeps its layout, and its hint doesn't fall
abbrev pub PartLasts : NodePart → NodePart → Type 0
PartLasts (Dir old) (Dir new) = Unit {0}
PartLasts (File length truncs layout hint) (File long cuts laid hinted) = (laid ≡ layout) × (hint ≤ hinted)
PartLasts (Link old) (Link new) = Unit {0}
PartLasts old new = ⊥

-- an id's node lasts or goes; none comes
abbrev pub NodeLasts : Option Node → Option Node → Type 0
NodeLasts old None = Unit {0}
NodeLasts None (Some new) = ⊥
NodeLasts (Some old) (Some new) = PartLasts old.part new.part

-- a server's next number was given out for the id
pub record IsGivenOut (T V : Tree) (id : ℕ) : Type 0 where
  pub server : ℕ
  pub known : server < SERVERS
  pub is : id ≡ id_of (next_at T.next server) server
  pub rises : next_at T.next server < next_at V.next server

-- a tree and the next
pub record IsTreeStep (T V : Tree) : Type 0 where
  pub next : (server : ℕ) → next_at T.next server ≤ next_at V.next server
  pub nodes : (id : ℕ) → NodeLasts (get T.nodes id) (get V.nodes id) ⊎ IsGivenOut T V id
  -- a purge takes the node, and remembers how its chunks lay
  pub purged : (id : ℕ) (layout : Layout) (hint : ℕ) → get V.doomed id ≡ Some (Purged layout hint)
      → (get T.doomed id ≡ Some (Purged layout hint))
      ⊎ ((file_at T id ≡ Some (record { layout = layout; hint = hint })) × (get V.nodes id ≡ None))

-- a purge that is done: the file was waiting, nobody wrote it, and its node goes
pub record IsPurging (T V : Tree) (id : ℕ) : Type 0 where
  pub waiting : get T.doomed id ≡ Some Waiting
  pub idle : (client number : ℕ) → get T.writers (id, (client, number)) ≡ None
  pub node : Node
  pub was : get T.nodes id ≡ Some node
  pub gone : get V.nodes id ≡ None

-- what each call that makes a tree owes; its reply is kept only afterwards
pub record IsChange (q : Request) (reply : Reply) (T V : Tree) : Type 0 where
  pub step : IsTreeStep T V
  pub kept : V.kept ≡ T.kept
  -- nothing but a purge of the file leaves it purged
  pub purges : (id : ℕ) (layout : Layout) (hint : ℕ) → get V.doomed id ≡ Some (Purged layout hint)
      → (get T.doomed id ≡ Some (Purged layout hint)) ⊎ (q.call ≡ calls.Purge id)
  pub purge : (id : ℕ) → q.call ≡ calls.Purge id → IsPurging T V id
  pub done : (id : ℕ) → q.call ≡ calls.Purge id → reply ≡ Done

-- all calls owe it; a settling does at each length
abbrev pub IsLawfulEffect : Settings → Type 0
IsLawfulEffect C =
    (T V : Tree) (q : Request) (reply : Reply) → q.server < C.servers
    → at_length (settled_by reply) (effect C T q) ≡ Makes V reply → IsChange q reply T V

-- a purge that leaves the tree isn't answered Done
abbrev pub PurgesMake : Settings → Type 0
PurgesMake C = (T : Tree) (q : Request) (id : ℕ) → q.call ≡ calls.Purge id → effect C T q ≢ Leaves Done
