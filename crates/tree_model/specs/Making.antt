-- An update that is planned, and then done.
use Rattle.std.specs.Prelude.{◌≡◌, ◌≢◌, ℕ, ◌+◌, ◌<◌, ◌==◌, nat_lt, Bool, true, false, if◌then◌else◌, List, Option, Some, None, IsSome}
use Rattle.std.specs.Option.{option_map}
use Rattle.std.specs.Ordering.{nat_cmp}
use Rattle.std.specs.FinMap.{FinMap, get, insert, remove}
use Rattle.fs_base.specs.declared.call.Changes.{Changes}
use Rattle.fs_base.specs.declared.code.Code.TheVariants.{Stale}
use Rattle.fs_base.specs.declared.reply.Reply.{Reply}
use Rattle.fs_base.specs.declared.reply.Reply.TheVariants.{Done, Made, Refused}
use Rattle.fs_base.specs.declared.reply.Reply.TheVariants as replies
use Rattle.fs_base.specs.declared.limits.TheConstants.{LAST_NUMBER}
use Rattle.tree_model.specs.declared.kept.Doom.TheVariants.{Waiting}
use Rattle.tree_model.specs.declared.kept.KeptReply.{KeptReply}
use Rattle.tree_model.specs.declared.node.Node.{Node}
use Rattle.tree_model.specs.declared.node.NodePart.{NodePart}
use Rattle.tree_model.specs.declared.node.NodePart.TheVariants.{Dir, File, Link}
use Rattle.tree_model.specs.declared.plan.Child.{Child}
use Rattle.tree_model.specs.declared.plan.Fate.{Fate}
use Rattle.tree_model.specs.declared.plan.Fate.TheVariants.{Stays, Waits, Goes}
use Rattle.tree_model.specs.declared.plan.Plan.{Plan}
use Rattle.tree_model.specs.declared.plan.Shift.{Shift}
use Rattle.tree_model.specs.declared.plan.Plan.TheVariants.{Refuse, Add, Change, Join, Detach, Keep, Move, Replace, Open, Extend}
use Rattle.tree_model.specs.Attributes.{changed, touched}
use Rattle.tree_model.specs.Effects.{Effect, Makes, refuses}
use Rattle.tree_model.specs.Maps.{set}
use Rattle.tree_model.specs.Moving.{moved}
use Rattle.tree_model.specs.Sessions.{hinted}
use Rattle.tree_model.specs.Tree.{Tree}

-- the tree with the child
abbrev pub added : Tree → ℕ → Child → Tree
added T server child =
    record T {
      nodes = insert T.nodes child.id child.node;
      entries = insert T.entries child.key child.id;
      next = insert T.next server (child.number + 1);
    }

-- the tree with the node of an id changed, where there is one
abbrev pub altered : Tree → ℕ → Changes → ℕ → Tree
altered T id changes stamp =
    record T { nodes = set T.nodes id (option_map (changed changes stamp) (get T.nodes id)) }

-- the nodes with the stamp as the change time of an id's, where there is one
abbrev pub touched_at : Tree → ℕ → ℕ → FinMap nat_cmp Node
touched_at T stamp id = set T.nodes id (option_map (touched stamp) (get T.nodes id))

-- the tree with a further entry of the node of an id
abbrev pub linked : Tree → ℕ → ℕ × List ℕ → ℕ → Tree
linked T stamp key id = record T { nodes = touched_at T stamp id; entries = insert T.entries key id }

-- what becomes of a node that loses an entry, by whether it is its last
abbrev pub fate_of : Bool → NodePart → Fate
fate_of false part = Stays
fate_of true (Dir layout) = Goes
fate_of true (File length truncs layout hint) = Waits
fate_of true (Link target) = Goes

-- the tree where this has become of the node
abbrev pub fared : Tree → ℕ → ℕ → Fate → Tree
fared T stamp id Stays = record T { nodes = touched_at T stamp id }
fared T stamp id Waits = record T { nodes = touched_at T stamp id; doomed = insert T.doomed id Waiting }
fared T stamp id Goes = record T { nodes = remove T.nodes id }

abbrev pub detached : Tree → ℕ → ℕ × List ℕ → ℕ → Fate → Tree
detached T stamp key id fate = fared (record T { entries = remove T.entries key }) stamp id fate

-- the entry at its new place, where an entry stood that its node has lost
abbrev pub replaced : Tree → ℕ → Shift → ℕ → Fate → Tree
replaced T stamp shift old fate = moved (detached T stamp shift.to old fate) shift.from shift.to shift.id

-- the tree with a session: its inode, client and number
abbrev pub opened : Tree → ℕ × (ℕ × ℕ) → Tree
opened T key = record T { writers = insert T.writers key tt }

-- the tree with another hint of the file of an id, where there is one
abbrev pub extended : Tree → ℕ → ℕ → Tree
extended T id hint = record T { nodes = set T.nodes id (option_map (hinted hint) (get T.nodes id)) }

-- the plan is what the call does
abbrev pub IsPlanOfEffect : Tree → ℕ → ℕ → Effect → Plan → Type 0
IsPlanOfEffect T server stamp effect (Refuse code) = effect ≡ refuses code
IsPlanOfEffect T server stamp effect (Add child) =
    (effect ≡ Makes (added T server child) (Made child.id)) × (child.number < LAST_NUMBER)
IsPlanOfEffect T server stamp effect (Change id changes) =
    IsSome (get T.nodes id) × (effect ≡ Makes (altered T id changes stamp) Done)
IsPlanOfEffect T server stamp effect (Join key id) =
    IsSome (get T.nodes id) × (effect ≡ Makes (linked T stamp key id) Done)
IsPlanOfEffect T server stamp effect (Detach key id fate) =
    IsSome (get T.nodes id) × (effect ≡ Makes (detached T stamp key id fate) Done)
IsPlanOfEffect T server stamp effect Keep = effect ≡ Makes T Done
IsPlanOfEffect T server stamp effect (Move shift) =
    (shift.from ≢ shift.to) × (effect ≡ Makes (moved T shift.from shift.to shift.id) Done)
IsPlanOfEffect T server stamp effect (Replace shift old fate) =
    (shift.from ≢ shift.to) × IsSome (get T.entries shift.to) × IsSome (get T.nodes old)
    × (effect ≡ Makes (replaced T stamp shift old fate) Done)
IsPlanOfEffect T server stamp effect (Open key file) = effect ≡ Makes (opened T key) (replies.File file)
IsPlanOfEffect T server stamp effect (Extend id hint) =
    IsSome (get T.nodes id) × (effect ≡ Makes (extended T id hint) (replies.Hint hint))

-- the reply to a number that came before, or is older than one that did
abbrev pub earlier_reply : ℕ → Option KeptReply → Option Reply
earlier_reply number None = None
earlier_reply number (Some kept) =
    if kept.number == number then Some kept.reply
    else (if nat_lt number kept.number then Some (Refused (Stale kept.number)) else None)
