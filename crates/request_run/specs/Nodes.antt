-- An ask of a storage node, with its answer.
use Rattle.std.specs.Prelude.{◌≡◌, ◌≤◌, ℕ, ◌+◌, List, [], ◌∷◌, ◌++◌, None, Some, true, false, length}
use Rattle.chunk_node.specs.Ends.{IsLastChunk}
use Rattle.chunk_node.specs.Limits.{after_removal, is_full, removal_of}
use Rattle.chunk_node.specs.declared.history.Done.{Done}
use Rattle.chunk_node.specs.declared.history.Done.TheVariants as done
use Rattle.chunk_node.specs.declared.node.NodeError.TheVariants as errors
use Rattle.fs_base.specs.declared.ids.ClientId.{ClientId}
use Rattle.fs_base.specs.declared.limits.TheConstants.{CHUNK_BYTES}
use Rattle.txn_task.specs.declared.messages.Answer.{Answer}
use Rattle.txn_task.specs.declared.messages.Answer.TheVariants as answers
use Rattle.txn_task.specs.declared.messages.Ask.{Ask}
use Rattle.txn_task.specs.declared.messages.Ask.TheVariants as asks

-- the ask is one of a node, its numbers in their ranges
abbrev pub MayAnswerAtNode : Ask → Type 0
MayAnswerAtNode (asks.Query node inode) = Unit {0}
MayAnswerAtNode (asks.SetEnd node inode keep rest holds) = (holds ≡ true → 1 ≤ keep) × (rest ≤ CHUNK_BYTES)
MayAnswerAtNode (asks.Remove node inode version) = Unit {0}
MayAnswerAtNode ask = ⊥

-- the answer is that of a node which had done the old history, to a request of this client and number
abbrev pub IsNodeAnswer : List Done → List Done → ClientId → ℕ → Ask → Answer → Type 0
IsNodeAnswer old new client number (asks.Query node inode) (answers.Ended asked) =
    (new ≡ old) × (asked.node ≡ node) × (asked.front ≡ length old) × IsLastChunk old inode asked.last
IsNodeAnswer old new client number (asks.SetEnd node inode keep rest holds) (answers.Did front) =
    (new ≡ old ++ done.SetEnd
    (record { inode = inode; keep = keep; rest = rest; holds = holds; client = client; number = number })
    ∷ []) × (front ≡ length new) × (removal_of old inode ≡ None) × (is_full old ≡ false)
IsNodeAnswer old new client number (asks.SetEnd node inode keep rest holds) (answers.NodeRefused (errors.Removed version)) = (new ≡ old) × (removal_of old inode ≡ Some version)
IsNodeAnswer old new client number (asks.SetEnd node inode keep rest holds) (answers.NodeRefused errors.Full) = (new ≡ old) × (removal_of old inode ≡ None) × (is_full old ≡ true)
IsNodeAnswer old new client number (asks.Remove node inode version) (answers.Did front) =
    (new ≡ after_removal old inode version) × (front ≡ length new)
IsNodeAnswer old new client number ask answer = ⊥
