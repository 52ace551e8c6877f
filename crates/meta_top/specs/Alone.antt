-- What a client that is alone is told: the plain tree's replies, one call after another.
use Rattle.std.specs.Prelude.{ℕ, ◌+◌, List, [], ◌∷◌, Bool, true, false, not, if◌then◌else◌, Option, Some}
use Rattle.fs_base.specs.Config.{Settings}
use Rattle.fs_base.specs.declared.call.Call.{Call}
use Rattle.fs_base.specs.declared.reply.Reply.{Reply}
use Rattle.fs_base.specs.declared.reply.Reply.TheVariants as replies
use Rattle.tree_model.specs.Calls.{apply, is_query}
use Rattle.tree_model.specs.Tree.{Tree, new_tree}
use Rattle.txn_task.specs.declared.outcome.Receipt.{Receipt}
use Rattle.client_core.specs.Descriptors.{none_open}
use Rattle.client_core.specs.Ops.{stamp_of}
use Rattle.client_core.specs.Single.{open_after, single_request}
use Rattle.client_core.specs.declared.descriptors.Descriptor.{Descriptor}
use Rattle.client_core.specs.declared.plan.Op.{Op}
use Rattle.client_core.specs.declared.plan.Script.{Script}
use Rattle.run_record.specs.ReplyText.{text_of}
use Rattle.run_record.specs.Receipts.{fronts_of, outcome_of}
use Rattle.run_record.specs.declared.run.Listed.{Listed}

abbrev pub is_refusal : Reply → Bool
is_refusal (replies.Refused code) = true
is_refusal _ = false

-- an update that isn't refused is committed
abbrev pub commits : Call → Reply → Bool
commits call reply = if is_refusal reply then false else not (is_query call)

-- a commit makes the next version
abbrev pub version_after_reply : ℕ → Call → Reply → ℕ
version_after_reply version call reply = if commits call reply then version + 1 else version

-- of an operation that had this reply over the tree at this version: no conflict, and no server that stopped
abbrev pub receipt_alone : Script → List (Option Descriptor) → ℕ → ℕ → Op → Reply → Receipt
receipt_alone script descriptors op version step reply =
    let call = (single_request script descriptors op step).call in
    record {
      op = op;
      number = Some (op + 1);
      server = Some script.home;
      stamp = stamp_of step;
      call = call;
      reply = reply;
      committed = commits call reply;
      version = version_after_reply version call reply;
      conflicts = [];
      gone = [];
    }

-- what the one client, 0, keeps; it has seen all versions so far
abbrev pub listed_alone : Settings → ℕ → Receipt → Listed
listed_alone C version receipt =
    record {
      client = 0;
      fronts = fronts_of C version;
      receipt = receipt;
      text = text_of receipt.call
          receipt.reply;
    }

-- the receipts of the operations from op on, over the tree at this version and with these descriptors; none
-- of them settles a length
unfoldable pub receipts_from : Settings → Script → Tree → List (Option Descriptor) → ℕ → ℕ → List Op
    → List Listed
receipts_from C script T descriptors op version [] = []
receipts_from C script T descriptors op version (step ∷ steps) =
    let answered = apply C T (single_request script descriptors op step) 0 in
    let receipt = receipt_alone script descriptors op version step answered.1 in
    listed_alone C version receipt
    ∷ receipts_from C script answered.0 (open_after script descriptors op step (outcome_of receipt)) (op + 1)
    receipt.version steps

abbrev pub receipts_of : Settings → Script → List Listed
receipts_of C script = receipts_from C script (new_tree C) none_open 0 0 script.ops
