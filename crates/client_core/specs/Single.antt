-- Clients whose operations send one request each, while no server stops: what their steps come to.
use Rattle.std.specs.Prelude.{ℕ, ◌+◌, List, [], Option}
use Rattle.fs_base.specs.declared.call.Request.{Request}
use Rattle.txn_task.specs.declared.outcome.Outcome.{Outcome}
use Rattle.txn_task.specs.declared.outcome.Receipt.{Receipt}
use Rattle.client_core.specs.Descriptors.{descriptors_after}
use Rattle.client_core.specs.Ops.{fd_of, receipt_of, request_of, session_for}
use Rattle.client_core.specs.declared.descriptors.Descriptor.{Descriptor}
use Rattle.client_core.specs.declared.plan.Op.{Op}
use Rattle.client_core.specs.declared.plan.Script.{Script}

-- the numbers count the operations, from 1, and each request goes home
abbrev pub single_request : Script → List (Option Descriptor) → ℕ → Op → Request
single_request script descriptors op step =
    request_of script.id script.home (op + 1) (session_for descriptors step) step

-- nothing took the request away
abbrev pub single_receipt : Script → List (Option Descriptor) → ℕ → Op → Outcome → Receipt
single_receipt script descriptors op step outcome =
    receipt_of op (single_request script descriptors op step) script.home [] outcome

-- what is open afterwards
abbrev pub open_after : Script → List (Option Descriptor) → ℕ → Op → Outcome → List (Option Descriptor)
open_after script descriptors op step outcome =
    descriptors_after descriptors (fd_of step) (single_request script descriptors op step) outcome
