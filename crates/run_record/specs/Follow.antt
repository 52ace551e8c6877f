-- Receipts beside a script whose operations send one request each.
use Rattle.std.specs.Prelude.{◌≡◌, ℕ, ◌+◌, List, [], ◌∷◌, Option}
use Rattle.client_core.specs.Single.{open_after, single_request}
use Rattle.client_core.specs.declared.descriptors.Descriptor.{Descriptor}
use Rattle.client_core.specs.declared.plan.Op.{Op}
use Rattle.client_core.specs.declared.plan.Script.{Script}
use Rattle.run_record.specs.Receipts.{outcome_of, IsOf}
use Rattle.run_record.specs.declared.run.Listed.{Listed}

-- one receipt an operation, in the script's order, from the operation with this ordinal on, while the client
-- has these descriptors; each receipt says what it keeps of them
abbrev pub Follow : ℕ → Script → List (Option Descriptor) → ℕ → List Op → List Listed → Type 0
Follow k script descriptors op [] [] = Unit {0}
Follow k script descriptors op (step ∷ steps) (listed ∷ rest) =
    (listed.client ≡ k) × (listed.receipt.op ≡ op)
    × IsOf (single_request script descriptors op step) listed.receipt
    × (listed.receipt.gone ≡ [])
    × Follow k script (open_after script descriptors op step (outcome_of listed.receipt)) (op + 1) steps rest
Follow k script descriptors op steps rest = ⊥
