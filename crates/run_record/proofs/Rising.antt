-- Conflicts rise.
use Rattle.std.proofs.Common.{◌≡◌, ℕ, ◌≤◌, ◌+◌, List, [], ◌∷◌, arith}
use Rattle.fs_base.specs.declared.ids.ClientId.{ClientId}
use Rattle.key_schema.specs.declared.key.Key.{Key}
use Rattle.txn_task.specs.declared.messages.Entry.{Entry}
use Rattle.run_record.specs.Outcomes.{last_version}
use Rattle.run_record.specs.Receipts.{AreLater}

pub last_version_above : (es : List Entry) (client : ClientId) (floor : ℕ) (pairs : List (ℕ × Key)) → AreLater es client floor pairs → floor ≤ last_version floor pairs
last_version_above es client floor [] h = omega arith
last_version_above es client floor (p ∷ pairs) h =
    let rest : p.0 ≤ last_version p.0 pairs = last_version_above es client p.0 pairs h.1 in
    let a : floor ≤ h.0.place = h.0.later in
    let c : p.0 ≡ h.0.place + 1 = h.0.version in
    omega arith
