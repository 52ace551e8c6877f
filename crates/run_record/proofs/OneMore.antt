-- Conflicts and receipts, with one more.
use Rattle.std.proofs.Common.{◌≡◌, ℕ, ◌≤◌, ◌+◌, inl, inr, List, [], ◌∷◌, ◌++◌, true, refl, arith}
use Rattle.fs_base.specs.Config.{Settings}
use Rattle.fs_base.specs.declared.call.Request.{Request}
use Rattle.fs_base.specs.declared.ids.ClientId.{ClientId}
use Rattle.key_schema.specs.declared.key.Key.{Key}
use Rattle.txn_task.specs.declared.messages.Entry.{Entry}
use Rattle.run_record.specs.Outcomes.{last_version, seen_by, version_before}
use Rattle.run_record.specs.Receipts.{AreConflicts, AreLater, AreReceipts, HasReceipt, IsConflict, IsReceipt, MayMeet, MayMeetAll, NamesLater, Rises}
use Rattle.run_record.specs.Receipts.{front_of, outcome_of, newest_seen}
use Rattle.run_record.specs.declared.run.Listed.{Listed}

-- ---- conflicts

pub AreConflicts-push : (C : Settings) (es : List Entry) (request : Request) (floor : ℕ) (pairs : List (ℕ × Key)) (p : ℕ × Key) → AreConflicts C es request floor pairs → IsConflict C es request (last_version floor pairs) p → AreConflicts C es request floor (pairs ++ p ∷ [])
AreConflicts-push C es request floor pairs p h n = (later floor pairs h.0 n.0, met floor pairs h.1 n.1)
  where
    later : (low : ℕ) (ps : List (ℕ × Key)) → AreLater es request.client low ps → NamesLater es request.client (last_version low ps) p → AreLater es request.client low (ps ++ p ∷ [])
    later low [] a b = (b, tt)
    later low (q ∷ ps) a b = (a.0, later q.0 ps a.1 b)

    met : (low : ℕ) (ps : List (ℕ × Key)) → MayMeetAll C es request low ps → MayMeet C es request (last_version low ps) p → MayMeetAll C es request low (ps ++ p ∷ [])
    met low [] a b = (b, tt)
    met low (q ∷ ps) a b = (a.0, met q.0 ps a.1 b)

pub last_version-push : (floor : ℕ) (pairs : List (ℕ × Key)) (p : ℕ × Key) → last_version floor (pairs ++ p ∷ []) ≡ p.0
last_version-push floor [] p = refl
last_version-push floor (q ∷ pairs) p = last_version-push q.0 pairs p

pub version_before-push : (floor : ℕ) (pairs : List (ℕ × Key)) (p : ℕ × Key) → version_before floor (pairs ++ p ∷ []) ≡ last_version floor pairs
version_before-push floor [] p = refl
version_before-push floor (q ∷ []) p = refl
version_before-push floor (q ∷ next ∷ pairs) p = version_before-push q.0 (next ∷ pairs) p

-- a lower floor counts only where there is no conflict
pub last_version_low : (floor : ℕ) (pairs : List (ℕ × Key)) → last_version 0 pairs ≤ last_version floor pairs
last_version_low floor [] = omega arith
last_version_low floor (q ∷ pairs) = omega arith

-- ---- receipts

pub AreReceipts-push : (C : Settings) (attempts : ℕ) (es : List Entry) (client : ClientId) (rs : List Listed) (r : Listed) → AreReceipts C attempts es client rs → IsReceipt C attempts es client r → AreReceipts C attempts es client (rs ++ r ∷ [])
AreReceipts-push C attempts es client [] r h n = (n, tt)
AreReceipts-push C attempts es client (x ∷ rs) r h n = (h.0, AreReceipts-push C attempts es client rs r h.1 n)

pub HasReceipt-push : (rs : List Listed) (r : Listed) (place : ℕ) → HasReceipt rs place → HasReceipt (rs ++ r ∷ []) place
HasReceipt-push [] r place h = absurd h
HasReceipt-push (x ∷ rs) r place h = elim h [ inl here ↦ inl here | inr later ↦ inr (HasReceipt-push rs r place later) ]

pub HasReceipt_new : (rs : List Listed) (r : Listed) (place : ℕ) → (r.receipt.committed ≡ true) × (r.receipt.version ≡ place + 1) → HasReceipt (rs ++ r ∷ []) place
HasReceipt_new [] r place is = inl is
HasReceipt_new (x ∷ rs) r place is = inr (HasReceipt_new rs r place is)

pub Rises-push : (floor : ℕ) (rs : List Listed) (r : Listed) → Rises floor rs → newest_seen floor rs ≤ front_of r.fronts → front_of r.fronts ≤ r.receipt.version → Rises floor (rs ++ r ∷ [])
Rises-push floor [] r h from up = (from, up, tt)
Rises-push floor (x ∷ rs) r h from up = (h.0, h.1, Rises-push (seen_by (outcome_of x.receipt)) rs r h.2 from up)

pub version_after-push : (floor : ℕ) (rs : List Listed) (r : Listed) → newest_seen floor (rs ++ r ∷ []) ≡ seen_by (outcome_of r.receipt)
version_after-push floor [] r = refl
version_after-push floor (x ∷ rs) r = version_after-push (seen_by (outcome_of x.receipt)) rs r
