-- Receipts that no right record has.
use Rattle.std.proofs.Common.{◌≡◌, ℕ, ◌+◌, ◌<◌, ◌≤◌, ◌⊎◌, inl, inr, List, ◌∷◌, true, false, length, MatchBool, sym, ◌∙◌, refl, subst, arith}
use Rattle.fs_base.specs.Config.{Settings}
use Rattle.fs_base.specs.declared.call.Request.{Request}
use Rattle.fs_base.specs.declared.code.Code.TheVariants as codes
use Rattle.fs_base.specs.declared.ids.ClientId.{ClientId}
use Rattle.fs_base.specs.declared.reply.Reply.{Reply}
use Rattle.fs_base.specs.declared.reply.Reply.TheVariants.{Refused}
use Rattle.tree_model.specs.Calls.{is_query}
use Rattle.txn_task.specs.declared.messages.Entry.{Entry}
use Rattle.txn_task.specs.declared.outcome.Outcome.{Outcome}
use Rattle.run_record.specs.Outcomes.{last_version, seen_by, version_before, AreAttempts, IsSeen, IsSpentOutcome, MayTell, NamesEntry, Shows}
use Rattle.run_record.specs.Receipts.{front_of, outcome_of, IsAnsweredReceipt, IsServedReceipt, Rises}
use Rattle.run_record.specs.declared.run.Listed.{Listed}

-- a call that begins below a conflict of its client's call before
pub none_begins_below : (floor : ℕ) (before listed : Listed) (rest : List Listed) → Rises floor (before ∷ listed ∷ rest) → front_of listed.fronts < last_version 0 before.receipt.conflicts → ⊥
none_begins_below floor before listed rest h low =
    let from : seen_by (outcome_of before.receipt) ≤ front_of listed.fronts = h.2.0 in
    omega arith

shown_from : (C : Settings) (journal : List Entry) (request : Request) (front : ℕ) (outcome : Outcome) (reply : Reply) → (reply ≡ Refused codes.Conflict → ⊥) → Shows C journal request front outcome reply → last_version front outcome.conflicts ≤ outcome.version
shown_from C journal request front outcome (Refused codes.Conflict) other h = absurd (other refl)
shown_from C journal request front outcome (Refused codes.StoreFull) other h = h.from
shown_from C journal request front outcome reply other h = h.from

fewer : (attempts : ℕ) (reply : Reply) (met : ℕ) → (reply ≡ Refused codes.Conflict → ⊥) → AreAttempts attempts reply met → met < attempts
fewer attempts (Refused codes.Conflict) met other h = absurd (other refl)
fewer attempts reply met other h = h

module _ (C : Settings) (attempts : ℕ) (journal : List Entry) (client : ClientId) (listed : Listed) (whole : IsAnsweredReceipt C attempts journal client listed) where
  abbrev h : IsServedReceipt C journal client listed
  h = whole.served

  seen_is : listed.receipt.committed ≡ false → IsSeen C journal h.request (front_of listed.fronts) (outcome_of listed.receipt)
  seen_is e = subst (λ b. MatchBool b (NamesEntry journal h.request (front_of listed.fronts) (outcome_of listed.receipt)) (IsSeen C journal h.request (front_of listed.fronts) (outcome_of listed.receipt))) e h.outcome

  entry_is : listed.receipt.committed ≡ true → NamesEntry journal h.request (front_of listed.fronts) (outcome_of listed.receipt)
  entry_is e = subst (λ b. MatchBool b (NamesEntry journal h.request (front_of listed.fronts) (outcome_of listed.receipt)) (IsSeen C journal h.request (front_of listed.fronts) (outcome_of listed.receipt))) e h.outcome

  -- a reply that was seen below a conflict of its own call
  pub none_seen_below : listed.receipt.committed ≡ false → (listed.receipt.reply ≡ Refused codes.Conflict → ⊥) → listed.receipt.version < last_version (front_of listed.fronts) listed.receipt.conflicts → ⊥
  none_seen_below seen other low =
      let from : last_version (front_of listed.fronts) listed.receipt.conflicts ≤ listed.receipt.version = shown_from C journal h.request (front_of listed.fronts) (outcome_of listed.receipt) listed.receipt.reply other (seen_is seen).shown in
      omega arith

  -- an entry that came before one
  pub none_made_below : listed.receipt.committed ≡ true → listed.receipt.version ≤ last_version (front_of listed.fronts) listed.receipt.conflicts → ⊥
  none_made_below made low =
      let names : NamesEntry journal h.request (front_of listed.fronts) (outcome_of listed.receipt) = entry_is made in
      let version : listed.receipt.version ≡ names.place + 1 = names.version in
      let above : last_version (front_of listed.fronts) listed.receipt.conflicts ≤ names.place = names.above in
      omega arith

  -- a query that is told of conflicts, or of a full journal
  pub no_query_conflicts : is_query h.request.call ≡ true → listed.receipt.reply ≡ Refused codes.Conflict → ⊥
  no_query_conflicts query is = let update : is_query h.request.call ≡ false = subst (MayTell h.request.call) is h.may in let f : true ≡ false = sym query ∙ update in absurd (cc)

  pub no_query_is_full : is_query h.request.call ≡ true → listed.receipt.reply ≡ Refused codes.StoreFull → ⊥
  no_query_is_full query is = let update : is_query h.request.call ≡ false = subst (MayTell h.request.call) is h.may in let f : true ≡ false = sym query ∙ update in absurd (cc)

  -- a reply behind as many conflicts as attempts
  pub none_behind_all : (listed.receipt.reply ≡ Refused codes.Conflict → ⊥) → attempts ≤ length listed.receipt.conflicts → ⊥
  none_behind_all other all = let met : length listed.receipt.conflicts < attempts = fewer attempts listed.receipt.reply (length listed.receipt.conflicts) other whole.met in omega arith

  -- a reply Conflict of a version that its last attempt can't have begun at
  pub none_spent_elsewhere : listed.receipt.committed ≡ false → listed.receipt.reply ≡ Refused codes.Conflict
      → (listed.receipt.version < version_before (front_of listed.fronts) listed.receipt.conflicts) ⊎ (last_version (front_of listed.fronts) listed.receipt.conflicts ≤ listed.receipt.version) → ⊥
  none_spent_elsewhere seen is elsewhere =
      let spent : IsSpentOutcome (front_of listed.fronts) (outcome_of listed.receipt) = subst (λ (reply : Reply). Shows C journal h.request (front_of listed.fronts) (outcome_of listed.receipt) reply) is (seen_is seen).shown in
      let from : version_before (front_of listed.fronts) listed.receipt.conflicts ≤ listed.receipt.version = spent.from in
      let before : listed.receipt.version < last_version (front_of listed.fronts) listed.receipt.conflicts = spent.before in
      elim elsewhere [ inl low ↦ omega arith | inr high ↦ omega arith ]
