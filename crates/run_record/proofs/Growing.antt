-- What receipts owe lasts while the journal grows.
use Rattle.std.proofs.Common.{◌≡◌, ℕ, ◌<◌, ◌≤◌, ◌+◌, ◌⊎◌, inl, inr, List, [], ◌∷◌, ◌++◌, Some, None, true, false, length, length-append, sym, ap, subst, arith, suc, zero}
use Rattle.std.specs.Prelude.{MatchBool, MatchOption}
use Rattle.std.proofs.lemmas.List.{take-append-le}
use Rattle.std.proofs.lemmas.Option.{same_Some}
use Rattle.fs_base.specs.Config.{Settings}
use Rattle.fs_base.specs.declared.call.Request.{Request}
use Rattle.fs_base.specs.declared.code.Code.TheVariants as codes
use Rattle.fs_base.specs.declared.ids.ClientId.{ClientId}
use Rattle.fs_base.specs.declared.reply.Reply.{Reply}
use Rattle.fs_base.specs.declared.reply.Reply.TheVariants.{Refused}
use Rattle.key_schema.specs.declared.key.Key.{Key}
use Rattle.kv_store.specs.Journal.{after_all}
use Rattle.path_walk.specs.Footprint.{footprint}
use Rattle.row_tree.specs.Opening.{opening_bytes}
use Rattle.tree_model.specs.Calls.{apply}
use Rattle.tree_model.specs.Tree.{Tree}
use Rattle.txn_task.specs.declared.messages.Entry.{Entry}
use Rattle.txn_task.specs.declared.outcome.Outcome.{Outcome}
use Rattle.histories.proofs.Lists.{at_longer, at_within}
use Rattle.histories.proofs.Versions.{tree_at-longer}
use Rattle.run_record.specs.Legal.{EntryAt, journal_rows, writes_of}
use Rattle.run_record.specs.Outcomes.{IsOutcome, IsSeen, NamesEntry, Shows}
use Rattle.run_record.specs.Receipts.{front_of, outcome_of, AreConflicts, AreLater, AreReceipts, IsAnsweredReceipt, IsMadeBy, IsServedReceipt, MayMeetAll, StaysInside}
use Rattle.run_record.specs.Touched.{IsKeyTouched}
use Rattle.run_record.specs.declared.run.Listed.{Listed}

-- ---- entries

-- an entry of the longer journal is an old one, or one of those behind it
pub at_either : (es more : List Entry) (place : ℕ) (e : Entry) → EntryAt (es ++ more) place e → EntryAt es place e ⊎ ((behind : ℕ) × (place ≡ length es + behind) × EntryAt more behind e)
at_either [] more place e at = inr (place, omega arith, at)
at_either (x ∷ es) more zero e at = inl at
at_either (x ∷ es) more (suc place) e at = elim (at_either es more place e at) [
  | inl old ↦ inl old
  | inr is ↦ inr (is.0, (let p : place ≡ length es + is.0 = is.1 in omega arith), is.2)
]

-- one entry, and no other
pub at_only : (one : Entry) (place : ℕ) (e : Entry) → EntryAt (one ∷ []) place e → one ≡ e
at_only one zero e at = same_Some one e at
at_only one (suc place) e at = absurd (let f : None ≡ Some e = at in cc)

module _ (C : Settings) (es more : List Entry) where
  pub within_longer : (n : ℕ) → n ≤ length es → n ≤ length (es ++ more)
  within_longer n l = omega (arith, length-append es more)

  pub rows-longer : (n : ℕ) → n ≤ length es → journal_rows C (es ++ more) n ≡ journal_rows C es n
  rows-longer n l = ap (after_all writes_of (opening_bytes C)) (take-append-le n es more l)

  -- ---- outcomes

  AreLater-longer : (client : ClientId) (floor : ℕ) (pairs : List (ℕ × Key)) → AreLater es client floor pairs → AreLater (es ++ more) client floor pairs
  AreLater-longer client floor [] h = tt
  AreLater-longer client floor (pair ∷ pairs) h =
      search (at_longer es more h.0.place h.0.entry h.0.at, AreLater-longer client pair.0 pairs h.1)

  -- conflicts are of versions that the journal had
  MayMeetAll-longer : (request : Request) (client : ClientId) (floor : ℕ) (pairs : List (ℕ × Key)) → AreLater es client floor pairs → MayMeetAll C es request floor pairs → MayMeetAll C (es ++ more) request floor pairs
  MayMeetAll-longer request client floor [] later h = tt
  MayMeetAll-longer request client floor (pair ∷ pairs) later h =
      let within : later.0.place < length es = at_within es later.0.place later.0.entry later.0.at in
      let here : h.0.snapshot ≤ length es = omega (arith, later.0.version, h.0.before) in
      search (
        subst (λ (T : Tree). IsKeyTouched (footprint C T request) pair.1)
            (sym (tree_at-longer C es more h.0.snapshot here)) h.0.touched,
        MayMeetAll-longer request client pair.0 pairs later.1 h.1,
      )

  pub AreConflicts-longer : (request : Request) (floor : ℕ) (pairs : List (ℕ × Key)) → AreConflicts C es request floor pairs → AreConflicts C (es ++ more) request floor pairs
  AreConflicts-longer request floor pairs h = (AreLater-longer request.client floor pairs h.0, MayMeetAll-longer request request.client floor pairs h.0 h.1)

  NamesEntry-longer : (request : Request) (front : ℕ) (outcome : Outcome) → NamesEntry es request front outcome → NamesEntry (es ++ more) request front outcome
  NamesEntry-longer request front outcome h = search (at_longer es more h.place h.entry h.at)

  -- a full journal grows no more
  module _ (short : length (es ++ more) ≤ 200000) where
    Shows-longer : (request : Request) (front : ℕ) (outcome : Outcome) → outcome.version ≤ length es → (reply : Reply) → Shows C es request front outcome reply → Shows C (es ++ more) request front outcome reply
    Shows-longer request front outcome within (Refused codes.Conflict) h = h
    Shows-longer request front outcome within (Refused codes.StoreFull) h = record { from = h.from; full = (let l : length es ≡ 200000 = h.full in omega (arith, length-append es more)) }
    Shows-longer request front outcome within reply h =
        record {
          from = h.from;
          told = subst (λ (T : Tree). (settled : ℕ) → apply C T request settled ≡ (T, outcome.reply)) (sym (tree_at-longer C es more outcome.version within)) h.told;
        }

    pub IsOutcome-longer : (request : Request) (front : ℕ) (outcome : Outcome) → IsOutcome C es request front outcome → IsOutcome C (es ++ more) request front outcome
    IsOutcome-longer request front outcome h =
        (elim outcome.committed as (λ b. MatchBool b (NamesEntry es request front outcome) (IsSeen C es request front outcome) → MatchBool b (NamesEntry (es ++ more) request front outcome) (IsSeen C (es ++ more) request front outcome)) [
          | true ↦ λ n. NamesEntry-longer request front outcome n
          | false ↦ λ s. record { above = s.above; within = within_longer outcome.version s.within; shown = Shows-longer request front outcome s.within outcome.reply s.shown }
        ]) h

    -- the new entries have no receipt yet
    made_by : (client : ClientId) (listed : Listed) → IsServedReceipt C es client listed → IsMadeBy (es ++ more) listed.receipt
    made_by client listed h mark place e at version =
        let names : NamesEntry es h.request (front_of listed.fronts) (outcome_of listed.receipt) =
        subst (λ b. MatchBool b (NamesEntry es h.request (front_of listed.fronts) (outcome_of listed.receipt)) (IsSeen C es h.request (front_of listed.fronts) (outcome_of listed.receipt))) mark h.outcome in
        let within : names.place < length es = at_within es names.place names.entry names.at in
        let version_named : listed.receipt.version ≡ names.place + 1 = names.version in
        elim (at_either es more place e at) [
          | inl old ↦ h.made_by mark place e old version
          | inr is ↦ absurd (let later : place ≡ length es + is.0 = is.1 in omega arith)
        ]

    answered : (attempts : ℕ) (client : ClientId) (listed : Listed) → IsAnsweredReceipt C attempts es client listed → IsAnsweredReceipt C attempts (es ++ more) client listed
    answered attempts client listed h =
        let s : IsServedReceipt C es client listed = h.served in
        let inside : StaysInside C (es ++ more) client listed =
        λ request mine of.
        MayMeetAll-longer request client (front_of listed.fronts) listed.receipt.conflicts s.conflicts
        (h.inside request mine of) in
        search (
          h.met,
          inside,
          IsOutcome-longer s.request (front_of listed.fronts) (outcome_of listed.receipt) s.outcome,
          made_by client listed s,
          AreLater-longer client (front_of listed.fronts) listed.receipt.conflicts s.conflicts,
        )

    pub AreReceipts-longer : (attempts : ℕ) (client : ClientId) (receipts : List Listed) → AreReceipts C attempts es client receipts → AreReceipts C attempts (es ++ more) client receipts
    AreReceipts-longer attempts client [] h = tt
    AreReceipts-longer attempts client (listed ∷ rest) h = (
      record {
        fronts = h.0.fronts;
        text = h.0.text;
        by_server = (elim listed.receipt.server as (λ o. MatchOption o ⊥ (λ server. IsAnsweredReceipt C attempts es client listed) → MatchOption o ⊥ (λ server. IsAnsweredReceipt C attempts (es ++ more) client listed)) [
          | None ↦ λ none. none
          | Some server ↦ λ is. answered attempts client listed is
        ]) h.0.by_server;
      },
      AreReceipts-longer attempts client rest h.1,
    )
