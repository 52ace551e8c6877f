-- A client keeps a receipt of what its request came to.
use Rattle.std.proofs.Common.{◌≡◌, ◌⊎◌, ℕ, ◌≤◌, ◌<◌, ◌+◌, inl, inr, List, [], ◌∷◌, ◌++◌, All, Some, true, length, map, sym, ◌∙◌, ap, refl, subst, arith}
use Rattle.std.specs.Prelude.{MatchBool, slice_get}
use Rattle.std.proofs.lemmas.Bool.{cases_lt}
use Rattle.std.proofs.lemmas.List.{map_push}
use Rattle.std.proofs.lemmas.List.Elements.{All-push}
use Rattle.std.proofs.lemmas.Option.{same_Some}
use Rattle.fs_base.specs.Config.{Settings}
use Rattle.fs_base.specs.declared.call.Request.{Request}
use Rattle.fs_base.specs.declared.ids.ClientId.{ClientId}
use Rattle.txn_task.specs.declared.messages.Entry.{Entry}
use Rattle.txn_task.specs.declared.outcome.Outcome.{Outcome}
use Rattle.txn_task.specs.declared.outcome.Receipt.{Receipt}
use Rattle.client_core.specs.Client.{ClientView, end_call, new_client}
use Rattle.client_core.specs.Courses.{AreNumbered, Course, IsFrom, after_course, after_courses, receipts_along, receipts_of_ask}
use Rattle.client_core.specs.Ops.{receipt_of}
use Rattle.client_core.specs.Plans.{IsScript}
use Rattle.client_core.specs.declared.messages.ClientAsk.{ClientAsk}
use Rattle.client_core.specs.declared.plan.Stop.{Stop}
use Rattle.client_core.proofs.Courses.{after_push, along_push, course_ends, numbered, rests_at, same_op}
use Rattle.run_record.specs.Legal.{EntryAt}
use Rattle.run_record.specs.Outcomes.{last_version, IsSeen, NamesEntry}
use Rattle.run_record.specs.Receipts.{fronts_of, AreLater, HasReceipt, HasStopped, IsMadeBy, IsOf, IsReceipt, MayMeetAll, WasSentTo}
use Rattle.run_record.specs.Stops.{IsPlannedStop}
use Rattle.run_record.specs.ReplyText.{text_of}
use Rattle.run_record.specs.declared.run.Listed.{Listed}
use Rattle.run_record.proofs.Named.{named_number}
use Rattle.run_record.proofs.OneMore.{AreReceipts-push, HasReceipt-push, HasReceipt_new, Rises-push, version_after-push}
use Rattle.run_record.proofs.Rising.{last_version_above}
use Rattle.run_record.proofs.Served.{one_request}
use Rattle.run_record.proofs.Stopping.{HasGoneReceipt-left, HasGoneReceipt_new}
use Rattle.request_run.specs.Served.{CameTo}
use Rattle.seat_turns.specs.Kept.{AreNamed, IsCall, IsNamed, IsPast}

-- ---- what a request came to

module _ (C : Settings) (attempts : ℕ) (stops : List Stop) (journal : List Entry) (k : ℕ) (client : ClientView)
    (receipts : List Listed) (front : ℕ) (request : Request) (outcome : Outcome) (is : client.request ≡ Some request)
    (own : request.client ≡ client.script.id) (server_is : request.server ≡ client.server)
    (call : IsCall stops journal client receipts front)
    (came : CameTo C attempts journal request front outcome) where
  abbrev pub receipt : Receipt
  receipt = receipt_of client.op request client.server client.gone outcome

  abbrev pub listed : Listed
  listed = record { client = k; fronts = fronts_of C front; receipt = receipt; text = text_of request.call outcome.reply }

  -- the client once it has learned so
  abbrev pub after : ClientView
  after = (end_call client client.server outcome (Some request)).0

  is_of : IsOf request receipt
  is_of = record { server = ap (λ (n : ℕ). Some n) (sym server_is); number = refl; stamp = refl; call = refl }

  names : outcome.committed ≡ true → NamesEntry journal request front outcome
  names mark =
      subst (λ b. MatchBool b (NamesEntry journal request front outcome) (IsSeen C journal request front outcome)) mark
      came.outcome_is

  was_sent : (e : Entry) → (e.request.server ≡ client.server) ⊎ HasStopped client.gone e.request.server
      → WasSentTo receipt e.request.server
  was_sent e (inl here) = inl (ap (λ (n : ℕ). Some n) (sym here))
  was_sent e (inr gone) = inr gone

  -- the entry that it names was made where the request was sent
  made_by : IsMadeBy journal receipt
  made_by mark place e at version =
      let n : NamesEntry journal request front outcome = names mark in
      let a : outcome.version ≡ n.place + 1 = n.version in
      let b : outcome.version ≡ place + 1 = version in
      let same : n.place ≡ place = omega arith in
      let one : n.entry ≡ e = same_Some n.entry e (sym n.at ∙ (ap (slice_get journal) same ∙ at)) in
      let up : front ≤ last_version front outcome.conflicts
      = last_version_above journal request.client front outcome.conflicts came.conflicts.0 in
      let behind : last_version front outcome.conflicts ≤ n.place = n.above in
      let mine : e.request.client ≡ client.script.id
      = ap (λ (x : Entry). x.request.client) (sym one) ∙ (n.client ∙ own) in
      was_sent e (call.unheard place e at mine (omega arith)).sent

  receipt_is : IsReceipt C attempts journal client.script.id listed
  receipt_is = record {
    fronts = refl;
    text = refl;
    by_server = record {
      served = record {
        request = request;
        client_is = own;
        is_of = is_of;
        outcome = came.outcome_is;
        made_by = made_by;
        may = came.may;
        conflicts = subst (λ (id : ClientId). AreLater journal id front outcome.conflicts) own came.conflicts.0;
      };
      met = came.met;
      inside = λ other mine of.
          subst (λ (q : Request). MayMeetAll C journal q front outcome.conflicts)
          (sym (one_request other request receipt (mine ∙ sym own) of is_of))
          came.conflicts.1;
    };
  }

  -- its receipt joins those before it
  pub past_more : IsPast C attempts stops journal k client receipts → All (IsPlannedStop stops journal) client.gone
      → IsPast C attempts stops journal k after (receipts ++ listed ∷ [])
  past_more past planned =
      let new : ClientView = new_client C client.script in
      let rest : ClientView = after_courses new past.courses in
      let going : IsFrom rest client (Some request) = subst (IsFrom rest client) is past.from in
      let one : Course = record { stops = going.0; outcome = outcome } in
      let ends : after_course rest one ≡ end_call client client.server outcome (Some request)
      = course_ends rest client request going.0 outcome going.1 ∙ ap (end_call client client.server outcome) is in
      record {
        courses = past.courses ++ one ∷ [];
        told = map_push (λ (l : Listed). l.receipt) receipts listed
            ∙ (ap (λ (rs : List Receipt). rs ++ receipt ∷ []) past.told
            ∙ (ap (λ (p : ClientView × ClientAsk). receipts_along new past.courses ++ receipts_of_ask p.1) (sym ends)
            ∙ sym (along_push new past.courses one)));
        from = sym (after_push new past.courses one ∙ ap (λ (p : ClientView × ClientAsk). p.0) ends);
        ordinals = All-push (λ (l : Listed). l.client ≡ k) receipts listed past.ordinals refl;
        each = AreReceipts-push C attempts journal client.script.id receipts listed past.each receipt_is;
        planned = All-push (λ (l : Listed). All (IsPlannedStop stops journal) l.receipt.gone) receipts listed
            past.planned planned;
        rises = Rises-push 0 receipts listed past.rises call.from came.above;
        within = subst (λ n. n ≤ length journal) (sym (version_after-push 0 receipts listed)) came.within;
      }

  -- and names the entry that the client has made since the front
  pub named_more : AreNamed stops journal client.script.id (receipts ++ listed ∷ [])
  named_more place e at mine = elim (cases_lt place front) [
    | inl before ↦
        (let old : IsNamed stops journal receipts place e = call.named place e at mine before in
        record {
          named = HasReceipt-push receipts listed place old.named;
          told = λ behind. HasGoneReceipt-left receipts (listed ∷ []) place e.request.server (old.told behind);
        })
    | inr since ↦
        (let marks : (outcome.committed ≡ true) × (outcome.version ≡ place + 1)
        = came.only place e at (mine ∙ sym own) since in
        record {
          named = HasReceipt_new receipts listed place marks;
          told = λ behind.
              HasGoneReceipt_new receipts listed place e.request.server marks.0 marks.1
              ((call.unheard place e at mine since).told behind);
        })
  ]

-- an entry that has a receipt has a number that is done
pub past_number : (C : Settings) (attempts : ℕ) (stops : List Stop) (es : List Entry) (place : ℕ) (e : Entry)
    → EntryAt es place e → (k : ℕ) (client : ClientView) (rs : List Listed) → IsScript C.servers client.script
    → IsPast C attempts stops es k client rs → HasReceipt rs place → e.request.number ≤ client.op
past_number C attempts stops es place e at k client rs valid past has =
    let rest : ClientView = after_courses (new_client C client.script) past.courses in
    let numbers : AreNumbered 0 (map (λ (l : Listed). l.receipt) rs) rest.op
    = subst (λ (told : List Receipt). AreNumbered 0 told rest.op) (sym past.told) (numbered C client.script past.courses) in
    let here : client.op ≡ rest.op = same_op C client.script rest client client.request (rests_at C client.script past.courses valid) past.from in
    omega (arith, named_number C attempts es place e at client.script.id 0 rest.op rs numbers past.each has)
