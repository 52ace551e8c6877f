-- With one client the receipts are the plain tree's replies, one call after another.
use Rattle.std.proofs.Common.{◌≡◌, ℕ, suc, ◌+◌, ◌<◌, ◌≤◌, inl, inr, List, [], ◌∷◌, ◌++◌, All, Bool, true, false, cond, length, refl, sym, ap, subst, ◌∙◌, arith, add-one, MatchOption}
use Rattle.std.specs.Prelude.{Option, Some, None, ⊤}
use Rattle.std.specs.FinMap.{get, get-empty}
use Rattle.std.specs.Ordering.{nat_cmp}
use Rattle.std.proofs.lemmas.Bool.{cases_Bool}
use Rattle.std.proofs.lemmas.List.{append-nil}
use Rattle.std.proofs.lemmas.Option.{same_Some}
use Rattle.fs_base.specs.Config.{Settings}
use Rattle.fs_base.specs.declared.call.Call.{Call}
use Rattle.fs_base.specs.declared.call.Request.{Request}
use Rattle.fs_base.specs.declared.code.Code.TheVariants as codes
use Rattle.fs_base.specs.declared.ids.ClientId.{ClientId}
use Rattle.fs_base.specs.declared.reply.Reply.{Reply}
use Rattle.fs_base.specs.declared.reply.Reply.TheVariants.{Refused}
use Rattle.key_schema.specs.declared.key.Key.{Key}
use Rattle.tree_model.specs.declared.kept.KeptReply.{KeptReply}
use Rattle.tree_model.specs.Calls.{apply, is_query}
use Rattle.tree_model.specs.Effects.{settled_by}
use Rattle.tree_model.specs.Tree.{Tree, new_tree}
use Rattle.txn_task.specs.declared.messages.Entry.{Entry}
use Rattle.txn_task.specs.declared.outcome.Outcome.{Outcome}
use Rattle.txn_task.specs.declared.outcome.Receipt.{Receipt}
use Rattle.client_core.specs.Descriptors.{none_open}
use Rattle.client_core.specs.Ops.{call_of, session_for}
use Rattle.client_core.specs.Plans.{IsPlan, ops_in}
use Rattle.client_core.specs.Single.{open_after, single_request}
use Rattle.client_core.specs.declared.descriptors.Descriptor.{Descriptor}
use Rattle.client_core.specs.declared.plan.Op.{Op}
use Rattle.client_core.specs.declared.plan.Plan.{Plan}
use Rattle.client_core.specs.declared.plan.Script.{Script}
use Rattle.client_core.specs.declared.plan.Stop.{Stop}
use Rattle.histories.proofs.Versions.{reply_at, tree_next}
use Rattle.run_record.specs.Legal.{AreReplies, EntryAt, tree_at}
use Rattle.run_record.specs.Outcomes.{last_version, version_before, IsSeen, IsToldOutcome, NamesEntry, Shows}
use Rattle.run_record.specs.Follow.{Follow}
use Rattle.run_record.specs.Receipts.{AreLater, AreReceipts, HasStopped, IsOf, IsSection, Rises, front_of, fronts_of, outcome_of}
use Rattle.run_record.specs.Replies.{replies_text}
use Rattle.run_record.specs.ReplyText.{text_of}
use Rattle.run_record.specs.Right.{AreSections, IsNoRefusal, IsRightRecord, IsRightEntry}
use Rattle.run_record.specs.Stops.{AllPlanned}
use Rattle.run_record.specs.declared.run.Listed.{Listed}
use Rattle.run_record.specs.declared.run.Record.{Record}
use Rattle.world_core.specs.Order.{IsWorldRecord, IsOrdered}
use Rattle.world_core.specs.World.{IsOpening, WorldView}
use Rattle.histories.proofs.Lists.{at_within}
use Rattle.meta_top.specs.Alone.{commits, listed_alone, receipt_alone, receipts_from, receipts_of}
use Rattle.meta_top.specs.Alone.{version_after_reply}
use Rattle.meta_top.specs.Top.{IsRunOf}
use Rattle.meta_top.proofs.Marks.{IsNewIn, entry_mark, kept_after, length_free, told_mark}
use Rattle.run_record.proofs.Replaying.{follows}
use Rattle.run_record.proofs.Stopping.{none_planned}
use Rattle.client_core.proofs.Scripts.{scripts_are}
use Rattle.client_core.proofs.Fits.{built}
use Rattle.run_record.proofs.Served.{one_request, same_request, served}
use Rattle.run_record.proofs.Naming.{AreNamedFrom, naming, journal_short, entry_above, front_above, named_rest, of_commit, of_seen, own_entry, place_next, rises_rest, version_seen}

-- ---- receipts by their parts

of_five : {A B C D E X : Type 0} (f : A → B → C → D → E → X) (a0 b0 : A) (a1 b1 : B) (a2 b2 : C) (a3 b3 : D) (a4 b4 : E) → a0 ≡ b0 → a1 ≡ b1 → a2 ≡ b2 → a3 ≡ b3 → a4 ≡ b4 → f a0 a1 a2 a3 a4 ≡ f b0 b1 b2 b3 b4
of_five f a0 b0 a1 b1 a2 b2 a3 b3 a4 b4 e0 e1 e2 e3 e4 = cc

same_receipt : (a b : Receipt) → a.op ≡ b.op → a.number ≡ b.number → a.server ≡ b.server → a.stamp ≡ b.stamp → a.call ≡ b.call → a.reply ≡ b.reply → a.committed ≡ b.committed → a.version ≡ b.version
    → a.conflicts ≡ b.conflicts → a.gone ≡ b.gone → a ≡ b
same_receipt a b op number server stamp call reply committed version conflicts gone =
    let first : a ≡ record a { op = b.op; number = b.number; server = b.server; stamp = b.stamp; call = b.call } =
    of_five (λ (o : ℕ) (n s : Option ℕ) (t : ℕ) (l : Call). record a { op = o; number = n; server = s; stamp = t; call = l }) a.op b.op a.number b.number a.server b.server a.stamp b.stamp a.call b.call op number server stamp call in
    let others : record b { reply = a.reply; committed = a.committed; version = a.version; conflicts = a.conflicts; gone = a.gone } ≡ b =
    of_five (λ (r : Reply) (c : Bool) (v : ℕ) (cs : List (ℕ × Key)) (g : List (ℕ × ℕ)). record b { reply = r; committed = c; version = v; conflicts = cs; gone = g }) a.reply b.reply a.committed b.committed a.version b.version a.conflicts b.conflicts a.gone b.gone reply committed version conflicts gone in
    first ∙ others

same_listed : (a b : Listed) → a.client ≡ b.client → a.fronts ≡ b.fronts → a.receipt ≡ b.receipt → a.text ≡ b.text → a ≡ b
same_listed a b client fronts receipt text =
    ap (λ n. record a { client = n }) client
    ∙ (ap (λ (ns : List ℕ). record a { client = b.client; fronts = ns }) fronts
    ∙ (ap (λ (r : Receipt). record a { client = b.client; fronts = b.fronts; receipt = r }) receipt ∙ ap (λ (t : List ℕ). record b { text = t }) text))

-- ---- the number of an operation is new

-- the tree keeps no number of the client above this one
abbrev KeepsTo : Tree → ClientId → ℕ → Type 0
KeepsTo T client n = MatchOption (get T.kept client.0) ⊤ (λ k. k.number ≤ n)

below : (o : Option KeptReply) (n : ℕ) → MatchOption o ⊤ (λ k. k.number ≤ n) → MatchOption o ⊤ (λ k. k.number < n + 1)
below None n h = tt
below (Some k) n h = omega arith

-- ---- along the receipts

-- an entry is the one client's, and an update that was done
record IsOwn (script : Script) (e : Entry) : Type 0 where
  client : e.request.client ≡ script.id
  update : is_query e.request.call ≡ false
  accepted : IsNoRefusal e.reply

-- the receipt is the plain tree's, and its version the tree's that follows
record IsNext (C : Settings) (journal : List Entry) (script : Script) (ds : List (Option Descriptor)) (op v : ℕ) (step : Op) (l : Listed) : Type 0 where
  same : l ≡ listed_alone C v (receipt_alone script ds op v step (apply C (tree_at C journal v) (single_request script ds op step) 0).1)
  next : tree_at C journal l.receipt.version ≡ (apply C (tree_at C journal v) (single_request script ds op step) 0).0

-- a receipt with the right reply, mark and version is the one
made : (C : Settings) (script : Script) (ds : List (Option Descriptor)) (op v : ℕ) (step : Op) (reply : Reply) (l : Listed) → l.client ≡ 0 → l.fronts ≡ fronts_of C v → l.text ≡ text_of l.receipt.call l.receipt.reply → l.receipt.op ≡ op → IsOf (single_request script ds op step) l.receipt → l.receipt.gone ≡ []
    → l.receipt.conflicts ≡ [] → l.receipt.reply ≡ reply → l.receipt.committed ≡ commits (call_of (session_for ds step) step) reply → l.receipt.version ≡ version_after_reply v (call_of (session_for ds step) step) reply → l ≡ listed_alone C v (receipt_alone script ds op v step reply)
made C script ds op v step reply l client fronts text ordinal is_of gone conflicts replied mark version =
    let receipt : l.receipt ≡ receipt_alone script ds op v step reply =
    same_receipt l.receipt (receipt_alone script ds op v step reply) ordinal is_of.number is_of.server is_of.stamp is_of.call replied mark version conflicts gone in
    same_listed l (listed_alone C v (receipt_alone script ds op v step reply)) client fronts receipt (text ∙ ap (λ (r : Receipt). text_of r.call r.reply) receipt)

module _ (C : Settings) (attempts : ℕ) (script : Script) (journal : List Entry) (some : 1 ≤ attempts) (few : length journal < 200000) (replies : AreReplies C (new_tree C) journal)
    (own : (place : ℕ) (e : Entry) → EntryAt journal place e → IsOwn script e) where
  -- no conflict names another client's entry
  no_conflict : (floor : ℕ) (pairs : List (ℕ × Key)) → AreLater journal script.id floor pairs → pairs ≡ []
  no_conflict floor [] h = refl
  no_conflict floor (pair ∷ pairs) h = absurd (h.0.other (own h.0.place h.0.entry h.0.at).client)

  -- without a conflict no reply is Conflict
  told_of : (q : Request) (front : ℕ) (o : Outcome) → o.conflicts ≡ [] → (reply : Reply) → Shows C journal q front o reply → IsToldOutcome C journal q front o
  told_of q front o none (Refused codes.Conflict) h =
      let from : version_before front o.conflicts ≤ o.version = h.from in
      let before : o.version < last_version front o.conflicts = h.before in
      let first : version_before front o.conflicts ≡ front = ap (version_before front) none in
      let last : last_version front o.conflicts ≡ front = ap (last_version front) none in
      absurd (omega arith)
  told_of q front o none (Refused codes.StoreFull) h = absurd (let all : length journal ≡ 200000 = h.full in omega arith)
  told_of q front o none reply h = h

  module _ (ds : List (Option Descriptor)) (op v : ℕ) (step : Op) (steps : List Op) (l : Listed) (rest : List Listed) (follow : Follow 0 script ds op (step ∷ steps) (l ∷ rest)) (h : AreReceipts C attempts journal script.id (l ∷ rest))
      (rises : Rises v (l ∷ rest)) (named : AreNamedFrom journal v (l ∷ rest)) (new : IsNewIn (tree_at C journal v) (single_request script ds op step)) where
    request_is : (served h.0).request ≡ single_request script ds op step
    request_is = one_request (served h.0).request (single_request script ds op step) l.receipt (served h.0).client_is (served h.0).is_of follow.2

    none : l.receipt.conflicts ≡ []
    none = no_conflict (front_of l.fronts) l.receipt.conflicts (served h.0).conflicts

    -- no server stopped, so the one that answered made the entry
    server_is : l.receipt.committed ≡ true → (names : NamesEntry journal (served h.0).request (front_of l.fronts) (outcome_of l.receipt)) → names.entry.request.server ≡ (served h.0).request.server
    server_is is names = elim ((served h.0).made_by is names.place names.entry names.at names.version) [
      | inl by ↦ same_Some names.entry.request.server (served h.0).request.server (sym by ∙ (served h.0).is_of.server)
      | inr stopped ↦ absurd (subst (λ (stops : List (ℕ × ℕ)). HasStopped stops names.entry.request.server) follow.3 stopped)
    ]

    commit_next : l.receipt.committed ≡ true → IsNext C journal script ds op v step l
    commit_next is =
        let names : NamesEntry journal (served h.0).request (front_of l.fronts) (outcome_of l.receipt) = of_commit C attempts journal script.id l (served h.0) is in
        let place : names.place ≡ v = place_next C attempts journal script.id v l rest h rises named is in
        let at : EntryAt journal v names.entry = subst (λ n. EntryAt journal n names.entry) place names.at in
        let mine : IsOwn script names.entry = own v names.entry at in
        let entry_is : names.entry.request ≡ single_request script ds op step = same_request names.entry.request (served h.0).request (server_is is names) names.client names.number names.stamp names.call ∙ request_is in
        let update : is_query (call_of (session_for ds step) step) ≡ false = ap (λ (r : Request). is_query r.call) (sym entry_is) ∙ mine.update in
        let length : ℕ = settled_by names.entry.reply in
        let any : apply C (tree_at C journal v) (single_request script ds op step) length ≡ apply C (tree_at C journal v) (single_request script ds op step) 0 =
        length_free C (tree_at C journal v) (single_request script ds op step) length (built (session_for ds step) step) update new in
        let reply : (apply C (tree_at C journal v) (single_request script ds op step) 0).1 ≡ l.receipt.reply =
        ap (λ (p : Tree × Reply). p.1) (sym any)
        ∙ (ap (λ (r : Request). (apply C (tree_at C journal v) r length).1) (sym entry_is) ∙ (reply_at C (new_tree C) journal replies v names.entry at ∙ names.reply)) in
        let accepted : IsNoRefusal (apply C (tree_at C journal v) (single_request script ds op step) 0).1 = subst IsNoRefusal (names.reply ∙ sym reply) mine.accepted in
        let mark : commits (call_of (session_for ds step) step) (apply C (tree_at C journal v) (single_request script ds op step) 0).1 ≡ true = entry_mark (single_request script ds op step) (apply C (tree_at C journal v) (single_request script ds op step) 0).1 update accepted in
        let version : l.receipt.version ≡ v + 1 = names.version ∙ ap (λ n. n + 1) place in
        let above : v ≤ front_of l.fronts = front_above C attempts journal script.id v l rest (served h.0) rises in
        let later : front_of l.fronts ≤ names.place = entry_above C attempts journal script.id l (served h.0) is in
        let front : front_of l.fronts ≡ v = omega arith in
        record {
          same = made C script ds op v step (apply C (tree_at C journal v) (single_request script ds op step) 0).1 l follow.0 (h.0.fronts ∙ ap (fronts_of C) front) h.0.text follow.1 follow.2 follow.3 none (sym reply) (is ∙ sym mark)
              (version ∙ ap (λ b. cond b (v + 1) v) (sym mark));
          next = ap (tree_at C journal) (version ∙ add-one v) ∙ (tree_next C (new_tree C) journal v names.entry at ∙ (ap (λ (r : Request). (apply C (tree_at C journal v) r length).0) entry_is ∙ ap (λ (p : Tree × Reply). p.0) any));
        }

    seen_told : l.receipt.committed ≡ false → apply C (tree_at C journal v) (single_request script ds op step) 0 ≡ (tree_at C journal v, l.receipt.reply)
    seen_told is =
        let seen : IsSeen C journal (served h.0).request (front_of l.fronts) (outcome_of l.receipt) = of_seen C attempts journal script.id l (served h.0) is in
        let version : l.receipt.version ≡ v = version_seen C attempts journal script.id v l rest h rises named is in
        let shown : IsToldOutcome C journal (served h.0).request (front_of l.fronts) (outcome_of l.receipt) = told_of (served h.0).request (front_of l.fronts) (outcome_of l.receipt) none l.receipt.reply seen.shown in
        let now : apply C (tree_at C journal v) (served h.0).request 0 ≡ (tree_at C journal v, l.receipt.reply) = subst (λ n. apply C (tree_at C journal n) (served h.0).request 0 ≡ (tree_at C journal n, l.receipt.reply)) version (shown.told 0) in
        subst (λ (r : Request). apply C (tree_at C journal v) r 0 ≡ (tree_at C journal v, l.receipt.reply)) request_is now

    seen_next : l.receipt.committed ≡ false → IsNext C journal script ds op v step l
    seen_next is =
        let seen : IsSeen C journal (served h.0).request (front_of l.fronts) (outcome_of l.receipt) = of_seen C attempts journal script.id l (served h.0) is in
        let version : l.receipt.version ≡ v = version_seen C attempts journal script.id v l rest h rises named is in
        let told : apply C (tree_at C journal v) (single_request script ds op step) 0 ≡ (tree_at C journal v, l.receipt.reply) = seen_told is in
        let reply : (apply C (tree_at C journal v) (single_request script ds op step) 0).1 ≡ l.receipt.reply = ap (λ (p : Tree × Reply). p.1) told in
        let mark : commits (call_of (session_for ds step) step) l.receipt.reply ≡ false = told_mark C (tree_at C journal v) (single_request script ds op step) l.receipt.reply (built (session_for ds step) step) new told in
        let mark_is : commits (call_of (session_for ds step) step) (apply C (tree_at C journal v) (single_request script ds op step) 0).1 ≡ false = ap (commits (call_of (session_for ds step) step)) reply ∙ mark in
        let above : v ≤ front_of l.fronts = front_above C attempts journal script.id v l rest (served h.0) rises in
        let later : front_of l.fronts ≤ l.receipt.version = seen.above in
        let front : front_of l.fronts ≡ v = omega arith in
        record {
          same = made C script ds op v step (apply C (tree_at C journal v) (single_request script ds op step) 0).1 l follow.0 (h.0.fronts ∙ ap (fronts_of C) front) h.0.text follow.1 follow.2 follow.3 none (sym reply) (is ∙ sym mark_is)
              (version ∙ ap (λ b. cond b (v + 1) v) (sym mark_is));
          next = ap (tree_at C journal) version ∙ sym (ap (λ (p : Tree × Reply). p.0) told);
        }

    one_next : IsNext C journal script ds op v step l
    one_next = elim (cases_Bool l.receipt.committed) [ inl is ↦ commit_next is | inr is ↦ seen_next is ]

    -- what the tree keeps afterwards
    kept_next : KeepsTo (tree_at C journal l.receipt.version) script.id (op + 1)
    kept_next = subst (λ (T : Tree). KeepsTo T script.id (op + 1)) (sym one_next.next) (kept_after C (tree_at C journal v) (single_request script ds op step) new)

  along : (ds : List (Option Descriptor)) (op v : ℕ) (steps : List Op) (receipts : List Listed) → Follow 0 script ds op steps receipts → AreReceipts C attempts journal script.id receipts → Rises v receipts → AreNamedFrom journal v receipts
      → KeepsTo (tree_at C journal v) script.id op → receipts ≡ receipts_from C script (tree_at C journal v) ds op v steps
  unfolding receipts_from
  along ds op v [] [] follow h rises named kept = refl
  along ds op v [] (l ∷ rest) follow h rises named kept = absurd follow
  along ds op v (step ∷ steps) [] follow h rises named kept = absurd follow
  along ds op v (step ∷ steps) (l ∷ rest) follow h rises named kept =
      let new : IsNewIn (tree_at C journal v) (single_request script ds op step) = below (get (tree_at C journal v).kept script.id.0) op kept in
      let one : IsNext C journal script ds op v step l = one_next ds op v step steps l rest follow h rises named new in
      let answered : Tree × Reply = apply C (tree_at C journal v) (single_request script ds op step) 0 in
      let alone_is : Receipt = receipt_alone script ds op v step answered.1 in
      let opened : List (Option Descriptor) = open_after script ds op step (outcome_of l.receipt) in
      let receipt : l.receipt ≡ alone_is = ap (λ (x : Listed). x.receipt) one.same in
      let others : rest ≡ receipts_from C script (tree_at C journal l.receipt.version) opened (op + 1) l.receipt.version steps =
      along opened (op + 1) l.receipt.version steps rest follow.4 h.1 (rises_rest v l rest rises) (named_rest C attempts journal script.id v l rest h rises named) (kept_next ds op v step steps l rest follow h rises named new) in
      ap (λ (x : Listed). x ∷ rest) one.same
      ∙ ap (λ (xs : List Listed). listed_alone C v alone_is ∷ xs)
      (others
      ∙ (ap (λ (T : Tree). receipts_from C script T opened (op + 1) l.receipt.version steps) one.next
      ∙ ap (λ (r : Receipt). receipts_from C script answered.0 (open_after script ds op step (outcome_of r)) (op + 1) r.version steps) receipt))

-- ---- the whole record

follow_length : (k : ℕ) (script : Script) (ds : List (Option Descriptor)) (op : ℕ) (steps : List Op) (receipts : List Listed) → Follow k script ds op steps receipts → length receipts ≡ length steps
follow_length k script ds op [] [] follow = refl
follow_length k script ds op [] (l ∷ rest) follow = absurd follow
follow_length k script ds op (step ∷ steps) [] follow = absurd follow
follow_length k script ds op (step ∷ steps) (l ∷ rest) follow = ap suc (follow_length k script (open_after script ds op step (outcome_of l.receipt)) (op + 1) steps rest follow.4)

of_section : (C : Settings) (attempts : ℕ) (script : Script) (journal : List Entry) (own : List Listed) → 1 ≤ attempts → length script.ops ≤ 4000 → AreReplies C (new_tree C) journal
    → ((place : ℕ) (e : Entry) → EntryAt journal place e → IsRightEntry C journal place e) → IsSection C attempts journal 0 script own → AreNamedFrom journal 0 own → All (λ listed. listed.receipt.gone ≡ []) own
    → own ≡ receipts_of C script
of_section C attempts script journal own some short replies entries section named gone =
    let follow : Follow 0 script none_open 0 script.ops own = follows C attempts journal 0 script own section gone in
    let count : length own ≡ length script.ops = follow_length 0 script none_open 0 script.ops own follow in
    let few : length journal ≤ 0 + length own = journal_short C attempts journal script.id 0 own section.each section.rises named in
    let kept : KeepsTo (new_tree C) script.id 0 = subst (λ (o : Option KeptReply). MatchOption o ⊤ (λ k. k.number ≤ 0)) (sym (get-empty nat_cmp script.id.0)) tt in
    along C attempts script journal some (omega arith) replies mine none_open 0 0 script.ops own follow section.each section.rises named kept
  where
    mine : (place : ℕ) (e : Entry) → EntryAt journal place e → IsOwn script e
    mine place e at = record {
      client = own_entry C attempts journal script.id own section.each place e at (named place (omega arith) (at_within journal place e at));
      update = (entries place e at).update;
      accepted = (entries place e at).accepted;
    }

pub alone : (plan : Plan) (run : Record) (script : Script) → 1 ≤ plan.attempts → length script.ops ≤ 4000 → plan.clients ≡ script ∷ [] → plan.stops ≡ [] → IsRightRecord plan run → run.receipts ≡ receipts_of plan.config script
alone plan run script some short one no_stops right =
    let sections : AreSections plan.config plan.attempts run.entries 0 (script ∷ []) run.receipts = subst (λ (scripts : List Script). AreSections plan.config plan.attempts run.entries 0 scripts run.receipts) (scripts_are plan ∙ one) right.sections in
    let whole : run.receipts ≡ sections.0 = sections.2 ∙ (ap (λ (xs : List Listed). sections.0 ++ xs) sections.4 ∙ append-nil sections.0) in
    let named : AreNamedFrom run.entries 0 sections.0 = (λ place above within. ap (naming place) (sym whole) ∙ right.named place within) in
    let gone : All (λ listed. listed.receipt.gone ≡ []) run.receipts =
    none_planned run.entries run.receipts (subst (λ (stops : List Stop). AllPlanned stops run.entries run.receipts) no_stops right.planned) in
    whole ∙ of_section plan.config plan.attempts script run.entries sections.0 some short right.legal.replies right.entries sections.3 named
    (subst (All (λ listed. listed.receipt.gone ≡ [])) whole gone)

-- the text of a record that is right for the plan
pub run_of : (plan : Plan) (run : Record) (text : List ℕ) (first : WorldView) → IsPlan plan → IsRightRecord plan run → IsOpening plan first → ((last : WorldView) × IsOrdered first last × IsWorldRecord last run) → text ≡ replies_text run → IsRunOf plan text
run_of plan run text first is right opening ordered written = record { run = run; right = right; first = first; last = ordered.0; opening = opening; order = ordered.1; kept = ordered.2; alone = single; written = written }
  where
    single : (script : Script) → plan.clients ≡ script ∷ [] → plan.stops ≡ [] → run.receipts ≡ receipts_of plan.config script
    single script one no_stops =
        let all : ops_in plan.clients ≡ length script.ops + 0 = ap ops_in one in
        let short : ops_in plan.clients ≤ 4000 = is.short in
        alone plan run script is.attempts_from (omega arith) one no_stops right
