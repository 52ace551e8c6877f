-- Each way in which a request ends, and what came of it.
use Rattle.std.proofs.Common.{◌≡◌, [], ℕ, ◌<◌, ◌≤◌, ◌+◌, ◌^◌, inl, inr, List, Option, Some, None, Bool, true, false, cond, length, sym, ◌∙◌, ap, subst, arith, eq-eqb}
use Rattle.std.specs.Prelude.{MatchBool, MatchOption, ⊤, ◌⊎◌, nat_lt}
use Rattle.std.specs.FinMap.{get}
use Rattle.std.proofs.lemmas.Bool.{cases_lt}
use Rattle.std.proofs.lemmas.Option.{same_Some}
use Rattle.conflict_sets.specs.Reads as bytes
use Rattle.conflict_sets.specs.Rows.{value_at_key}
use Rattle.conflict_sets.specs.declared.sets.Got.{Got}
use Rattle.conflict_sets.specs.declared.sets.ReadSet.{ReadSet}
use Rattle.client_core.specs.Client.{sent_to}
use Rattle.client_core.specs.Files.{IsFileSound}
use Rattle.fs_base.specs.Config.{Settings}
use Rattle.fs_base.specs.declared.call.Request.{Request}
use Rattle.fs_base.specs.declared.code.Code.TheVariants as codes
use Rattle.fs_base.specs.declared.ids.ClientId.{ClientId}
use Rattle.fs_base.specs.declared.reply.Reply.{Reply}
use Rattle.fs_base.specs.declared.reply.Reply.TheVariants.{Refused}
use Rattle.fs_base.specs.declared.row.Row.{Row}
use Rattle.key_schema.specs.Keys.{spelled_key}
use Rattle.key_schema.specs.declared.key.Key.{Key}
use Rattle.key_schema.specs.declared.key.Key.TheVariants as keys
use Rattle.kv_store.specs.Journal.{last_writer}
use Rattle.path_walk.specs.Owed.{IsKeptBefore}
use Rattle.path_walk.specs.Sound.{IsSoundEntry}
use Rattle.path_walk.proofs.WholeLaws.{kept_in}
use Rattle.row_tree.specs.HasTree.{HasTree}
use Rattle.tree_model.specs.Calls.{apply, after_kept, effect, is_query, settle}
use Rattle.tree_model.specs.Tree.{Tree}
use Rattle.tree_model.specs.declared.kept.KeptReply.{KeptReply}
use Rattle.tree_model.proofs.ApplyLaws.{apply_update}
use Rattle.txn_task.specs.declared.messages.Ask.TheVariants as asks
use Rattle.txn_task.specs.declared.messages.Entry.{Entry}
use Rattle.txn_task.specs.declared.outcome.Outcome.{Outcome}
use Rattle.meta_task.specs.Task.{TaskView, IsKeptReply, IsReplyStale, IsToldReply}
use Rattle.meta_task.specs.declared.waiting.Waiting.TheVariants as waits
use Rattle.run_record.specs.Legal.{EntryAt, journal_rows, tree_at, writes_of}
use Rattle.run_record.specs.Outcomes.{last_version, AreAttempts, IsSeen, IsToldOutcome, MayTell, NamesEntry}
use Rattle.run_record.specs.Outcomes.{Shows}
use Rattle.run_record.specs.Right.{IsNoRefusal}
use Rattle.run_record.proofs.OneMore.{last_version_low}
use Rattle.run_record.proofs.Rising.{last_version_above}
use Rattle.run_record.proofs.TreeReplies.{IsTreeReply, accepted_reply, attempts_left, may_tell, new_reply, query_reply}
use Rattle.histories.proofs.Lists.{at_within}
use Rattle.request_run.proofs.Files.{files_fit, made_fits, new_fits, query_fits}
use Rattle.request_run.specs.Served.{CameTo, EachOf, HasMetConflicts, IsBegun, IsOwnEntry}
use Rattle.run_record.specs.Sound.{IsSoundJournal}
use Rattle.run_record.proofs.History.{entry_sound, kept_above, kept_by, no_refusal, once, row_kept, rows_ascend, rows_tree}

-- no entry has the request's client and number
abbrev pub HasNone : List Entry → Request → Type 0
HasNone journal q = EachOf journal q.client (λ place e. e.request.number ≡ q.number → ⊥)

-- the number is greater than the kept one
abbrev IsFresh : Tree → Request → Type 0
IsFresh T q = MatchOption (get T.kept q.client.0) ⊤ (λ kept. kept.number < q.number)

-- the same number again is told what is kept
told_again : (C : Settings) (T : Tree) (q : Request) (settled : ℕ) (kept : KeptReply) → is_query q.call ≡ false → get T.kept q.client.0 ≡ Some kept → kept.number ≡ q.number → apply C T q settled ≡ (T, kept.reply)
told_again C T q settled kept update is same =
    apply_update C T q settled update ∙ (ap (after_kept C T q settled) is
    ∙ ap (λ b. cond b (T, kept.reply) (cond (nat_lt q.number kept.number) (T, Refused (codes.Stale kept.number)) (settle T q settled (effect C T q)))) (eq-eqb kept.number q.number same))

-- what the tree tells
shows_told : (C : Settings) (journal : List Entry) (q : Request) (front : ℕ) (outcome : Outcome) (reply : Reply) → IsTreeReply reply → IsToldOutcome C journal q front outcome → Shows C journal q front outcome reply
shows_told C journal q front outcome (Refused codes.Conflict) h told = absurd h
shows_told C journal q front outcome (Refused codes.StoreFull) h told = absurd h
shows_told C journal q front outcome reply h told = told

-- what a request has met is forgotten where it is sent again, and its front is kept
pub met_again : (C : Settings) (journal : List Entry) (q : Request) (front : ℕ) (pairs : List (ℕ × Key)) (server : ℕ)
    → HasMetConflicts C journal q front pairs → HasMetConflicts C journal (sent_to q server) front []
met_again C journal q front pairs server h =
    record {
      small = h.small;
      front_in = h.front_in;
      before = h.before;
      since = λ place e at mine l. (let own = h.since place e at mine l in record { number = own.number; stamp = own.stamp; call = own.call; behind = l });
      conflicts_are = (tt, tt);
      last = h.front_in;
    }

module _ (C : Settings) (journal : List Entry) (s : IsSoundJournal C journal) where
  -- ---- a request that has met these conflicts

  module _ (q : Request) (front : ℕ) (pairs : List (ℕ × Key))
      (h : HasMetConflicts C journal q front pairs) where
    -- an entry of its client with as great a number is its own
    is_own : (place : ℕ) (e : Entry) → EntryAt journal place e → e.request.client ≡ q.client → q.number ≤ e.request.number → IsOwnEntry q (last_version front pairs) place e
    is_own place e at mine l = elim (cases_lt place front) [
      | inl before ↦ absurd (let less : e.request.number < q.number = h.before place e at mine before in omega arith)
      | inr since ↦ h.since place e at mine since
    ]

    module _ (floor snapshot : ℕ) (reads : ReadSet) (b : IsBegun C journal q floor snapshot reads) where
      abbrev T : Tree
      T = tree_at C journal snapshot

      -- what is kept of the client where the request has an entry
      kept_of_own : (place : ℕ) (e : Entry) → EntryAt journal place e → e.request.client ≡ q.client → (k : KeptReply) × (get T.kept q.client.0 ≡ Some k) × (e.request.number ≤ k.number)
      kept_of_own place e at mine =
          let kept : (k : KeptReply) × (get T.kept e.request.client.0 ≡ Some k) × (e.request.number ≤ k.number) = kept_above C journal s place e at snapshot (b.own place e at mine) in
          (kept.0, ap (λ (c : ClientId). get T.kept c.0) (sym mine) ∙ kept.1, kept.2)

      none_fresh : IsFresh T q → HasNone journal q
      none_fresh fresh place e at mine number =
          let kept : (k : KeptReply) × (get T.kept q.client.0 ≡ Some k) × (e.request.number ≤ k.number) = kept_of_own place e at mine in
          let below : kept.0.number < q.number = subst (λ (o : Option KeptReply). MatchOption o ⊤ (λ k. k.number < q.number)) kept.1 fresh in
          let least : e.request.number ≤ kept.0.number = kept.2 in
          omega arith

      -- the number of an entry that can be committed is new
      pub none_sound : (e : Entry) → e.request ≡ q → e.reads ≡ reads → IsSoundEntry C e → HasNone journal q
      none_sound e request same sound =
          none_fresh (subst (IsFresh T) request (sound.fresh (journal_rows C journal snapshot) T (rows_ascend C journal s snapshot) (rows_tree C journal s snapshot) (subst (bytes.RowsAgree (journal_rows C journal snapshot)) (sym same) b.agrees)))

      -- so is one that what was read shows to be
      fresh_read : IsKeptBefore reads q → IsFresh T q
      fresh_read before =
          let tree : HasTree C (journal_rows C journal snapshot) T = rows_tree C journal s snapshot in
          subst (λ (V : Tree). IsFresh V q) tree.3 (kept_in tree.0 q (before tree.0 (record { rows = journal_rows C journal snapshot; ascending = rows_ascend C journal s snapshot; spells = tree.1; agrees = b.agrees })))

      module _ (reply : Reply) (told : (settled : ℕ) → apply C T q settled ≡ (T, reply)) where
        -- a stale number has no entry
        none_stale : q.client.0 < 2 ^ 128 → IsReplyStale reply → HasNone journal q
        none_stale small stale place e at mine number =
            let kept : (k : KeptReply) × (get T.kept q.client.0 ≡ Some k) × (e.request.number ≤ k.number) = kept_of_own place e at mine in
            let least : e.request.number ≤ kept.0.number = kept.2 in
            let update : is_query q.call ≡ false = ap is_query (sym (is_own place e at mine (omega arith)).call) ∙ (entry_sound C journal s place e at).0.update in
            elim (kept_by C journal s q.client small snapshot b.within) [
              | inl none ↦ absurd (let f : None ≡ Some kept.0 = sym none ∙ kept.1 in cc)
              | inr by ↦
                  (let row : KeptReply = record { number = by.entry.request.number; reply = by.entry.reply } in
                  let row_is : row ≡ kept.0 = same_Some row kept.0 (sym by.kept ∙ kept.1) in
                  let numbers : by.entry.request.number ≡ kept.0.number = ap (λ (r : KeptReply). r.number) row_is in
                  let own : by.entry.request.number ≡ q.number = (is_own by.place by.entry by.at by.client_is (omega arith)).number in
                  let again : apply C T q 0 ≡ (T, kept.0.reply) = told_again C T q 0 kept.0 update kept.1 (sym numbers ∙ own) in
                  let reply_is : by.entry.reply ≡ Refused (codes.Stale stale.0) = ap (λ (r : KeptReply). r.reply) row_is ∙ (ap (λ (pair : Tree × Reply). pair.1) (sym again ∙ told 0) ∙ stale.1) in
                  subst IsNoRefusal reply_is (no_refusal C journal s by.place by.entry by.at))
            ]

        -- an uncommitted reply isn't that of an entry, and it is the tree's
        none_told : (is_query q.call ≡ true) ⊎ (IsKeptBefore reads q ⊎ IsReplyStale reply) → HasNone journal q
        none_told (inl query) place e at mine number =
            let update : is_query q.call ≡ false = ap is_query (sym (is_own place e at mine (omega arith)).call) ∙ (entry_sound C journal s place e at).0.update in
            absurd (cc)
        none_told (inr (inl kept)) place e at mine number = none_fresh (fresh_read kept) place e at mine number
        none_told (inr (inr stale)) place e at mine number = none_stale h.small stale place e at mine number

        tree_told : (is_query q.call ≡ true) ⊎ (IsKeptBefore reads q ⊎ IsReplyStale reply) → IsTreeReply reply
        tree_told (inl query) = query_reply C T q 0 reply query (told 0)
        tree_told (inr (inl kept)) = new_reply C T q 0 reply (fresh_read kept) (told 0)
        tree_told (inr (inr stale)) = subst IsTreeReply (sym stale.1) tt

        file_told : (is_query q.call ≡ true) ⊎ (IsKeptBefore reads q ⊎ IsReplyStale reply) → IsFileSound C reply
        file_told (inl query) = query_fits C T (files_fit C (journal_rows C journal snapshot) T (rows_tree C journal s snapshot)) q reply query (told 0)
        file_told (inr (inl kept)) = new_fits C T (files_fit C (journal_rows C journal snapshot) T (rows_tree C journal s snapshot)) q reply (fresh_read kept) (told 0)
        file_told (inr (inr stale)) = subst (IsFileSound C) (sym stale.1) tt

  -- a file that an entry's reply shows was in the tree before it
  file_made : (place : ℕ) (e : Entry) → EntryAt journal place e → IsFileSound C e.reply
  file_made place e at =
      let rows : List Row = journal_rows C journal place in
      let V : Tree = tree_at C journal place in
      let sound = entry_sound C journal s place e at in
      let made = sound.0.makes rows V (rows_ascend C journal s place) (rows_tree C journal s place) sound.1 in
      made_fits C V (files_fit C rows V (rows_tree C journal s place)) made.0 e.request e.reply made.1

  -- ---- what came of it

  module _ (attempts : ℕ) (q : Request) (front : ℕ) (outcome : Outcome) (h : HasMetConflicts C journal q front outcome.conflicts) where
    abbrev floor : ℕ
    floor = last_version front outcome.conflicts

    up : front ≤ floor
    up = last_version_above journal q.client front outcome.conflicts h.conflicts_are.0

    low : last_version 0 outcome.conflicts ≤ floor
    low = last_version_low front outcome.conflicts

    marked : (b : Bool) → outcome.committed ≡ b → MatchBool b (NamesEntry journal q front outcome) (IsSeen C journal q front outcome) → MatchBool outcome.committed (NamesEntry journal q front outcome) (IsSeen C journal q front outcome)
    marked b is = subst (λ c. MatchBool c (NamesEntry journal q front outcome) (IsSeen C journal q front outcome)) (sym is)

    -- an entry has the reply
    pub came_made : (place : ℕ) (e : Entry) → EntryAt journal place e → e.request.client ≡ q.client → IsOwnEntry q floor place e → e.reply ≡ outcome.reply → outcome.committed ≡ true → outcome.version ≡ place + 1 → length outcome.conflicts < attempts
        → CameTo C attempts journal q front outcome
    came_made place e at mine own reply mark version left =
        let within : place < length journal = at_within journal place e at in
        let behind : floor ≤ place = own.behind in
        let accepted : IsTreeReply outcome.reply = accepted_reply outcome.reply (subst IsNoRefusal reply (no_refusal C journal s place e at)) in
        record {
          outcome_is = marked true mark
              (record { place = place; version = version; entry = e; at = at; client = mine; number = own.number; stamp = own.stamp; call = own.call; reply = reply; above = behind });
          may = may_tell q.call outcome.reply accepted;
          met = attempts_left attempts outcome.reply (length outcome.conflicts) accepted left;
          conflicts = h.conflicts_are;
          above = omega (arith, up);
          within = omega (arith, up, low, h.last);
          only = λ p x at_x its l.
              (mark, version ∙ ap (λ n. n + 1) (once C journal s place p e x at at_x (mine ∙ sym its) (own.number ∙ sym (h.since p x at_x its l).number)));
          again = met_again C journal q front outcome.conflicts q.server h;
          files = subst (IsFileSound C) reply (file_made place e at);
        }

    -- none has it
    pub came_seen : outcome.committed ≡ false → front ≤ outcome.version → outcome.version ≤ length journal → Shows C journal q front outcome outcome.reply → MayTell q.call outcome.reply → AreAttempts attempts outcome.reply (length outcome.conflicts)
        → HasNone journal q → IsFileSound C outcome.reply → CameTo C attempts journal q front outcome
    came_seen mark above within shown may met none file =
        record {
          outcome_is = marked false mark (record { above = above; within = within; shown = shown });
          may = may;
          met = met;
          conflicts = h.conflicts_are;
          above = above;
          within = omega (arith, low, h.last);
          only = λ p x at_x its l. absurd (none p x at_x its (h.since p x at_x its l).number);
          again = met_again C journal q front outcome.conflicts q.server h;
          files = file;
        }

    module _ (snapshot : ℕ) (reads : ReadSet) (b : IsBegun C journal q floor snapshot reads) (left : length outcome.conflicts < attempts) where
      -- what was read tells the reply
      pub came_told : (task : TaskView) → IsToldReply (record task { config = C; request = q; snapshot = snapshot; reads = reads }) outcome → CameTo C attempts journal q front outcome
      came_told task told =
          let V : Tree = tree_at C journal snapshot in
          let gives : (settled : ℕ) → apply C V q settled ≡ (V, outcome.reply) = told.told (journal_rows C journal snapshot) V (rows_ascend C journal s snapshot) (rows_tree C journal s snapshot) b.agrees in
          let tree : IsTreeReply outcome.reply = tree_told q front outcome.conflicts h floor snapshot reads b outcome.reply gives told.new in
          let from : floor ≤ snapshot = b.from in
          let within : snapshot ≤ length journal = b.within in
          let version : outcome.version ≡ snapshot = told.version in
          came_seen told.mark (omega (arith, up)) (omega arith)
          (shows_told C journal q front outcome outcome.reply tree
          (record { from = omega arith; told = subst (λ n. (settled : ℕ) → apply C (tree_at C journal n) q settled ≡ (tree_at C journal n, outcome.reply)) (sym version) gives }))
          (may_tell q.call outcome.reply tree)
          (attempts_left attempts outcome.reply (length outcome.conflicts) tree left)
          (none_told q front outcome.conflicts h floor snapshot reads b outcome.reply gives told.new)
          (file_told q front outcome.conflicts h floor snapshot reads b outcome.reply gives told.new)

      -- an earlier attempt committed it
      pub came_kept : (task : TaskView) (key : Key) (got : Got) → task.waiting ≡ waits.Reading (asks.Get key) → got.value ≡ value_at_key (journal_rows C journal snapshot) (spelled_key key)
          → got.version ≡ last_writer writes_of journal snapshot (spelled_key key) → IsKeptReply (record task { request = q }) got outcome → CameTo C attempts journal q front outcome
      came_kept task key got waiting value writer k =
          let rows : List Row = journal_rows C journal snapshot in
          let key_is : key ≡ keys.Idem q.client = same_key key (keys.Idem q.client) (sym waiting ∙ k.asked) in
          let row : KeptReply = record { number = k.row.number; reply = k.row.reply } in
          let kept : get (tree_at C journal snapshot).kept q.client.0 ≡ Some row =
          row_kept C rows (tree_at C journal snapshot) q.client (rows_tree C journal s snapshot) h.small k.row k.fits
          (ap (λ (x : Key). value_at_key rows (spelled_key x)) (sym key_is) ∙ (sym value ∙ k.found)) in
          elim (kept_by C journal s q.client h.small snapshot b.within) [
            | inl none ↦ absurd (let f : None ≡ Some row = sym none ∙ kept in cc)
            | inr by ↦
                (let of_entry : KeptReply = record { number = by.entry.request.number; reply = by.entry.reply } in
                let same : of_entry ≡ row = same_Some of_entry row (sym by.kept ∙ kept) in
                let numbers : by.entry.request.number ≡ q.number = ap (λ (r : KeptReply). r.number) same ∙ k.number in
                came_made by.place by.entry by.at by.client_is
                (is_own q front outcome.conflicts h by.place by.entry by.at by.client_is (omega arith))
                (ap (λ (r : KeptReply). r.reply) same ∙ sym k.reply)
                k.mark
                (k.version ∙ (writer ∙ (ap (λ (x : Key). last_writer writes_of journal snapshot (spelled_key x)) key_is ∙ by.writer)))
                left)
          ]
        where
          same_key : (x y : Key) → waits.Reading (asks.Get x) ≡ waits.Reading (asks.Get y) → x ≡ y
          same_key x y e = cc
