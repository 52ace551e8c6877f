-- A request being served: an answer brings its next ask, or its end.
use Rattle.std.proofs.Common.{◌≡◌, ℕ, ◌<◌, ◌≤◌, ◌+◌, ◌^◌, ◌⊎◌, inl, inr, List, [], ◌∷◌, ◌++◌, Some, true, false, length, sym, ◌∙◌, ap, refl, subst, arith}
use Rattle.client_core.specs.Files.{IsFileSound}
use Rattle.conflict_sets.specs.Reads as bytes
use Rattle.conflict_sets.specs.Rows.{value_at_key, rows_between}
use Rattle.conflict_sets.specs.declared.sets.Got.{Got}
use Rattle.conflict_sets.specs.declared.sets.ReadSet.{ReadSet}
use Rattle.fs_base.specs.Config.{Settings}
use Rattle.fs_base.specs.declared.call.Request.{Request}
use Rattle.fs_base.specs.declared.ids.ClientId.{ClientId}
use Rattle.fs_base.specs.declared.reply.Reply.{Reply}
use Rattle.fs_base.specs.declared.row.Row.{Row}
use Rattle.key_schema.specs.Keys.{spelled_key, IsSpellable}
use Rattle.key_schema.specs.declared.key.Key.{Key}
use Rattle.kv_store.specs.Journal.{first_later, last_writer}
use Rattle.kv_store.specs.Store.{Store}
use Rattle.path_walk.specs.Footprint.{footprint}
use Rattle.path_walk.specs.Owed.{HasRead}
use Rattle.tree_model.specs.Calls.{is_query}
use Rattle.txn_task.specs.Transactions.{with_key, with_range}
use Rattle.txn_task.specs.declared.messages.Answer.{Answer}
use Rattle.txn_task.specs.declared.messages.Answer.TheVariants as answers
use Rattle.txn_task.specs.declared.messages.Ask.{Ask}
use Rattle.txn_task.specs.declared.messages.Ask.TheVariants as asks
use Rattle.txn_task.specs.declared.messages.Entry.{Entry}
use Rattle.txn_task.specs.declared.outcome.Outcome.{Outcome}
use Rattle.meta_task.specs.Task.{TaskView, Asks, BeginsAfter, GoesOnAfter, HasOrigin, IsStoreFull, IsKeptReply, IsMadeReply, AreAttemptsSpent, IsToldReply, MayTake, learnt, new_task, reads_with}
use Rattle.meta_task.specs.declared.entry.MetaEntry.{MetaEntry}
use Rattle.meta_task.specs.declared.waiting.Waiting.{Waiting}
use Rattle.meta_task.specs.declared.waiting.Waiting.TheVariants as waits
use Rattle.histories.proofs.Lists.{at_cases, at_new, at_within}
use Rattle.run_record.specs.Legal.{journal_rows, writes_of}
use Rattle.run_record.specs.Outcomes.{last_version, version_before, AreAttempts, MayTell, Shows}
use Rattle.run_record.specs.Receipts.{IsConflict}
use Rattle.run_record.proofs.Growing.{at_only}
use Rattle.run_record.proofs.Rising.{last_version_above}
use Rattle.request_run.specs.Answered.{HasKey, IsAnswer, IsExchange, IsAskSpellable, MayAnswer}
use Rattle.request_run.specs.Entries.{IsGrowth, IsGrowthOf, entries_of, store_with_entry}
use Rattle.request_run.specs.Served.{AreCovered, AreEarlier, CameTo, HasMetConflicts, IsBegun, AreReadsCovered, IsOwnEntry, IsAskPending, IsTaskReady, IsTaskServed}
use Rattle.run_record.specs.Sound.{IsSoundJournal}
use Rattle.request_run.specs.Sound.{IsStoreOpening}
use Rattle.run_record.proofs.OneMore.{AreConflicts-push, last_version-push, version_before-push}
use Rattle.request_run.proofs.Conflicts.{conflict_named, later_above}
use Rattle.request_run.proofs.Covered.{KeysAgree-push, RangesAgree-push, covered_key, covered_range}
use Rattle.request_run.proofs.Ending.{HasNone, came_kept, came_made, came_seen, came_told, none_sound}
use Rattle.request_run.proofs.Growing.{HasMet-longer}
use Rattle.request_run.proofs.Rows.{entries-push}

-- ---- the beginning

-- a request that is sent for the first time has met nothing
pub met_first : (C : Settings) (journal : List Entry) (request : Request) → request.client.0 < 2 ^ 128
    → AreEarlier journal request → HasMetConflicts C journal request (length journal) []
met_first C journal request small earlier =
    record {
      small = small;
      front_in = omega arith;
      before = λ place e at mine l. earlier place e at mine;
      since = λ place e at mine l. absurd (omega (arith, at_within journal place e at));
      conflicts_are = (tt, tt);
      last = omega arith;
    }

-- a request whose task is new
pub begins : (C : Settings) (attempts : ℕ) (journal : List Entry) (request : Request) (front : ℕ) → 1 ≤ attempts
    → HasMetConflicts C journal request front []
    → IsTaskReady C attempts journal request front
    (record (new_task C attempts request) { waiting = waits.Beginning }) asks.Begin
begins C attempts journal request front some met =
    (record { config = refl; attempts_are = refl; request_is = refl; met = met; begun = λ b. absurd (cc) }, (refl, refl, some))

-- ---- the ends of a task

module _ (journal : List Entry) (front : ℕ) (task : TaskView) (s : IsSoundJournal task.config journal) (h : IsTaskServed task.config task.attempts journal task.request front task) (outcome : Outcome) (same : outcome.conflicts ≡ task.conflicts) (begun : task.begun ≡ true) where
  abbrev HasParts : List (ℕ × Key) → Type 0
  HasParts pairs = HasMetConflicts task.config journal task.request front pairs × IsBegun task.config journal task.request (last_version front pairs) task.snapshot task.reads × (length pairs < task.attempts)

  -- the attempt that came to the outcome
  parts : HasParts outcome.conflicts
  parts = subst HasParts (sym same) (h.met, (h.begun begun).0, (h.begun begun).1)

  abbrev Came : List Entry → Type 0
  Came es = CameTo task.config task.attempts es task.request front outcome

  told : IsToldReply task outcome → Came journal
  told reply = came_told task.config journal s task.attempts task.request front outcome parts.0 task.snapshot task.reads parts.1 parts.2 task reply

  kept : (key : Key) (got : Got) → task.waiting ≡ waits.Reading (asks.Get key) → got.value ≡ value_at_key (journal_rows task.config journal task.snapshot) (spelled_key key) → got.version ≡ last_writer writes_of journal task.snapshot (spelled_key key)
      → IsKeptReply task got outcome → Came journal
  kept key got waiting value writer reply = came_kept task.config journal s task.attempts task.request front outcome parts.0 task.snapshot task.reads parts.1 parts.2 task key got waiting value writer reply

  -- the journal takes no more
  full : HasNone journal task.request → is_query task.request.call ≡ false → length journal ≡ 200000 → IsStoreFull task outcome → Came journal
  full none update limit reply =
      let version : outcome.version ≡ task.snapshot = reply.version in
      let from : last_version front outcome.conflicts ≤ task.snapshot = parts.1.from in
      came_seen task.config journal s task.attempts task.request front outcome parts.0 reply.mark
      (omega (arith, last_version_above journal task.request.client front outcome.conflicts parts.0.conflicts_are.0))
      (omega (arith, parts.1.within))
      (subst (λ (r : Reply). Shows task.config journal task.request front outcome r) (sym reply.reply) (record { from = omega arith; full = limit }))
      (subst (MayTell task.request.call) (sym reply.reply) update)
      (subst (λ (r : Reply). AreAttempts task.attempts r (length outcome.conflicts)) (sym reply.reply) parts.2)
      none
      (subst (IsFileSound task.config) (sym reply.reply) tt)

  -- the entry stands at the journal's end
  made : (entry : Entry) → IsAskPending task.config task (asks.Commit entry) → (version : ℕ) → IsSoundJournal task.config (journal ++ entry ∷ []) → version ≡ length journal + 1 → IsMadeReply task version outcome → Came (journal ++ entry ∷ [])
  made entry p version grown newest reply =
      came_made task.config (journal ++ entry ∷ []) grown task.attempts task.request front outcome
      (HasMet-longer task.config journal (entry ∷ []) task.request front outcome.conflicts (λ behind e at mine. subst (IsOwnEntry task.request (last_version front outcome.conflicts) (length journal + behind)) (at_only entry behind e at) (own (length journal + behind) (omega (arith, last)))) parts.0)
      (length journal) entry (at_new journal entry) (ap (λ (q : Request). q.client) p.2) (own (length journal) last)
      (same_reply entry.reply outcome.reply (sym p.0 ∙ reply.waiting)) reply.mark (reply.version ∙ newest) parts.2
    where
      last : last_version front outcome.conflicts ≤ length journal
      last = parts.0.last

      own : (place : ℕ) → last_version front outcome.conflicts ≤ place → IsOwnEntry task.request (last_version front outcome.conflicts) place entry
      own place behind =
          record {
            number = ap (λ (q : Request). q.number) p.2;
            stamp = ap (λ (q : Request). q.stamp) p.2;
            call = ap (λ (q : Request). q.call) p.2;
            behind = behind;
          }

      same_reply : (x y : Reply) → waits.Committing x ≡ waits.Committing y → x ≡ y
      same_reply x y e = cc

-- what a new task asks first
pub starts : (C : Settings) (attempts : ℕ) (request : Request) (after : TaskView) (ask : Ask) → Asks (new_task C attempts request) answers.Start after ask → (after ≡ record (new_task C attempts request) { waiting = waits.Beginning }) × (ask ≡ asks.Begin)
starts C attempts request after asks.Begin a = (a.0, refl)
starts C attempts request after (asks.Get key) a = absurd a.goes_on
starts C attempts request after (asks.Range lo hi limit) a = absurd a.goes_on
starts C attempts request after (asks.Commit entry) a = absurd a.2
starts C attempts request after asks.Done (outcome, is, conflicts, origin) = absurd origin
starts C attempts request after ask a = absurd a

pub begins_ready : (C : Settings) (attempts : ℕ) (journal : List Entry) (request : Request) (front : ℕ) (after : TaskView) (ask : Ask) → 1 ≤ attempts → HasMetConflicts C journal request front []
    → Asks (new_task C attempts request) answers.Start after ask → IsTaskReady C attempts journal request front after ask
begins_ready C attempts journal request front after ask some met a =
    let is = starts C attempts request after ask a in
    subst (IsTaskReady C attempts journal request front after) (sym is.1)
    (subst (λ t. IsTaskReady C attempts journal request front t asks.Begin) (sym is.0) (begins C attempts journal request front some met))

-- ---- an answer

module _ (journal : List Entry) (front : ℕ) (task : TaskView) (s : IsSoundJournal task.config journal) (h : IsTaskServed task.config task.attempts journal task.request front task) where
  abbrev floor : ℕ
  floor = last_version front task.conflicts

  abbrev rows : List Row
  rows = journal_rows task.config journal task.snapshot

  -- a task that is served
  abbrev Goes : List Entry → TaskView → Type 0
  Goes es t = IsTaskServed task.config task.attempts es task.request front t

  abbrev Comes : List Entry → Outcome → Type 0
  Comes es outcome = CameTo task.config task.attempts es task.request front outcome

  abbrev Ready : List Entry → TaskView → Ask → Type 0
  Ready es t ask = IsTaskReady task.config task.attempts es task.request front t ask

  -- ---- what goes on

  -- the snapshot is the newest version
  goes_begun : (version : ℕ) → version ≡ length journal → length task.conflicts < task.attempts → Goes journal (learnt task (answers.Begun version))
  goes_begun version is left =
      record { config = refl; attempts_are = refl; request_is = refl; met = h.met; begun = λ b. (new, left) }
    where
      new : IsBegun task.config journal task.request floor version (learnt task (answers.Begun version)).reads
      new =
          record {
            from = omega (arith, h.met.last);
            within = omega arith;
            agrees = record { keys = tt; ranges = tt };
            covered = λ S good agrees. (tt, tt);
            own = λ place e at mine. omega (arith, at_within journal place e at);
          }

  -- more was read
  goes_read : (reads : ReadSet) → task.begun ≡ true → bytes.RowsAgree rows reads → AreReadsCovered task.config task.request reads → Goes journal (record task { reads = reads })
  goes_read reads begun agrees covered =
      let b = h.begun begun in
      let now : IsBegun task.config journal task.request floor task.snapshot reads = assumption (b.0, agrees, covered) in
      record { config = refl; attempts_are = refl; request_is = refl; met = h.met; begun = λ _. (now, b.1) }

  goes_got : (key : Key) (got : Got) → IsSpellable key → IsAskPending task.config task (asks.Get key) → got.value ≡ value_at_key rows (spelled_key key) → Goes journal (learnt task (answers.Got got))
  goes_got key got spelled (waiting, begun, may) value =
      let b = h.begun begun in
      subst (λ (w : Waiting). Goes journal (record task { reads = reads_with task.reads w (answers.Got got) })) (sym waiting)
      (goes_read (with_key task.reads (spelled_key key) got.value) begun
      (record { keys = KeysAgree-push rows task.reads.keys (record { key = spelled_key key; value = got.value }) b.0.agrees.keys (sym value, tt); ranges = b.0.agrees.ranges })
      (covered_key task.config task.request task.reads key got.value spelled may b.0.covered))

  goes_rows : (lo hi : List ℕ) (limit : ℕ) (page : List Row) → IsAskPending task.config task (asks.Range lo hi limit) → page ≡ rows_between rows lo hi limit → Goes journal (learnt task (answers.Rows page))
  goes_rows lo hi limit page (waiting, begun, may) value =
      let b = h.begun begun in
      subst (λ (w : Waiting). Goes journal (record task { reads = reads_with task.reads w (answers.Rows page) })) (sym waiting)
      (goes_read (with_range task.reads (record { lo = lo; hi = hi; limit = limit; rows = page })) begun
      (record { keys = b.0.agrees.keys; ranges = RangesAgree-push rows task.reads.ranges (record { lo = lo; hi = hi; limit = limit; rows = page }) b.0.agrees.ranges (sym value, tt) })
      (covered_range task.config task.request task.reads lo hi limit page may b.0.covered))

  module _ (entry : Entry) (p : IsAskPending task.config task (asks.Commit entry)) where
    abbrev attempt : IsBegun task.config journal task.request floor task.snapshot task.reads
    attempt = (h.begun p.1).0

    none : HasNone journal task.request
    none = none_sound task.config journal s task.request front task.conflicts h.met floor task.snapshot task.reads attempt entry p.2 p.3 p.4

    update : is_query task.request.call ≡ false
    update = ap (λ (q : Request). is_query q.call) (sym p.2) ∙ p.4.update

    begun_up : front ≤ task.snapshot
    begun_up =
        let up : front ≤ floor = last_version_above journal task.request.client front task.conflicts h.met.conflicts_are.0 in
        let from : floor ≤ task.snapshot = attempt.from in
        omega arith

    -- one conflict more, and the attempt is over
    met_more : (version : ℕ) (key : Key) → IsSpellable key → first_later writes_of journal task.snapshot entry.reads ≡ Some (version, spelled_key key) → HasMetConflicts task.config journal task.request front (task.conflicts ++ (version, key) ∷ [])
    met_more version key spellable later =
        let n : IsConflict task.config journal task.request floor (version, key) =
        conflict_named task.config journal task.request floor task.snapshot task.reads version key s attempt spellable
        (ap (λ (r : ReadSet). first_later writes_of journal task.snapshot r) (sym p.3) ∙ later) in
        record {
          small = h.met.small;
          front_in = h.met.front_in;
          before = h.met.before;
          since = λ place e at mine l. absurd (none place e at mine (h.met.since place e at mine l).number);
          conflicts_are = AreConflicts-push task.config journal task.request front task.conflicts (version, key) h.met.conflicts_are n;
          last = (let v : version ≡ n.0.place + 1 = n.0.version in
              omega (arith, last_version-push front task.conflicts (version, key), at_within journal n.0.place n.0.entry n.0.at));
        }

    -- it was one too many
    came_spent : (version : ℕ) (key : Key) → task.snapshot < version → HasMetConflicts task.config journal task.request front (task.conflicts ++ (version, key) ∷ []) → (outcome : Outcome) → outcome.conflicts ≡ task.conflicts ++ (version, key) ∷ []
        → AreAttemptsSpent (learnt task (answers.Conflict version key)) outcome → Comes journal outcome
    came_spent version key behind met outcome same spent =
        let seen : outcome.version ≡ task.snapshot = spent.version in
        let from : floor ≤ task.snapshot = attempt.from in
        let within : task.snapshot ≤ length journal = attempt.within in
        let last : last_version front outcome.conflicts ≡ version = ap (last_version front) same ∙ last_version-push front task.conflicts (version, key) in
        let before : version_before front outcome.conflicts ≡ floor = ap (version_before front) same ∙ version_before-push front task.conflicts (version, key) in
        came_seen task.config journal s task.attempts task.request front outcome (subst (HasMetConflicts task.config journal task.request front) (sym same) met) spent.mark (omega (arith, begun_up)) (omega arith)
        (subst (λ (r : Reply). Shows task.config journal task.request front outcome r) (sym spent.reply) (record { from = omega arith; before = omega arith }))
        (subst (MayTell task.request.call) (sym spent.reply) update)
        (subst (λ (r : Reply). AreAttempts task.attempts r (length outcome.conflicts)) (sym spent.reply) (ap (λ (ps : List (ℕ × Key)). length ps) same ∙ spent.attempts))
        none
        (subst (IsFileSound task.config) (sym spent.reply) tt)

  -- ---- the next ask, or the end

  module _ (answer : Answer) (new : List Entry) (after : TaskView) (goes : BeginsAfter answer ⊎ GoesOnAfter answer → Goes new (learnt task answer)) where
    waits_for : (w : Waiting) (ask : Ask) → Goes new (learnt task answer) → after ≡ record (learnt task answer) { waiting = w } → IsAskPending after.config after ask → Goes new after × IsAskPending task.config after ask
    waits_for w ask g is pending =
        let served : Goes new after = subst (Goes new) (sym is) (record { config = g.config; attempts_are = g.attempts_are; request_is = g.request_is; met = g.met; begun = g.begun }) in
        (served, subst (λ (C : Settings). IsAskPending C after ask) served.config pending)

    next : (ask : Ask) → ((outcome : Outcome) → outcome.conflicts ≡ (learnt task answer).conflicts → HasOrigin task (learnt task answer) answer outcome → Comes new outcome) → Asks task answer after ask → Ready new after ask
    next asks.Begin ends a = waits_for waits.Beginning asks.Begin (goes (inl a.2)) a.0 (ap (λ (t : TaskView). t.waiting) a.0, a.1, a.3)
    next (asks.Get key) ends a = waits_for (waits.Reading (asks.Get key)) (asks.Get key) (goes (inr a.goes_on)) a.is (ap (λ (t : TaskView). t.waiting) a.is, a.begun, a.touched)
    next (asks.Range lo hi limit) ends a = waits_for (waits.Reading (asks.Range lo hi limit)) (asks.Range lo hi limit) (goes (inr a.goes_on)) a.is (ap (λ (t : TaskView). t.waiting) a.is, a.begun, a.touched)
    next (asks.Commit entry) ends (is, begun, goes_on, request, reads, sound, all_read) =
        waits_for (waits.Committing entry.reply) (asks.Commit entry) (goes (inr goes_on)) is (ap (λ (t : TaskView). t.waiting) is, begun, request, reads, sound, all_read)
    next asks.Done ends (outcome, is, conflicts, origin) = (outcome, ap (λ (t : TaskView). t.outcome) is, ends outcome (conflicts ∙ ap (λ (t : TaskView). t.conflicts) is) origin)
    next ask ends a = absurd a

  -- ---- all asks

  pub answered : (new : List Entry) (ask following : Ask) (answer : Answer) (after : TaskView) → IsSoundJournal task.config new → IsAskPending task.config task ask → HasKey answer → IsAskSpellable ask → IsAnswer task.config journal new task.snapshot ask answer → Asks task answer after following
      → Ready new after following
  answered new asks.Begin following (answers.Begun version) after t p key spelled (is, newest) a =
      let g : Goes journal (learnt task (answers.Begun version)) = goes_begun version newest p.2 in
      subst (λ es. Ready es after following) (sym is)
      (next (answers.Begun version) journal after (λ _. g) following (λ outcome same origin. told journal front (learnt task (answers.Begun version)) s g outcome same refl origin) a)
  answered new (asks.Get asked) following (answers.Got got) after t p key spelled (is, value, writer) a =
      let g : Goes journal (learnt task (answers.Got got)) = goes_got asked got spelled p value in
      subst (λ es. Ready es after following) (sym is)
      (next (answers.Got got) journal after (λ _. g) following
      (λ outcome same origin. elim origin [
        | inl reply ↦ kept journal front task s h outcome same p.1 asked got p.0 value writer reply
        | inr reply ↦ told journal front (learnt task (answers.Got got)) s g outcome same p.1 reply
      ])
      a)
  answered new (asks.Range lo hi limit) following (answers.Rows page) after t p key spelled (is, value) a =
      let g : Goes journal (learnt task (answers.Rows page)) = goes_rows lo hi limit page p value in
      subst (λ es. Ready es after following) (sym is)
      (next (answers.Rows page) journal after (λ _. g) following (λ outcome same origin. told journal front (learnt task (answers.Rows page)) s g outcome same p.1 origin) a)
  answered new (asks.Commit entry) following (answers.Committed version) after t p key spelled (is, newest, free) a =
      subst (λ es. Ready es after following) (sym is)
      (next (answers.Committed version) (journal ++ entry ∷ []) after (λ goes. elim goes [ inl never ↦ absurd never | inr never ↦ absurd never ]) following
      (λ outcome same origin. made journal front task s h outcome same p.1 entry p version (subst (IsSoundJournal task.config) is t) newest origin)
      a)
  answered new (asks.Commit entry) following (answers.Conflict version met) after t p key spelled (is, later) a =
      let more : HasMetConflicts task.config journal task.request front (task.conflicts ++ (version, met) ∷ []) = met_more entry p version met key later in
      let g : Goes journal (learnt task (answers.Conflict version met)) = record { config = refl; attempts_are = refl; request_is = refl; met = more; begun = λ b. absurd (let f : false ≡ true = b in cc) } in
      subst (λ es. Ready es after following) (sym is)
      (next (answers.Conflict version met) journal after (λ _. g) following
      (λ outcome same origin. came_spent entry p version met (later_above journal task.snapshot entry.reads version (spelled_key met) later) more outcome same origin)
      a)
  answered new (asks.Commit entry) following answers.StoreFull after t p key spelled (is, free, limit) a =
      subst (λ es. Ready es after following) (sym is)
      (next answers.StoreFull journal after (λ _. h) following (λ outcome same origin. full journal front task s h outcome same p.1 (none entry p) (update entry p) limit origin) a)
  answered new ask following answer after t p key spelled is a = absurd is

-- ---- for the request whose task it is

module _ {C : Settings} {attempts : ℕ} {journal : List Entry} {request : Request} {front : ℕ} {task : TaskView} (h : IsTaskServed C attempts journal request front task) where
  by_task : (P : Settings → ℕ → Request → Type 0) → P task.config task.attempts task.request → P C attempts request
  by_task P p = subst (λ q. P C attempts q) h.request_is (subst (λ n. P C n task.request) h.attempts_are (subst (λ c. P c task.attempts task.request) h.config p))

  pub serves : (new : List Entry) (ask following : Ask) (after : TaskView) → IsSoundJournal C journal → IsSoundJournal C new → IsAskPending C task ask → IsExchange C journal new task ask after following → IsTaskReady C attempts new request front after following
  serves new ask following after s t p x =
      by_task
      (λ c n q. IsSoundJournal c journal → IsSoundJournal c new → IsTaskServed c n journal q front task → IsAskPending c task ask → IsExchange c journal new task ask after following → IsTaskReady c n new q front after following)
      (λ s' t' h' p' x'. answered journal front task s' h' new ask following x'.answer after t' p' x'.key x'.spelled x'.answered x'.asks)
      s t h p x

  -- the task tells the attempts and the request
  pub of_task : IsTaskServed C task.attempts journal task.request front task
  of_task = subst (λ n. IsTaskServed C n journal task.request front task) (sym h.attempts_are) (subst (λ q. IsTaskServed C attempts journal q front task) (sym h.request_is) h)

  pub for_request : (new : List Entry) (after : TaskView) (following : Ask) → IsTaskReady C task.attempts new task.request front after following → IsTaskReady C attempts new request front after following
  for_request new after following ready = subst (λ q. IsTaskReady C attempts new q front after following) h.request_is (subst (λ n. IsTaskReady C n new task.request front after following) h.attempts_are ready)

  -- the pending ask can be answered
  pub may_answer : (ask : Ask) → IsAskPending C task ask → MayAnswer C journal task.snapshot ask
  may_answer asks.Begin p = tt
  may_answer (asks.Get key) p = (h.begun p.1).0.within
  may_answer (asks.Range lo hi limit) p = (h.begun p.1).0.within
  may_answer (asks.Commit entry) p = ((h.begun p.1).0.within, p.4, subst (bytes.RowsAgree (journal_rows C journal task.snapshot)) (sym p.3) (h.begun p.1).0.agrees)
  may_answer ask p = absurd p

  -- an entry that waits to be committed read its footprint, and nothing else
  commit_covered : (entry : Entry) → IsAskPending C task (asks.Commit entry) → AreReadsCovered C entry.request entry.reads × HasRead C (λ T. footprint C T entry.request) entry.reads
  commit_covered entry p =
      subst (λ q. AreReadsCovered C q entry.reads × HasRead C (λ T. footprint C T q) entry.reads) (sym p.2)
      (subst (λ r. AreReadsCovered C task.request r × HasRead C (λ T. footprint C T task.request) r) (sym p.3) (subst (λ q. AreReadsCovered C q task.reads) (sym h.request_is) (h.begun p.1).0.covered, p.5))

  pub covered_on : (entry : Entry) → IsAskPending C task (asks.Commit entry) → AreCovered C journal → AreCovered C (journal ++ entry ∷ [])
  covered_on entry p all place e at = elim (at_cases journal entry place e at) [
    | inl old ↦ all place e old
    | inr new ↦ subst (λ (x : Entry). AreReadsCovered C x.request x.reads × HasRead C (λ T. footprint C T x.request) x.reads) (sym new.1) (commit_covered entry p)
  ]

by_waiting : (task : TaskView) (w : Waiting) (answer : Answer) → task.waiting ≡ w → MayTake w answer → MayTake task.waiting answer
by_waiting task w answer is h = subst (λ (x : Waiting). MayTake x answer) (sym is) h

-- and its answer is one that the task waits for
pub may_take : (C : Settings) (old new : List Entry) (task : TaskView) (ask : Ask) (answer : Answer) → IsAskPending C task ask → IsAnswer C old new task.snapshot ask answer → MayTake task.waiting answer
may_take C old new task asks.Begin (answers.Begun version) p h = by_waiting task waits.Beginning (answers.Begun version) p.0 tt
may_take C old new task (asks.Get key) (answers.Got got) p h = by_waiting task (waits.Reading (asks.Get key)) (answers.Got got) p.0 tt
may_take C old new task (asks.Range lo hi limit) (answers.Rows rows) p h = by_waiting task (waits.Reading (asks.Range lo hi limit)) (answers.Rows rows) p.0 tt
may_take C old new task (asks.Commit entry) (answers.Committed version) p h = by_waiting task (waits.Committing entry.reply) (answers.Committed version) p.0 tt
may_take C old new task (asks.Commit entry) (answers.Conflict version key) p h = by_waiting task (waits.Committing entry.reply) (answers.Conflict version key) p.0 tt
may_take C old new task (asks.Commit entry) answers.StoreFull p h = by_waiting task (waits.Committing entry.reply) answers.StoreFull p.0 tt
may_take C old new task ask answer p h = absurd h

-- ---- the store behind it

-- the store stays, or has the entry that waits
module _ (store after : Store MetaEntry) (task : TaskView) (ask : Ask) (grows : (after ≡ store) ⊎ ((entry : Entry) × (ask ≡ asks.Commit entry) × (after ≡ store_with_entry store entry))) where
  pub growth_of : (C : Settings) → IsAskPending C task ask → IsGrowthOf store after task.request
  growth_of C pending = elim grows [
    | inl same ↦ inl same
    | inr grew ↦ (let p : IsAskPending C task (asks.Commit grew.0) = subst (IsAskPending C task) grew.1 pending in inr (grew.0, grew.2, p.2))
  ]

  pub covered_after : (C : Settings) (attempts front : ℕ) (request : Request) → IsTaskServed C attempts (entries_of store.journal) request front task → IsAskPending C task ask → AreCovered C (entries_of store.journal) → AreCovered C (entries_of after.journal)
  covered_after C attempts front request h pending all = elim grows [
    | inl same ↦ subst (λ (s : Store MetaEntry). AreCovered C (entries_of s.journal)) (sym same) all
    | inr grew ↦
        subst (AreCovered C) (sym (ap (λ (s : Store MetaEntry). entries_of s.journal) grew.2 ∙ entries-push store.journal (record { entry = grew.0 })))
        (covered_on h grew.0 (subst (IsAskPending C task) grew.1 pending) all)
  ]

-- the request's entry is its client's
pub growth_by : (store after : Store MetaEntry) (request : Request) → IsGrowthOf store after request → IsGrowth store after request.client
growth_by store after request (inl same) = inl same
growth_by store after request (inr grew) = inr (grew.0, grew.1, ap (λ (q : Request). q.client) grew.2)

module _ {store after : Store MetaEntry} {client : ClientId} (growth : IsGrowth store after client) where
  pub open_grown : IsStoreOpening store → IsStoreOpening after
  open_grown begun = elim growth [
    | inl same ↦ subst IsStoreOpening (sym same) begun
    | inr grew ↦ subst IsStoreOpening (sym grew.1) (record { opening = begun.opening; tree = begun.tree })
  ]

  pub config_grown : after.config ≡ store.config
  config_grown = elim growth [
    | inl same ↦ ap (λ (s : Store MetaEntry). s.config) same
    | inr grew ↦ ap (λ (s : Store MetaEntry). s.config) grew.1
  ]
