-- What one event asks, and what it comes to.
use Rattle.std.proofs.Common.{◌≡◌, ℕ, ◌+◌, ◌⊎◌, Bool, true, false, List, [], ◌∷◌, ◌++◌, Option, Some, None, inl, inr, length, refl, sym, ap, subst, ◌∙◌, arith}
use Rattle.std.specs.Prelude.{MatchBool}
use Rattle.std.proofs.lemmas.List.{length_push}
use Rattle.std.proofs.lemmas.Option.{same_Some}
use Rattle.fs_base.specs.Config.{Settings}
use Rattle.key_schema.specs.declared.key.Key.{Key}
use Rattle.txn_task.specs.declared.messages.Answer.{Answer}
use Rattle.txn_task.specs.declared.messages.Answer.TheVariants as answers
use Rattle.txn_task.specs.declared.messages.Ask.{Ask}
use Rattle.txn_task.specs.declared.messages.Ask.TheVariants as asks
use Rattle.txn_task.specs.declared.messages.Entry.{Entry}
use Rattle.txn_task.specs.declared.outcome.Outcome.{Outcome}
use Rattle.txn_task.specs.declared.outcome.Receipt.{Receipt}
use Rattle.meta_task.specs.Task.{TaskView, Asks, HasOrigin, learnt, new_task}
use Rattle.meta_task.specs.declared.waiting.Waiting.TheVariants as waits
use Rattle.fs_base.specs.declared.call.Request.{Request}
use Rattle.client_core.specs.Client.{ClientView, end_call}
use Rattle.client_core.specs.declared.messages.ClientAsk.TheVariants as client_asks
use Rattle.run_record.specs.Receipts.{fronts_of, outcome_of}
use Rattle.run_record.specs.declared.run.Listed.{Listed}
use Rattle.request_run.specs.Answered.{IsAnswer}
use Rattle.seat_turns.specs.Events.{Comes, HasLearned, IsAtWork}
use Rattle.seat_turns.specs.Ready.{is_done}
use Rattle.seat_turns.specs.declared.seats.Seat.{Seat}
use Rattle.seat_turns.specs.declared.seats.Work.{Work}
use Rattle.event_laws.specs.Moments.{is_begin, next_ask}
use Rattle.event_laws.proofs.Stopped.{call_front}

-- ---- the request whose ask is answered

-- a call that goes on keeps its front; a new one begins here
abbrev pub begun_at : ℕ → Option ℕ → ℕ
begun_at count None = count
begun_at count (Some front) = front

-- the one that was under way, or one that is sent: for the first time, or again
abbrev pub IsAsked : ℕ → Option Work → Option ℕ → Work → Type 0
IsAsked count (Some before) again work = work ≡ before
IsAsked count None again work = (work.ask ≡ asks.Begin) × (work.front ≡ begun_at count again) × (work.task.conflicts ≡ [])

sent_now : (C : Settings) (attempts count : ℕ) (request : Request) (server front : ℕ) (again : Option ℕ) (work : Work) → front ≡ begun_at count again
    → work ≡ record { task = record (new_task C attempts request) { waiting = waits.Beginning }; ask = asks.Begin; server = server; front = front } → IsAsked count None again work
sent_now C attempts count request server front again work begun same =
    (ap (λ (x : Work). x.ask) same, ap (λ (x : Work). x.front) same ∙ begun, ap (λ (x : Work). x.task.conflicts) same)

pub asked : (C : Settings) (attempts count : ℕ) (before sent : Seat) (w : Option Work) (again : Option ℕ) (work : Work) → before.work ≡ w → IsAtWork C attempts count before sent w again → sent.work ≡ Some work → IsAsked count w again work
asked C attempts count before sent (Some w) again work is h there = same_Some work w (sym there ∙ (ap (λ (s : Seat). s.work) h ∙ is))
asked C attempts count before sent None (Some front) work is h there =
    sent_now C attempts count h.request h.request.server front (Some front) work refl (same_Some work _ (sym there ∙ ap (λ (s : Seat). s.work) h.sends))
asked C attempts count before sent None None work is h there =
    sent_now C attempts count h.request h.server count None work refl (same_Some work _ (sym there ∙ h.work))

pub asked_next : (count : ℕ) (w : Option Work) (again : Option ℕ) (work : Work) → IsAsked count w again work → work.ask ≡ next_ask w
asked_next count None again work h = h.0
asked_next count (Some w) again work h = ap (λ (x : Work). x.ask) h

pub sent_receipts : (C : Settings) (attempts count : ℕ) (before sent : Seat) (w : Option Work) (again : Option ℕ) → IsAtWork C attempts count before sent w again → sent.receipts ≡ before.receipts
sent_receipts C attempts count before sent (Some w) again h = ap (λ (s : Seat). s.receipts) h
sent_receipts C attempts count before sent None (Some front) h = ap (λ (s : Seat). s.receipts) h.sends
sent_receipts C attempts count before sent None None h = h.receipts

-- ---- the snapshot after the answer

asks_snapshot : (old new : TaskView) (answer : Answer) (ask : Ask) → Asks old answer new ask → new.snapshot ≡ (learnt old answer).snapshot
asks_snapshot old new answer asks.Begin h = ap (λ (t : TaskView). t.snapshot) h.0
asks_snapshot old new answer (asks.Get key) h = ap (λ (t : TaskView). t.snapshot) h.is
asks_snapshot old new answer (asks.Range lo hi limit) h = ap (λ (t : TaskView). t.snapshot) h.is
asks_snapshot old new answer (asks.Commit entry) h = ap (λ (t : TaskView). t.snapshot) h.0
asks_snapshot old new answer asks.Done h = ap (λ (t : TaskView). t.snapshot) h.1
asks_snapshot old new answer ask h = absurd h

-- a Begin is answered with the journal's length
pub begun_answer : (C : Settings) (old new : List Entry) (snapshot : ℕ) (answer : Answer) → IsAnswer C old new snapshot asks.Begin answer → answer ≡ answers.Begun (length old)
begun_answer C old new snapshot (answers.Begun version) h = ap (λ n. answers.Begun n) h.1
begun_answer C old new snapshot answer h = absurd h

-- the journal's length where the ask was a Begin, and else as it was
abbrev pub IsSnapshot : ℕ → ℕ → ℕ → Ask → Type 0
IsSnapshot count before after ask = MatchBool (is_begin ask) (after ≡ count) (after ≡ before)

answer_snapshot : (C : Settings) (old new : List Entry) (task : TaskView) (ask : Ask) (answer : Answer) → IsAnswer C old new task.snapshot ask answer → IsSnapshot (length old) task.snapshot (learnt task answer).snapshot ask
answer_snapshot C old new task asks.Begin (answers.Begun version) h = h.1
answer_snapshot C old new task (asks.Get key) (answers.Got got) h = refl
answer_snapshot C old new task (asks.Range lo hi limit) (answers.Rows rows) h = refl
answer_snapshot C old new task (asks.Commit entry) (answers.Committed version) h = refl
answer_snapshot C old new task (asks.Commit entry) (answers.Conflict version key) h = refl
answer_snapshot C old new task (asks.Commit entry) answers.StoreFull h = refl
answer_snapshot C old new task ask answer h = absurd h

pub after_snapshot : (C : Settings) (old new : List Entry) (task after : TaskView) (ask next : Ask) (answer : Answer) → IsAnswer C old new task.snapshot ask answer → Asks task answer after next → IsSnapshot (length old) task.snapshot after.snapshot ask
after_snapshot C old new task after ask next answer answered h = subst (λ n. IsSnapshot (length old) task.snapshot n ask) (sym (asks_snapshot task after answer next h)) (answer_snapshot C old new task ask answer answered)

-- ---- the conflicts after the answer

asks_conflicts : (old new : TaskView) (answer : Answer) (ask : Ask) → Asks old answer new ask → new.conflicts ≡ (learnt old answer).conflicts
asks_conflicts old new answer asks.Begin h = ap (λ (t : TaskView). t.conflicts) h.0
asks_conflicts old new answer (asks.Get key) h = ap (λ (t : TaskView). t.conflicts) h.is
asks_conflicts old new answer (asks.Range lo hi limit) h = ap (λ (t : TaskView). t.conflicts) h.is
asks_conflicts old new answer (asks.Commit entry) h = ap (λ (t : TaskView). t.conflicts) h.0
asks_conflicts old new answer asks.Done h = ap (λ (t : TaskView). t.conflicts) h.1
asks_conflicts old new answer ask h = absurd h

-- a commit was refused so, and is among the conflicts now
pub record IsRefused (old : TaskView) (conflicts : List (ℕ × Key)) (ask : Ask) (answer : Answer) : Type 0 where
  pub pair : ℕ × Key
  pub entry : Entry
  pub commits : ask ≡ asks.Commit entry
  pub told : answer ≡ answers.Conflict pair.0 pair.1
  pub more : conflicts ≡ old.conflicts ++ pair ∷ []

-- they are as they were, or one more
answer_conflicts : (C : Settings) (old new : List Entry) (task : TaskView) (ask : Ask) (answer : Answer) → IsAnswer C old new task.snapshot ask answer
    → ((learnt task answer).conflicts ≡ task.conflicts) ⊎ IsRefused task (learnt task answer).conflicts ask answer
answer_conflicts C old new task asks.Begin (answers.Begun version) h = inl refl
answer_conflicts C old new task (asks.Get key) (answers.Got got) h = inl refl
answer_conflicts C old new task (asks.Range lo hi limit) (answers.Rows rows) h = inl refl
answer_conflicts C old new task (asks.Commit entry) (answers.Committed version) h = inl refl
answer_conflicts C old new task (asks.Commit entry) (answers.Conflict version key) h = inr (record { pair = (version, key); entry = entry; commits = refl; told = refl; more = refl })
answer_conflicts C old new task (asks.Commit entry) answers.StoreFull h = inl refl
answer_conflicts C old new task ask answer h = absurd h

pub after_conflicts : (C : Settings) (old new : List Entry) (task after : TaskView) (ask next : Ask) (answer : Answer) → IsAnswer C old new task.snapshot ask answer → Asks task answer after next
    → (after.conflicts ≡ task.conflicts) ⊎ IsRefused task after.conflicts ask answer
after_conflicts C old new task after ask next answer answered h =
    subst (λ (pairs : List (ℕ × Key)). (pairs ≡ task.conflicts) ⊎ IsRefused task pairs ask answer) (sym (asks_conflicts task after answer next h)) (answer_conflicts C old new task ask answer answered)

-- ---- what it comes to

-- the request that is under way afterwards
pub work_after : (C : Settings) (k : ℕ) (before after : Seat) (work later : Work) (stop : Option ℕ) (done : Bool) → Comes C k before after work stop done → after.work ≡ Some later → later ≡ work
work_after C k before after work later (Some stop) done h at = absurd (let none : None ≡ Some later = sym (ap (λ (s : Seat). s.work) h) ∙ at in cc)
work_after C k before after work later None false h at = same_Some later work (sym at ∙ ap (λ (s : Seat). s.work) h)
work_after C k before after work later None true h at = absurd (let none : None ≡ Some later = sym h.work ∙ at in cc)

-- the call that is under way afterwards, if it has not ended: it keeps its front where a stop takes its request away
pub front_after : (C : Settings) (k : ℕ) (before after : Seat) (work : Work) (front : ℕ) (stop : Option ℕ) (done : Bool) → Comes C k before after work stop done → call_front after.work after.again ≡ Some front → front ≡ work.front
front_after C k before after work front (Some stop) done h at = same_Some front work.front (sym at ∙ ap (λ (s : Seat). call_front s.work s.again) h)
front_after C k before after work front None false h at = same_Some front work.front (sym at ∙ ap (λ (s : Seat). call_front s.work s.again) h)
front_after C k before after work front None true h at =
    absurd (let none : None ≡ Some front = sym (ap (λ (w : Option Work). call_front w after.again) h.work ∙ h.again) ∙ at in cc)

same_last : {X : Type 0} (xs : List X) (x y : X) → xs ++ x ∷ [] ≡ xs ++ y ∷ [] → x ≡ y
same_last [] x y e = cc
same_last {X} (z ∷ xs) x y e = let rest : xs ++ x ∷ [] ≡ xs ++ y ∷ [] = cc in same_last xs x y rest

no_more : (xs : List Listed) (x : Listed) → xs ≡ xs ++ x ∷ [] → ⊥
no_more xs x e = let more : length xs ≡ length (xs ++ x ∷ []) = ap (λ (l : List Listed). length l) e in omega (arith, length_push xs x)

-- a receipt more is that of the outcome
pub record HasListed (C : Settings) (k : ℕ) (before after : Seat) (work : Work) (listed : Listed) (done : Bool) : Type 0 where
  pub ended : done ≡ true
  pub learned : HasLearned C k before after work.server work.front work.task
  pub fronts : listed.fronts ≡ fronts_of C work.front
  pub receipt : listed.receipt ≡ learned.receipt

pub listed_after : (C : Settings) (k : ℕ) (before after : Seat) (work : Work) (listed : Listed) (stop : Option ℕ) (done : Bool) → Comes C k before after work stop done → after.receipts ≡ before.receipts ++ listed ∷ [] → HasListed C k before after work listed done
listed_after C k before after work listed (Some stop) done h more = absurd (no_more before.receipts listed (sym (ap (λ (s : Seat). s.receipts) h) ∙ more))
listed_after C k before after work listed None false h more = absurd (no_more before.receipts listed (sym (ap (λ (s : Seat). s.receipts) h) ∙ more))
listed_after C k before after work listed None true h more =
    let same : listed ≡ _ = same_last before.receipts listed _ (sym more ∙ h.receipts) in
    record { ended = refl; learned = h; fronts = ap (λ (l : Listed). l.fronts) same; receipt = ap (λ (l : Listed). l.receipt) same }

-- the receipts are as they were, or one more
pub receipts_after : (C : Settings) (k : ℕ) (before after : Seat) (work : Work) (stop : Option ℕ) (done : Bool) → Comes C k before after work stop done → (after.receipts ≡ before.receipts) ⊎ ((listed : Listed) × (after.receipts ≡ before.receipts ++ listed ∷ []))
receipts_after C k before after work (Some stop) done h = inl (ap (λ (s : Seat). s.receipts) h)
receipts_after C k before after work None false h = inl (ap (λ (s : Seat). s.receipts) h)
receipts_after C k before after work None true h = inr (_, h.receipts)

pub receipt_outcome : (c : ClientView) (server : ℕ) (outcome : Outcome) (o : Option Request) (receipt : Receipt) → client_asks.CallEnd (receipt ∷ []) true ≡ (end_call c server outcome o).1 → outcome_of receipt ≡ outcome
receipt_outcome c server outcome None receipt e = absurd (cc)
receipt_outcome c server outcome (Some request) receipt e = cc

-- ---- where the outcome comes from

pub done_origin : (old new : TaskView) (answer : Answer) (ask : Ask) → is_done ask ≡ true → Asks old answer new ask → (outcome : Outcome) × (new.outcome ≡ Some outcome) × HasOrigin old (learnt old answer) answer outcome × (outcome.conflicts ≡ new.conflicts)
done_origin old new answer asks.Done is h = (h.0, ap (λ (t : TaskView). t.outcome) h.1, h.3, h.2)
done_origin old new answer ask is h = absurd (cc)

pub uncommitted : (old new : TaskView) (answer : Answer) (outcome : Outcome) → HasOrigin old new answer outcome → outcome.committed ≡ false → outcome.version ≡ new.snapshot
uncommitted old new (answers.Begun version) outcome h none = h.version
uncommitted old new (answers.Got got) outcome h none = elim h [ inl kept ↦ absurd (let mark : true ≡ false = sym kept.mark ∙ none in cc) | inr told ↦ told.version ]
uncommitted old new (answers.Rows rows) outcome h none = h.version
uncommitted old new (answers.Committed version) outcome h none = absurd (let mark : true ≡ false = sym h.mark ∙ none in cc)
uncommitted old new (answers.Conflict version key) outcome h none = h.version
uncommitted old new answers.StoreFull outcome h none = h.version
uncommitted old new answer outcome h none = absurd h

pub done_snapshot : (old new : TaskView) (answer : Answer) (ask : Ask) → Asks old answer new ask → (learnt old answer).snapshot ≡ new.snapshot
done_snapshot old new answer ask h = sym (asks_snapshot old new answer ask h)
