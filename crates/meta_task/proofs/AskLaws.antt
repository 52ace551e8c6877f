-- From the small steps to what a task asks.
use Rattle.std.proofs.Common.{inl, inr, ◌≡◌, true, sym, ap, subst, ◌∙◌}
use Rattle.std.specs.Prelude.{Some}
use Rattle.conflict_sets.specs.declared.sets.Got.{Got}
use Rattle.key_schema.specs.declared.key.Key.TheVariants as keys
use Rattle.txn_task.specs.Transactions.{noted}
use Rattle.txn_task.specs.declared.messages.Answer.{Answer}
use Rattle.txn_task.specs.declared.messages.Answer.TheVariants as answers
use Rattle.txn_task.specs.declared.messages.Ask.{Ask}
use Rattle.txn_task.specs.declared.messages.Ask.TheVariants as asks
use Rattle.txn_task.specs.declared.outcome.Outcome.{Outcome}
use Rattle.path_walk.specs.Footprint.{footprint}
use Rattle.path_walk.specs.Owed.{IsNewAsk, MayAsk}
use Rattle.meta_task.specs.Steps.{GoesTo, Repeats}
use Rattle.meta_task.specs.Task.{TaskView, FitsTask, Asks, GoesOnAfter, IsToldReply, learnt, reads_with, HasOrigin}
use Rattle.meta_task.specs.declared.waiting.Waiting.{Waiting}
use Rattle.meta_task.specs.declared.waiting.Waiting.TheVariants as waits

-- ---- a look at rows

pub looks : (known : TaskView) (w : Waiting) (ask : Ask) → w ≡ waits.Reading ask → known.begun ≡ true → IsNewAsk known.reads ask → MayAsk known.config (λ T. footprint known.config T known.request) known.reads ask → GoesTo known (record known { waiting = w }) ask
looks known w (asks.Get key) is begun fresh may = record { is = ap (λ (x : Waiting). record known { waiting = x }) is; begun = begun; fresh = fresh; touched = may }
looks known w (asks.Range lo hi limit) is begun fresh may = record { is = ap (λ (x : Waiting). record known { waiting = x }) is; begun = begun; fresh = fresh; touched = may }
looks known w ask is begun fresh may = absurd fresh

-- ---- what was learnt

abbrev ended : TaskView → TaskView
ended task = record task { waiting = waits.Ended }

pub learnt_noted : (old : TaskView) (ask : Ask) (answer : Answer) → old.waiting ≡ waits.Reading ask → FitsTask (waits.Reading ask) answer → record old { waiting = waits.Ended; reads = noted old.reads ask answer } ≡ ended (learnt old answer)
learnt_noted old (asks.Get key) (answers.Got got) is fits = ap (λ (w : Waiting). record old { waiting = waits.Ended; reads = reads_with old.reads w (answers.Got got) }) (sym is)
learnt_noted old (asks.Range lo hi limit) (answers.Rows rows) is fits = ap (λ (w : Waiting). record old { waiting = waits.Ended; reads = reads_with old.reads w (answers.Rows rows) }) (sym is)
learnt_noted old ask answer is fits = absurd fits

told_ended : (task : TaskView) (outcome : Outcome) → IsToldReply (ended task) outcome → IsToldReply task outcome
told_ended task outcome h = record { told = h.told; new = h.new; all = h.all; version = h.version; mark = h.mark }

-- ---- within an attempt

origin_told : (old : TaskView) (answer : Answer) (outcome : Outcome) → GoesOnAfter answer → IsToldReply (learnt old answer) outcome → HasOrigin old (learnt old answer) answer outcome
origin_told old (answers.Begun version) outcome on h = h
origin_told old (answers.Got got) outcome on h = inr h
origin_told old (answers.Rows rows) outcome on h = h
origin_told old answer outcome on h = absurd on

goes : (old new : TaskView) (answer : Answer) (ask : Ask) → GoesOnAfter answer → GoesTo (ended (learnt old answer)) new ask → Asks old answer new ask
goes old new answer (asks.Get key) on h = record { is = h.is; begun = h.begun; goes_on = on; fresh = h.fresh; touched = h.touched }
goes old new answer (asks.Range lo hi limit) on h = record { is = h.is; begun = h.begun; goes_on = on; fresh = h.fresh; touched = h.touched }
goes old new answer (asks.Commit entry) on h = (h.0, h.1, on, h.2, h.3, h.4, h.5)
goes old new answer asks.Done on h =
    let is : new ≡ record (learnt old answer) { waiting = waits.Ended; outcome = Some h.0 } = h.1.0 in
    (h.0, is, h.1.1 ∙ sym (ap (λ (t : TaskView). t.conflicts) is), origin_told old answer h.0 on (told_ended (learnt old answer) h.0 h.2))
goes old new answer ask on h = absurd h

pub asks_next : (old known new : TaskView) (answer : Answer) (ask : Ask) → known ≡ ended (learnt old answer) → GoesOnAfter answer → GoesTo known new ask → Asks old answer new ask
asks_next old known new answer ask is on h = goes old new answer ask on (subst (λ (t : TaskView). GoesTo t new ask) is h)

-- ---- the kept reply's end

repeated : (old new : TaskView) (got : Got) (ask : Ask) → old.waiting ≡ waits.Reading (asks.Get (keys.Idem old.request.client)) → Repeats (ended (learnt old (answers.Got got))) got new ask → Asks old (answers.Got got) new ask
repeated old new got asks.Done asked h =
    let is : new ≡ record (learnt old (answers.Got got)) { waiting = waits.Ended; outcome = Some h.0 } = h.1.0 in (
      h.0,
      is,
      h.1.1 ∙ sym (ap (λ (t : TaskView). t.conflicts) is),
      inl (record {
        asked = asked;
        row = h.2.row;
        found = h.2.is.found;
        fits = h.2.is.fits;
        number = h.2.number;
        reply = h.2.reply;
        version = h.2.version;
        mark = h.2.mark;
      }),
    )
repeated old new got ask asked h = absurd h

pub asks_repeated : (old known new : TaskView) (got : Got) (ask : Ask) → known ≡ ended (learnt old (answers.Got got)) → old.waiting ≡ waits.Reading (asks.Get (keys.Idem old.request.client)) → Repeats known got new ask → Asks old (answers.Got got) new ask
asks_repeated old known new got ask is asked h = repeated old new got ask asked (subst (λ (t : TaskView). Repeats t got new ask) is h)
