-- What an answer fits, what is noted of it, and what is asked then.
use Rattle.std.proofs.Common.{inl, inr, ◌≡◌, sym, ap, subst, ◌∙◌}
use Rattle.std.specs.Prelude.{Option, Some, None, ◌⊎◌}
use Rattle.conflict_sets.specs.declared.sets.Got.{Got}
use Rattle.conflict_sets.specs.declared.sets.ReadSet.{ReadSet}
use Rattle.key_schema.specs.declared.key.Key.TheVariants as keys
use Rattle.txn_task.specs.Transactions.{Transaction, noted}
use Rattle.txn_task.specs.declared.messages.Answer.{Answer}
use Rattle.txn_task.specs.declared.messages.Answer.TheVariants as answers
use Rattle.txn_task.specs.declared.messages.Ask.{Ask}
use Rattle.txn_task.specs.declared.messages.Ask.TheVariants as asks
use Rattle.meta_task.specs.State.{view_of, IsAskingKept, IsAnswerNoted, IsReading, IsOpUnderWay}
use Rattle.meta_task.specs.Steps.{IsReadPending, GoesTo, Repeats}
use Rattle.meta_task.specs.Task.{FitsTask, Asks, GoesOnAfter, learnt}
use Rattle.meta_task.specs.declared.op.OpTask.{OpTask}
use Rattle.meta_task.specs.declared.state.State.{State}
use Rattle.meta_task.specs.declared.waiting.Waiting.{Waiting}
use Rattle.meta_task.specs.declared.waiting.Waiting.TheVariants as waits
use Rattle.meta_task.proofs.AskLaws.{asks_next, asks_repeated}
use Rattle.meta_task.proofs.UnderLaws.{under_more}

-- ---- what is noted

kept_noted : (s : State) (w : Waiting) (t : Transaction) (ask : Ask) (answer : Answer) → IsAskingKept s.request s.txn.reads ask → s.waiting ≡ waits.Reading ask → t.reads ≡ noted s.txn.reads ask answer
    → FitsTask (waits.Reading (asks.Get (keys.Idem s.request.client))) answer → IsAnswerNoted None s (record s { waiting = w; txn = t }) answer
kept_noted s w t ask (answers.Got got) h waiting is fits =
    (h.update, is ∙ (λ i. noted (h.reads_are i) (h.key i) (answers.Got got)), waiting ∙ ap waits.Reading h.key)
kept_noted s w t ask answer h waiting is fits = absurd fits

pub state_noted : (s : State) (w : Waiting) (t : Transaction) (ask : Ask) (answer : Answer) (o : Option OpTask) → IsReading s.config s.request s.txn.reads ask o → s.waiting ≡ waits.Reading ask → FitsTask (waits.Reading ask) answer
    → t.reads ≡ noted s.txn.reads ask answer → IsAnswerNoted o s (record s { waiting = w; txn = t }) answer
state_noted s w t ask answer (Some op) h waiting fits is = subst (λ (r : ReadSet). IsOpUnderWay s.config s.request r op) (sym is) (under_more s.config s.request s.txn.reads ask answer op h.under)
state_noted s w t ask answer None h waiting fits is =
    kept_noted s w t ask answer h waiting is
    (subst (λ (a : Ask). FitsTask (waits.Reading a) answer) h.key fits)

-- ---- what is asked then

on_reading : (ask : Ask) (answer : Answer) → FitsTask (waits.Reading ask) answer → GoesOnAfter answer
on_reading (asks.Get key) (answers.Got got) fits = tt
on_reading (asks.Range lo hi limit) (answers.Rows rows) fits = tt
on_reading ask answer fits = absurd fits

pub on_pending : (w : Waiting) (answer : Answer) → IsReadPending w → FitsTask w answer → GoesOnAfter answer
on_pending (waits.Reading ask) answer pending fits = on_reading ask answer fits
on_pending w answer pending fits = absurd pending

pub asks_kept : (s mid new : State) (answer : Answer) (got : Got) (ask : Ask) → mid.op ≡ None → answer ≡ answers.Got got → view_of mid ≡ record (learnt (view_of s) answer) { waiting = waits.Ended }
    → IsAnswerNoted mid.op s mid answer → GoesTo (view_of mid) (view_of new) ask ⊎ Repeats (view_of mid) got (view_of new) ask → Asks (view_of s) answer (view_of new) ask
asks_kept s mid new answer got ask none is known noted h = subst (λ (a : Answer). Asks (view_of s) a (view_of new) ask) (sym is) (by_either h)
  where
    known_got : view_of mid ≡ record (learnt (view_of s) (answers.Got got)) { waiting = waits.Ended }
    known_got = subst (λ (a : Answer). view_of mid ≡ record (learnt (view_of s) a) { waiting = waits.Ended }) is known

    noted_got : IsAnswerNoted None s mid (answers.Got got)
    noted_got = subst (λ (a : Answer). IsAnswerNoted None s mid a) is (subst (λ (o : Option OpTask). IsAnswerNoted o s mid answer) none noted)

    by_either : GoesTo (view_of mid) (view_of new) ask ⊎ Repeats (view_of mid) got (view_of new) ask → Asks (view_of s) (answers.Got got) (view_of new) ask
    by_either (inl goes) = asks_next (view_of s) (view_of mid) (view_of new) (answers.Got got) ask known_got tt goes
    by_either (inr repeats) = asks_repeated (view_of s) (view_of mid) (view_of new) got ask known_got noted_got.2 repeats
