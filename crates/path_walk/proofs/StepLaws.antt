-- Steps of an operation, by its areas and its effect in all well-formed rows that agree with the reads.
use Rattle.std.proofs.Common.{◌≡◌, List, [], ◌∷◌, ◌++◌, refl, subst, sym, ap, ◌∙◌, inl, ℕ, map}
use Rattle.std.proofs.lemmas.Bool.{and_parts}
use Rattle.byte_fields.specs.Fields.{time}
use Rattle.conflict_sets.specs.declared.sets.ReadSet.{ReadSet}
use Rattle.fs_base.specs.Config.{Settings}
use Rattle.fs_base.specs.declared.call.Call.{Call}
use Rattle.fs_base.specs.declared.call.Request.{Request}
use Rattle.fs_base.specs.declared.code.Code.{Code}
use Rattle.fs_base.specs.declared.path.Path.{Path}
use Rattle.fs_base.specs.declared.reply.Reply.{Reply}
use Rattle.key_schema.specs.declared.key.Key.{Key}
use Rattle.row_records.specs.Calls.{call, stamped_call, is_call}
use Rattle.row_tree.specs.TreeOf.{tree_of}
use Rattle.tree_model.specs.Effects.{Effect, at_length, on_path, refuses, settled_by}
use Rattle.tree_model.specs.Tree.{Tree}
use Rattle.txn_task.specs.Transactions.{Transaction, noted}
use Rattle.txn_task.specs.declared.messages.Answer.{Answer}
use Rattle.txn_task.specs.Wanted.{IsUnread}
use Rattle.txn_task.specs.declared.messages.Ask.{Ask}
use Rattle.txn_task.specs.declared.messages.Ask.TheVariants as asks
use Rattle.txn_task.specs.declared.messages.OpStep.{OpStep}
use Rattle.txn_task.specs.declared.messages.OpStep.TheVariants as steps
use Rattle.txn_task.proofs.TxnLaws.{agrees_noted}
use Rattle.path_walk.specs.Areas.{Area, OneKey, AreRead, IsNextOf, visited, trip_areas}
use Rattle.path_walk.specs.Owed.{IsJustified, IsNewAsk, IsOpStep, HasDone, HasRead, MayAsk, KeepsEffect, KeepsAreas, IsKeptBefore, HasStepped}
use Rattle.path_walk.proofs.AreaLaws.{read_both, next_behind, append_twice, are_read_more, seen_read, areas_after}
use Rattle.std.specs.Prelude.{IsTrue, Option, Some, None, Result, Ok, Err}
use Rattle.tree_model.specs.declared.walk.WalkEnd.{WalkEnd}
use Rattle.tree_model.specs.declared.walk.Walked.{Walked}
use Rattle.tree_model.specs.declared.walk.Walked.TheVariants.{Stopped}
use Rattle.tree_model.specs.Walk.{Trip, resolve, stay, travel, visiting}
use Rattle.path_walk.specs.Footprint.{on_words, unless_fault}
use Rattle.path_walk.specs.Stages.{does, looks}
use Rattle.path_walk.specs.Walks.{KeepsTrip, HasEnd, IsTripAsk}
use Rattle.path_walk.proofs.WalkLaws.{same_end}

-- ---- fewer areas, of which some were read

pub may_behind : (C : Settings) (areas fewer : Tree → List Area) (reads : ReadSet) (ask : Ask) → KeepsAreas C areas fewer reads → MayAsk C fewer reads ask → MayAsk C areas reads ask
may_behind C areas fewer reads ask less may S good agrees =
    let left = less S good agrees in
    subst (λ (l : List Area). IsNextOf reads l ask) (sym left.2) (next_behind reads left.0 (fewer (tree_of S)) ask left.1 (may S good agrees))

pub read_behind : (C : Settings) (areas fewer : Tree → List Area) (reads : ReadSet) → KeepsAreas C areas fewer reads → HasRead C fewer reads → HasRead C areas reads
read_behind C areas fewer reads less all S good agrees =
    let left = less S good agrees in
    subst (AreRead reads) (sym left.2) (read_both reads left.0 (fewer (tree_of S)) left.1 (all S good agrees))

pub areas_on : (C : Settings) (first second third : Tree → List Area) (reads : ReadSet) → KeepsAreas C first second reads → KeepsAreas C second third reads → KeepsAreas C first third reads
areas_on C first second third reads here there S good agrees =
    let x = here S good agrees in
    let y = there S good agrees in
    (x.0 ++ y.0, read_both reads x.0 y.0 x.1 y.1, x.2 ∙ ap (λ (l : List Area). x.0 ++ l) y.2 ∙ sym (append_twice x.0 y.0 (third (tree_of S))))

-- a step of fewer areas with an effect f is a step of all with an effect g that is the same in all well-formed rows that agree
pub step_as : (C : Settings) (areas fewer : Tree → List Area) (g f : Tree → Effect) (t : Transaction) (step : OpStep) → KeepsAreas C areas fewer t.reads → KeepsEffect C g f t.reads → IsOpStep C fewer f t step → IsOpStep C areas g t step
step_as C areas fewer g f t (steps.Ask ask) less same step = (step.0, may_behind C areas fewer t.reads ask less step.1)
step_as C areas fewer g f t (steps.Reply reply) less same told = (read_behind C areas fewer t.reads less told.0, λ S good agrees. sym (same S good agrees) ∙ told.1 S good agrees)
step_as C areas fewer g f t (steps.Commit reply asked) less same made = (
  read_behind C areas fewer t.reads less made.0,
  record {
    sound = λ S good agrees. let done = made.1.sound S good agrees in (done.0, done.1, done.2, ap (at_length (settled_by reply)) (sym (same S good agrees)) ∙ done.3);
    writes = made.1.writes;
    no_kept = made.1.no_kept;
    changes = made.1.changes;
    reply_fits = made.1.reply_fits;
    none_asked = made.1.none_asked;
  },
)

pub done_as : (C : Settings) (areas fewer : Tree → List Area) (g f : Tree → Effect) (before after : Transaction) (step : OpStep) → KeepsAreas C areas fewer before.reads → KeepsEffect C g f before.reads → HasDone C fewer f before after step → HasDone C areas g before after step
done_as C areas fewer g f before after step less same done = record {
  reads = done.reads;
  snapshot = done.snapshot;
  versions = done.versions;
  step = step_as C areas fewer g f after step (subst (KeepsAreas C areas fewer) (sym done.reads) less) (subst (KeepsEffect C g f) (sym done.reads) same) done.step;
  unwritten = done.unwritten;
}

-- ---- steps that leave the transaction

module _ (C : Settings) (areas : Tree → List Area) (effect : Tree → Effect) (t : Transaction) (none : t.writes ≡ []) where
  pub tells : (reply : Reply) → HasRead C areas t.reads → IsJustified C effect t.reads reply → HasDone C areas effect t t (steps.Reply reply)
  tells reply all told = record { reads = refl; snapshot = refl; versions = refl; step = (all, told); unwritten = none }

  pub asks_for : (ask : Ask) → IsNewAsk t.reads ask → MayAsk C areas t.reads ask → HasDone C areas effect t t (steps.Ask ask)
  asks_for ask new may = record { reads = refl; snapshot = refl; versions = refl; step = (new, may); unwritten = none }

  -- for a key behind areas that were read
  pub asks_key : (key wanted : Key) (later : Tree → List Area) → (key ≡ wanted) × IsUnread t.reads wanted → KeepsAreas C areas (λ T. OneKey wanted ∷ later T) t.reads → HasDone C areas effect t t (steps.Ask (asks.Get key))
  asks_key key wanted later unread behind =
      asks_for (asks.Get key) (subst (IsUnread t.reads) (sym unread.0) unread.1) (may_behind C areas (λ T. OneKey wanted ∷ later T) t.reads (asks.Get key) behind (λ S good agrees. inl unread))

-- ---- what holds for what was read holds when more was read

module _ (C : Settings) (reads : ReadSet) (ask : Ask) (answer : Answer) where
  pub effect_more : (old new : Tree → Effect) → KeepsEffect C old new reads → KeepsEffect C old new (noted reads ask answer)
  effect_more old new same S good agrees = same S good (agrees_noted S reads ask answer agrees)

  pub areas_more : (old new : Tree → List Area) → KeepsAreas C old new reads → KeepsAreas C old new (noted reads ask answer)
  areas_more old new less S good agrees =
      let left = less S good (agrees_noted S reads ask answer agrees) in
      (left.0, are_read_more reads ask answer left.0 left.1, left.2)

pub kept_before_more : (reads : ReadSet) (ask : Ask) (answer : Answer) (q : Request) → IsKeptBefore reads q → IsKeptBefore (noted reads ask answer) q
kept_before_more reads ask answer q before S agrees = before S (agrees_noted S reads ask answer agrees)

module _ (C : Settings) (at : Tree → Walked → List Area) (effect : Tree → Walked → Effect) (reads : ReadSet) where
  pub keeps_looks : (old new : Tree → Trip) → KeepsTrip old new reads → KeepsAreas C (looks at old) (looks at new) reads
  keeps_looks old new keeps S good agrees =
      let k = keeps C S good agrees in (
        map visited k.0,
        seen_read reads k.0 k.1,
        ap (λ (trip : Trip). trip_areas trip (at (tree_of S))) k.2 ∙ areas_after (at (tree_of S)) k.0 (new (tree_of S)),
      )

  pub keeps_does : (old new : Tree → Trip) → KeepsTrip old new reads → KeepsEffect C (does effect old) (does effect new) reads
  keeps_does old new keeps S good agrees = ap (effect (tree_of S)) (same_end old new reads keeps C S good agrees)

  -- an ask on the way
  pub way_asks_new : (trip : Tree → Trip) (ask : Ask) → IsTripAsk trip reads ask → IsNewAsk reads ask
  way_asks_new trip (asks.Get key) h = h.0
  way_asks_new trip ask h = absurd h

  pub way_may_ask : (trip : Tree → Trip) (ask : Ask) → IsTripAsk trip reads ask → MayAsk C (looks at trip) reads ask
  way_may_ask trip (asks.Get key) h S good agrees =
      let k = h.1 C S good agrees in
      let rest : Trip = visiting k.1 k.2 in
      subst (λ (l : List Area). IsNextOf reads l (asks.Get key)) (sym (ap (λ (t : Trip). trip_areas t (at (tree_of S))) k.5 ∙ areas_after (at (tree_of S)) k.0 rest))
      (next_behind reads (map visited k.0) (trip_areas rest (at (tree_of S))) (asks.Get key) (seen_read reads k.0 k.3) (inl (sym k.4, subst (IsUnread reads) (sym k.4) h.0)))
  way_may_ask trip ask h S good agrees = absurd h

-- ---- steps of a call whose way is kept

module _ (C : Settings) (at : Tree → Walked → List Area) (effect : Tree → Walked → Effect) (t : Transaction) (old new : Tree → Trip) (keeps : KeepsTrip old new t.reads) where
  -- the way asks
  pub way_asks : t.writes ≡ [] → (ask : Ask) → IsTripAsk new t.reads ask → HasStepped C (looks at old) (looks at new) (does effect old) (does effect new) t t (steps.Ask ask)
  way_asks none ask asked = record {
    effect = keeps_does C at effect t.reads old new keeps;
    areas = keeps_looks C at effect t.reads old new keeps;
    done = record {
      reads = refl;
      snapshot = refl;
      versions = refl;
      step = (way_asks_new C at effect t.reads new ask asked, way_may_ask C at effect t.reads new ask asked);
      unwritten = none;
    };
  }

  -- a step where the way ends
  pub way_ends : (walked : Walked) → HasEnd new t.reads walked → (after : Transaction) (step : OpStep) → HasDone C (λ T. at T walked) (λ T. effect T walked) t after step → HasStepped C (looks at old) (looks at new) (does effect old) (does effect new) t after step
  way_ends walked end after step done = record {
    effect = keeps_does C at effect t.reads old new keeps;
    areas = keeps_looks C at effect t.reads old new keeps;
    done = done_as C (looks at new) (λ T. at T walked) (does effect new) (λ T. effect T walked) t after step
        (keeps_looks C at effect t.reads new (λ T. stay walked) end)
        (keeps_does C at effect t.reads new (λ T. stay walked) end)
        done;
  }

-- a step of a way that began as another is one of that other
pub begun_done : (C : Settings) (at : Tree → Walked → List Area) (effect : Tree → Walked → Effect) (trip old new : Tree → Trip) (t after : Transaction) (step : OpStep) → ((T : Tree) → old T ≡ trip T)
    → HasStepped C (looks at old) (looks at new) (does effect old) (does effect new) t after step → HasDone C (looks at trip) (does effect trip) t after step
begun_done C at effect trip old new t after step starts stepped =
    done_as C (looks at trip) (looks at new) (does effect trip) (does effect new) t after step
    (λ S good agrees. let left = stepped.areas S good agrees in (left.0, left.1, sym (ap (λ (way : Trip). trip_areas way (at (tree_of S))) (starts (tree_of S))) ∙ left.2))
    (λ S good agrees. stepped.effect S good agrees ∙ ap (λ (way : Trip). effect (tree_of S) way.end) (starts (tree_of S)))
    stepped.done

-- ---- how a call begins

abbrev pub or_fault : Option Code → Effect → Effect
or_fault None effect = effect
or_fault (Some code) effect = refuses code

-- words that are refused stop the call, and else it comes to what it does where its walk ends
pub from_words : (effect : Walked → Effect) → ((code : Code) → effect (Stopped code) ≡ refuses code) → (T : Tree) (base : ℕ) (end : WalkEnd) (words : Result Path Code) (fault : Option Code)
    → effect (on_words words (λ path. unless_fault fault (travel T base path end))).end ≡ on_path words (λ path. or_fault fault (effect (resolve T base path end)))
from_words effect stops T base end (Err code) fault = stops code
from_words effect stops T base end (Ok path) None = refl
from_words effect stops T base end (Ok path) (Some code) = stops code

-- the same for each path
pub same_path : (r : Result Path Code) (f g : Path → Effect) → ((path : Path) → f path ≡ g path) → on_path r f ≡ on_path r g
same_path (Ok path) f g same = same path
same_path (Err code) f g same = refl

-- a request's time is one that a row may have
pub stamp_fits : (stamp : ℕ) (what : Call) → IsTrue (is_call (stamp, what)) → IsTrue (time.fits stamp)
unfolding stamped_call
stamp_fits stamp what fits = (and_parts (time.fits stamp) (call.fits what) fits).0
