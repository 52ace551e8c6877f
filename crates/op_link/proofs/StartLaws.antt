-- How a call that adds an entry or takes one away begins.
use Rattle.std.proofs.Common.{◌≡◌, ℕ, refl, ap, ◌∙◌}
use Rattle.std.specs.Prelude.{Result, Ok, Err}
use Rattle.fs_base.specs.Config.{Settings}
use Rattle.fs_base.specs.Paths.{path_of}
use Rattle.fs_base.specs.declared.call.Call.{Call}
use Rattle.fs_base.specs.declared.call.Call.TheVariants as calls
use Rattle.fs_base.specs.declared.call.Place.{Place}
use Rattle.fs_base.specs.declared.call.Request.{Request}
use Rattle.fs_base.specs.declared.code.Code.{Code}
use Rattle.fs_base.specs.declared.path.Path.{Path}
use Rattle.tree_model.specs.declared.walk.WalkEnd.TheVariants.{NoFollow, Parent}
use Rattle.tree_model.specs.declared.walk.Walked.{Walked}
use Rattle.tree_model.specs.declared.walk.Walked.TheVariants.{Stopped}
use Rattle.tree_model.specs.Calls.{effect}
use Rattle.tree_model.specs.Calls as table
use Rattle.tree_model.specs.Effects.{Effect, refuses, on_path}
use Rattle.tree_model.specs.Linking.{link_at}
use Rattle.tree_model.specs.Tree.{Tree}
use Rattle.tree_model.specs.Walk.{Trip, resolve, travel}
use Rattle.path_walk.specs.Areas.{trip_areas}
use Rattle.path_walk.specs.Faults.{refusal}
use Rattle.path_walk.specs.Footprint.{along, call_areas, on_words, trip_from}
use Rattle.path_walk.specs.Stages.{trip_at}
use Rattle.path_walk.proofs.StepLaws.{from_words, or_fault, same_path}
use Rattle.op_link.specs.Beginning.{IsLinkCallAt, link_end, fault_of}
use Rattle.op_link.specs.Link.{link_areas, link_does_at, link_effect, link_reads_at}
use Rattle.op_link.specs.declared.task.LinkCall.{LinkCall}
use Rattle.op_link.specs.declared.task.LinkCall.TheVariants as link
use Rattle.op_link.specs.declared.task.LinkTask.{LinkTask}

-- words that are refused stop the call
stops : (what : LinkCall) (stamp : ℕ) (T : Tree) (code : Code) → link_does_at what stamp T (Stopped code) ≡ refuses code
stops (link.Link to) stamp T code = refl
stops link.Unlink stamp T code = refl
stops link.Rmdir stamp T code = refl

-- ---- what the call comes to

-- by the first fault of its words
abbrev wanted : Tree → ℕ → Place → LinkCall → Effect
wanted T stamp at what = on_path (path_of at.text) (λ path. or_fault (fault_of what) (link_does_at what stamp T (resolve T at.base path (link_end what))))

-- the second path's words
by_second : (T : Tree) (stamp base : ℕ) (source : Walked) (r : Result Path Code)
    → or_fault (refusal r) (link_at T stamp source (on_words r (λ path. travel T base path Parent)).end) ≡ on_path r (λ path. link_at T stamp source (resolve T base path Parent))
by_second T stamp base source (Ok path) = refl
by_second T stamp base source (Err code) = refl

is_wanted : (C : Settings) (T : Tree) (q : Request) (asked : Call) (what : LinkCall) (at : Place) → IsLinkCallAt asked what at → wanted T q.stamp at what ≡ table.effect_of C T q asked
is_wanted C T q (calls.Link from to) what at so =
    (λ i. wanted T q.stamp (so.0 i) (so.1 i))
    ∙ same_path (path_of from.text) _ _ (λ path. by_second T q.stamp to.base (resolve T from.base path NoFollow) (path_of to.text))
is_wanted C T q (calls.Unlink from) what at so = λ i. wanted T q.stamp (so.0 i) (so.1 i)
is_wanted C T q (calls.Rmdir from) what at so = λ i. wanted T q.stamp (so.0 i) (so.1 i)
is_wanted C T q asked what at so = absurd so

is_area : (C : Settings) (T : Tree) (q : Request) (asked : Call) (what : LinkCall) (at : Place) → IsLinkCallAt asked what at → along T at (link_end what) (fault_of what) (link_reads_at what T) ≡ call_areas C T q asked
is_area C T q (calls.Link from to) what at so = λ i. along T (so.0 i) (link_end (so.1 i)) (fault_of (so.1 i)) (link_reads_at (so.1 i) T)
is_area C T q (calls.Unlink from) what at so = λ i. along T (so.0 i) (link_end (so.1 i)) (fault_of (so.1 i)) (link_reads_at (so.1 i) T)
is_area C T q (calls.Rmdir from) what at so = λ i. along T (so.0 i) (link_end (so.1 i)) (fault_of (so.1 i)) (link_reads_at (so.1 i) T)
is_area C T q asked what at so = absurd so

module _ (C : Settings) (task : LinkTask) (q : Request) (at : Place) (stamp : task.stamp ≡ q.stamp) (is : IsLinkCallAt q.call task.call at)
    (starts : (T : Tree) → trip_at task.stage T ≡ trip_from at (link_end task.call) (fault_of task.call) T) where
  pub begins_so : (T : Tree) → link_effect task T ≡ effect C T q
  begins_so T =
      ap (λ (trip : Trip). link_does_at task.call task.stamp T trip.end) (starts T)
      ∙ from_words (link_does_at task.call task.stamp T) (stops task.call task.stamp T) T at.base (link_end task.call) (path_of at.text) (fault_of task.call)
      ∙ ap (λ s. wanted T s at task.call) stamp
      ∙ is_wanted C T q q.call task.call at is

  pub begins_areas : (T : Tree) → link_areas task T ≡ call_areas C T q q.call
  begins_areas T = ap (λ (trip : Trip). trip_areas trip (link_reads_at task.call T)) (starts T) ∙ is_area C T q q.call task.call at is
