-- How a rename begins.
use Rattle.std.proofs.Common.{◌≡◌, ℕ, Bool, true, false, cond, refl, sym, ap, ◌∙◌}
use Rattle.std.specs.Prelude.{Some, None, Result, Ok, Err}
use Rattle.fs_base.specs.Config.{Settings}
use Rattle.fs_base.specs.Paths.{path_of}
use Rattle.fs_base.specs.declared.call.Call.TheVariants as calls
use Rattle.fs_base.specs.declared.call.Place.{Place}
use Rattle.fs_base.specs.declared.call.Request.{Request}
use Rattle.fs_base.specs.declared.code.Code.{Code}
use Rattle.fs_base.specs.declared.code.Code.TheVariants.{IsRoot}
use Rattle.fs_base.specs.declared.path.Path.{Path}
use Rattle.tree_model.specs.declared.walk.WalkEnd.TheVariants.{Parent}
use Rattle.tree_model.specs.Calls.{effect}
use Rattle.tree_model.specs.Calls as table
use Rattle.tree_model.specs.Effects.{Effect, refuses, on_path}
use Rattle.tree_model.specs.Maps.{is_end}
use Rattle.tree_model.specs.Moving.{have_names, rename, rename_at}
use Rattle.tree_model.specs.Tree.{Tree}
use Rattle.tree_model.specs.Walk.{Trip, resolve, travel}
use Rattle.path_walk.specs.Areas.{trip_areas}
use Rattle.path_walk.specs.Faults.{first_fault, move_fault, no_name, refusal}
use Rattle.path_walk.specs.Footprint.{call_areas, on_words, trip_from}
use Rattle.path_walk.specs.Stages.{trip_at}
use Rattle.path_walk.proofs.StepLaws.{from_words, or_fault}
use Rattle.op_rename.specs.Rename.{rename_areas, rename_does_at, rename_effect, rename_reads_at}
use Rattle.op_rename.specs.declared.task.RenameTask.{RenameTask}

-- by the first fault of its words
abbrev wanted : Tree → ℕ → Place → Place → Effect
wanted T stamp from to = on_path (path_of from.text) (λ path. or_fault (move_fault from to) (rename_does_at to stamp T (resolve T from.base path Parent)))

-- a path without a name is looked at once both paths' words are known
by_names : (outcome : Effect) (a b : Bool) → or_fault (first_fault (cond a (Some IsRoot) None) (cond b (Some IsRoot) None)) outcome ≡ cond a (refuses IsRoot) (cond b (refuses IsRoot) outcome)
by_names outcome true b = refl
by_names outcome false true = refl
by_names outcome false false = refl

by_words : (T : Tree) (stamp base there : ℕ) (first second : Result Path Code)
    → on_path first (λ path. or_fault (first_fault (refusal second) (first_fault (no_name first) (no_name second))) (rename_at T stamp (resolve T base path Parent) (on_words second (λ path. travel T there path Parent)).end))
    ≡ on_path first (λ source. on_path second (λ path. have_names source path (rename_at T stamp (resolve T base source Parent) (resolve T there path Parent))))
by_words T stamp base there (Err code) second = refl
by_words T stamp base there (Ok source) (Err code) = refl
by_words T stamp base there (Ok source) (Ok path) = by_names (rename_at T stamp (resolve T base source Parent) (resolve T there path Parent)) (is_end source.names) (is_end path.names)

is_wanted : (T : Tree) (stamp : ℕ) (from to : Place) → wanted T stamp from to ≡ rename T stamp from to
is_wanted T stamp from to = by_words T stamp from.base to.base (path_of from.text) (path_of to.text)

module _ (C : Settings) (task : RenameTask) (q : Request) (from : Place) (stamp : task.stamp ≡ q.stamp) (is : q.call ≡ calls.Rename from task.to)
    (starts : (T : Tree) → trip_at task.stage T ≡ trip_from from Parent (move_fault from task.to) T) where
  pub begins_so : (T : Tree) → rename_effect task T ≡ effect C T q
  begins_so T =
      ap (λ (trip : Trip). rename_does_at task.to task.stamp T trip.end) (starts T)
      ∙ from_words (rename_does_at task.to task.stamp T) (λ code. refl) T from.base Parent (path_of from.text) (move_fault from task.to)
      ∙ ap (λ s. wanted T s from task.to) stamp
      ∙ is_wanted T q.stamp from task.to
      ∙ sym (ap (table.effect_of C T q) is)

  pub begins_areas : (T : Tree) → rename_areas task T ≡ call_areas C T q q.call
  begins_areas T = ap (λ (trip : Trip). trip_areas trip (rename_reads_at task.to T)) (starts T) ∙ sym (ap (call_areas C T q) is)
