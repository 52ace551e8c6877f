-- An entry that moves: in which order it is written, and what a rename comes to.
use Rattle.std.proofs.Common.{◌≡◌, ◌≢◌, ℕ, ◌==◌, List, refl, sym, ap, ◌∙◌}
use Rattle.std.specs.Prelude.{Some, None}
use Rattle.std.specs.FinMap.{FinMap, get, insert, remove}
use Rattle.fs_base.specs.declared.call.Request.{Request}
use Rattle.fs_base.specs.declared.layout.DefaultLayout.{DefaultLayout}
use Rattle.fs_base.specs.declared.reply.Reply.TheVariants.{Done}
use Rattle.tree_model.specs.declared.node.Node.{Node}
use Rattle.tree_model.specs.declared.node.NodePart.{NodePart}
use Rattle.tree_model.specs.declared.node.NodePart.TheVariants.{Dir, File, Link}
use Rattle.tree_model.specs.declared.plan.Fate.{Fate}
use Rattle.tree_model.specs.declared.plan.Fate.TheVariants.{Stays, Waits, Goes}
use Rattle.tree_model.specs.declared.plan.Shift.{Shift}
use Rattle.tree_model.specs.Attributes.{count_to}
use Rattle.tree_model.specs.Calls.{keeps}
use Rattle.tree_model.specs.Effects.{Makes}
use Rattle.tree_model.specs.Linking.{unlinked, without_entry}
use Rattle.tree_model.specs.Making.{fared, fate_of, replaced}
use Rattle.tree_model.specs.Maps.{dent_cmp}
use Rattle.tree_model.specs.Moving.{moved, other_over}
use Rattle.tree_model.specs.Tree.{Tree}
use Rattle.tree_model.proofs.Lasts.{unlinked_fared}
use Rattle.tree_model.proofs.MapLaws.{names, set-set, set-swap}

-- the entry may come to its new place before it leaves the old one
pub first_inserted : (m : FinMap dent_cmp ℕ) (from to : ℕ × List ℕ) (id : ℕ) → from ≢ to → remove (insert m to id) from ≡ insert (remove m from) to id
first_inserted m from to id apart = sym (set-swap names m from to None (Some id) apart)

-- what stood at the new place needn't go first
written_over : (m : FinMap dent_cmp ℕ) (from to : ℕ × List ℕ) (id : ℕ) → from ≢ to → insert (remove m from) to id ≡ insert (remove (remove m to) from) to id
written_over m from to id apart =
    sym (set-set names (remove m from) to None (Some id)) ∙ ap (λ (n : FinMap dent_cmp ℕ). insert n to id) (set-swap names m from to None None apart)

pub replaced_kept : (T : Tree) (q : Request) (shift : Shift) (old : ℕ) (fate : Fate) → shift.from ≢ shift.to
    → moved (fared (keeps T q Done) q.stamp old fate) shift.from shift.to shift.id ≡ keeps (replaced T q.stamp shift old fate) q Done
replaced_kept T q shift old Stays apart = ap (λ (m : FinMap dent_cmp ℕ). record (fared (keeps T q Done) q.stamp old Stays) { entries = m }) (written_over T.entries shift.from shift.to shift.id apart)
replaced_kept T q shift old Waits apart = ap (λ (m : FinMap dent_cmp ℕ). record (fared (keeps T q Done) q.stamp old Waits) { entries = m }) (written_over T.entries shift.from shift.to shift.id apart)
replaced_kept T q shift old Goes apart = ap (λ (m : FinMap dent_cmp ℕ). record (fared (keeps T q Done) q.stamp old Goes) { entries = m }) (written_over T.entries shift.from shift.to shift.id apart)

-- a file or link takes the place of another, which has lost an entry
module _ (T : Tree) (stamp : ℕ) (shift : Shift) (old : ℕ) (node : Node) (there : get T.nodes old ≡ Some node) where
  pub other_replaced : (count : ℕ) (fate : Fate) → get T.entries shift.to ≡ Some old → ((layout : DefaultLayout) → node.part ≡ Dir layout → ⊥) → count ≡ count_to T old → fate ≡ fate_of (count == 1) node.part
      → other_over T stamp shift.from shift.to shift.id old node node.part ≡ Makes (replaced T stamp shift old fate) Done
  other_replaced count fate at no_dir is chosen =
      of_kind node.part refl ∙ ap (λ (V : Tree). Makes (moved V shift.from shift.to shift.id) Done) (unlinked_fared T stamp shift.to.0 shift.to.1 old node there count fate at is chosen)
    where
      of_kind : (part : NodePart) → node.part ≡ part → other_over T stamp shift.from shift.to shift.id old node part ≡ Makes (moved (unlinked (without_entry T shift.to.0 shift.to.1) stamp old node) shift.from shift.to shift.id) Done
      of_kind (Dir layout) e = absurd (no_dir layout e)
      of_kind (File length truncs layout hint) e = refl
      of_kind (Link target) e = refl
