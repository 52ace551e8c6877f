-- Where a walk starts.
use Rattle.std.proofs.Common.{◌≡◌, ℕ, Bool, true, false, cond, if◌then◌else◌, sym, ap, ◌∙◌}
use Rattle.std.specs.FinMap.{get}
use Rattle.fs_base.specs.declared.path.Path.{Path}
use Rattle.tree_model.specs.declared.walk.WalkEnd.{WalkEnd}
use Rattle.tree_model.specs.Tree.{Tree}
use Rattle.tree_model.specs.Walk.{Inode, visiting, walk, from_base, looks_at_base, resolve}

module _ (T : Tree) (base here : ℕ) (path : Path) (end : WalkEnd) (is : here ≡ (if path.absolute then 0 else base)) where
  started : resolve T base path end ≡ (cond (looks_at_base here end path.names) (visiting (Inode here) (from_base (get T.nodes here) (walk 10 T end path.names here))) (walk 10 T end path.names here)).end
  started = ap (λ (h : ℕ). (cond (looks_at_base h end path.names) (visiting (Inode h) (from_base (get T.nodes h) (walk 10 T end path.names h))) (walk 10 T end path.names h)).end) (sym is)

  by_look : (b : Bool) → looks_at_base here end path.names ≡ b → resolve T base path end ≡ (cond b (visiting (Inode here) (from_base (get T.nodes here) (walk 10 T end path.names here))) (walk 10 T end path.names here)).end
  by_look b look = started ∙ ap (λ c. (cond c (visiting (Inode here) (from_base (get T.nodes here) (walk 10 T end path.names here))) (walk 10 T end path.names here)).end) look

  pub from_here : looks_at_base here end path.names ≡ false → resolve T base path end ≡ (walk 10 T end path.names here).end
  from_here look = by_look false look

  pub from_a_base : looks_at_base here end path.names ≡ true → resolve T base path end ≡ (from_base (get T.nodes here) (walk 10 T end path.names here)).end
  from_a_base look = by_look true look
