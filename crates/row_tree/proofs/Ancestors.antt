-- In good rows the ids above a directory are those that it is below.
use Rattle.std.proofs.Common.{◌≡◌, ◌≢◌, ◌⊎◌, ℕ, List, [], ◌∷◌, ◌++◌, refl, sym, ap, ◌∙◌, inl, inr}
use Rattle.std.specs.Prelude.{Option, Some, None}
use Rattle.std.specs.FinMap.{get}
use Rattle.fs_base.specs.Config.{Settings}
use Rattle.row_records.specs.declared.rows.DentRow.{DentRow}
use Rattle.fs_base.specs.declared.kind.Kind.TheVariants as kinds
use Rattle.row_tree.specs.TypedRows.{TypedRows, parent_of, parent_at}
use Rattle.row_tree.specs.TreeOf.{tree_of}
use Rattle.tree_model.specs.Tree.{Tree}
use Rattle.row_tree.specs.WellFormed.{IsPath, HasKind, IsWellFormed}
use Rattle.row_tree.specs.Steps.{IsPathAround}
use Rattle.tree_model.specs.Below.{descend, descend_at, IsBelow}
use Rattle.tree_model.proofs.MapLaws.{some_injective}
use Rattle.row_tree.proofs.Telling.{entry_is}
use Rattle.row_tree.proofs.Adding.{parent_row, parent_at_row}
use Rattle.row_tree.proofs.Moving.{has_parent}
use Rattle.row_tree.proofs.Removing.{same_kind, entry_of_dir}
use Rattle.row_tree.proofs.Ways.{zero_or}

-- x is b or one of the ids above it
abbrev pub IsOn : ℕ → ℕ → List ℕ → Type 0
IsOn x b [] = x ≡ b
IsOn x b (p ∷ ps) = (x ≡ b) ⊎ IsOn x p ps

pub descend-snoc : (T : Tree) (ns : List (List ℕ)) (n : List ℕ) (a p b : ℕ) → descend T ns a ≡ Some p → get T.entries (p, n) ≡ Some b → descend T (ns ++ n ∷ []) a ≡ Some b
descend-snoc T [] n a p b is at = ap (λ (x : ℕ). descend_at (λ (y : ℕ). Some y) (get T.entries (x, n))) (some_injective a p is) ∙ ap (descend_at (λ (y : ℕ). Some y)) at
descend-snoc T (m ∷ ms) n a p b is at = through (get T.entries (a, m)) is (λ i rest. descend-snoc T ms n i p b rest at)
  where
    through : (o : Option ℕ) → descend_at (descend T ms) o ≡ Some p → ((i : ℕ) → descend T ms i ≡ Some p → descend T (ms ++ n ∷ []) i ≡ Some b) → descend_at (descend T (ms ++ n ∷ [])) o ≡ Some b
    through None e go = cc
    through (Some i) e go = go i e

module _ (C : Settings) (S : TypedRows) (good : IsWellFormed C S) where
  pub root_parent : parent_at S 0 ≡ Some 0
  root_parent = let root = good.root in parent_at_row S 0 root.0 root.1 ∙ ap parent_of root.2.parent.2

  pub is_dir : (i p : ℕ) → parent_at S i ≡ Some p → HasKind S i kinds.Dir
  is_dir i p is = let at = parent_row S i p is in (at.0, at.1, has_parent at.0.part p at.2)

  -- what is above is reached from
  pub below_from_on : (x b : ℕ) (path : List ℕ) → IsPath S b path → IsOn x b path → IsBelow (tree_of S) x b
  below_from_on x b [] h on = ([], ap Some on)
  below_from_on x b (p ∷ ps) h (inl same) = ([], ap Some same)
  below_from_on x b (p ∷ ps) h (inr on) =
      let up = below_from_on x p ps h.1 on in
      elim (zero_or b) [
        | inl z ↦ (up.0, up.1 ∙ ap Some (some_injective p b (sym h.0 ∙ ap (parent_at S) z ∙ root_parent ∙ ap Some (sym z))))
        | inr nz ↦
            let at = entry_of_dir C S good b p nz h.0 in
            (up.0 ++ at.0 ∷ [], descend-snoc (tree_of S) up.0 at.0 x p b up.1 (entry_is S p at.0 (Some at.1) at.2 ∙ ap Some at.3))
      ]

  -- the next id up from one on the way is on the way
  next_on : (c q b : ℕ) (path : List ℕ) → IsPath S b path → IsOn c b path → c ≢ 0 → parent_at S c ≡ Some q → IsOn q b path
  next_on c q b [] h on nz is = absurd (nz (on ∙ h))
  next_on c q b (p ∷ ps) h (inl same) nz is = inr (first ps (some_injective q p (sym is ∙ ap (parent_at S) same ∙ h.0)))
    where
      first : (qs : List ℕ) → q ≡ p → IsOn q p qs
      first [] e = e
      first (r ∷ rs) e = inl e
  next_on c q b (p ∷ ps) h (inr on) nz is = inr (next_on c q p ps h.1 on nz is)

  -- an id on the way is a directory
  dir_on : (c b : ℕ) (path : List ℕ) → IsPath S b path → IsOn c b path → HasKind S c kinds.Dir
  dir_on c b [] h on = is_dir c 0 (ap (parent_at S) (on ∙ h) ∙ root_parent)
  dir_on c b (p ∷ ps) h (inl same) = is_dir c p (ap (parent_at S) same ∙ h.0)
  dir_on c b (p ∷ ps) h (inr on) = dir_on c p ps h.1 on

  -- what a directory is reached from is above it
  pub on_from_below : (names : List (List ℕ)) (x b : ℕ) (path : List ℕ) → IsPath S b path → descend (tree_of S) names x ≡ Some b → IsOn x b path
  on_from_below [] x b path h is = at_end path
    where
      at_end : (qs : List ℕ) → IsOn x b qs
      at_end [] = some_injective x b is
      at_end (q ∷ qs) = inl (some_injective x b is)
  on_from_below (n ∷ ns) x b path h is = through (get S.dents (x, n)) refl (λ i rest. on_from_below ns i b path h rest)
    where
      through : (o : Option DentRow) → get S.dents (x, n) ≡ o → ((i : ℕ) → descend (tree_of S) ns i ≡ Some b → IsOn i b path) → IsOn x b path
      through None at go = let e : None ≡ Some b = sym (ap (descend_at (descend (tree_of S) ns)) (entry_is S x n None at)) ∙ is in cc
      through (Some e) at go =
          let rest : descend (tree_of S) ns e.inode ≡ Some b = sym (ap (descend_at (descend (tree_of S) ns)) (entry_is S x n (Some e) at)) ∙ is in
          let on = go e.inode rest in
          let entry = good.entry x n e at in
          let dir = same_kind S e.inode e.kind kinds.Dir entry.target (dir_on e.inode b path h on) in
          next_on e.inode x b path h on entry.not_root (entry.inside dir)

  around_not_on : (x b : ℕ) (path : List ℕ) → IsPathAround S x b path → IsOn x b path → ⊥
  around_not_on x b [] h on = h.0 (sym on)
  around_not_on x b (p ∷ ps) h (inl same) = h.0 (sym same)
  around_not_on x b (p ∷ ps) h (inr on) = around_not_on x p ps h.2 on

  path_of_around : (x b : ℕ) (path : List ℕ) → IsPathAround S x b path → IsPath S b path
  path_of_around x b [] h = h.1
  path_of_around x b (p ∷ ps) h = (h.1, path_of_around x p ps h.2)

  -- a way up that doesn't meet x: no entries lead from x down to b
  pub not_below : (x b : ℕ) (path : List ℕ) → IsPathAround S x b path → IsBelow (tree_of S) x b → ⊥
  not_below x b path around below = around_not_on x b path around (on_from_below below.0 x b path (path_of_around x b path around) below.1)
