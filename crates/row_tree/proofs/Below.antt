-- The test for what lies below says so exactly, in trees of well-formed rows.
use Rattle.std.proofs.Common.{◌≡◌, ◌≢◌, ◌⊎◌, ◌↔◌, ℕ, zero, suc, ◌+◌, ◌≤◌, Bool, true, false, cond, ◌&&◌, ◌||◌, ◌==◌, List, [], ◌∷◌, ◌++◌, length, refl, sym, ap, subst, ◌∙◌, inl, inr, arith, eq-eqb, eqb-true, length-append, T}
use Rattle.std.specs.Prelude.{Option, Some, None}
use Rattle.std.specs.List.{list_any}
use Rattle.std.specs.Ordering.{nat_cmp, is_eq}
use Rattle.std.specs.Cmp.{tied_itself}
use Rattle.std.specs.FinMap.{get, entries, entries_sorted, get-entries, find, is_sorted, len}
use Rattle.fs_base.specs.Config.{Settings}
use Rattle.fs_base.specs.declared.kind.Kind.TheVariants as kinds
use Rattle.row_tree.specs.TypedRows.{TypedRows, parent_at}
use Rattle.tree_model.specs.Maps.{dent_cmp}
use Rattle.row_tree.specs.TreeOf.{tree_of, node_of}
use Rattle.tree_model.specs.Tree.{Tree}
use Rattle.row_tree.specs.WellFormed.{IsPath, HasKind, IsWellFormed}
use Rattle.tree_model.specs.Below.{descend, descend_at, IsBelow}
use Rattle.tree_model.specs.Moving.{reaches, is_below}
use Rattle.tree_model.proofs.MapLaws.{and_true, and_both, decide, some_injective, not_some, find_below, both_first, both_second, len-map_values}
use Rattle.tree_model.proofs.MapLaws.{names}
use Rattle.row_tree.proofs.Telling.{entry_is}
use Rattle.row_tree.proofs.Ancestors.{IsOn, root_parent, descend-snoc, on_from_below}
use Rattle.row_tree.proofs.Ways.{IsWay, or_true, way_of_path, way_short}
use Rattle.row_tree.proofs.Removing.{entry_of_dir}

else_true : (a b : Bool) → cond a true b ≡ true → (a ≡ true) ⊎ (b ≡ true)
else_true true b h = inl refl
else_true false b h = inr h

else_right : (a b : Bool) → b ≡ true → cond a true b ≡ true
else_right true b h = refl
else_right false b h = h

or_right : (a b : Bool) → b ≡ true → (a || b) ≡ true
or_right true b h = refl
or_right false b h = h

-- an entry that is found passes, and one that passes is found
any_found : (p : (ℕ × List ℕ) × ℕ → Bool) (es : List ((ℕ × List ℕ) × ℕ)) (k : ℕ × List ℕ) (v : ℕ) → find dent_cmp k es ≡ Some v → p (k, v) ≡ true → list_any p es ≡ true
any_found p [] k v is passes = cc
any_found p (e ∷ es) k v is passes = elim (decide names k e.0) [
  | inl q ↦
      let same : e.1 ≡ v = some_injective e.1 v (sym (ap (λ b. cond b (Some e.1) (find dent_cmp k es)) q.1) ∙ is) in
      ap (λ b. b || list_any p es) ((λ i. p (sym q.0 i, same i)) ∙ passes)
  | inr q ↦ or_right (p e) (list_any p es) (any_found p es k v (sym (ap (λ b. cond b (Some e.1) (find dent_cmp k es)) q.1) ∙ is) passes)
]

reach_of_descend : (T : Tree) (ns : List (List ℕ)) (a b k : ℕ) → descend T ns a ≡ Some b → length ns ≤ k → reaches T k b a ≡ true
reach_of_descend T [] a b zero is few = eq-eqb a b (some_injective a b is)
reach_of_descend T [] a b (suc k) is few = ap (λ x. cond x true (list_any (λ e. (e.0.0 == a) && reaches T k b e.1) (entries T.entries))) (eq-eqb a b (some_injective a b is))
reach_of_descend T (n ∷ ns) a b zero is few = absurd (omega arith)
reach_of_descend T (n ∷ ns) a b (suc k) is few = else_right (a == b) (list_any (λ e. (e.0.0 == a) && reaches T k b e.1) (entries T.entries)) (go (get T.entries (a, n)) refl is (λ c rest. reach_of_descend T ns c b k rest (omega arith)))
  where
    go : (o : Option ℕ) → get T.entries (a, n) ≡ o → descend_at (descend T ns) o ≡ Some b → ((c : ℕ) → descend T ns c ≡ Some b → reaches T k b c ≡ true) → list_any (λ e. (e.0.0 == a) && reaches T k b e.1) (entries T.entries) ≡ true
    go None at e on = cc
    go (Some c) at e on = any_found (λ e. (e.0.0 == a) && reaches T k b e.1) (entries T.entries) (a, n) c (sym (get-entries T.entries (a, n)) ∙ at) (and_both (a == a) (reaches T k b c) (eq-eqb a a refl) (on c e))

found_any : (p : (ℕ × List ℕ) × ℕ → Bool) (es : List ((ℕ × List ℕ) × ℕ)) → T (is_sorted dent_cmp es) → list_any p es ≡ true → (k : ℕ × List ℕ) × (v : ℕ) × (find dent_cmp k es ≡ Some v) × (p (k, v) ≡ true)
found_any p [] h any = cc
found_any p (e ∷ es) h any = go (or_true (p e) (list_any p es) any) (λ rest. found_any p es (both_second _ _ h) rest)
  where
    go : (p e ≡ true) ⊎ (list_any p es ≡ true) → (list_any p es ≡ true → (k : ℕ × List ℕ) × (v : ℕ) × (find dent_cmp k es ≡ Some v) × (p (k, v) ≡ true)) → (k : ℕ × List ℕ) × (v : ℕ) × (find dent_cmp k (e ∷ es) ≡ Some v) × (p (k, v) ≡ true)
    go (inl here) later = (e.0, e.1, ap (λ r. cond (is_eq r) (Some e.1) (find dent_cmp e.0 es)) (tied_itself names.total e.0), here)
    go (inr on) later =
        let found = later on in (
          found.0,
          found.1,
          elim (decide names found.0 e.0) [
            | inl q ↦ absurd (not_some found.1 (find_below names e.0 es (both_first _ _ h)) (ap (λ x. find dent_cmp x es) (sym q.0) ∙ found.2))
            | inr q ↦ ap (λ b. cond b (Some e.1) (find dent_cmp found.0 es)) q.1 ∙ found.2
          ],
          found.3,
        )

-- what is reached is below
below_of_reach : (T : Tree) (k a b : ℕ) → reaches T k b a ≡ true → IsBelow T a b
below_of_reach T zero a b h = ([], ap Some (eqb-true a b h))
below_of_reach T (suc k) a b h = go (else_true (a == b) (list_any (λ e. (e.0.0 == a) && reaches T k b e.1) (entries T.entries)) h) (below_of_reach T k)
  where
    go : ((a == b) ≡ true) ⊎ (list_any (λ e. (e.0.0 == a) && reaches T k b e.1) (entries T.entries) ≡ true) → ((c d : ℕ) → reaches T k d c ≡ true → IsBelow T c d) → IsBelow T a b
    go (inl here) later = ([], ap Some (eqb-true a b here))
    go (inr on) later =
        let found = found_any (λ e. (e.0.0 == a) && reaches T k b e.1) (entries T.entries) (entries_sorted T.entries) on in
        let both = and_true (found.0.0 == a) (reaches T k b found.1) found.3 in
        let rest = later found.1 b both.1 in
        let at : get T.entries (a, found.0.1) ≡ Some found.1 = ap (λ (x : ℕ). get T.entries (x, found.0.1)) (sym (eqb-true found.0.0 a both.0)) ∙ get-entries T.entries found.0 ∙ found.2 in
        (found.0.1 ∷ rest.0, ap (descend_at (descend T rest.0)) at ∙ rest.1)

module _ (C : Settings) (S : TypedRows) (good : IsWellFormed C S) where
  -- what lies above is reached by no more names than the way has ids
  short_below : (x b : ℕ) (path way : List ℕ) → IsPath S b path → IsOn x b path → IsWay S b way → (ns : List (List ℕ)) × (descend (tree_of S) ns x ≡ Some b) × (length ns ≤ length way)
  short_below x b [] way h on w = ([], ap Some on, omega arith)
  short_below x b (p ∷ ps) way h (inl same) w = ([], ap Some same, omega arith)
  short_below x b (p ∷ ps) [] h (inr on) w =
      let root : p ≡ b = some_injective p b (sym h.0 ∙ ap (parent_at S) w ∙ root_parent C S good ∙ ap Some (sym w)) in
      let up = short_below x p ps [] h.1 on (root ∙ w) in
      (up.0, up.1 ∙ ap Some root, up.2)
  short_below x b (p ∷ ps) (v ∷ vs) h (inr on) w =
      let nz : b ≢ 0 = (λ z. w.1 (sym w.0 ∙ z)) in
      let parent : w.2 ≡ p = some_injective w.2 p (sym w.3 ∙ ap (parent_at S) (sym w.0) ∙ h.0) in
      let up = short_below x p ps vs h.1 on (subst (λ (y : ℕ). IsWay S y vs) parent w.4) in
      let at = entry_of_dir C S good b p nz h.0 in
      let long : length (up.0 ++ at.0 ∷ []) ≡ length up.0 + 1 = length-append up.0 (at.0 ∷ []) in
      let few : length up.0 ≤ length vs = up.2 in
      (up.0 ++ at.0 ∷ [], descend-snoc (tree_of S) up.0 at.0 x p b up.1 (entry_is S p at.0 (Some at.1) at.2 ∙ ap Some at.3), omega arith)

  pub below_decided : (x b : ℕ) → HasKind S b kinds.Dir → (is_below (tree_of S) x b ≡ true) ↔ IsBelow (tree_of S) x b
  below_decided x b dir = (
    below_of_reach (tree_of S) (len (tree_of S).nodes) x b,
    λ below.
        let up = good.leads b dir in
        let way = way_of_path S b up.0 up.1 in
        let on = on_from_below C S good below.0 x b up.0 up.1 below.1 in
        let short = short_below x b up.0 way.0 up.1 on way.1 in
        let few : length way.0 ≤ len S.inodes = way_short S b way.0 way.1 in
        let nodes : len (tree_of S).nodes ≡ len S.inodes = len-map_values nat_cmp node_of S.inodes in
        let less : length short.0 ≤ length way.0 = short.2 in
        reach_of_descend (tree_of S) short.0 x b (len (tree_of S).nodes) short.1 (omega arith),
  )
