-- The way up from a directory: it has no id twice, so it is no longer than the rows that it meets.
use Rattle.std.proofs.Common.{◌≡◌, ◌≢◌, ◌⊎◌, ℕ, zero, suc, ◌-◌, ◌<◌, ◌≤◌, true, false, ◌||◌, Bool, List, [], ◌∷◌, length, drop, get_or, refl, sym, ap, subst, ◌∙◌, inl, inr, arith, eqb, eqb-true, ne_eqb, nat_eq, cond, length-drop}
use Rattle.std.specs.Prelude.{Some, IsSome}
use Rattle.std.specs.List.{IsDistinct, list_any}
use Rattle.std.specs.Map.{lookup}
use Rattle.std.specs.Ordering.{nat_cmp}
use Rattle.std.specs.Cmp.{nat_eq_equiv, unsigned_tied}
use Rattle.std.specs.FinMap.{get, entries, get-entries, find, len, len-entries}
use Rattle.std.proofs.lemmas.Map.Keys.{IsDistinct-from_apart}
use Rattle.std.proofs.lemmas.Map.Steps.{length-le_from_keys}
use Rattle.inode_record.specs.declared.inode.InodeRow.{InodeRow}
use Rattle.row_tree.specs.TypedRows.{TypedRows, parent_at}
use Rattle.row_tree.specs.WellFormed.{IsPath}
use Rattle.tree_model.proofs.MapLaws.{some_injective}
use Rattle.row_tree.proofs.Adding.{parent_row}

-- the whole way from an id up to below the root
abbrev pub IsWay : TypedRows → ℕ → List ℕ → Type 0
IsWay S i [] = i ≡ 0
IsWay S i (v ∷ vs) = (i ≡ v) × (v ≢ 0) × (p : ℕ) × (parent_at S v ≡ Some p) × IsWay S p vs

pub zero_or : (j : ℕ) → (j ≡ 0) ⊎ (j ≢ 0)
zero_or zero = inl refl
zero_or (suc j) = inr (λ q. omega arith)

pub or_true : (a b : Bool) → (a || b) ≡ true → (a ≡ true) ⊎ (b ≡ true)
or_true true b h = inl refl
or_true false b h = inr h

module _ (S : TypedRows) where
  pub way_of_path : (i : ℕ) (path : List ℕ) → IsPath S i path → (way : List ℕ) × IsWay S i way
  way_of_path i [] h = ([], h)
  way_of_path i (p ∷ ps) h = let up = way_of_path p ps h.1 in elim (zero_or i) [
    | inl z ↦ ([], z)
    | inr nz ↦ (i ∷ up.0, (refl, nz, p, h.0, up.1))
  ]

  pub way_unique : (i : ℕ) (a b : List ℕ) → IsWay S i a → IsWay S i b → a ≡ b
  way_unique i [] [] g h = refl
  way_unique i [] (w ∷ ws) g h = absurd (h.1 (sym h.0 ∙ g))
  way_unique i (v ∷ vs) [] g h = absurd (g.1 (sym g.0 ∙ h))
  way_unique i (v ∷ vs) (w ∷ ws) g h =
      let same : v ≡ w = sym g.0 ∙ h.0 in
      let parent : g.2 ≡ h.2 = some_injective g.2 h.2 (sym g.3 ∙ ap (parent_at S) same ∙ h.3) in
      let rest = way_unique h.2 vs ws (subst (λ (x : ℕ). IsWay S x vs) parent g.4) h.4 in
      λ j. same j ∷ rest j

  way_from : (i : ℕ) (way : List ℕ) (k d : ℕ) → IsWay S i way → k < length way → IsWay S (get_or way k d) (drop k way)
  way_from i [] k d h below = absurd (omega arith)
  way_from i (v ∷ vs) zero d h below = (refl, h.1, h.2, h.3, h.4)
  way_from i (v ∷ vs) (suc k) d h below = way_from h.2 vs k d h.4 (omega arith)

  way_apart : (i : ℕ) (way : List ℕ) → IsWay S i way → (j k d : ℕ) → j < k → k < length way → eqb (get_or way j d) (get_or way k d) ≡ false
  way_apart i way h j k d before below = ne_eqb (get_or way j d) (get_or way k d) (λ e.
      let one = way_from i way j d h (omega arith) in
      let two = way_from i way k d h below in
      let same : drop j way ≡ drop k way = way_unique (get_or way k d) (drop j way) (drop k way) (subst (λ (x : ℕ). IsWay S x (drop j way)) e one) two in
      let lengths : length (drop j way) ≡ length (drop k way) = ap length same in
      let first : length (drop j way) ≡ length way - j = length-drop j way in
      let second : length (drop k way) ≡ length way - k = length-drop k way in
      omega arith)

  pub way_distinct : (i : ℕ) (way : List ℕ) → IsWay S i way → IsDistinct eqb way
  way_distinct i way h = IsDistinct-from_apart eqb way (λ j k d before below. way_apart i way h j k d before below)

lookup_find : (es : List (ℕ × InodeRow)) (q : ℕ) → lookup (nat_eq q) es ≡ find nat_cmp q es
lookup_find [] q = refl
lookup_find (e ∷ es) q = λ i. cond (sym (unsigned_tied q e.0) i) (Some e.1) (lookup_find es q i)

-- a way has no more ids than there are rows
pub way_short : (S : TypedRows) (i : ℕ) (way : List ℕ) → IsWay S i way → length way ≤ len S.inodes
way_short S i way w =
    subst (λ n. length way ≤ n) (sym (len-entries S.inodes)) (length-le_from_keys nat_eq_equiv way (entries S.inodes) (way_distinct S i way w) (λ q on. has_row i way w q on))
  where
    some_of : (q : ℕ) (row : InodeRow) → get S.inodes q ≡ Some row → IsSome (lookup (nat_eq q) (entries S.inodes))
    some_of q row is = subst IsSome (sym (lookup_find (entries S.inodes) q ∙ sym (get-entries S.inodes q) ∙ is)) refl

    has_row : (j : ℕ) (vs : List ℕ) → IsWay S j vs → (q : ℕ) → list_any (eqb q) vs ≡ true → IsSome (lookup (nat_eq q) (entries S.inodes))
    has_row j [] w q on = cc
    has_row j (v ∷ vs) w q on = elim (or_true (eqb q v) (list_any (eqb q) vs) on) [
      | inl e ↦ let at = parent_row S v w.2 w.3 in some_of q at.0 (ap (get S.inodes) (eqb-true q v e) ∙ at.1)
      | inr later ↦ has_row w.2 vs w.4 q later
    ]
