-- What a range of a directory's rows tells.
use Rattle.std.proofs.Common.{◌≡◌, ℕ, suc, Bool, true, false, cond, List, [], ◌∷◌, take, refl, sym, ap, subst, ◌∙◌, inl, inr, ◌==◌, eq-eqb, eqb-true}
use Rattle.std.specs.Prelude.{Some, None}
use Rattle.std.specs.List.{filter_map, cons_option}
use Rattle.std.specs.Ordering.{eq_by_cmp, is_eq}
use Rattle.std.specs.Cmp.{tied_itself}
use Rattle.std.specs.FinMap.{get, entries, get-entries, find}
use Rattle.row_records.specs.declared.rows.DentRow.{DentRow}
use Rattle.tree_model.specs.Maps.{dent_cmp}
use Rattle.tree_model.proofs.MapLaws.{names, decide}
use Rattle.row_tree.specs.TypedRows.{TypedRows, named_in_dir, dir_rows}

same_first : {X : Type 0} (x y : X) (xs ys : List X) → x ∷ xs ≡ y ∷ ys → x ≡ y
same_first x y xs ys e = cc

-- an entry of another directory is passed over
passed : (dir : ℕ) (name : List ℕ) (e : (ℕ × List ℕ) × DentRow) (es : List ((ℕ × List ℕ) × DentRow)) → (e.0.0 == dir) ≡ false → find dent_cmp (dir, name) (e ∷ es) ≡ find dent_cmp (dir, name) es
passed dir name e es other = elim (decide names (dir, name) e.0) [
  | inl q ↦ let same : (e.0.0 == dir) ≡ true = eq-eqb e.0.0 dir (sym (ap (λ (x : ℕ × List ℕ). x.0) q.0)) in let clash : true ≡ false = sym same ∙ other in cc
  | inr q ↦ ap (λ b. cond b (Some e.1) (find dent_cmp (dir, name) es)) q.1
]

no_row_found : (dir : ℕ) (es : List ((ℕ × List ℕ) × DentRow)) → filter_map (named_in_dir dir) es ≡ [] → (name : List ℕ) → find dent_cmp (dir, name) es ≡ None
no_row_found dir [] none name = refl
no_row_found dir (e ∷ es) none name = by_dir (e.0.0 == dir) refl (no_row_found dir es)
  where
    by_dir : (b : Bool) → (e.0.0 == dir) ≡ b → (filter_map (named_in_dir dir) es ≡ [] → (name : List ℕ) → find dent_cmp (dir, name) es ≡ None) → find dent_cmp (dir, name) (e ∷ es) ≡ None
    by_dir true here later = let cons : ◌≡◌ {A = List (List ℕ × DentRow)} ((e.0.1, e.1) ∷ filter_map (named_in_dir dir) es) [] = sym (ap (λ b. cons_option (cond b (Some (e.0.1, e.1)) None) (filter_map (named_in_dir dir) es)) here) ∙ none in cc
    by_dir false other later =
        let rest : filter_map (named_in_dir dir) es ≡ [] = sym (ap (λ b. cons_option (cond b (Some (e.0.1, e.1)) None) (filter_map (named_in_dir dir) es)) other) ∙ none in
        passed dir name e es other ∙ later rest name

first_row_found : (dir : ℕ) (es : List ((ℕ × List ℕ) × DentRow)) (row : List ℕ × DentRow) (rows : List (List ℕ × DentRow)) → filter_map (named_in_dir dir) es ≡ row ∷ rows → find dent_cmp (dir, row.0) es ≡ Some row.1
first_row_found dir [] row rows is = cc
first_row_found dir (e ∷ es) row rows is = by_dir (e.0.0 == dir) refl (first_row_found dir es row rows)
  where
    itself : dir ≡ e.0.0 → find dent_cmp (dir, e.0.1) (e ∷ es) ≡ Some e.1
    itself same =
        ap (λ (x : ℕ). cond (eq_by_cmp dent_cmp (x, e.0.1) e.0) (Some e.1) (find dent_cmp (x, e.0.1) es)) same
        ∙ ap (λ r. cond (is_eq r) (Some e.1) (find dent_cmp e.0 es)) (tied_itself names.total e.0)

    by_dir : (b : Bool) → (e.0.0 == dir) ≡ b → (filter_map (named_in_dir dir) es ≡ row ∷ rows → find dent_cmp (dir, row.0) es ≡ Some row.1) → find dent_cmp (dir, row.0) (e ∷ es) ≡ Some row.1
    by_dir true here later =
        let first : ◌≡◌ {A = List ℕ × DentRow} (e.0.1, e.1) row = same_first (e.0.1, e.1) row (filter_map (named_in_dir dir) es) rows (sym (ap (λ b. cons_option (cond b (Some (e.0.1, e.1)) None) (filter_map (named_in_dir dir) es)) here) ∙ is) in
        subst (λ (x : List ℕ × DentRow). find dent_cmp (dir, x.0) (e ∷ es) ≡ Some x.1) first (itself (sym (eqb-true e.0.0 dir here)))
    by_dir false other later = passed dir row.0 e es other ∙ later (sym (ap (λ b. cons_option (cond b (Some (e.0.1, e.1)) None) (filter_map (named_in_dir dir) es)) other) ∙ is)

none_taken : {X : Type 0} (xs : List X) (n : ℕ) → take (suc n) xs ≡ [] → xs ≡ []
none_taken [] n is = refl
none_taken (x ∷ xs) n is = cc

first_taken : {X : Type 0} (xs ys : List X) (y : X) (n : ℕ) → take (suc n) xs ≡ y ∷ ys → (zs : List X) × (xs ≡ y ∷ zs)
first_taken [] ys y n is = cc
first_taken (x ∷ xs) ys y n is = (xs, ap (λ (z : _). z ∷ xs) (same_first x y (take n xs) ys is))

-- a range that gives no rows, with a limit of at least 1, is of a directory without entries
pub empty_range : (S : TypedRows) (dir n : ℕ) → take (suc n) (dir_rows S dir) ≡ [] → (name : List ℕ) → get S.dents (dir, name) ≡ None
empty_range S dir n is name = get-entries S.dents (dir, name) ∙ no_row_found dir (entries S.dents) (none_taken (dir_rows S dir) n is) name

-- the first row that a range gives stands in the directory
pub used_range : (S : TypedRows) (dir n : ℕ) (row : List ℕ × DentRow) (rows : List (List ℕ × DentRow)) → take (suc n) (dir_rows S dir) ≡ row ∷ rows → get S.dents (dir, row.0) ≡ Some row.1
used_range S dir n row rows is =
    let first = first_taken (dir_rows S dir) rows row n is in
    get-entries S.dents (dir, row.0) ∙ first_row_found dir (entries S.dents) row first.0 first.1
