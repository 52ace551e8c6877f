-- A page of a directory as it was read is the page of the typed rows.
use Rattle.std.proofs.Common.{◌≡◌, ℕ, suc, zero, Bool, true, false, cond, List, [], ◌∷◌, ◌++◌, take, drop, map, refl, sym, ap, subst, ◌∙◌, inl, inr, ◌==◌, T}
use Rattle.std.specs.Prelude.{Some, None}
use Rattle.std.specs.Option.{option_map}
use Rattle.std.specs.List.{filter_map, cons_option}
use Rattle.std.specs.Ordering.{is_eq}
use Rattle.std.specs.Cmp.{tied_itself}
use Rattle.std.specs.FinMap.{entries, get-entries, entries_sorted, find, is_sorted}
use Rattle.std.proofs.lemmas.List.{append_cancel_left}
use Rattle.conflict_sets.specs.Rows.{rows_between}
use Rattle.fs_base.specs.declared.row.Row.{Row}
use Rattle.row_records.specs.declared.rows.DentRow.{DentRow}
use Rattle.key_schema.specs.declared.key.Key.TheVariants as keys
use Rattle.row_tree.specs.Values.{DentValue, IsValue}
use Rattle.row_tree.specs.TypedRows.{TypedRows, named_in_dir, dir_rows}
use Rattle.tree_model.specs.Maps.{dent_cmp}
use Rattle.tree_model.proofs.MapLaws.{decide, both_first, both_second, find_below, not_some, names}
use Rattle.key_schema.specs.Keys.{spelled_key}
use Rattle.key_schema.specs.Ranges.{dir_prefix, raised}
use Rattle.row_tree.specs.Spelling.{OneValueEach, Spells, spelled_dent_row}
use Rattle.row_tree.proofs.DirRanges.{IsDirPlace, dir_page}

-- each entry's value is in range
abbrev pub AreDents : List (List ℕ × DentRow) → Type 0
AreDents [] = Unit {0}
AreDents (e ∷ es) = IsValue (DentValue e.1) × AreDents es

dent_tail : (d : ℕ) (n : List ℕ) → spelled_key (keys.Dent d n) ≡ dir_prefix d ++ n
unfolding spelled_key
dent_tail d n = refl

-- the spellings of two lists of entries are one: so are the lists
pub dents_back : OneValueEach → (d : ℕ) (xs ys : List (List ℕ × DentRow)) → AreDents xs → AreDents ys → map (spelled_dent_row d) xs ≡ map (spelled_dent_row d) ys → xs ≡ ys
dents_back law d [] [] a b e = refl
dents_back law d [] (y ∷ ys) a b e = absurd (cc)
dents_back law d (x ∷ xs) [] a b e = absurd (cc)
dents_back law d (x ∷ xs) (y ∷ ys) a b e =
    let rows = both_parts (spelled_dent_row d x) (spelled_dent_row d y) (map (spelled_dent_row d) xs) (map (spelled_dent_row d) ys) e in
    let name : x.0 ≡ y.0 = append_cancel_left (dir_prefix d) x.0 y.0 (sym (dent_tail d x.0) ∙ (ap (λ (r : Row). r.key) rows.0 ∙ dent_tail d y.0)) in
    let value : DentValue x.1 ≡ DentValue y.1 = law (keys.Dent d x.0) (DentValue x.1) (DentValue y.1) refl refl a.0 b.0 (ap (λ (r : Row). r.value) rows.0) in
    λ i. (name i, same_dent x.1 y.1 value i) ∷ dents_back law d xs ys a.1 b.1 rows.1 i
  where
    both_parts : (x y : Row) (xs ys : List Row) → x ∷ xs ≡ y ∷ ys → (x ≡ y) × (xs ≡ ys)
    both_parts x y xs ys e = (cc, cc)

    same_dent : (x y : DentRow) → DentValue x ≡ DentValue y → x ≡ y
    same_dent x y e = cc

-- what holds of all that is found holds of all entries
all_in_range : (d : ℕ) (es : List ((ℕ × List ℕ) × DentRow)) → T (is_sorted dent_cmp es) → ((k : ℕ × List ℕ) (e : DentRow) → find dent_cmp k es ≡ Some e → IsValue (DentValue e)) → AreDents (filter_map (named_in_dir d) es)
all_in_range d [] h all = tt
all_in_range d (e ∷ es) h all =
    by_dir (e.0.0 == d) refl (all_in_range d es (both_second _ _ h) (λ k v is. elim (decide names k e.0) [
      | inl q ↦ absurd (not_some v (find_below names e.0 es (both_first _ _ h)) (ap (λ (x : ℕ × List ℕ). find dent_cmp x es) (sym q.0) ∙ is))
      | inr q ↦ all k v (ap (λ b. cond b (Some e.1) (find dent_cmp k es)) q.1 ∙ is)
    ]))
  where
    by_dir : (b : Bool) → (e.0.0 == d) ≡ b → AreDents (filter_map (named_in_dir d) es) → AreDents (filter_map (named_in_dir d) (e ∷ es))
    by_dir true is later = subst (λ b. AreDents (cons_option (cond b (Some (e.0.1, e.1)) None) (filter_map (named_in_dir d) es))) (sym is) (all e.0 e.1 (ap (λ o. cond (is_eq o) (Some e.1) (find dent_cmp e.0 es)) (tied_itself names.total e.0)), later)
    by_dir false is later = subst (λ b. AreDents (cons_option (cond b (Some (e.0.1, e.1)) None) (filter_map (named_in_dir d) es))) (sym is) later

pub dir_rows_in_range : (R : List Row) (S : TypedRows) → Spells R S → (d : ℕ) → AreDents (dir_rows S d)
dir_rows_in_range R S spells d = all_in_range d (entries S.dents) (entries_sorted S.dents) (λ k e is. (spells.fits (keys.Dent k.0 k.1) (DentValue e) (ap (option_map DentValue) (get-entries S.dents (k.0, k.1) ∙ is))).1)

take_dents : (m : ℕ) (es : List (List ℕ × DentRow)) → AreDents es → AreDents (take m es)
take_dents zero es h = tt
take_dents (suc m) [] h = tt
take_dents (suc m) (e ∷ es) h = (h.0, take_dents m es h.1)

drop_dents : (m : ℕ) (es : List (List ℕ × DentRow)) → AreDents es → AreDents (drop m es)
drop_dents zero es h = h
drop_dents (suc m) [] h = tt
drop_dents (suc m) (e ∷ es) h = drop_dents m es h.1

-- a page whose rows were read as these entries is that page of the directory
pub page_read : OneValueEach → (R : List Row) (S : TypedRows) → Spells R S → (d : ℕ) (lo : List ℕ) (n m : ℕ) → IsDirPlace R S d lo n → (ys : List (List ℕ × DentRow)) → AreDents ys
    → rows_between R lo (raised (dir_prefix d)) m ≡ map (spelled_dent_row d) ys → take m (drop n (dir_rows S d)) ≡ ys
page_read law R S spells d lo n m at ys fits is =
    dents_back law d (take m (drop n (dir_rows S d))) ys (take_dents m (drop n (dir_rows S d)) (drop_dents n (dir_rows S d) (dir_rows_in_range R S spells d))) fits (sym (dir_page R S d lo n m at) ∙ is)
