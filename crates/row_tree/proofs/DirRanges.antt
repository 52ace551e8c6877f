-- The range of a directory holds the spellings of its rows, in order of names; pages of it.
use Rattle.std.proofs.Common.{◌≡◌, ℕ, ◌+◌, ◌<◌, ◌^◌, Bool, true, false, cond, List, [], ◌∷◌, ◌++◌, take, drop, map, length, refl, sym, ap, subst, ◌∙◌, inl, inr, arith, ◌==◌, eq-eqb, eqb-true, T}
use Rattle.std.specs.Prelude.{Option, Some, None, codes}
use Rattle.std.specs.Option.{option_map}
use Rattle.std.specs.Int.{w64, to_le_bytes}
use Rattle.std.specs.List.{filter_map, cons_option}
use Rattle.std.specs.declared.cmp.Ordering.{Ordering}
use Rattle.std.specs.declared.cmp.Ordering.TheVariants.{Less, Equal, Greater}
use Rattle.std.specs.Ordering.{eq_by_cmp, is_eq, is_lt, nat_cmp, ordering_then}
use Rattle.std.specs.Cmp.{tied_itself, nat_cmp_total}
use Rattle.std.specs.Cmp.Lexicographic.{slice_cmp}
use Rattle.std.specs.FinMap.{entries, get-entries, entries_sorted, find, is_sorted}
use Rattle.std.specs.FinMap.Entries.{below_all}
use Rattle.std.proofs.lemmas.List.{take-map, drop-map, drop-drop}
use Rattle.conflict_sets.specs.Keys.{key_cmp}
use Rattle.conflict_sets.specs.Rows.{KeysAbove, IsAscending, value_at_key, is_inside, rows_between}
use Rattle.fs_base.specs.declared.row.Row.{Row}
use Rattle.conflict_sets.proofs.KeyOrder.{key_exact}
use Rattle.conflict_sets.proofs.RowLemmas.{by_place}
use Rattle.row_records.specs.declared.rows.DentRow.{DentRow}
use Rattle.key_schema.specs.declared.key.Key.TheVariants as keys
use Rattle.row_tree.specs.Values.{DentValue, spelled_value}
use Rattle.row_tree.specs.TypedRows.{TypedRows, named_in_dir, dir_rows}
use Rattle.tree_model.specs.Maps.{dent_cmp}
use Rattle.tree_model.proofs.MapLaws.{decide, both_first, both_second, names}
use Rattle.key_schema.specs.Keys.{spelled_key}
use Rattle.key_schema.specs.Ranges.{dir_prefix, raised}
use Rattle.conflict_sets.specs.Ranges.{range_rows, key_after, last_key}
use Rattle.row_tree.specs.Spelling.{Spells, spelled_dent_row}
use Rattle.conflict_sets.proofs.RowRanges.{same_rows, IsAscending-range_rows, value-range_rows, key_cmp-append, next_page, not_true}
use Rattle.row_tree.proofs.Prefixes.{inside_prefix, prefix_of}
use Rattle.row_tree.proofs.SpellingLaws.{at_any}

dent_key : (d : ℕ) (n : List ℕ) → spelled_key (keys.Dent d n) ≡ dir_prefix d ++ n
unfolding spelled_key
dent_key d n = refl

-- the order of a directory's keys is that of the names
pub dent_order : (d : ℕ) (n m : List ℕ) → key_cmp (spelled_key (keys.Dent d n)) (spelled_key (keys.Dent d m)) ≡ slice_cmp nat_cmp n m
unfolding key_cmp
dent_order d n m = (λ i. key_cmp (dent_key d n i) (dent_key d m i)) ∙ key_cmp-append (dir_prefix d) n m

same_dir : (d e : ℕ) (n m : List ℕ) → e ≡ d → dent_cmp (d, n) (e, m) ≡ slice_cmp nat_cmp n m
same_dir d e n m at = ap (λ x. ordering_then (nat_cmp d x) (slice_cmp nat_cmp n m)) at ∙ ap (λ o. ordering_then o (slice_cmp nat_cmp n m)) (tied_itself nat_cmp_total d)

other_dir : (d : ℕ) (n : List ℕ) (e : ℕ × List ℕ) → (e.0 == d) ≡ false → eq_by_cmp dent_cmp (d, n) e ≡ false
other_dir d n e is = elim (decide names (d, n) e) [
  | inl q ↦ let eq : (e.0 == d) ≡ true = eq-eqb e.0 d (sym (ap (λ (x : ℕ × List ℕ). x.0) q.0)) in not_true (sym is ∙ eq)
  | inr q ↦ q.1
]

is_Less : (r : Ordering) → T (is_lt r) → r ≡ Less
is_Less Less h = refl
is_Less Equal h = absurd h
is_Less Greater h = absurd h

inside_dir : (d : ℕ) (n : List ℕ) → is_inside (dir_prefix d) (raised (dir_prefix d)) (dir_prefix d ++ n) ≡ true
inside_dir d n = inside_prefix 68 (codes "ENT" ++ to_le_bytes w64 d) n

in_dir_range : (d : ℕ) (q : List ℕ) → is_inside (dir_prefix d) (raised (dir_prefix d)) q ≡ true → (n : List ℕ) × (q ≡ dir_prefix d ++ n)
in_dir_range d q t = prefix_of 68 (codes "ENT" ++ to_le_bytes w64 d) q t

abbrev dents_of : ℕ → List ((ℕ × List ℕ) × DentRow) → List Row
dents_of d es = map (spelled_dent_row d) (filter_map (named_in_dir d) es)

-- what the spelled rows of a directory have at a name
value_dents : (d : ℕ) (n : List ℕ) (es : List ((ℕ × List ℕ) × DentRow)) → value_at_key (dents_of d es) (spelled_key (keys.Dent d n)) ≡ option_map spelled_value (option_map DentValue (find dent_cmp (d, n) es))
value_dents d n [] = refl
value_dents d n (e ∷ es) = by_dir (e.0.0 == d) refl (value_dents d n es)
  where
    picked : (b : Bool) (o : Option (List ℕ)) (p : Option DentRow) → o ≡ option_map spelled_value (option_map DentValue p) → cond b (Some (spelled_value (DentValue e.1))) o ≡ option_map spelled_value (option_map DentValue (cond b (Some e.1) p))
    picked true o p is = refl
    picked false o p is = is

    by_dir : (b : Bool) → (e.0.0 == d) ≡ b → value_at_key (dents_of d es) (spelled_key (keys.Dent d n)) ≡ option_map spelled_value (option_map DentValue (find dent_cmp (d, n) es))
        → value_at_key (dents_of d (e ∷ es)) (spelled_key (keys.Dent d n)) ≡ option_map spelled_value (option_map DentValue (find dent_cmp (d, n) (e ∷ es)))
    by_dir true is later =
        let same : e.0.0 ≡ d = eqb-true e.0.0 d is in
        ap (λ b. value_at_key (map (spelled_dent_row d) (cons_option (cond b (Some (e.0.1, e.1)) None) (filter_map (named_in_dir d) es))) (spelled_key (keys.Dent d n))) is
        ∙ (ap (λ o. cond (is_eq o) (Some (spelled_value (DentValue e.1))) (value_at_key (dents_of d es) (spelled_key (keys.Dent d n)))) (dent_order d n e.0.1)
        ∙ (picked (is_eq (slice_cmp nat_cmp n e.0.1)) _ _ later
        ∙ ap (λ o. option_map spelled_value (option_map DentValue (cond (is_eq o) (Some e.1) (find dent_cmp (d, n) es)))) (sym (same_dir d e.0.0 n e.0.1 same))))
    by_dir false is later =
        ap (λ b. value_at_key (map (spelled_dent_row d) (cons_option (cond b (Some (e.0.1, e.1)) None) (filter_map (named_in_dir d) es))) (spelled_key (keys.Dent d n))) is
        ∙ (later
        ∙ ap (λ b. option_map spelled_value (option_map DentValue (cond b (Some e.1) (find dent_cmp (d, n) es)))) (sym (other_dir d n e.0 is)))

above_dents : (d : ℕ) (n : List ℕ) (es : List ((ℕ × List ℕ) × DentRow)) → T (below_all dent_cmp (d, n) es) → KeysAbove (spelled_key (keys.Dent d n)) (dents_of d es)
above_dents d n [] h = tt
above_dents d n (e ∷ es) h = by_dir (e.0.0 == d) refl (above_dents d n es (both_second _ _ h))
  where
    by_dir : (b : Bool) → (e.0.0 == d) ≡ b → KeysAbove (spelled_key (keys.Dent d n)) (dents_of d es) → KeysAbove (spelled_key (keys.Dent d n)) (dents_of d (e ∷ es))
    by_dir true is later =
        let same : e.0.0 ≡ d = eqb-true e.0.0 d is in
        let less : slice_cmp nat_cmp n e.0.1 ≡ Less = sym (same_dir d e.0.0 n e.0.1 same) ∙ is_Less _ (both_first _ _ h) in
        subst (λ b. KeysAbove (spelled_key (keys.Dent d n)) (map (spelled_dent_row d) (cons_option (cond b (Some (e.0.1, e.1)) None) (filter_map (named_in_dir d) es)))) (sym is) (dent_order d n e.0.1 ∙ less, later)
    by_dir false is later = subst (λ b. KeysAbove (spelled_key (keys.Dent d n)) (map (spelled_dent_row d) (cons_option (cond b (Some (e.0.1, e.1)) None) (filter_map (named_in_dir d) es)))) (sym is) later

ascending_dents : (d : ℕ) (es : List ((ℕ × List ℕ) × DentRow)) → T (is_sorted dent_cmp es) → IsAscending (dents_of d es)
ascending_dents d [] h = tt
ascending_dents d (e ∷ es) h = by_dir (e.0.0 == d) refl (ascending_dents d es (both_second _ _ h))
  where
    by_dir : (b : Bool) → (e.0.0 == d) ≡ b → IsAscending (dents_of d es) → IsAscending (dents_of d (e ∷ es))
    by_dir true is later =
        let same : e.0.0 ≡ d = eqb-true e.0.0 d is in
        subst (λ b. IsAscending (map (spelled_dent_row d) (cons_option (cond b (Some (e.0.1, e.1)) None) (filter_map (named_in_dir d) es)))) (sym is)
        (above_dents d e.0.1 es (subst (λ x. T (below_all dent_cmp (x, e.0.1) es)) same (both_first _ _ h)), later)
    by_dir false is later = subst (λ b. IsAscending (map (spelled_dent_row d) (cons_option (cond b (Some (e.0.1, e.1)) None) (filter_map (named_in_dir d) es)))) (sym is) later

-- a key outside the range is not among them
outside_dents : (d : ℕ) (q : List ℕ) (es : List (List ℕ × DentRow)) → is_inside (dir_prefix d) (raised (dir_prefix d)) q ≡ false → value_at_key (map (spelled_dent_row d) es) q ≡ None
outside_dents d q [] out = refl
outside_dents d q (e ∷ es) out =
    by_place _ q (spelled_key (keys.Dent d e.0))
    (λ l. rw l (outside_dents d q es out))
    (λ l. not_true (sym out ∙ (ap (is_inside (dir_prefix d) (raised (dir_prefix d))) (key_exact q (spelled_key (keys.Dent d e.0)) l ∙ dent_key d e.0) ∙ inside_dir d e.0)))
    (λ l. rw l (outside_dents d q es out))

-- the rows of a directory's range are the spellings of its rows, in order of names
pub dir_range_rows : (R : List Row) (S : TypedRows) → IsAscending R → Spells R S → (d : ℕ) → d < 2 ^ 36 → range_rows R (dir_prefix d) (raised (dir_prefix d)) ≡ map (spelled_dent_row d) (dir_rows S d)
dir_range_rows R S asc spells d fits =
    same_rows (range_rows R (dir_prefix d) (raised (dir_prefix d))) (map (spelled_dent_row d) (dir_rows S d)) (IsAscending-range_rows R (dir_prefix d) (raised (dir_prefix d)) asc) (ascending_dents d (entries S.dents) (entries_sorted S.dents)) (λ q.
    value-range_rows R (dir_prefix d) (raised (dir_prefix d)) q ∙ (elim (is_inside (dir_prefix d) (raised (dir_prefix d)) q) as (λ t. is_inside (dir_prefix d) (raised (dir_prefix d)) q ≡ t → cond t (value_at_key R q) None ≡ value_at_key (map (spelled_dent_row d) (dir_rows S d)) q) [
      | true ↦ λ t.
          let found = in_dir_range d q t in
          let at : q ≡ spelled_key (keys.Dent d found.0) = found.1 ∙ sym (dent_key d found.0) in
          ap (value_at_key R) at
          ∙ (at_any R S spells (keys.Dent d found.0) (omega arith)
          ∙ (ap (λ o. option_map spelled_value (option_map DentValue o)) (get-entries S.dents (d, found.0))
          ∙ (sym (value_dents d found.0 (entries S.dents))
          ∙ ap (value_at_key (map (spelled_dent_row d) (dir_rows S d))) (sym at))))
      | false ↦ λ t. sym (outside_dents d q (dir_rows S d) t)
    ]) refl)

-- the first rows of the range
pub dir_rows_between : (R : List Row) (S : TypedRows) → IsAscending R → Spells R S → (d limit : ℕ) → d < 2 ^ 36 → rows_between R (dir_prefix d) (raised (dir_prefix d)) limit ≡ map (spelled_dent_row d) (take limit (dir_rows S d))
dir_rows_between R S asc spells d limit fits = ap (take limit) (dir_range_rows R S asc spells d fits) ∙ take-map (spelled_dent_row d) limit (dir_rows S d)

-- ---- pages: from `lo` on the range has what is left of the directory after n rows
abbrev pub IsDirPlace : List Row → TypedRows → ℕ → List ℕ → ℕ → Type 0
IsDirPlace R S d lo n =
    range_rows R lo (raised (dir_prefix d)) ≡ map (spelled_dent_row d) (drop n (dir_rows S d))

pub first_dir_place : (R : List Row) (S : TypedRows) → IsAscending R → Spells R S → (d : ℕ) → d < 2 ^ 36 → IsDirPlace R S d (dir_prefix d) 0
first_dir_place R S asc spells d fits = dir_range_rows R S asc spells d fits

pub next_dir_place : (R : List Row) (S : TypedRows) → IsAscending R → (d : ℕ) (lo k : List ℕ) (n m : ℕ) → IsDirPlace R S d lo n
    → length (rows_between R lo (raised (dir_prefix d)) m) ≡ m → last_key (rows_between R lo (raised (dir_prefix d)) m) ≡ Some k → IsDirPlace R S d (key_after k) (n + m)
next_dir_place R S asc d lo k n m at full last =
    next_page R lo (raised (dir_prefix d)) k m asc full last
    ∙ (ap (drop m) at ∙ (drop-map (spelled_dent_row d) m (drop n (dir_rows S d)) ∙ ap (map (spelled_dent_row d)) (drop-drop m n (dir_rows S d))))

pub dir_page : (R : List Row) (S : TypedRows) (d : ℕ) (lo : List ℕ) (n m : ℕ) → IsDirPlace R S d lo n → rows_between R lo (raised (dir_prefix d)) m ≡ map (spelled_dent_row d) (take m (drop n (dir_rows S d)))
dir_page R S d lo n m at = ap (take m) at ∙ take-map (spelled_dent_row d) m (drop n (dir_rows S d))
