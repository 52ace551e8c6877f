-- The range of all doomed inodes has as many rows as there are of them.
use Rattle.std.proofs.Common.{◌≡◌, ℕ, ◌+◌, ◌<◌, ◌^◌, cond, List, [], ◌∷◌, ◌++◌, take, drop, map, length, refl, sym, ap, subst, ◌∙◌, inl, inr, arith}
use Rattle.std.specs.Prelude.{Some, None, codes}
use Rattle.std.specs.Option.{is_some, option_map}
use Rattle.std.specs.Int.{w64, from_le_bytes}
use Rattle.std.specs.Ordering.{is_eq, nat_cmp}
use Rattle.std.specs.declared.cmp.Ordering.TheVariants.{Equal, Less}
use Rattle.std.specs.FinMap.{get, find, len, from_entries, get-from_entries, len-empty, len-insert}
use Rattle.std.proofs.lemmas.List.{length-map}
use Rattle.conflict_sets.specs.Keys.{key_cmp}
use Rattle.conflict_sets.specs.Rows.{IsAscending, KeysAbove, value_at_key}
use Rattle.conflict_sets.specs.Ranges.{range_rows}
use Rattle.conflict_sets.proofs.KeyOrder.{key_exact, key_self}
use Rattle.conflict_sets.proofs.RowLemmas.{by_place, value_below}
use Rattle.conflict_sets.proofs.RowRanges.{IsAscending-range_rows, value_head}
use Rattle.fs_base.specs.Config.{Settings}
use Rattle.fs_base.specs.declared.row.Row.{Row}
use Rattle.key_schema.specs.Keys.{spelled_key}
use Rattle.key_schema.specs.Ranges.{all_doomed, raised}
use Rattle.key_schema.specs.declared.key.Key.TheVariants as keys
use Rattle.key_schema.proofs.KeyLaws.{key_of, key_of-spelled_key, spellable}
use Rattle.row_records.specs.declared.rows.GcRow.{GcRow}
use Rattle.tree_model.specs.Tree.{Tree}
use Rattle.tree_model.proofs.MapLaws.{decide, ids, len-map_values, not_some, same_some, some_or_none}
use Rattle.row_tree.specs.HasTree.{HasTree}
use Rattle.row_tree.specs.Spelling.{AreGcRows, Spells, spelled_gc_row}
use Rattle.row_tree.specs.TreeOf.{doom_of}
use Rattle.row_tree.specs.TypedRows.{TypedRows, value_at}
use Rattle.row_tree.specs.Values.{GcValue, IsValue, spelled_value}
use Rattle.row_tree.proofs.OneValue.{one_value_each}
use Rattle.row_tree.proofs.OtherRanges.{doomed_read, range_row}

-- a key and a value are those of an inode in deletion
record IsGc (key value : List ℕ) : Type 0 where
  row : ℕ × GcRow
  key_is : key ≡ spelled_key (keys.Gc row.0)
  value_is : value ≡ spelled_value (GcValue row.1)
  small : row.0 < 2 ^ 36
  valid : IsValue (GcValue row.1)

gc_at : (x : List ℕ) → key_of (all_doomed ++ x) ≡ keys.Gc (from_le_bytes w64 (take 8 (drop 4 (all_doomed ++ x))))
unfolding key_of
gc_at x = refl

-- as each row of the range is
is_gc : (R : List Row) (S : TypedRows) → Spells R S → (key value : List ℕ) → value_at_key (range_rows R all_doomed (raised all_doomed)) key ≡ Some value → IsGc key value
is_gc R S spells key value is =
    let row = range_row R S spells 71 (codes "COL") key value is in
    let id = from_le_bytes w64 (take 8 (drop 4 (all_doomed ++ row.has.rest))) in
    let own : row.has.key ≡ keys.Gc id = sym (key_of-spelled_key row.has.key (spellable row.has.key row.has.valid)) ∙ (ap key_of row.has.at ∙ gc_at row.has.rest) in
    let there : value_at S (keys.Gc id) ≡ Some row.has.value = sym (ap (value_at S) own) ∙ row.has.there in
    elim (some_or_none (get S.doomed id)) [
      | inl none ↦ absurd (not_some row.has.value (ap (option_map GcValue) none) there)
      | inr found ↦
          let at : value_at S (keys.Gc id) ≡ Some (GcValue found.0) = ap (option_map GcValue) found.1 in
          let fits = spells.fits (keys.Gc id) (GcValue found.0) at in
          record { row = (id, found.0); key_is = row.key ∙ ap spelled_key own; value_is = sym row.value ∙ ap spelled_value (same_some row.has.value (GcValue found.0) there at); small = fits.0; valid = fits.1 }
    ]

later : (row : Row) (rows : List Row) → KeysAbove row.key rows → (key value : List ℕ) → value_at_key rows key ≡ Some value → value_at_key (row ∷ rows) key ≡ Some value
later row rows above key value is =
    by_place (value_at_key (row ∷ rows) key ≡ Some value) key row.key
    (λ e. ap (λ o. cond (is_eq o) (Some row.value) (value_at_key rows key)) e ∙ is)
    (λ e. absurd (not_some value (ap (value_at_key rows) (key_exact key row.key e) ∙ value_below row.key rows above) is))
    (λ e. ap (λ o. cond (is_eq o) (Some row.value) (value_at_key rows key)) e ∙ is)

listed : (rows : List Row) → IsAscending rows → ((key value : List ℕ) → value_at_key rows key ≡ Some value → IsGc key value)
    → (es : List (ℕ × GcRow)) × (rows ≡ map spelled_gc_row es) × AreGcRows es
listed [] asc told = ([], refl, tt)
listed (row ∷ rows) asc told =
    let first = told row.key row.value (value_head row rows) in
    let rest = listed rows asc.1 (λ key value is. told key value (later row rows asc.0 key value is)) in
    (first.row ∷ rest.0, (λ i. record { key = first.key_is i; value = first.value_is i } ∷ rest.1 i), ((first.small, first.valid), rest.2))

-- no two of them have one number
apart : (id : ℕ) (es : List (ℕ × GcRow)) → KeysAbove (spelled_key (keys.Gc id)) (map spelled_gc_row es) → find nat_cmp id es ≡ None
apart id [] above = refl
apart id (e ∷ es) above = elim (decide ids id e.0) [
  | inl same ↦
      let less : key_cmp (spelled_key (keys.Gc id)) (spelled_key (keys.Gc id)) ≡ Less = ap (λ n. key_cmp (spelled_key (keys.Gc id)) (spelled_key (keys.Gc n))) same.0 ∙ above.0 in
      absurd (let both : Equal ≡ Less = sym (key_self (spelled_key (keys.Gc id))) ∙ less in cc)
  | inr other ↦ ap (λ b. cond b (Some e.1) (find nat_cmp id es)) other.1 ∙ apart id es above.1
]

counted : (es : List (ℕ × GcRow)) → IsAscending (map spelled_gc_row es) → len (from_entries {R = nat_cmp} es) ≡ length es
counted [] asc = len-empty nat_cmp GcRow
counted (e ∷ es) asc =
    let more = len-insert ids.total (from_entries {R = nat_cmp} es) e.0 e.1 in
    let absent = get-from_entries ids.total es e.0 ∙ apart e.0 es asc.0 in
    let rest = counted es asc.1 in
    more ∙ (ap (λ o. cond (is_some o) (len (from_entries {R = nat_cmp} es)) (len (from_entries {R = nat_cmp} es) + 1)) absent ∙ omega (arith, rest))

of_rows : (R : List Row) (S : TypedRows) → IsAscending R → Spells R S → length (range_rows R all_doomed (raised all_doomed)) ≡ len S.doomed
of_rows R S asc spells =
    let inside = IsAscending-range_rows R all_doomed (raised all_doomed) asc in
    let es = listed (range_rows R all_doomed (raised all_doomed)) inside (is_gc R S spells) in
    ap length es.1 ∙ (length-map es.0 spelled_gc_row ∙ (sym (counted es.0 (subst IsAscending es.1 inside)) ∙ ap len (doomed_read one_value_each R S spells es.0 es.1 es.2)))

pub doomed_rows : (C : Settings) (R : List Row) (T : Tree) → IsAscending R → HasTree C R T → length (range_rows R all_doomed (raised all_doomed)) ≡ len T.doomed
doomed_rows C R T asc (S, spells, good, is) = subst (λ (V : Tree). length (range_rows R all_doomed (raised all_doomed)) ≡ len V.doomed) is (of_rows R S asc spells ∙ sym (len-map_values nat_cmp doom_of S.doomed))
