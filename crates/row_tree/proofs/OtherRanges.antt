-- Ranges of keys with one prefix: what an empty or a used one tells, and all doomed inodes.
use Rattle.std.proofs.Common.{◌≡◌, ◌≢◌, ℕ, suc, ◌<◌, ◌^◌, Bool, true, false, cond, List, [], ◌∷◌, ◌++◌, take, drop, map, refl, sym, ap, subst, ◌∙◌, inl, inr, arith}
use Rattle.std.specs.Prelude.{Option, Some, None, codes}
use Rattle.std.specs.Option.{option_map}
use Rattle.std.specs.Int.{w64, to_le_bytes, from_be_bytes}
use Rattle.std.specs.declared.cmp.Ordering.TheVariants.{Less, Equal, Greater}
use Rattle.std.specs.Ordering.{is_eq, nat_cmp}
use Rattle.std.specs.FinMap.{get, find, from_entries, get-from_entries, same_map}
use Rattle.std.proofs.lemmas.Nat.{from_le_bytes-to_le_bytes_8}
use Rattle.conflict_sets.specs.Keys.{key_cmp}
use Rattle.conflict_sets.specs.Rows.{value_at_key, is_inside, rows_between}
use Rattle.fs_base.specs.declared.row.Row.{Row}
use Rattle.conflict_sets.proofs.KeyOrder.{key_exact}
use Rattle.row_records.specs.declared.rows.GcRow.{GcRow}
use Rattle.key_schema.specs.declared.key.Key.{Key}
use Rattle.key_schema.specs.declared.key.Key.TheVariants as keys
use Rattle.row_tree.specs.Values.{Value, GcValue, SessionValue, spelled_value, IsValue}
use Rattle.fs_base.specs.declared.ids.ClientId.{ClientId}
use Rattle.row_tree.specs.TypedRows.{TypedRows, value_at}
use Rattle.tree_model.proofs.MapLaws.{decide, some_or_none, same_some, not_some, ids}
use Rattle.key_schema.specs.Keys.{spelled_key, IsSpellable, IsValidKey}
use Rattle.key_schema.specs.Ranges.{raised, session_prefix, all_doomed}
use Rattle.conflict_sets.specs.Ranges.{range_rows}
use Rattle.row_tree.specs.Spelling.{OneValueEach, Spells, spelled_gc_row, AreGcRows}
use Rattle.key_schema.proofs.KeyLaws.{key_of, client_at, key_of-spelled_key, one_key_each, spellable}
use Rattle.conflict_sets.proofs.RowRanges.{value_head, value-range_rows}
use Rattle.row_tree.proofs.Prefixes.{inside_prefix, prefix_of}
use Rattle.row_tree.proofs.SpellingLaws.{at_any, found_back}

first_of_none : (xs : List Row) (n : ℕ) → take (suc n) xs ≡ [] → xs ≡ []
first_of_none [] n is = refl
first_of_none (x ∷ xs) n is = absurd (cc)

first_of_some : (xs ys : List Row) (y : Row) (n : ℕ) → take (suc n) xs ≡ y ∷ ys → (zs : List Row) × (xs ≡ y ∷ zs)
first_of_some [] ys y n is = absurd (cc)
first_of_some (x ∷ xs) ys y n is = (xs, cc)

no_value : (o : Option Value) → None ≡ option_map spelled_value o → o ≡ None
no_value None e = refl
no_value (Some v) e = absurd (cc)

-- what all rows of a range of one prefix tell of a key in it
pub range_told : (R : List Row) (S : TypedRows) → Spells R S → (b : ℕ) (p x : List ℕ) (k : Key) → IsSpellable k → spelled_key k ≡ (b ∷ p) ++ x
    → value_at_key (range_rows R (b ∷ p) (raised (b ∷ p))) (spelled_key k) ≡ option_map spelled_value (value_at S k)
range_told R S spells b p x k fits at =
    value-range_rows R (b ∷ p) (raised (b ∷ p)) (spelled_key k)
    ∙ (ap (λ t. cond t (value_at_key R (spelled_key k)) None) (ap (is_inside (b ∷ p) (raised (b ∷ p))) at ∙ inside_prefix b p x)
    ∙ at_any R S spells k fits)

-- an empty range, asked with a limit of at least 1
pub range_empty : (R : List Row) (S : TypedRows) → Spells R S → (b : ℕ) (p : List ℕ) (n : ℕ) → rows_between R (b ∷ p) (raised (b ∷ p)) (suc n) ≡ []
    → (k : Key) (x : List ℕ) → IsSpellable k → spelled_key k ≡ (b ∷ p) ++ x → value_at S k ≡ None
range_empty R S spells b p n none k x fits at =
    no_value (value_at S k) (sym (ap (λ (rows : List Row). value_at_key rows (spelled_key k)) (first_of_none (range_rows R (b ∷ p) (raised (b ∷ p))) n none)) ∙ range_told R S spells b p x k fits at)

-- a range that gives a row: a valid key of the prefix stands in the typed rows
pub record HasKeyOf (S : TypedRows) (p : List ℕ) : Type 0 where
  pub key : Key
  pub valid : IsValidKey key
  pub rest : List ℕ
  pub at : spelled_key key ≡ p ++ rest
  pub value : Value
  pub there : value_at S key ≡ Some value

taken : (t : Bool) (o : Option (List ℕ)) (v : List ℕ) → cond t o None ≡ Some v → (t ≡ true) × (o ≡ Some v)
taken true o v e = (refl, e)
taken false o v e = absurd (cc)

pub range_used : (R : List Row) (S : TypedRows) → Spells R S → (b : ℕ) (p : List ℕ) (n : ℕ) (r : Row) (rs : List Row) → rows_between R (b ∷ p) (raised (b ∷ p)) (suc n) ≡ r ∷ rs → HasKeyOf S (b ∷ p)
range_used R S spells b p n r rs is =
    let first = first_of_some (range_rows R (b ∷ p) (raised (b ∷ p))) rs r n is in
    let both = taken (is_inside (b ∷ p) (raised (b ∷ p)) r.key) (value_at_key R r.key) r.value (sym (value-range_rows R (b ∷ p) (raised (b ∷ p)) r.key) ∙ (ap (λ (rows : List Row). value_at_key rows r.key) first.1 ∙ value_head r first.0)) in
    let key = spells.only r.key r.value both.1 in
    let pre = prefix_of b p r.key both.0 in
    let found = found_back (value_at S key.0) r.value (sym both.1 ∙ (ap (value_at_key R) key.2 ∙ spells.at key.0 key.1)) in
    record { key = key.0; valid = key.1; rest = pre.0; at = sym key.2 ∙ pre.1; value = found.0; there = found.1 }

-- ---- sessions of an inode
session_key : (i : ℕ) (c : ClientId) (n : ℕ) → spelled_key (keys.Session i c n) ≡ session_prefix i ++ drop 12 (spelled_key (keys.Session i c n))
unfolding spelled_key
session_key i c n = refl

session_of : (i : ℕ) (x : List ℕ) → i < 2 ^ 64 → key_of (session_prefix i ++ x) ≡ keys.Session i (record { 0 = client_at 12 (session_prefix i ++ x) }) (from_be_bytes w64 (drop 28 (session_prefix i ++ x)))
unfolding key_of
session_of i x l = ap (λ j. keys.Session j (record { 0 = client_at 12 (session_prefix i ++ x) }) (from_be_bytes w64 (drop 28 (session_prefix i ++ x)))) (from_le_bytes-to_le_bytes_8 i l)

pub no_sessions : (R : List Row) (S : TypedRows) → Spells R S → (i n : ℕ) → rows_between R (session_prefix i) (raised (session_prefix i)) (suc n) ≡ [] → (c m : ℕ) → get S.sessions (i, (c, m)) ≡ None
no_sessions R S spells i n none c m = elim (some_or_none (get S.sessions (i, (c, m)))) [
  | inl absent ↦ absent
  | inr found ↦
      let client : ClientId = record { 0 = c } in
      let valid = (spells.fits (keys.Session i client m) (SessionValue found.0) (ap (option_map SessionValue) found.1)).0 in
      let gone : value_at S (keys.Session i client m) ≡ None = range_empty R S spells 83 (codes "ESS" ++ to_le_bytes w64 i) n none (keys.Session i client m) (drop 12 (spelled_key (keys.Session i client m))) (spellable (keys.Session i client m) valid) (session_key i client m) in
      absurd (not_some (SessionValue found.0) gone (ap (option_map SessionValue) found.1))
]

some_session : (o : Option ℕ) (v : Value) → option_map SessionValue o ≡ Some v → (t : ℕ) × (o ≡ Some t)
some_session None v e = absurd (cc)
some_session (Some t) v e = (t, refl)

pub some_sessions : (R : List Row) (S : TypedRows) → Spells R S → (i n : ℕ) → i < 2 ^ 36 → (r : Row) (rs : List Row) → rows_between R (session_prefix i) (raised (session_prefix i)) (suc n) ≡ r ∷ rs
    → (c m t : ℕ) × (get S.sessions (i, (c, m)) ≡ Some t)
some_sessions R S spells i n l r rs is =
    let used = range_used R S spells 83 (codes "ESS" ++ to_le_bytes w64 i) n r rs is in
    let c = client_at 12 (session_prefix i ++ used.rest) in
    let m = from_be_bytes w64 (drop 28 (session_prefix i ++ used.rest)) in
    let key : used.key ≡ keys.Session i (record { 0 = c }) m = sym (key_of-spelled_key used.key (spellable used.key used.valid)) ∙ (ap key_of used.at ∙ session_of i used.rest (omega arith)) in
    let at = some_session (get S.sessions (i, (c, m))) used.value (sym (ap (value_at S) key) ∙ used.there) in
    (c, m, at.0, at.1)

-- ---- all doomed inodes, which the range gives in the order of their ids' bytes
gc_key : (i : ℕ) → spelled_key (keys.Gc i) ≡ all_doomed ++ to_le_bytes w64 i
unfolding spelled_key
gc_key i = refl

same_gc : (i j : ℕ) → i < 2 ^ 64 → j < 2 ^ 64 → i ≢ j → is_eq (key_cmp (spelled_key (keys.Gc i)) (spelled_key (keys.Gc j))) ≡ false
same_gc i j a b apart =
    (elim (key_cmp (spelled_key (keys.Gc i)) (spelled_key (keys.Gc j))) as (λ o. key_cmp (spelled_key (keys.Gc i)) (spelled_key (keys.Gc j)) ≡ o → is_eq o ≡ false) [
      | Less ↦ λ e. refl
      | Equal ↦ λ e. absurd (apart (number (keys.Gc i) (keys.Gc j) refl refl (one_key_each (keys.Gc i) (keys.Gc j) a b (key_exact (spelled_key (keys.Gc i)) (spelled_key (keys.Gc j)) e))))
      | Greater ↦ λ e. refl
    ]) refl
  where
    gc_id : Key → ℕ
    gc_id (keys.Gc x) = x
    gc_id _ = 0

    number : (k l : Key) → gc_id k ≡ i → gc_id l ≡ j → k ≡ l → i ≡ j
    number k l a b e = sym a ∙ (ap gc_id e ∙ b)

value_gcs : (i : ℕ) → i < 2 ^ 64 → (es : List (ℕ × GcRow)) → AreGcRows es → value_at_key (map (spelled_gc_row) es) (spelled_key (keys.Gc i)) ≡ option_map spelled_value (option_map GcValue (find nat_cmp i es))
value_gcs i l [] h = refl
value_gcs i l (e ∷ es) h = elim (decide ids i e.0) [
  | inl q ↦
      ap (λ j. value_at_key (map (spelled_gc_row) (e ∷ es)) (spelled_key (keys.Gc j))) q.0
      ∙ (value_head (spelled_gc_row e) (map (spelled_gc_row) es)
      ∙ ap (λ b. option_map spelled_value (option_map GcValue (cond b (Some e.1) (find nat_cmp i es)))) (sym q.1))
  | inr q ↦
      ap (λ b. cond b (Some (spelled_value (GcValue e.1))) (value_at_key (map (spelled_gc_row) es) (spelled_key (keys.Gc i)))) (same_gc i e.0 l (below h.0.0) q.0)
      ∙ (value_gcs i l es h.1
      ∙ ap (λ b. option_map spelled_value (option_map GcValue (cond b (Some e.1) (find nat_cmp i es)))) (sym q.1))
]
  where
    below : e.0 < 2 ^ 36 → e.0 < 2 ^ 64
    below x = omega arith

in_range_found : (i : ℕ) (es : List (ℕ × GcRow)) → AreGcRows es → (g : GcRow) → find nat_cmp i es ≡ Some g → (i < 2 ^ 36) × IsValue (GcValue g)
in_range_found i [] h g e = absurd (cc)
in_range_found i (x ∷ es) h g e = elim (decide ids i x.0) [
  | inl q ↦ (subst (λ j. j < 2 ^ 36) (sym q.0) h.0.0, subst (λ y. IsValue (GcValue y)) (same_some x.1 g (ap (λ b. cond b (Some x.1) (find nat_cmp i es)) q.1) e) h.0.1)
  | inr q ↦ in_range_found i es h.1 g (sym (ap (λ b. cond b (Some x.1) (find nat_cmp i es)) q.1) ∙ e)
]

gc_value : (o : Option GcRow) (v : Value) → option_map GcValue o ≡ Some v → (g : GcRow) × (o ≡ Some g) × (v ≡ GcValue g)
gc_value None v e = absurd (cc)
gc_value (Some g) v e = (g, refl, sym (same_some (GcValue g) v refl e))

gc_of : Value → Option GcRow
gc_of (GcValue g) = Some g
gc_of _ = None

-- The rows read, put into a map by number, are the doomed rows; the reply lists that map's entries.
pub doomed_read : OneValueEach → (R : List Row) (S : TypedRows) → Spells R S → (es : List (ℕ × GcRow)) → range_rows R all_doomed (raised all_doomed) ≡ map (spelled_gc_row) es → AreGcRows es → from_entries {R = nat_cmp} es ≡ S.doomed
unfolding gc_of
doomed_read law R S spells es is h = same_map ids.total ids.same (from_entries {R = nat_cmp} es) S.doomed (λ i. get-from_entries ids.total es i ∙ at i)
  where
    told : (i : ℕ) → i < 2 ^ 36 → option_map spelled_value (option_map GcValue (find nat_cmp i es)) ≡ option_map spelled_value (value_at S (keys.Gc i))
    told i l = sym (value_gcs i (omega arith) es h) ∙ (ap (λ (rows : List Row). value_at_key rows (spelled_key (keys.Gc i))) (sym is) ∙ range_told R S spells 71 (codes "COL") (to_le_bytes w64 i) (keys.Gc i) (omega arith) (gc_key i))

    at : (i : ℕ) → find nat_cmp i es ≡ get S.doomed i
    at i = elim (some_or_none (find nat_cmp i es)) [
      | inr found ↦
          let fits = in_range_found i es h found.0 found.1 in
          let there = found_back (value_at S (keys.Gc i)) (spelled_value (GcValue found.0)) (sym (ap (λ o. option_map spelled_value (option_map GcValue o)) found.1) ∙ told i fits.0) in
          let row = gc_value (get S.doomed i) there.0 there.1 in
          let same : GcValue found.0 ≡ GcValue row.0 = law (keys.Gc i) (GcValue found.0) (GcValue row.0) refl refl fits.1 (subst IsValue row.2 (spells.fits (keys.Gc i) there.0 there.1).1) (sym there.2 ∙ ap spelled_value row.2) in
          found.1 ∙ (ap Some (same_some found.0 row.0 refl (ap gc_of same)) ∙ sym row.1)
      | inl none ↦ elim (some_or_none (get S.doomed i)) [
        | inl other ↦ none ∙ sym other
        | inr found ↦
            let fits = (spells.fits (keys.Gc i) (GcValue found.0) (ap (option_map GcValue) found.1)).0 in
            let gone : value_at S (keys.Gc i) ≡ None = no_value (value_at S (keys.Gc i)) (sym (ap (λ o. option_map spelled_value (option_map GcValue o)) none) ∙ told i fits) in
            absurd (not_some (GcValue found.0) gone (ap (option_map GcValue) found.1))
      ]
    ]

-- a row that a range gives is that of a valid key with the prefix, and what the typed rows have there is spelled in it
pub record IsRowOf (S : TypedRows) (p b v : List ℕ) : Type 0 where
  pub has : HasKeyOf S p
  pub key : b ≡ spelled_key has.key
  pub value : spelled_value has.value ≡ v

pub range_row : (R : List Row) (S : TypedRows) → Spells R S → (b : ℕ) (p q v : List ℕ) → value_at_key (range_rows R (b ∷ p) (raised (b ∷ p))) q ≡ Some v → IsRowOf S (b ∷ p) q v
range_row R S spells b p q v is =
    let both = taken (is_inside (b ∷ p) (raised (b ∷ p)) q) (value_at_key R q) v (sym (value-range_rows R (b ∷ p) (raised (b ∷ p)) q) ∙ is) in
    let key = spells.only q v both.1 in
    let pre = prefix_of b p q both.0 in
    let found = found_back (value_at S key.0) v (sym both.1 ∙ (ap (value_at_key R) key.2 ∙ spells.at key.0 key.1)) in
    record { has = record { key = key.0; valid = key.1; rest = pre.0; at = sym key.2 ∙ pre.1; value = found.0; there = found.1 }; key = key.2; value = found.2 }
