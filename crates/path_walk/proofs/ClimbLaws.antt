-- The way up along entries is, in good rows, the way up by the parents that rows name.
use Rattle.std.proofs.Common.{◌≡◌, ◌≢◌, ◌⊎◌, ℕ, zero, suc, ◌+◌, ◌-◌, ◌<◌, ◌≤◌, ◌^◌, Bool, true, false, cond, ◌||◌, ◌==◌, List, [], ◌∷◌, ◌++◌, map, length, refl, sym, ap, subst, ◌∙◌, inl, inr, arith, eqb, eq-eqb, eqb-true, ne_eqb, length-append, T}
use Rattle.std.specs.Prelude.{Option, Some, None, IsSome}
use Rattle.std.specs.List.{list_any, AllByRecursion, IsDistinct}
use Rattle.std.specs.Map.{lookup}
use Rattle.std.specs.Ordering.{eq_by_cmp, is_eq, nat_cmp}
use Rattle.std.specs.Cmp.{eq_by_cmp_equiv, tied_itself}
use Rattle.std.specs.FinMap.{get, entries, entries_sorted, get-entries, find, is_sorted, len}
use Rattle.std.proofs.lemmas.Map.Steps.{length-le_from_keys}
use Rattle.conflict_sets.specs.Keys.{key_cmp}
use Rattle.conflict_sets.specs.declared.sets.KeyRead.{KeyRead}
use Rattle.conflict_sets.specs.declared.sets.ReadSet.{ReadSet}
use Rattle.conflict_sets.proofs.KeyOrder.{key_exact, key_total}
use Rattle.conflict_sets.proofs.RowLemmas.{by_place}
use Rattle.fs_base.specs.Config.{Settings}
use Rattle.fs_base.specs.declared.kind.Kind.TheVariants as kinds
use Rattle.key_schema.specs.Keys.{spelled_key}
use Rattle.key_schema.specs.declared.key.Key.TheVariants as keys
use Rattle.row_records.specs.declared.rows.DentRow.{DentRow}
use Rattle.row_tree.specs.Steps.{IsPathAround}
use Rattle.row_tree.specs.TreeOf.{tree_of, node_of}
use Rattle.row_tree.specs.TypedRows.{TypedRows, parent_at}
use Rattle.row_tree.specs.Values.{InodeValue}
use Rattle.row_tree.specs.WellFormed.{HasKind, IsPath, IsWellFormed}
use Rattle.row_tree.proofs.Adding.{parent_row}
use Rattle.row_tree.proofs.Ancestors.{IsOn, is_dir, root_parent}
use Rattle.row_tree.proofs.Removing.{entry_of_dir, same_kind}
use Rattle.row_tree.proofs.Telling.{entry_is}
use Rattle.row_tree.proofs.Ways.{IsWay, or_true, way_distinct, way_of_path, way_short, zero_or}
use Rattle.std.specs.Option.{option_map}
use Rattle.tree_model.specs.Maps.{dent_cmp}
use Rattle.tree_model.specs.Tree.{Tree}
use Rattle.tree_model.proofs.MapLaws.{both_first, both_second, decide, find_below, len-map_values, names, not_some, some_injective}
use Rattle.txn_task.specs.Agreeing.{Agrees}
use Rattle.txn_task.specs.Writes.{read_of}
use Rattle.path_walk.specs.Areas.{Area, OneKey, AreRead}
use Rattle.path_walk.specs.Climbing.{above, climb, climbed, from_above, first_dir_of}
use Rattle.path_walk.proofs.PutLaws.{apart}

-- from id up by parent ids to here, along the visited ids, none of which is the root or x
abbrev pub IsClimb : TypedRows → ℕ → ℕ → List ℕ → ℕ → Type 0
IsClimb S x id [] here = id ≡ here
IsClimb S x id (v ∷ vs) here = (id ≡ v) × (v ≢ x) × (v ≢ 0) × (p : ℕ) × (parent_at S v ≡ Some p) × IsClimb S x p vs here

-- ---- by parents

module _ (S : TypedRows) where
  -- a climb and the way from where it has come are one way
  climb_way : (x id : ℕ) (visited : List ℕ) (here : ℕ) (way : List ℕ) → IsClimb S x id visited here → IsWay S here way → IsWay S id (visited ++ way)
  climb_way x id [] here way c w = subst (λ (y : ℕ). IsWay S y way) (sym c) w
  climb_way x id (v ∷ vs) here way c w = (c.0, c.2, c.3, c.4, climb_way x c.3 vs here way c.5 w)

  pub climb_on : (x id : ℕ) (visited : List ℕ) (here p : ℕ) → IsClimb S x id visited here → here ≢ x → here ≢ 0 → parent_at S here ≡ Some p → IsClimb S x id (visited ++ here ∷ []) p
  climb_on x id [] here p c nx nz is = (c, nx, nz, p, is, refl)
  climb_on x id (v ∷ vs) here p c nx nz is = (c.0, c.1, c.2, c.3, c.4, climb_on x c.3 vs here p c.5 nx nz is)

  -- at the root, without x
  pub climb_clear : (x id : ℕ) (visited : List ℕ) (here : ℕ) → IsClimb S x id visited here → here ≢ x → here ≡ 0 → (path : List ℕ) × IsPathAround S x id path
  climb_clear x id [] here c nx z = ([], (λ e. nx (sym c ∙ e), c ∙ z))
  climb_clear x id (v ∷ vs) here c nx z =
      let up = climb_clear x c.3 vs here c.5 nx z in
      (c.3 ∷ up.0, (λ e. c.1 (sym c.0 ∙ e), ap (parent_at S) c.0 ∙ c.4, up.1))

  -- at x
  pub climb_found : (x id : ℕ) (visited : List ℕ) (here : ℕ) (rest : List ℕ) → IsClimb S x id visited here → here ≡ x → IsPath S here rest → (path : List ℕ) × IsPath S id path × IsOn x id path
  climb_found x id [] here rest c is h = (rest, subst (λ (y : ℕ). IsPath S y rest) (sym c) h, at rest)
    where
      at : (qs : List ℕ) → IsOn x id qs
      at [] = sym (c ∙ is)
      at (q ∷ qs) = inl (sym (c ∙ is))
  climb_found x id (v ∷ vs) here rest c is h =
      let up = climb_found x c.3 vs here rest c.5 is h in
      (c.3 ∷ up.0, (ap (parent_at S) c.0 ∙ c.4, up.1), inr up.2)

-- a parent is a directory
pub parent_is_dir : (C : Settings) (S : TypedRows) → IsWellFormed C S → (id p : ℕ) → parent_at S id ≡ Some p → HasKind S p kinds.Dir
parent_is_dir C S good id p is = elim (zero_or id) [
  | inl z ↦
      let root = root_parent C S good in
      is_dir C S good p 0 (ap (parent_at S) (some_injective p 0 (sym is ∙ ap (parent_at S) z ∙ root)) ∙ root)
  | inr nz ↦ let at = entry_of_dir C S good id p nz is in (good.entry p at.0 at.1 at.2).parent
]

-- ---- by entries

-- what is found stands among the entries
place_found : (es : List ((ℕ × List ℕ) × ℕ)) → T (is_sorted dent_cmp es) → (id dir : ℕ) → first_dir_of id es ≡ Some dir → (name : List ℕ) × (find dent_cmp (dir, name) es ≡ Some id)
place_found [] h id dir is = cc
place_found (e ∷ es) h id dir is = go (e.1 == id) refl is (λ found. place_found es (both_second _ _ h) id dir found)
  where
    go : (b : Bool) → (e.1 == id) ≡ b → cond b (Some e.0.0) (first_dir_of id es) ≡ Some dir → (first_dir_of id es ≡ Some dir → (name : List ℕ) × (find dent_cmp (dir, name) es ≡ Some id)) → (name : List ℕ) × (find dent_cmp (dir, name) (e ∷ es) ≡ Some id)
    go true here found later = (
      e.0.1,
      ap (λ (x : ℕ). find dent_cmp (x, e.0.1) (e ∷ es)) (sym (some_injective e.0.0 dir found))
          ∙ ap (λ r. cond (is_eq r) (Some e.1) (find dent_cmp e.0 es)) (tied_itself names.total e.0)
          ∙ ap Some (eqb-true e.1 id here),
    )
    go false other found later =
        let rest = later found in (
          rest.0,
          elim (decide names (dir, rest.0) e.0) [
            | inl q ↦ absurd (not_some id (find_below names e.0 es (both_first _ _ h)) (ap (λ x. find dent_cmp x es) (sym q.0) ∙ rest.1))
            | inr q ↦ ap (λ b. cond b (Some e.1) (find dent_cmp (dir, rest.0) es)) q.1 ∙ rest.1
          ],
        )

-- what stands among them is found
place_there : (es : List ((ℕ × List ℕ) × ℕ)) (k : ℕ × List ℕ) (id : ℕ) → find dent_cmp k es ≡ Some id → first_dir_of id es ≢ None
place_there [] k id is none = cc
place_there (e ∷ es) k id is none = go (e.1 == id) refl none (λ at found. place_there es k id at found)
  where
    go : (b : Bool) → (e.1 == id) ≡ b → cond b (Some e.0.0) (first_dir_of id es) ≡ None → (find dent_cmp k es ≡ Some id → first_dir_of id es ≢ None) → ⊥
    go true here found later = absurd (cc)
    go false other found later = elim (decide names k e.0) [
      | inl q ↦
          let same : e.1 ≡ id = some_injective e.1 id (sym (ap (λ b. cond b (Some e.1) (find dent_cmp k es)) q.1) ∙ is) in
          let clash : false ≡ true = sym other ∙ eq-eqb e.1 id same in
          absurd (cc)
      | inr q ↦ later (sym (ap (λ b. cond b (Some e.1) (find dent_cmp k es)) q.1) ∙ is) found
    ]

-- the directory above is the parent that the row names
pub above_told : (C : Settings) (S : TypedRows) → IsWellFormed C S → (id p : ℕ) → id ≢ 0 → parent_at S id ≡ Some p → above (tree_of S) id ≡ Some p
above_told C S good id p nz is = by (above (tree_of S) id) refl
  where
    to_parent : (dir : ℕ) (name : List ℕ) (o : Option DentRow) → get S.dents (dir, name) ≡ o → get (tree_of S).entries (dir, name) ≡ Some id → dir ≡ p
    to_parent dir name None at leads = absurd (not_some id (entry_is S dir name None at) leads)
    to_parent dir name (Some e) at leads =
        let same : e.inode ≡ id = some_injective e.inode id (sym (entry_is S dir name (Some e) at) ∙ leads) in
        let entry = good.entry dir name e at in
        let kind = same_kind S e.inode e.kind kinds.Dir entry.target (subst (λ (x : ℕ). HasKind S x kinds.Dir) (sym same) (is_dir C S good id p is)) in
        some_injective dir p (sym (entry.inside kind) ∙ ap (parent_at S) same ∙ is)

    by : (o : Option ℕ) → above (tree_of S) id ≡ o → above (tree_of S) id ≡ Some p
    by None none =
        let at = entry_of_dir C S good id p nz is in
        absurd (place_there (entries (tree_of S).entries) (p, at.0) id (sym (get-entries (tree_of S).entries (p, at.0)) ∙ (entry_is S p at.0 (Some at.1) at.2 ∙ ap Some at.3)) none)
    by (Some dir) found =
        let at = place_found (entries (tree_of S).entries) (entries_sorted (tree_of S).entries) id dir found in
        found ∙ ap Some (to_parent dir at.0 (get S.dents (dir, at.0)) refl (get-entries (tree_of S).entries (dir, at.0) ∙ at.1))

-- ---- what is read on the way

abbrev pub inode_area : ℕ → Area
inode_area id = OneKey (keys.Inode id)

or_false : (a b : Bool) → a ≡ false → b ≡ false → (a || b) ≡ false
or_false a b p q = ap (λ x. x || b) p ∙ q

or_right : (a b : Bool) → b ≡ true → (a || b) ≡ true
or_right true b h = refl
or_right false b h = h

-- neither the source nor the root is read
climb_ends : (m : ℕ) (T : Tree) (x here : ℕ) → (here ≡ x) ⊎ (here ≡ 0) → climb m T x here ≡ []
climb_ends zero T x here is = refl
climb_ends (suc m) T x here is = ap (λ b. cond b [] (OneKey (keys.Inode here) ∷ from_above (above T here) (climb m T x))) (ends is)
  where
    ends : (here ≡ x) ⊎ (here ≡ 0) → ((here == x) || (here == 0)) ≡ true
    ends (inl e) = ap (λ b. b || (here == 0)) (eq-eqb here x e)
    ends (inr e) = or_right (here == x) (here == 0) (eq-eqb here 0 e)

climb_step : (m : ℕ) (T : Tree) (x here : ℕ) → here ≢ x → here ≢ 0 → climb (suc m) T x here ≡ OneKey (keys.Inode here) ∷ from_above (above T here) (climb m T x)
climb_step m T x here nx nz = ap (λ b. cond b [] (OneKey (keys.Inode here) ∷ from_above (above T here) (climb m T x))) (or_false (here == x) (here == 0) (ne_eqb here x nx) (ne_eqb here 0 nz))

module _ (C : Settings) (S : TypedRows) (good : IsWellFormed C S) (x : ℕ) where
  climb_behind : (visited : List ℕ) (n m id here : ℕ) → IsClimb S x id visited here → n ≡ length visited + m → climb n (tree_of S) x id ≡ map inode_area visited ++ climb m (tree_of S) x here
  climb_behind [] n m id here c long = let same : n ≡ m = omega arith in λ i. climb (same i) (tree_of S) x (c i)
  climb_behind (v ∷ vs) zero m id here c long = absurd (omega arith)
  climb_behind (v ∷ vs) (suc n) m id here c long =
      ap (climb (suc n) (tree_of S) x) c.0
      ∙ climb_step n (tree_of S) x v c.1 c.2
      ∙ ap (λ (o : Option ℕ). OneKey (keys.Inode v) ∷ from_above o (climb n (tree_of S) x)) (above_told C S good v c.3 c.2 c.4)
      ∙ ap (λ (l : List Area). OneKey (keys.Inode v) ∷ l) (climb_behind vs n m c.3 here c.5 (omega arith))

  module _ (dir here : ℕ) (visited : List ℕ) (c : IsClimb S x dir visited here) (is : HasKind S here kinds.Dir) where
    abbrev size : ℕ
    size = len (tree_of S).nodes

    way : (way : List ℕ) × IsWay S here way × (length visited + length way ≤ size)
    way =
        let up = good.leads here is in
        let w = way_of_path S here up.0 up.1 in
        let short = way_short S dir (visited ++ w.0) (climb_way S x dir visited here w.0 c w.1) in
        let long : length (visited ++ w.0) ≡ length visited + length w.0 = length-append visited w.0 in
        let same : size ≡ len S.inodes = len-map_values nat_cmp node_of S.inodes in
        (w.0, w.1, omega arith)

    pub areas_at_end : (here ≡ x) ⊎ (here ≡ 0) → climbed (tree_of S) x dir ≡ map inode_area visited ++ []
    areas_at_end ends =
        let few = way.2 in
        climb_behind visited size (size - length visited) dir here c (omega arith)
        ∙ ap (λ (l : List Area). map inode_area visited ++ l) (climb_ends (size - length visited) (tree_of S) x here ends)

    pub areas_on : here ≢ x → here ≢ 0 → (rest : List Area) × (climbed (tree_of S) x dir ≡ map inode_area visited ++ OneKey (keys.Inode here) ∷ rest)
    areas_on nx nz =
        let few = way.2 in
        let some : 1 ≤ length way.0 = goes way.0 way.1 in
        let left : ℕ = size - length visited - 1 in (
          from_above (above (tree_of S) here) (climb left (tree_of S) x),
          climb_behind visited size (suc left) dir here c (omega arith)
              ∙ ap (λ (l : List Area). map inode_area visited ++ l) (climb_step left (tree_of S) x here nx nz),
        )
      where
        goes : (w : List ℕ) → IsWay S here w → 1 ≤ length w
        goes [] z = absurd (nz z)
        goes (v ∷ vs) w = omega arith

-- ---- a way has no more ids than keys were read

abbrev spelled_ids : List ℕ → List (List ℕ)
spelled_ids [] = []
spelled_ids (v ∷ vs) = spelled_key (keys.Inode v) ∷ spelled_ids vs

abbrev as_entries : List KeyRead → List (List ℕ × Option (List ℕ))
as_entries [] = []
as_entries (r ∷ rs) = (r.key, r.value) ∷ as_entries rs

entries_long : (rs : List KeyRead) → length (as_entries rs) ≡ length rs
entries_long [] = refl
entries_long (r ∷ rs) = ap suc (entries_long rs)

ids_long : (vs : List ℕ) → length (spelled_ids vs) ≡ length vs
ids_long [] = refl
ids_long (v ∷ vs) = ap suc (ids_long vs)

lookup_read : (rs : List KeyRead) (key : List ℕ) → lookup (eq_by_cmp key_cmp key) (as_entries rs) ≡ read_of rs key
lookup_read [] key = refl
lookup_read (r ∷ rs) key = ap (λ o. cond (is_eq (key_cmp key r.key)) (Some r.value) o) (lookup_read rs key)

-- each fits its bytes
abbrev AreSmall : List ℕ → Type 0
AreSmall [] = Unit {0}
AreSmall (v ∷ vs) = (v < 2 ^ 64) × AreSmall vs

apart_from : (v : ℕ) (vs : List ℕ) → v < 2 ^ 64 → AreSmall vs → AllByRecursion (λ w. eqb v w ≡ false) vs → AllByRecursion (λ k. eq_by_cmp key_cmp (spelled_key (keys.Inode v)) k ≡ false) (spelled_ids vs)
apart_from v [] small smalls other = tt
apart_from v (w ∷ ws) small smalls other = (apart (keys.Inode v) (keys.Inode w) small smalls.0 differ, apart_from v ws small smalls.1 other.1)
  where
    id_of : Rattle.key_schema.specs.declared.key.Key.Key → ℕ
    id_of (keys.Inode id) = id
    id_of key = 0

    differ : keys.Inode v ≢ keys.Inode w
    differ e = let clash : false ≡ true = sym other.0 ∙ eq-eqb v w (ap id_of e) in cc

distinct_ids : (vs : List ℕ) → AreSmall vs → IsDistinct eqb vs → IsDistinct (eq_by_cmp key_cmp) (spelled_ids vs)
unfolding IsDistinct
distinct_ids [] smalls d = tt
distinct_ids (v ∷ vs) smalls d = (apart_from v vs smalls.0 smalls.1 d.0, distinct_ids vs smalls.1 d.1)

-- each of these was read
ids_read : (reads : ReadSet) (vs : List ℕ) → AreRead reads (map inode_area vs) → (q : List ℕ) → list_any (eq_by_cmp key_cmp q) (spelled_ids vs) ≡ true → IsSome (lookup (eq_by_cmp key_cmp q) (as_entries reads.keys))
ids_read reads [] read q on = let clash : false ≡ true = on in absurd (cc)
ids_read reads (v ∷ vs) read q on = elim (or_true (eq_by_cmp key_cmp q (spelled_key (keys.Inode v))) (list_any (eq_by_cmp key_cmp q) (spelled_ids vs)) on) [
  | inl e ↦ by_place _ q (spelled_key (keys.Inode v)) (λ o. let clash : false ≡ true = sym (ap is_eq o) ∙ e in absurd (cc)) (λ o. here (key_exact q (spelled_key (keys.Inode v)) o)) (λ o. let clash : false ≡ true = sym (ap is_eq o) ∙ e in absurd (cc))
  | inr later ↦ ids_read reads vs read.1 q later
]
  where
    here : q ≡ spelled_key (keys.Inode v) → IsSome (lookup (eq_by_cmp key_cmp q) (as_entries reads.keys))
    here same = subst IsSome (sym (lookup_read reads.keys q ∙ ap (read_of reads.keys) same ∙ read.0.1)) refl

distinct_prefix : (xs ys : List ℕ) → IsDistinct eqb (xs ++ ys) → IsDistinct eqb xs
unfolding IsDistinct
distinct_prefix [] ys d = tt
distinct_prefix (x ∷ xs) ys d = (all_prefix xs d.0, distinct_prefix xs ys d.1)
  where
    all_prefix : (zs : List ℕ) → AllByRecursion (λ y. eqb x y ≡ false) (zs ++ ys) → AllByRecursion (λ y. eqb x y ≡ false) zs
    all_prefix [] h = tt
    all_prefix (z ∷ zs) h = (h.0, all_prefix zs h.1)

pub climb_few : (C : Settings) (S : TypedRows) (reads : ReadSet) → IsWellFormed C S → Agrees S reads → (x dir here : ℕ) (visited : List ℕ) → IsClimb S x dir visited here → HasKind S here kinds.Dir → AreRead reads (map inode_area visited)
    → length visited ≤ length reads.keys
climb_few C S reads good agrees x dir here visited c is read =
    let up = good.leads here is in
    let w = way_of_path S here up.0 up.1 in
    let distinct = distinct_prefix visited w.0 (way_distinct S dir (visited ++ w.0) (climb_way S x dir visited here w.0 c w.1)) in
    let few = length-le_from_keys (eq_by_cmp_equiv key_total) (spelled_ids visited) (as_entries reads.keys) (distinct_ids visited (smalls visited dir c) distinct) (ids_read reads visited read) in
    let ids : length (spelled_ids visited) ≡ length visited = ids_long visited in
    let keys_read : length (as_entries reads.keys) ≡ length reads.keys = entries_long reads.keys in
    omega arith
  where
    smalls : (vs : List ℕ) (id : ℕ) → IsClimb S x id vs here → AreSmall vs
    smalls [] id climbs = tt
    smalls (v ∷ vs) id climbs =
        let row = parent_row S v climbs.3 climbs.4 in
        let small : v < 2 ^ 36 = (agrees.spells.fits (keys.Inode v) (InodeValue row.0) (ap (option_map InodeValue) row.1)).0 in
        (omega arith, smalls vs climbs.3 climbs.5)
