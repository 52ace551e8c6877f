-- Writes of spelled rows are writes of the rows, and bytes spell one typed rows.
use Rattle.std.proofs.Common.{◌≡◌, ◌≢◌, ◌⊎◌, ℕ, List, [], ◌∷◌, refl, sym, ap, subst, ◌∙◌, inl, inr}
use Rattle.std.specs.Prelude.{Option, Some, None, false, ◌==◌, cond}
use Rattle.std.specs.Option.{option_map, option_and_then}
use Rattle.std.specs.Ordering.{nat_cmp, is_eq}
use Rattle.std.specs.FinMap.{get, get-empty, same_map}
use Rattle.conflict_sets.specs.Keys.{key_cmp}
use Rattle.conflict_sets.specs.Rows.{IsAscending, value_at_key, with_write}
use Rattle.fs_base.specs.declared.row.Row.{Row}
use Rattle.conflict_sets.proofs.KeyOrder.{key_total, key_exact}
use Rattle.conflict_sets.proofs.RowLemmas.{value-with_write_same, value-with_write_other}
use Rattle.inode_record.specs.declared.inode.InodeRow.{InodeRow}
use Rattle.row_records.specs.declared.rows.DentRow.{DentRow}
use Rattle.row_records.specs.declared.rows.GcRow.{GcRow}
use Rattle.row_records.specs.declared.rows.KeptRow.{KeptRow}
use Rattle.key_schema.specs.declared.key.Key.{Key}
use Rattle.key_schema.specs.declared.key.Key.TheVariants as keys
use Rattle.row_tree.specs.Values.{Value, AllocValue, DentValue, GcValue, KeptValue, InodeValue, SessionValue, spelled_value, IsValue, as_inode, as_dent, as_session, as_kept, as_gc, as_alloc}
use Rattle.row_tree.specs.TypedRows.{TypedRows, no_rows, value_at, write, of_form}
use Rattle.tree_model.specs.Maps.{dent_cmp, session_cmp}
use Rattle.tree_model.proofs.MapLaws.{IsKeyOrder, decide, some_or_none, same_some, ids, names, holders}
use Rattle.row_tree.proofs.Decoded.{lookup-write_same, lookup-write_other}
use Rattle.key_schema.specs.Keys.{spelled_key, IsSpellable, IsValidKey}
use Rattle.row_tree.specs.Spelling.{OneValueEach, Spells, IsValueOf}
use Rattle.key_schema.proofs.KeyLaws.{one_key_each, spellable}
use Rattle.conflict_sets.proofs.RowRanges.{same_rows}

pub texts : IsKeyOrder key_cmp
texts = record { total = key_total; same = key_exact }

-- ---- keys are the same or not
coded : Key → List ℕ
coded (keys.Alloc s) = 0 ∷ s ∷ []
coded (keys.Dent d n) = 1 ∷ d ∷ n
coded (keys.Gc i) = 2 ∷ i ∷ []
coded (keys.Idem c) = 3 ∷ c.0 ∷ []
coded (keys.Inode i) = 4 ∷ i ∷ []
coded (keys.Session i c n) = 5 ∷ i ∷ c.0 ∷ n ∷ []

first : List ℕ → ℕ
first [] = 0
first (x ∷ xs) = x

rest : List ℕ → List ℕ
rest [] = []
rest (x ∷ xs) = xs

decoded : List ℕ → Key
decoded b =
    cond (first b == 0) (keys.Alloc (first (rest b)))
    (cond (first b == 1) (keys.Dent (first (rest b)) (rest (rest b)))
    (cond (first b == 2) (keys.Gc (first (rest b)))
    (cond (first b == 3) (keys.Idem (record { 0 = first (rest b) }))
    (cond (first b == 4) (keys.Inode (first (rest b)))
    (keys.Session (first (rest b)) (record { 0 = first (rest (rest b)) }) (first (rest (rest (rest b)))))))))

decoded-coded : (k : Key) → decoded (coded k) ≡ k
unfolding coded decoded first rest
decoded-coded (keys.Alloc s) = refl
decoded-coded (keys.Dent d n) = refl
decoded-coded (keys.Gc i) = refl
decoded-coded (keys.Idem c) = refl
decoded-coded (keys.Inode i) = refl
decoded-coded (keys.Session i c n) = refl

pub same_key : (q k : Key) → (q ≡ k) ⊎ (q ≢ k)
same_key q k = elim (decide texts (coded q) (coded k)) [
  | inl e ↦ inl (sym (decoded-coded q) ∙ (ap decoded e.0 ∙ decoded-coded k))
  | inr e ↦ inr (λ p. e.0 (ap coded p))
]

-- ---- what stands at a key has the key's form
pub lookup-form : (S : TypedRows) (k : Key) (v : Value) → value_at S k ≡ Some v → of_form k v ≡ Some v
lookup-form S (keys.Alloc s) v is = formed (get S.next s) is
  where
    formed : (o : Option ℕ) → option_map AllocValue o ≡ Some v → of_form (keys.Alloc s) v ≡ Some v
    formed None e = absurd (cc)
    formed (Some x) e = subst (λ y. of_form (keys.Alloc s) y ≡ Some y) (same_some (AllocValue x) v refl e) refl
lookup-form S (keys.Dent d n) v is = formed (get S.dents (d, n)) is
  where
    formed : (o : Option DentRow) → option_map DentValue o ≡ Some v → of_form (keys.Dent d n) v ≡ Some v
    formed None e = absurd (cc)
    formed (Some x) e = subst (λ y. of_form (keys.Dent d n) y ≡ Some y) (same_some (DentValue x) v refl e) refl
lookup-form S (keys.Gc i) v is = formed (get S.doomed i) is
  where
    formed : (o : Option GcRow) → option_map GcValue o ≡ Some v → of_form (keys.Gc i) v ≡ Some v
    formed None e = absurd (cc)
    formed (Some x) e = subst (λ y. of_form (keys.Gc i) y ≡ Some y) (same_some (GcValue x) v refl e) refl
lookup-form S (keys.Idem c) v is = formed (get S.kept c.0) is
  where
    formed : (o : Option KeptRow) → option_map KeptValue o ≡ Some v → of_form (keys.Idem c) v ≡ Some v
    formed None e = absurd (cc)
    formed (Some x) e = subst (λ y. of_form (keys.Idem c) y ≡ Some y) (same_some (KeptValue x) v refl e) refl
lookup-form S (keys.Inode i) v is = formed (get S.inodes i) is
  where
    formed : (o : Option InodeRow) → option_map InodeValue o ≡ Some v → of_form (keys.Inode i) v ≡ Some v
    formed None e = absurd (cc)
    formed (Some x) e = subst (λ y. of_form (keys.Inode i) y ≡ Some y) (same_some (InodeValue x) v refl e) refl
lookup-form S (keys.Session i c n) v is = formed (get S.sessions (i, (c.0, n))) is
  where
    formed : (o : Option ℕ) → option_map SessionValue o ≡ Some v → of_form (keys.Session i c n) v ≡ Some v
    formed None e = absurd (cc)
    formed (Some x) e = subst (λ y. of_form (keys.Session i c n) y ≡ Some y) (same_some (SessionValue x) v refl e) refl

-- ---- a key that is not valid has nothing on either side
pub at_any : (R : List Row) (S : TypedRows) → Spells R S → (k : Key) → IsSpellable k → value_at_key R (spelled_key k) ≡ option_map spelled_value (value_at S k)
at_any R S spells k fits = elim (some_or_none (value_at_key R (spelled_key k))) [
  | inl none ↦ elim (some_or_none (value_at S k)) [
    | inl other ↦ none ∙ sym (ap (option_map spelled_value) other)
    | inr found ↦ spells.at k (spells.fits k found.0 found.1).0
  ]
  | inr found ↦
      let key = spells.only (spelled_key k) found.0 found.1 in
      let same : k ≡ key.0 = one_key_each k key.0 fits (spellable key.0 key.1) key.2 in
      spells.at k (subst IsValidKey (sym same) key.1)
]

-- ---- a row written on both sides
formed_of : (k : Key) (w : Option Value) → IsValueOf k w → option_and_then (of_form k) w ≡ w
formed_of k None h = refl
formed_of k (Some v) h = h.0

in_range_of : (k : Key) (w : Option Value) (v : Value) → IsValueOf k w → w ≡ Some v → IsValue v
in_range_of k None v h e = absurd (cc)
in_range_of k (Some x) v h e = subst IsValue (same_some x v refl e) h.1

not_equal : (a b : List ℕ) → a ≢ b → is_eq (key_cmp a b) ≡ false
not_equal a b n = elim (decide texts a b) [
  | inl e ↦ absurd (n e.0)
  | inr e ↦ e.1
]

pub spells_write : (R : List Row) (S : TypedRows) → IsAscending R → Spells R S → (k : Key) (w : Option Value) → IsValidKey k → IsValueOf k w
    → Spells (with_write (spelled_key k) (option_map spelled_value w) R) (write S k w)
spells_write R S asc spells k w valid h =
    record {
      at = λ q ok. elim (same_key q k) [
        | inl e ↦
            ap (λ x. value_at_key (with_write (spelled_key k) (option_map spelled_value w) R) (spelled_key x)) e
            ∙ (value-with_write_same (spelled_key k) (option_map spelled_value w) R asc
            ∙ ap (option_map spelled_value) (sym (ap (value_at (write S k w)) e ∙ (lookup-write_same S k w ∙ formed_of k w h))))
        | inr e ↦
            value-with_write_other (spelled_key k) (spelled_key q) (option_map spelled_value w) R (not_equal (spelled_key q) (spelled_key k) (λ p. e (one_key_each q k (spellable q ok) (spellable k valid) p)))
            ∙ (spells.at q ok ∙ ap (option_map spelled_value) (sym (lookup-write_other S k w q e)))
      ];
      only = λ b v is. elim (decide texts b (spelled_key k)) [
        | inl e ↦ (k, valid, e.0)
        | inr e ↦ spells.only b v (sym (value-with_write_other (spelled_key k) b (option_map spelled_value w) R e.1) ∙ is)
      ];
      fits = λ q v is. elim (same_key q k) [
        | inl e ↦ (subst IsValidKey (sym e) valid, in_range_of k w v h (sym (ap (value_at (write S k w)) e ∙ (lookup-write_same S k w ∙ formed_of k w h)) ∙ is))
        | inr e ↦ spells.fits q v (sym (lookup-write_other S k w q e) ∙ is)
      ];
    }

-- ---- the bytes determine the typed rows
pub found_back : (o : Option Value) (b : List ℕ) → Some b ≡ option_map spelled_value o → (w : Value) × (o ≡ Some w) × (spelled_value w ≡ b)
found_back None b e = absurd (cc)
found_back (Some w) b e = (w, refl, sym (same_some b (spelled_value w) refl e))

lookup_found : OneValueEach → (R : List Row) (S U : TypedRows) → Spells R S → Spells R U → (k : Key) (v : Value) → value_at S k ≡ Some v → value_at U k ≡ Some v
lookup_found law R S U a b k v is =
    let fits = a.fits k v is in
    let there : Some (spelled_value v) ≡ option_map spelled_value (value_at U k) = sym (ap (option_map spelled_value) is) ∙ (sym (a.at k fits.0) ∙ b.at k fits.0) in
    let other = found_back (value_at U k) (spelled_value v) there in
    other.1 ∙ ap Some (law k other.0 v (lookup-form U k other.0 other.1) (lookup-form S k v is) (b.fits k other.0 other.1).1 fits.1 other.2)

pub lookup_same : OneValueEach → (R : List Row) (S U : TypedRows) → Spells R S → Spells R U → (k : Key) → value_at S k ≡ value_at U k
lookup_same law R S U a b k = elim (some_or_none (value_at S k)) [
  | inr found ↦ found.1 ∙ sym (lookup_found law R S U a b k found.0 found.1)
  | inl none ↦ elim (some_or_none (value_at U k)) [
    | inl other ↦ none ∙ sym other
    | inr found ↦ lookup_found law R U S b a k found.0 found.1 ∙ sym found.1
  ]
]

undone : {X : Type 0} (f : X → Value) (g : Value → Option X) → ((x : X) → g (f x) ≡ Some x) → (a b : Option X) → option_map f a ≡ option_map f b → a ≡ b
undone {X = X} f g back a b e = sym (twice a) ∙ (ap (option_and_then g) e ∙ twice b)
  where
    twice : (o : Option X) → option_and_then g (option_map f o) ≡ o
    twice None = refl
    twice (Some x) = back x

pub same_typed_rows : OneValueEach → (R : List Row) (S U : TypedRows) → Spells R S → Spells R U → S ≡ U
same_typed_rows law R S U a b =
    let same = lookup_same law R S U a b in
    let next = same_map ids.total ids.same S.next U.next (λ q. undone AllocValue as_alloc (λ x. refl) _ _ (same (keys.Alloc q))) in
    let dents = same_map names.total names.same S.dents U.dents (λ q. undone DentValue as_dent (λ x. refl) _ _ (same (keys.Dent q.0 q.1))) in
    let doomed = same_map ids.total ids.same S.doomed U.doomed (λ q. undone GcValue as_gc (λ x. refl) _ _ (same (keys.Gc q))) in
    let kept = same_map ids.total ids.same S.kept U.kept (λ q. undone KeptValue as_kept (λ x. refl) _ _ (same (keys.Idem (record { 0 = q })))) in
    let inodes = same_map ids.total ids.same S.inodes U.inodes (λ q. undone InodeValue as_inode (λ x. refl) _ _ (same (keys.Inode q))) in
    let sessions = same_map holders.total holders.same S.sessions U.sessions (λ q. undone SessionValue as_session (λ x. refl) _ _ (same (keys.Session q.0 (record { 0 = q.1.0 }) q.1.1))) in
    λ i. record { inodes = inodes i; dents = dents i; sessions = sessions i; kept = kept i; doomed = doomed i; next = next i }

-- ---- no rows spell no rows
absent : (k : Key) → value_at no_rows k ≡ None
absent (keys.Alloc i) = ap (option_map AllocValue) (get-empty nat_cmp i)
absent (keys.Dent d n) = ap (option_map DentValue) (get-empty dent_cmp (d, n))
absent (keys.Gc i) = ap (option_map GcValue) (get-empty nat_cmp i)
absent (keys.Idem c) = ap (option_map KeptValue) (get-empty nat_cmp c.0)
absent (keys.Inode i) = ap (option_map InodeValue) (get-empty nat_cmp i)
absent (keys.Session i c n) = ap (option_map SessionValue) (get-empty session_cmp (i, (c.0, n)))

none_some : {P : Type 0} (v : Value) → None ≡ Some v → P
none_some v e = absurd (cc)

none_bytes : {P : Type 0} (v : List ℕ) → None ≡ Some v → P
none_bytes v e = absurd (cc)

pub spells_nothing : Spells [] no_rows
spells_nothing =
    record {
      at = λ k ok. sym (ap (option_map spelled_value) (absent k));
      only = λ b v is. none_bytes v is;
      fits = λ k v is. none_some v (sym (absent k) ∙ is);
    }

-- ---- the typed rows determine the bytes
pub same_bytes : (R Q : List Row) (S : TypedRows) → IsAscending R → IsAscending Q → Spells R S → Spells Q S → R ≡ Q
same_bytes R Q S a b r q = same_rows R Q a b (λ k. elim (some_or_none (value_at_key R k)) [
  | inr found ↦ found.1 ∙ sym (there R Q r q k found.0 found.1)
  | inl none ↦ elim (some_or_none (value_at_key Q k)) [
    | inl other ↦ none ∙ sym other
    | inr found ↦ there Q R q r k found.0 found.1 ∙ sym found.1
  ]
])
  where
    there : (X Y : List Row) → Spells X S → Spells Y S → (k v : List ℕ) → value_at_key X k ≡ Some v → value_at_key Y k ≡ Some v
    there X Y x y k v is =
        let key = x.only k v is in
        ap (value_at_key Y) key.2 ∙ (y.at key.0 key.1 ∙ (sym (x.at key.0 key.1) ∙ (ap (value_at_key X) (sym key.2) ∙ is)))
