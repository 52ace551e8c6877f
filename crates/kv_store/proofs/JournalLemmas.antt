-- Rows, values and writers along a journal.
use Rattle.std.proofs.Common.{◌≡◌, ℕ, ◌<◌, ◌+◌, List, [], ◌∷◌, ◌++◌, Option, Some, None, Bool, true, false, cond, length, take, drop, get_or, ◌∙◌, ap, refl, arith}
use Rattle.std.specs.Prelude.{unwrap_or}
use Rattle.std.specs.Ordering.{is_eq}
use Rattle.std.proofs.lemmas.List.{take_more, drop_more, take_all}
use Rattle.conflict_sets.specs.Keys.{key_cmp}
use Rattle.conflict_sets.specs.Rows.{IsAscending, with_write, with_writes, value_at_key}
use Rattle.conflict_sets.specs.Reads.{first_held}
use Rattle.fs_base.specs.declared.row.Row.{Row}
use Rattle.conflict_sets.specs.declared.sets.Write.{Write}
use Rattle.conflict_sets.specs.declared.sets.ReadSet.{ReadSet}
use Rattle.conflict_sets.specs.declared.sets.WriteSet.{WriteSet}
use Rattle.conflict_sets.proofs.RowLemmas.{value-with_write, IsAscending-with_write, IsAscending-with_writes}
use Rattle.kv_store.specs.Journal.{after_all, rows_at, written_value, or_else, is_written, writer_from, last_writer, this_or, later_from}

-- one more write
pub written_value-push : (writes : List Write) (w : Write) (key : List ℕ) → written_value (writes ++ w ∷ []) key ≡ cond (is_eq (key_cmp key w.key)) (Some w.value) (written_value writes key)
written_value-push [] w key = refl
written_value-push (x ∷ writes) w key =
    ap (λ (o : Option (Option (List ℕ))). or_else o (cond (is_eq (key_cmp key x.key)) (Some x.value) None)) (written_value-push writes w key)
    ∙ inside (is_eq (key_cmp key w.key)) (written_value writes key) (cond (is_eq (key_cmp key x.key)) (Some x.value) None)
  where
    inside : (b : Bool) (o p : Option (Option (List ℕ))) → or_else (cond b (Some w.value) o) p ≡ cond b (Some w.value) (or_else o p)
    inside true o p = refl
    inside false o p = refl

-- a key after some writes
pub value-with_writes : (rows : List Row) (writes : List Write) (q : List ℕ) → IsAscending rows → value_at_key (with_writes rows writes) q ≡ unwrap_or (written_value writes q) (value_at_key rows q)
value-with_writes rows [] q h = refl
value-with_writes rows (w ∷ writes) q h =
    value-with_writes (with_write w.key w.value rows) writes q (IsAscending-with_write w.key w.value rows h)
    ∙ (ap (unwrap_or (written_value writes q)) (value-with_write w.key q w.value rows h)
    ∙ inside (written_value writes q) (is_eq (key_cmp q w.key)) w.value (value_at_key rows q))
  where
    inside : (o : Option (Option (List ℕ))) (b : Bool) (v d : Option (List ℕ)) → unwrap_or o (cond b v d) ≡ unwrap_or (or_else o (cond b (Some v) None)) d
    inside (Some x) b v d = refl
    inside None true v d = refl
    inside None false v d = refl

pub after_all-append : {E : Type 0} (writes_of : E → WriteSet) (rows : List Row) (xs ys : List E) → after_all writes_of rows (xs ++ ys) ≡ after_all writes_of (after_all writes_of rows xs) ys
after_all-append writes_of rows [] ys = refl
after_all-append writes_of rows (x ∷ xs) ys = after_all-append writes_of (with_writes rows (writes_of x).writes) xs ys

pub IsAscending-after_all : {E : Type 0} (writes_of : E → WriteSet) (rows : List Row) (es : List E) → IsAscending rows → IsAscending (after_all writes_of rows es)
IsAscending-after_all writes_of rows [] h = h
IsAscending-after_all writes_of rows (e ∷ es) h = IsAscending-after_all writes_of (with_writes rows (writes_of e).writes) es (IsAscending-with_writes rows (writes_of e).writes h)

pub IsAscending-rows_at : {E : Type 0} (writes_of : E → WriteSet) (rows : List Row) (es : List E) (n : ℕ) → IsAscending rows → IsAscending (rows_at writes_of rows es n)
IsAscending-rows_at writes_of rows es n h = IsAscending-after_all writes_of rows (take n es) h

-- the rows one entry further
pub rows_at_more : {E : Type 0} (writes_of : E → WriteSet) (rows : List Row) (es : List E) (i : ℕ) (e : E) → i < length es → get_or es i e ≡ e → rows_at writes_of rows es (i + 1) ≡ with_writes (rows_at writes_of rows es i) (writes_of e).writes
rows_at_more writes_of rows es i e l at =
    ap (after_all writes_of rows) (take_more es i e l) ∙ (after_all-append writes_of rows (take i es) (get_or es i e ∷ [])
    ∙ ap (λ x. with_writes (rows_at writes_of rows es i) (writes_of x).writes) at)

pub writer_from-push : {E : Type 0} (writes_of : E → WriteSet) (key : List ℕ) (v b : ℕ) (es : List E) (e : E) → writer_from writes_of key v b (es ++ e ∷ []) ≡ is_written (written_value (writes_of e).writes key) (v + length es + 1) (writer_from writes_of key v b es)
writer_from-push writes_of key v b [] e = ap (λ n. is_written (written_value (writes_of e).writes key) n b) (omega arith)
writer_from-push writes_of key v b (x ∷ es) e =
    let here : ℕ = is_written (written_value (writes_of x).writes key) (v + 1) b in
    writer_from-push writes_of key (v + 1) here es e ∙ ap (λ n. is_written (written_value (writes_of e).writes key) n (writer_from writes_of key (v + 1) here es)) (omega arith)

-- the last writer one entry further
pub last_writer_more : {E : Type 0} (writes_of : E → WriteSet) (key : List ℕ) (es : List E) (i : ℕ) (e : E) → i < length es → get_or es i e ≡ e → last_writer writes_of es (i + 1) key ≡ is_written (written_value (writes_of e).writes key) (i + 1) (last_writer writes_of es i key)
last_writer_more writes_of key es i e l at =
    ap (writer_from writes_of key 0 0) (take_more es i e l)
    ∙ (writer_from-push writes_of key 0 0 (take i es) (get_or es i e)
    ∙ (ap (λ n. is_written (written_value (writes_of (get_or es i e)).writes key) n (last_writer writes_of es i key)) count
    ∙ ap (λ x. is_written (written_value (writes_of x).writes key) (i + 1) (last_writer writes_of es i key)) at))
  where
    count : 0 + length (take i es) + 1 ≡ i + 1
    count = grind (arith, Rattle.std.proofs.lemmas.List.length-take)

pub written_value_more : (writes : List Write) (i : ℕ) (w : Write) (key : List ℕ) → i < length writes → get_or writes i w ≡ w → written_value (take (i + 1) writes) key ≡ cond (is_eq (key_cmp key w.key)) (Some w.value) (written_value (take i writes) key)
written_value_more writes i w key l at =
    ap (λ ws. written_value ws key) (take_more writes i w l)
    ∙ (written_value-push (take i writes) (get_or writes i w) key
    ∙ ap (λ (x : Write). cond (is_eq (key_cmp key x.key)) (Some x.value) (written_value (take i writes) key)) at)

-- the value one entry further
pub value_more : {E : Type 0} (writes_of : E → WriteSet) (rows : List Row) (es : List E) (i : ℕ) (e : E) (key : List ℕ) → IsAscending rows → i < length es → get_or es i e ≡ e → value_at_key (rows_at writes_of rows es (i + 1)) key ≡ unwrap_or (written_value (writes_of e).writes key) (value_at_key (rows_at writes_of rows es i) key)
value_more writes_of rows es i e key a l at =
    ap (λ rs. value_at_key rs key) (rows_at_more writes_of rows es i e l at)
    ∙ value-with_writes (rows_at writes_of rows es i) (writes_of e).writes key (IsAscending-after_all writes_of rows (take i es) a)

-- the search one entry further
pub later_more : {E : Type 0} (writes_of : E → WriteSet) (reads : ReadSet) (v : ℕ) (es : List E) (i : ℕ) (e : E) → i < length es → get_or es i e ≡ e → later_from writes_of reads v (drop i es) ≡ this_or (first_held reads (writes_of e).writes) (v + 1) (later_from writes_of reads (v + 1) (drop (i + 1) es))
later_more writes_of reads v es i e l at =
    ap (later_from writes_of reads v) (drop_more es i e l)
    ∙ ap (λ x. this_or (first_held reads (writes_of x).writes) (v + 1) (later_from writes_of reads (v + 1) (drop (i + 1) es))) at
