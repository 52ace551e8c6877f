-- A write set in its place is a write made last.
use Rattle.std.proofs.Common.{◌↔◌, ◌≡◌, ℕ, List, [], ◌∷◌, Option, Some, Bool, true, false, cond, sym, ◌∙◌, ap, refl, subst, ◌<◌, ◌≤◌, ◌+◌, ◌++◌, None, length, take, drop, get_or, set, arith, suc, zero}
use Rattle.std.specs.Ordering.{is_eq, is_le}
use Rattle.std.specs.declared.cmp.Ordering.{Ordering}
use Rattle.std.specs.declared.cmp.Ordering.TheVariants.{Less, Equal, Greater}
use Rattle.conflict_sets.specs.Keys.{key_cmp}
use Rattle.conflict_sets.specs.Rows.{IsAscending, value_at_key, with_write, with_writes}
use Rattle.conflict_sets.specs.Reads.{KeysAgree}
use Rattle.fs_base.specs.declared.row.Row.{Row}
use Rattle.conflict_sets.specs.declared.sets.Write.{Write}
use Rattle.conflict_sets.specs.declared.sets.KeyRead.{KeyRead}
use Rattle.conflict_sets.proofs.KeyOrder.{key_exact, key_trans, key_greater_flips}
use Rattle.conflict_sets.proofs.RowLemmas.{by_place, value-with_write, IsAscending-with_write}
use Rattle.conflict_sets.specs.Writes.{WritesAbove, AreAscending}
use Rattle.txn_task.specs.Writes.{set_write, written_at, read_of, put_at, version_of}
use Rattle.conflict_sets.proofs.RowRanges.{same_rows, not_true}
use Rattle.std.specs.Prelude.{slice_get, insert}
use Rattle.std.proofs.lemmas.List.{take_more, take_all, set_split, drop_more}
use Rattle.std.proofs.lemmas.Option.{slice_get_past}
use Rattle.txn_task.specs.Transactions.{WritesBefore, IsWritePlace, has_key}

both_keys : (k j q : List ℕ) → key_cmp k j ≡ Less → is_eq (key_cmp q k) ≡ true → is_eq (key_cmp q j) ≡ false
both_keys k j q l e = by_place _ q k
    (λ o. not_true (sym (ap is_eq o) ∙ e))
    (λ o. ap is_eq (ap (λ x. key_cmp x j) (key_exact q k o) ∙ l))
    (λ o. not_true (sym (ap is_eq o) ∙ e))

swapped : (a b : Bool) (x y z : Option (List ℕ)) → (a ≡ true → b ≡ false) → cond b y (cond a x z) ≡ cond a x (cond b y z)
swapped true true x y z apart = not_true (sym (apart refl))
swapped true false x y z apart = refl
swapped false b x y z apart = refl

-- writes of two keys in either order
pub with_write_swapped : (k j : List ℕ) (v u : Option (List ℕ)) (rows : List Row) → IsAscending rows → key_cmp k j ≡ Less → with_write j u (with_write k v rows) ≡ with_write k v (with_write j u rows)
with_write_swapped k j v u rows asc l =
    same_rows (with_write j u (with_write k v rows)) (with_write k v (with_write j u rows))
    (IsAscending-with_write j u (with_write k v rows) (IsAscending-with_write k v rows asc))
    (IsAscending-with_write k v (with_write j u rows) (IsAscending-with_write j u rows asc))
    (λ q.
    value-with_write j q u (with_write k v rows) (IsAscending-with_write k v rows asc)
    ∙ (ap (cond (is_eq (key_cmp q j)) u) (value-with_write k q v rows asc)
    ∙ (swapped (is_eq (key_cmp q k)) (is_eq (key_cmp q j)) v u (value_at_key rows q) (both_keys k j q l)
    ∙ (ap (cond (is_eq (key_cmp q k)) v) (sym (value-with_write j q u rows asc))
    ∙ sym (value-with_write k q v (with_write j u rows) (IsAscending-with_write j u rows asc))))))

shadowed : (a : Bool) (x y z : Option (List ℕ)) → cond a x (cond a y z) ≡ cond a x z
shadowed true x y z = refl
shadowed false x y z = refl

-- the later of two writes of one key
pub with_write_again : (k : List ℕ) (v u : Option (List ℕ)) (rows : List Row) → IsAscending rows → with_write k v (with_write k u rows) ≡ with_write k v rows
with_write_again k v u rows asc =
    same_rows (with_write k v (with_write k u rows)) (with_write k v rows)
    (IsAscending-with_write k v (with_write k u rows) (IsAscending-with_write k u rows asc))
    (IsAscending-with_write k v rows asc)
    (λ q.
    value-with_write k q v (with_write k u rows) (IsAscending-with_write k u rows asc)
    ∙ (ap (cond (is_eq (key_cmp q k)) v) (value-with_write k q u rows asc)
    ∙ (shadowed (is_eq (key_cmp q k)) v u (value_at_key rows q)
    ∙ sym (value-with_write k q v rows asc))))

-- a write before others of greater keys is as good as one after them
pub write_late : (k : List ℕ) (v : Option (List ℕ)) (writes : List Write) (rows : List Row) → IsAscending rows → WritesAbove k writes → with_writes (with_write k v rows) writes ≡ with_write k v (with_writes rows writes)
write_late k v [] rows asc h = refl
write_late k v (w ∷ writes) rows asc h =
    ap (λ (x : List Row). with_writes x writes) (with_write_swapped k w.key v w.value rows asc h.0)
    ∙ write_late k v writes (with_write w.key w.value rows) (IsAscending-with_write w.key w.value rows asc) h.1

pub with_writes-set_write : (k : List ℕ) (v : Option (List ℕ)) (writes : List Write) (rows : List Row) → IsAscending rows → AreAscending writes → with_writes rows (set_write k v writes) ≡ with_write k v (with_writes rows writes)
with_writes-set_write k v [] rows asc h = refl
with_writes-set_write k v (w ∷ writes) rows asc h =
    by_place _ k w.key
    (λ e. rw e (write_late k v (w ∷ writes) rows asc (e, below e)))
    (λ e. rw e (ap (λ (x : List Row). with_writes x writes) (sym (with_write_again k v w.value rows asc))
    ∙ (write_late k v writes (with_write k w.value rows) (IsAscending-with_write k w.value rows asc) (subst (λ x. WritesAbove x writes) (sym (key_exact k w.key e)) h.0)
    ∙ ap (λ x. with_write k v (with_writes (with_write x w.value rows) writes)) (key_exact k w.key e))))
    (λ e. rw e (with_writes-set_write k v writes (with_write w.key w.value rows) (IsAscending-with_write w.key w.value rows asc) h.1))
  where
    lower : (ws : List Write) → key_cmp k w.key ≡ Less → WritesAbove w.key ws → WritesAbove k ws
    lower [] e a = tt
    lower (x ∷ ws) e a = (key_trans k w.key x.key e a.0, lower ws e a.1)

    below : key_cmp k w.key ≡ Less → WritesAbove k writes
    below e = lower writes e h.0

above_put : (a k : List ℕ) (v : Option (List ℕ)) (writes : List Write) → key_cmp a k ≡ Less → WritesAbove a writes → WritesAbove a (set_write k v writes)
above_put a k v [] l h = (l, tt)
above_put a k v (w ∷ writes) l h = by_place _ k w.key
    (λ e. rw e (l, h))
    (λ e. rw e (l, h.1))
    (λ e. rw e (h.0, above_put a k v writes l h.1))

pub ascending_put : (k : List ℕ) (v : Option (List ℕ)) (writes : List Write) → AreAscending writes → AreAscending (set_write k v writes)
ascending_put k v [] h = (tt, tt)
ascending_put k v (w ∷ writes) h = by_place _ k w.key
    (λ e. rw e ((e, lower writes e h.0), h))
    (λ e. rw e (subst (λ x. WritesAbove x writes) (sym (key_exact k w.key e)) h.0, h.1))
    (λ e. rw e (above_put w.key k v writes (key_greater_flips k w.key e) h.0, ascending_put k v writes h.1))
  where
    lower : (ws : List Write) → key_cmp k w.key ≡ Less → WritesAbove w.key ws → WritesAbove k ws
    lower [] e a = tt
    lower (x ∷ ws) e a = (key_trans k w.key x.key e a.0, lower ws e a.1)

-- ---- what was read is what the rows have
pub value_of_read : (rows : List Row) (reads : List KeyRead) (key : List ℕ) (v : Option (List ℕ)) → KeysAgree rows reads → read_of reads key ≡ Some v → value_at_key rows key ≡ v
value_of_read rows [] key v h e = absurd (cc)
value_of_read rows (r ∷ reads) key v h e =
    by_test (key_cmp key r.key) refl e (value_of_read rows reads key v h.1)
  where
    some_same : (a b : Option (List ℕ)) → Some a ≡ Some b → a ≡ b
    some_same a b e = cc

    by_test : (o : Ordering) → key_cmp key r.key ≡ o → cond (is_eq o) (Some r.value) (read_of reads key) ≡ Some v → (read_of reads key ≡ Some v → value_at_key rows key ≡ v) → value_at_key rows key ≡ v
    by_test Less is f later = later f
    by_test Equal is f later = ap (value_at_key rows) (key_exact key r.key is) ∙ (h.0 ∙ some_same r.value v f)
    by_test Greater is f later = later f

-- ---- what is written at a key after a put
pub written_at-set_write : (k q : List ℕ) (v : Option (List ℕ)) (writes : List Write) → written_at (set_write k v writes) q ≡ cond (is_eq (key_cmp q k)) (Some v) (written_at writes q)
written_at-set_write k q v [] = refl
written_at-set_write k q v (w ∷ writes) = by_place _ k w.key
    (λ e. rw e refl)
    (λ e. rw e (ap (λ x. cond (is_eq (key_cmp q k)) (Some v) (written_at writes q)) e ∙ twice (is_eq (key_cmp q k)) (is_eq (key_cmp q w.key)) (ap (λ x. is_eq (key_cmp q x)) (key_exact k w.key e)) (written_at writes q)))
    (λ e. rw e (ap (cond (is_eq (key_cmp q w.key)) (Some w.value)) (written_at-set_write k q v writes) ∙ crossed (is_eq (key_cmp q w.key)) (is_eq (key_cmp q k)) (other e) (written_at writes q)))
  where
    twice : (a b : Bool) → a ≡ b → (o : Option (Option (List ℕ))) → cond a (Some v) o ≡ cond a (Some v) (cond b (Some w.value) o)
    twice true b e o = refl
    twice false true e o = not_true e
    twice false false e o = refl

    crossed : (a b : Bool) → (a ≡ true → b ≡ false) → (o : Option (Option (List ℕ))) → cond a (Some w.value) (cond b (Some v) o) ≡ cond b (Some v) (cond a (Some w.value) o)
    crossed true true h o = not_true (sym (h refl))
    crossed true false h o = refl
    crossed false b h o = refl

    other : key_cmp k w.key ≡ Greater → is_eq (key_cmp q w.key) ≡ true → is_eq (key_cmp q k) ≡ false
    other e same = both_keys w.key k q (key_greater_flips k w.key e) same

abbrev new_write : List ℕ → Option (List ℕ) → Write
new_write k v = record { key = k; value = v }

-- the writes before the place stay
set_write_at : (k : List ℕ) (v : Option (List ℕ)) (ws : List Write) (p : ℕ) → WritesBefore k (take p ws) → set_write k v ws ≡ take p ws ++ set_write k v (drop p ws)
set_write_at k v ws zero b = refl
set_write_at k v [] (suc p) b = refl
set_write_at k v (w ∷ ws) (suc p) b = ap (λ o. put_at o (new_write k v) w ws (set_write k v ws)) b.0 ∙ ap (λ rest. w ∷ rest) (set_write_at k v ws p b.1)

there_drop : (k : List ℕ) (v : Option (List ℕ)) (ws : List Write) (p : ℕ) → has_key (slice_get ws p) k ≡ true → set_write k v (drop p ws) ≡ new_write k v ∷ drop (suc p) ws
there_drop k v [] p h = absurd (let f : false ≡ true = h in cc)
there_drop k v (w ∷ ws) zero h =
    by_place _ k w.key
    (λ e. absurd (let f : false ≡ true = (rw e at h) in cc))
    (λ e. rw e refl)
    (λ e. absurd (let f : false ≡ true = (rw e at h) in cc))
there_drop k v (w ∷ ws) (suc p) h = there_drop k v ws p h

absent_drop : (k : List ℕ) (v : Option (List ℕ)) (ws : List Write) (p : ℕ) → has_key (slice_get ws p) k ≡ false → ((w : Write) → slice_get ws p ≡ Some w → is_le (key_cmp k w.key) ≡ true) → set_write k v (drop p ws) ≡ new_write k v ∷ drop p ws
absent_drop k v [] zero h n = refl
absent_drop k v [] (suc p) h n = refl
absent_drop k v (w ∷ ws) zero h n =
    by_place _ k w.key
    (λ e. rw e refl)
    (λ e. absurd (let f : true ≡ false = (rw e at h) in cc))
    (λ e. absurd (let g : is_le (key_cmp k w.key) ≡ true = n w refl in let f : false ≡ true = (rw e at g) in cc))
absent_drop k v (w ∷ ws) (suc p) h n = absent_drop k v ws p h n

before-push : (k : List ℕ) (ws : List Write) (w : Write) → WritesBefore k ws → key_cmp k w.key ≡ Greater → WritesBefore k (ws ++ w ∷ [])
before-push k [] w h e = (e, tt)
before-push k (x ∷ ws) w h e = (h.0, before-push k ws w h.1 e)

pub before_more : (k : List ℕ) (ws : List Write) (i : ℕ) (w : Write) → i < length ws → get_or ws i w ≡ w → is_le (key_cmp k w.key) ≡ false → WritesBefore k (take i ws) → WritesBefore k (take (i + 1) ws)
before_more k ws i w l at n h =
    let P : List Write → Type 0 = λ rs. WritesBefore k rs in
    let one : take (i + 1) ws ≡ take i ws ++ w ∷ [] = take_more ws i w l ∙ ap (λ r. take i ws ++ r ∷ []) at in
    subst P (sym one) (before-push k (take i ws) w h (greater k w.key n))
  where
    greater : (a b : List ℕ) → is_le (key_cmp a b) ≡ false → key_cmp a b ≡ Greater
    greater a b h = by_place (key_cmp a b ≡ Greater) a b
        (λ e. absurd (let f : true ≡ false = (rw e at h) in cc))
        (λ e. absurd (let f : true ≡ false = (rw e at h) in cc))
        (λ e. e)

pub place_end : (k : List ℕ) (ws : List Write) (i : ℕ) → length ws ≤ i → WritesBefore k (take i ws) → IsWritePlace ws k (length ws)
place_end k ws i l h =
    let P : List Write → Type 0 = λ rs. WritesBefore k rs in
    record {
      within = omega arith;
      before = subst P (take_all i ws l ∙ sym (take_all (length ws) ws (omega arith))) h;
      not_after = λ w at. absurd (let f : None ≡ Some w = sym (slice_get_past ws (length ws) (omega arith)) ∙ at in cc);
    }

pub record Found (ws : List Write) (k : List ℕ) (p : ℕ) (there : Bool) : Type 0 where
  pub is : IsWritePlace ws k p
  pub test : has_key (slice_get ws p) k ≡ there

pub found : (ws s1 s2 : List Write) (k k1 k2 : List ℕ) (p : ℕ) (b there : Bool) → s1 ≡ ws → s2 ≡ ws → k1 ≡ k → k2 ≡ k → IsWritePlace s1 k1 p → b ≡ has_key (slice_get s2 p) k2 → b ≡ there → Found ws k p there
found ws s1 s2 k k1 k2 p b there e1 e2 f1 f2 is test t =
    let P : List Write → Type 0 = λ rs. IsWritePlace rs k p in
    let Q : List ℕ → Type 0 = λ q. IsWritePlace s1 q p in
    record {
      is = subst P e1 (subst Q f1 is);
      test = ap (λ rs. has_key (slice_get rs p) k) (sym e2) ∙ (ap (has_key (slice_get s2 p)) (sym f2) ∙ (sym test ∙ t));
    }

pub replaced : (k : List ℕ) (v : Option (List ℕ)) (ws : List Write) (p : ℕ) → p < length ws → Found ws k p true → set ws p (record { key = k; value = v }) ≡ set_write k v ws
replaced k v ws p l f = set_split ws p (record { key = k; value = v }) l ∙ sym (set_write_at k v ws p f.is.before ∙ ap (λ rest. take p ws ++ rest) (there_drop k v ws p f.test))

pub inserted : (k : List ℕ) (v : Option (List ℕ)) (ws : List Write) (p : ℕ) → Found ws k p false → insert ws p (record { key = k; value = v }) ≡ set_write k v ws
inserted k v ws p f = sym (set_write_at k v ws p f.is.before ∙ ap (λ rest. take p ws ++ rest) (absent_drop k v ws p f.test f.is.not_after))

pub has_key_within : (k : List ℕ) (ws : List Write) (p : ℕ) → has_key (slice_get ws p) k ≡ true → p < length ws
has_key_within k [] p h = absurd (let f : false ≡ true = h in cc)
has_key_within k (r ∷ ws) zero h = omega arith
has_key_within k (r ∷ ws) (suc p) h = let l : p < length ws = has_key_within k ws p h in omega arith

-- ---- the version of a read, from the front
module _ (reads : List KeyRead) (versions : List ℕ) (key : List ℕ) (i : ℕ) (r : KeyRead) (l : i < length reads) (same : length versions ≡ length reads) (at : get_or reads i r ≡ r) where
  version_here : version_of (drop i reads) (drop i versions) key ≡ cond (is_eq (key_cmp key r.key)) (Some (get_or versions i 0)) (version_of (drop (i + 1) reads) (drop (i + 1) versions) key)
  version_here =
      ap (λ xs. version_of xs (drop i versions) key) (drop_more reads i r l ∙ ap (λ x. x ∷ drop (i + 1) reads) at)
      ∙ ap (λ ys. version_of (r ∷ drop (i + 1) reads) ys key) (drop_more versions i 0 (omega arith))

  pub version_found : is_eq (key_cmp key r.key) ≡ true → Some (get_or versions i 0) ≡ version_of (drop i reads) (drop i versions) key
  version_found e = sym (version_here ∙ ap (λ b. cond b (Some (get_or versions i 0)) (version_of (drop (i + 1) reads) (drop (i + 1) versions) key)) e)

  pub version_passed : is_eq (key_cmp key r.key) ≡ false → version_of (drop (i + 1) reads) (drop (i + 1) versions) key ≡ version_of (drop i reads) (drop i versions) key
  version_passed e = sym (version_here ∙ ap (λ b. cond b (Some (get_or versions i 0)) (version_of (drop (i + 1) reads) (drop (i + 1) versions) key)) e)

-- a key has a version exactly where it was read
pub version_read : (reads : List KeyRead) (versions : List ℕ) (key : List ℕ) → length versions ≡ length reads → (version_of reads versions key ≡ None) ↔ (read_of reads key ≡ None)
version_read [] versions key same = ((λ e. refl), (λ e. refl))
version_read (r ∷ reads) [] key same = absurd (omega arith)
version_read (r ∷ reads) (version ∷ versions) key same = by (is_eq (key_cmp key r.key)) (version_read reads versions key (omega arith))
  where
    by : (b : Bool) → ((version_of reads versions key ≡ None) ↔ (read_of reads key ≡ None)) → (cond b (Some version) (version_of reads versions key) ≡ None) ↔ (cond b (Some r.value) (read_of reads key) ≡ None)
    by true later = ((λ e. absurd (cc)), (λ e. absurd (cc)))
    by false later = later
