-- Rows with a key set or removed.
use Rattle.std.proofs.Common.{◌≡◌, ℕ, List, [], ◌∷◌, ◌++◌, Option, Some, None, false, cond, sym, ◌∙◌, ap, refl}
use Rattle.std.specs.Prelude.{filter}
use Rattle.std.specs.Ordering.{is_eq}
use Rattle.std.specs.declared.cmp.Ordering.TheVariants.{Less, Equal, Greater}
use Rattle.conflict_sets.specs.Keys.{key_cmp}
use Rattle.conflict_sets.specs.Rows.{KeysAbove, IsAscending, value_at_key, is_inside, row_if_some, with_write, with_writes}
use Rattle.fs_base.specs.declared.row.Row.{Row}
use Rattle.conflict_sets.specs.declared.sets.Write.{Write}
use Rattle.conflict_sets.proofs.KeyOrder.{key_exact, key_self, key_greater_flips, key_trans}

-- keys above b are above a smaller a
pub KeysAbove_lower : (a b : List ℕ) (rows : List Row) → key_cmp a b ≡ Less → KeysAbove b rows → KeysAbove a rows
KeysAbove_lower a b [] l h = tt
KeysAbove_lower a b (row ∷ rows) l h = (key_trans a b row.key l h.0, KeysAbove_lower a b rows l h.1)

-- a key below all has no value
pub value_below : (key : List ℕ) (rows : List Row) → KeysAbove key rows → value_at_key rows key ≡ None
value_below key [] h = refl
value_below key (row ∷ rows) h = rw h.0 (value_below key rows h.1)

-- with_write, by where the key stands
pub with_write_less : (k : List ℕ) (v : Option (List ℕ)) (row : Row) (rows : List Row) → key_cmp k row.key ≡ Less → with_write k v (row ∷ rows) ≡ row_if_some k v ++ (row ∷ rows)
with_write_less k v row rows h = rw h refl

pub with_write_equal : (k : List ℕ) (v : Option (List ℕ)) (row : Row) (rows : List Row) → key_cmp k row.key ≡ Equal → with_write k v (row ∷ rows) ≡ row_if_some k v ++ rows
with_write_equal k v row rows h = rw h refl

pub with_write_greater : (k : List ℕ) (v : Option (List ℕ)) (row : Row) (rows : List Row) → key_cmp k row.key ≡ Greater → with_write k v (row ∷ rows) ≡ row ∷ with_write k v rows
with_write_greater k v row rows h = rw h refl

-- a case for each place that a key may have beside another
pub by_place : (P : Type 0) (a b : List ℕ) → (key_cmp a b ≡ Less → P) → (key_cmp a b ≡ Equal → P) → (key_cmp a b ≡ Greater → P) → P
by_place P a b less equal greater =
    (elim (key_cmp a b) as (λ o. key_cmp a b ≡ o → P) [ Less ↦ less | Equal ↦ equal | Greater ↦ greater ]) refl

above_new : (a k : List ℕ) (v : Option (List ℕ)) (rows : List Row) → key_cmp a k ≡ Less → KeysAbove a rows → KeysAbove a (row_if_some k v ++ rows)
above_new a k None rows l h = h
above_new a k (Some v) rows l h = (l, h)

pub KeysAbove-with_write : (a k : List ℕ) (v : Option (List ℕ)) (rows : List Row) → key_cmp a k ≡ Less → KeysAbove a rows → KeysAbove a (with_write k v rows)
KeysAbove-with_write a k None [] l h = tt
KeysAbove-with_write a k (Some v) [] l h = (l, tt)
KeysAbove-with_write a k v (row ∷ rows) l h =
    by_place (KeysAbove a (with_write k v (row ∷ rows))) k row.key
    (λ e. rw (with_write_less k v row rows e) (above_new a k v (row ∷ rows) l h))
    (λ e. rw (with_write_equal k v row rows e) (above_new a k v rows l h.1))
    (λ e. rw (with_write_greater k v row rows e) (h.0, KeysAbove-with_write a k v rows l h.1))

ascending_new : (k : List ℕ) (v : Option (List ℕ)) (rows : List Row) → KeysAbove k rows → IsAscending rows → IsAscending (row_if_some k v ++ rows)
ascending_new k None rows l h = h
ascending_new k (Some v) rows l h = (l, h)

pub IsAscending-with_write : (k : List ℕ) (v : Option (List ℕ)) (rows : List Row) → IsAscending rows → IsAscending (with_write k v rows)
IsAscending-with_write k None [] h = tt
IsAscending-with_write k (Some v) [] h = (tt, tt)
IsAscending-with_write k v (row ∷ rows) h =
    by_place (IsAscending (with_write k v (row ∷ rows))) k row.key
    (λ e. rw (with_write_less k v row rows e) (ascending_new k v (row ∷ rows) (e, KeysAbove_lower k row.key rows e h.0) h))
    (λ e. rw (with_write_equal k v row rows e) (ascending_new k v rows (rw (key_exact k row.key e) h.0) h.1))
    (λ e. rw (with_write_greater k v row rows e) (KeysAbove-with_write row.key k v rows (key_greater_flips k row.key e) h.0, IsAscending-with_write k v rows h.1))

pub IsAscending-with_writes : (rows : List Row) (writes : List Write) → IsAscending rows → IsAscending (with_writes rows writes)
IsAscending-with_writes rows [] h = h
IsAscending-with_writes rows (w ∷ writes) h = IsAscending-with_writes (with_write w.key w.value rows) writes (IsAscending-with_write w.key w.value rows h)

-- the value of another key stays
other_new : (k q : List ℕ) (v : Option (List ℕ)) (rows : List Row) → is_eq (key_cmp q k) ≡ false → value_at_key (row_if_some k v ++ rows) q ≡ value_at_key rows q
other_new k q None rows n = refl
other_new k q (Some v) rows n = rw n refl

-- the value of a key that isn't written stays
pub value-with_write_other : (k q : List ℕ) (v : Option (List ℕ)) (rows : List Row) → is_eq (key_cmp q k) ≡ false → value_at_key (with_write k v rows) q ≡ value_at_key rows q
value-with_write_other k q None [] n = refl
value-with_write_other k q (Some v) [] n = rw n refl
value-with_write_other k q v (row ∷ rows) n =
    by_place (value_at_key (with_write k v (row ∷ rows)) q ≡ value_at_key (row ∷ rows) q) k row.key
    (λ e. rw (with_write_less k v row rows e) (other_new k q v (row ∷ rows) n))
    (λ e. rw (with_write_equal k v row rows e) (other_new k q v rows n ∙ sym (rw (← key_exact k row.key e) (rw n refl))))
    (λ e. rw (with_write_greater k v row rows e) (ap (cond (is_eq (key_cmp q row.key)) (Some row.value)) (value-with_write_other k q v rows n)))

same_new : (k : List ℕ) (v : Option (List ℕ)) (rows : List Row) → KeysAbove k rows → value_at_key (row_if_some k v ++ rows) k ≡ v
same_new k None rows h = value_below k rows h
same_new k (Some v) rows h = rw (key_self k) refl

-- the value of the key that is written
pub value-with_write_same : (k : List ℕ) (v : Option (List ℕ)) (rows : List Row) → IsAscending rows → value_at_key (with_write k v rows) k ≡ v
value-with_write_same k None [] h = refl
value-with_write_same k (Some v) [] h = rw (key_self k) refl
value-with_write_same k v (row ∷ rows) h =
    by_place (value_at_key (with_write k v (row ∷ rows)) k ≡ v) k row.key
    (λ e. rw (with_write_less k v row rows e) (same_new k v (row ∷ rows) (e, KeysAbove_lower k row.key rows e h.0)))
    (λ e. rw (with_write_equal k v row rows e) (same_new k v rows (rw (key_exact k row.key e) h.0)))
    (λ e. rw (with_write_greater k v row rows e) (rw e (value-with_write_same k v rows h.1)))

-- the value of any key after one write
pub value-with_write : (k q : List ℕ) (v : Option (List ℕ)) (rows : List Row) → IsAscending rows → value_at_key (with_write k v rows) q ≡ cond (is_eq (key_cmp q k)) v (value_at_key rows q)
value-with_write k q v rows h =
    (elim (key_cmp q k) as (λ o. key_cmp q k ≡ o → value_at_key (with_write k v rows) q ≡ cond (is_eq o) v (value_at_key rows q)) [
      | Less ↦ λ e. value-with_write_other k q v rows (rw e refl)
      | Equal ↦ λ e. rw (key_exact q k e) (value-with_write_same k v rows h)
      | Greater ↦ λ e. value-with_write_other k q v rows (rw e refl)
    ]) refl

-- a range that doesn't have the key stays
filter_new : (lo hi k : List ℕ) (v : Option (List ℕ)) (rows : List Row) → is_inside lo hi k ≡ false → filter (λ (row : Row). is_inside lo hi row.key) (row_if_some k v ++ rows) ≡ filter (λ (row : Row). is_inside lo hi row.key) rows
filter_new lo hi k None rows n = refl
filter_new lo hi k (Some v) rows n = rw n refl

pub filter-with_write : (lo hi k : List ℕ) (v : Option (List ℕ)) (rows : List Row) → is_inside lo hi k ≡ false → filter (λ (row : Row). is_inside lo hi row.key) (with_write k v rows) ≡ filter (λ (row : Row). is_inside lo hi row.key) rows
filter-with_write lo hi k None [] n = refl
filter-with_write lo hi k (Some v) [] n = rw n refl
filter-with_write lo hi k v (row ∷ rows) n =
    by_place (filter (λ (row : Row). is_inside lo hi row.key) (with_write k v (row ∷ rows)) ≡ filter (λ (row : Row). is_inside lo hi row.key) (row ∷ rows)) k row.key
    (λ e. rw (with_write_less k v row rows e) (filter_new lo hi k v (row ∷ rows) n))
    (λ e. rw (with_write_equal k v row rows e) (filter_new lo hi k v rows n ∙ sym (rw (← key_exact k row.key e) (rw n refl))))
    (λ e. rw (with_write_greater k v row rows e) (ap (λ (rest : List Row). cond (is_inside lo hi row.key) (row ∷ rest) rest) (filter-with_write lo hi k v rows n)))
