-- What was read stays true under writes that it doesn't hold.
use Rattle.std.proofs.Common.{◌≡◌, ℕ, List, [], ◌∷◌, Option, Some, None, Bool, true, false, cond, take, length, ◌∙◌, ap, refl, arith, suc, zero, eqb, ⊎_elim}
use Rattle.std.specs.Prelude.{filter}
use Rattle.std.specs.List.{list_any}
use Rattle.std.specs.Ordering.{is_eq, is_le}
use Rattle.std.specs.declared.cmp.Ordering.{Ordering}
use Rattle.std.specs.declared.cmp.Ordering.TheVariants.{Less, Equal, Greater}
use Rattle.std.proofs.lemmas.Bool.{and_cases, or_parts, eqb-true}
use Rattle.conflict_sets.specs.Keys.{key_cmp}
use Rattle.conflict_sets.specs.Rows.{KeysAbove, KeysBefore, IsAscending, is_inside, rows_between, with_write, with_writes}
use Rattle.conflict_sets.specs.Reads.{KeysAgree, RangesAgree, RowsAgree, is_up_to_last, range_holds, reads_hold, first_held}
use Rattle.fs_base.specs.declared.row.Row.{Row}
use Rattle.conflict_sets.specs.declared.sets.Write.{Write}
use Rattle.conflict_sets.specs.declared.sets.KeyRead.{KeyRead}
use Rattle.conflict_sets.specs.declared.sets.RangeRead.{RangeRead}
use Rattle.conflict_sets.specs.declared.sets.ReadSet.{ReadSet}
use Rattle.conflict_sets.proofs.KeyOrder.{key_exact, key_less_flips, key_greater_flips, key_trans}
use Rattle.conflict_sets.proofs.RowLemmas.{KeysAbove_lower, by_place, with_write_greater, filter-with_write, value-with_write_other, IsAscending-with_write}

abbrev inside_rows : List ℕ → List ℕ → List Row → List Row
inside_rows lo hi rows = filter (λ row. is_inside lo hi row.key) rows

less≢greater : (o : Ordering) → o ≡ Less → o ≡ Greater → ⊥
less≢greater o l g = cc

greater_from : (a b : List ℕ) → is_le (key_cmp a b) ≡ false → key_cmp a b ≡ Greater
greater_from a b h = by_place (key_cmp a b ≡ Greater) a b (λ e. absurd (elim_less a b e h)) (λ e. absurd (elim_equal a b e h)) (λ e. e)
  where
    elim_less : (a b : List ℕ) → key_cmp a b ≡ Less → is_le (key_cmp a b) ≡ false → ⊥
    elim_less a b e h = let k : true ≡ false = (rw e at h) in cc

    elim_equal : (a b : List ℕ) → key_cmp a b ≡ Equal → is_le (key_cmp a b) ≡ false → ⊥
    elim_equal a b e h = let k : true ≡ false = (rw e at h) in cc

-- rows above a key aren't before it
none_before : (lo hi k : List ℕ) (rows : List Row) (n : ℕ) → KeysAbove k rows → KeysBefore k (take (suc n) (inside_rows lo hi rows)) → length (take (suc n) (inside_rows lo hi rows)) ≡ suc n → ⊥
none_before lo hi k [] n a b l = omega arith
none_before lo hi k (row ∷ rows) n a b l =
    (elim (is_inside lo hi row.key) as (λ t. KeysBefore k (take (suc n) (cond t (row ∷ inside_rows lo hi rows) (inside_rows lo hi rows))) → length (take (suc n) (cond t (row ∷ inside_rows lo hi rows) (inside_rows lo hi rows))) ≡ suc n → ⊥) [
      | true ↦ λ b' l'. less≢greater (key_cmp k row.key) a.0 b'.0
      | false ↦ λ b' l'. none_before lo hi k rows n a.1 b' l'
    ]) b l

-- A range that found as many rows as its limit doesn't change by a key after its last row.
pub take-with_write : (lo hi k : List ℕ) (v : Option (List ℕ)) (rows : List Row) (n : ℕ) → IsAscending rows → KeysBefore k (take n (inside_rows lo hi rows)) → length (take n (inside_rows lo hi rows)) ≡ n → take n (inside_rows lo hi (with_write k v rows)) ≡ take n (inside_rows lo hi rows)
take-with_write lo hi k v rows zero h b l = refl
take-with_write lo hi k v [] (suc n) h b l = absurd (omega arith)
take-with_write lo hi k v (row ∷ rows) (suc n) h b l =
    (elim (is_inside lo hi row.key) as (λ t. is_inside lo hi row.key ≡ t → KeysBefore k (take (suc n) (cond t (row ∷ inside_rows lo hi rows) (inside_rows lo hi rows))) → length (take (suc n) (cond t (row ∷ inside_rows lo hi rows) (inside_rows lo hi rows))) ≡ suc n → take (suc n) (inside_rows lo hi (with_write k v (row ∷ rows))) ≡ take (suc n) (cond t (row ∷ inside_rows lo hi rows) (inside_rows lo hi rows))) [
      | true ↦ λ i b' l'. rw (with_write_greater k v row rows b'.0) (rw i (ap (λ rest. row ∷ rest) (take-with_write lo hi k v rows n h.1 b'.1 (omega arith))))
      | false ↦ λ i b' l'. by_place (take (suc n) (inside_rows lo hi (with_write k v (row ∷ rows))) ≡ take (suc n) (inside_rows lo hi rows)) k row.key
          (λ e. absurd (none_before lo hi k rows n (KeysAbove_lower k row.key rows e h.0) b' l'))
          (λ e. absurd (none_before lo hi k rows n (rw (key_exact k row.key e) h.0) b' l'))
          (λ e. rw (with_write_greater k v row rows e) (rw i (take-with_write lo hi k v rows (suc n) h.1 b' l')))
    ]) refl b l

-- a part of ascending rows ascends
KeysAbove-filter : (a : List ℕ) (lo hi : List ℕ) (rows : List Row) → KeysAbove a rows → KeysAbove a (inside_rows lo hi rows)
KeysAbove-filter a lo hi [] h = tt
KeysAbove-filter a lo hi (row ∷ rows) h =
    elim (is_inside lo hi row.key) as (λ t. KeysAbove a (cond t (row ∷ inside_rows lo hi rows) (inside_rows lo hi rows))) [
      | true ↦ (h.0, KeysAbove-filter a lo hi rows h.1)
      | false ↦ KeysAbove-filter a lo hi rows h.1
    ]

IsAscending-filter : (lo hi : List ℕ) (rows : List Row) → IsAscending rows → IsAscending (inside_rows lo hi rows)
IsAscending-filter lo hi [] h = tt
IsAscending-filter lo hi (row ∷ rows) h =
    elim (is_inside lo hi row.key) as (λ t. IsAscending (cond t (row ∷ inside_rows lo hi rows) (inside_rows lo hi rows))) [
      | true ↦ (KeysAbove-filter row.key lo hi rows h.0, IsAscending-filter lo hi rows h.1)
      | false ↦ IsAscending-filter lo hi rows h.1
    ]

KeysAbove-take : (a : List ℕ) (n : ℕ) (rows : List Row) → KeysAbove a rows → KeysAbove a (take n rows)
KeysAbove-take a zero rows h = tt
KeysAbove-take a (suc n) [] h = tt
KeysAbove-take a (suc n) (row ∷ rows) h = (h.0, KeysAbove-take a n rows h.1)

IsAscending-take : (n : ℕ) (rows : List Row) → IsAscending rows → IsAscending (take n rows)
IsAscending-take zero rows h = tt
IsAscending-take (suc n) [] h = tt
IsAscending-take (suc n) (row ∷ rows) h = (KeysAbove-take row.key n rows h.0, IsAscending-take n rows h.1)

pub IsAscending-rows_between : (rows : List Row) (lo hi : List ℕ) (n : ℕ) → IsAscending rows → IsAscending (rows_between rows lo hi n)
IsAscending-rows_between rows lo hi n h = IsAscending-take n (inside_rows lo hi rows) (IsAscending-filter lo hi rows h)

-- a key after the last row comes after all
pub before_last : (k : List ℕ) (rows : List Row) → IsAscending rows → is_up_to_last rows k ≡ false → KeysBefore k rows
before_last k [] h n = tt
before_last k (row ∷ []) h n = (greater_from k row.key n, tt)
before_last k (row ∷ next ∷ rows) h n =
    let later : KeysBefore k (next ∷ rows) = before_last k (next ∷ rows) h.1 n in
    (key_less_flips row.key k (key_trans row.key next.key k h.0.0 (key_greater_flips k next.key later.0)), later)

-- one range, one write
pub range_kept : (read : RangeRead) (k : List ℕ) (v : Option (List ℕ)) (rows : List Row) → IsAscending rows → range_holds read k ≡ false → rows_between rows read.lo read.hi read.limit ≡ read.rows → rows_between (with_write k v rows) read.lo read.hi read.limit ≡ read.rows
range_kept read k v rows h n e =
    ⊎_elim
    (λ (out : is_inside read.lo read.hi k ≡ false). ap (take read.limit) (filter-with_write read.lo read.hi k v rows out) ∙ e)
    (λ (past : cond (eqb (length read.rows) read.limit) (is_up_to_last read.rows k) true ≡ false).
    let parts : (eqb (length read.rows) read.limit ≡ true) × (is_up_to_last read.rows k ≡ false) = both_of (eqb (length read.rows) read.limit) (is_up_to_last read.rows k) past in
    let full : length (rows_between rows read.lo read.hi read.limit) ≡ read.limit = ap length e ∙ eqb-true _ _ parts.0 in
    let before : KeysBefore k (rows_between rows read.lo read.hi read.limit) =
    before_last k (rows_between rows read.lo read.hi read.limit) (IsAscending-rows_between rows read.lo read.hi read.limit h) (ap (λ rs. is_up_to_last rs k) e ∙ parts.1) in
    take-with_write read.lo read.hi k v rows read.limit h before full ∙ e)
    (and_cases (is_inside read.lo read.hi k) (cond (eqb (length read.rows) read.limit) (is_up_to_last read.rows k) true) n)
  where
    both_of : (a b : Bool) → cond a b true ≡ false → (a ≡ true) × (b ≡ false)
    both_of true b h = (refl, h)
    both_of false b h = absurd (let k : true ≡ false = h in cc)

keys_kept : (reads : List KeyRead) (k : List ℕ) (v : Option (List ℕ)) (rows : List Row) → list_any (λ read. is_eq (key_cmp k read.key)) reads ≡ false → KeysAgree rows reads → KeysAgree (with_write k v rows) reads
keys_kept [] k v rows n h = tt
keys_kept (read ∷ reads) k v rows n h =
    let parts : (is_eq (key_cmp k read.key) ≡ false) × (list_any (λ (r : KeyRead). is_eq (key_cmp k r.key)) reads ≡ false) = or_parts _ _ n in
    (value-with_write_other k read.key v rows (other_way k read.key parts.0) ∙ h.0, keys_kept reads k v rows parts.1 h.1)
  where
    other_way : (a b : List ℕ) → is_eq (key_cmp a b) ≡ false → is_eq (key_cmp b a) ≡ false
    other_way a b n = by_place (is_eq (key_cmp b a) ≡ false) a b
        (λ e. rw (key_less_flips a b e) refl)
        (λ e. absurd (let t : true ≡ false = (rw e at n) in cc))
        (λ e. rw (key_greater_flips a b e) refl)

ranges_kept : (reads : List RangeRead) (k : List ℕ) (v : Option (List ℕ)) (rows : List Row) → IsAscending rows → list_any (λ read. range_holds read k) reads ≡ false → RangesAgree rows reads → RangesAgree (with_write k v rows) reads
ranges_kept [] k v rows a n h = tt
ranges_kept (read ∷ reads) k v rows a n h =
    let parts : (range_holds read k ≡ false) × (list_any (λ (r : RangeRead). range_holds r k) reads ≡ false) = or_parts _ _ n in
    (range_kept read k v rows a parts.0 h.0, ranges_kept reads k v rows a parts.1 h.1)

-- reads that don't hold a key still agree after its write
pub Agrees-with_write : (reads : ReadSet) (k : List ℕ) (v : Option (List ℕ)) (rows : List Row) → IsAscending rows → reads_hold reads k ≡ false → RowsAgree rows reads → RowsAgree (with_write k v rows) reads
Agrees-with_write reads k v rows a n h =
    let parts : (list_any (λ (r : KeyRead). is_eq (key_cmp k r.key)) reads.keys ≡ false) × (list_any (λ (r : RangeRead). range_holds r k) reads.ranges ≡ false) = or_parts _ _ n in
    record { keys = keys_kept reads.keys k v rows parts.0 h.keys; ranges = ranges_kept reads.ranges k v rows a parts.1 h.ranges }

-- no write is held, for a longer list
none_held : (reads : ReadSet) (w : Write) (writes : List Write) → first_held reads (w ∷ writes) ≡ None → (reads_hold reads w.key ≡ false) × (first_held reads writes ≡ None)
none_held reads w writes h = split (reads_hold reads w.key) w.key (first_held reads writes) h
  where
    split : (b : Bool) (k : List ℕ) (o : Option (List ℕ)) → cond b (Some k) o ≡ None → (b ≡ false) × (o ≡ None)
    split true k o h = absurd (let e : Some k ≡ None = h in cc)
    split false k o h = (refl, h)

-- Reads of which no written key is held agree with the rows after the writes.
pub Agrees-with_writes : (reads : ReadSet) (rows : List Row) (writes : List Write) → IsAscending rows → first_held reads writes ≡ None → RowsAgree rows reads → RowsAgree (with_writes rows writes) reads
Agrees-with_writes reads rows [] a n h = h
Agrees-with_writes reads rows (w ∷ writes) a n h =
    let parts : (reads_hold reads w.key ≡ false) × (first_held reads writes ≡ None) = none_held reads w writes n in
    Agrees-with_writes reads (with_write w.key w.value rows) writes (IsAscending-with_write w.key w.value rows a) parts.1
    (Agrees-with_write reads w.key w.value rows a parts.0 h)
