-- What was read stays in the footprint as more is read, and holds the keys that conflicts name.
use Rattle.std.proofs.Common.{◌≡◌, inl, inr, ℕ, Bool, true, false, List, [], ◌∷◌, ◌++◌, refl, sym, ap, subst, ◌∙◌, ◌&&◌}
use Rattle.std.specs.Prelude.{Option, ◌==◌, length, if◌then◌else◌}
use Rattle.std.specs.List.{list_any}
use Rattle.std.specs.Ordering.{is_eq, is_lt, is_ge, is_le}
use Rattle.std.specs.declared.cmp.Ordering.TheVariants.{Less, Greater}
use Rattle.std.proofs.lemmas.Bool.{and_from, and_parts, or_cases}
use Rattle.conflict_sets.specs.Keys.{key_cmp}
use Rattle.conflict_sets.specs.Reads.{RowsAgree as BytesAgree, KeysAgree, RangesAgree, reads_hold, range_holds, is_up_to_last}
use Rattle.conflict_sets.specs.Rows.{IsAscending, is_inside}
use Rattle.conflict_sets.specs.declared.sets.KeyRead.{KeyRead}
use Rattle.conflict_sets.specs.declared.sets.RangeRead.{RangeRead}
use Rattle.conflict_sets.specs.declared.sets.ReadSet.{ReadSet}
use Rattle.conflict_sets.proofs.KeyOrder.{key_exact, key_less_flips, key_greater_flips, key_trans}
use Rattle.conflict_sets.proofs.RowLemmas.{by_place}
use Rattle.fs_base.specs.Config.{Settings}
use Rattle.fs_base.specs.declared.call.Request.{Request}
use Rattle.fs_base.specs.declared.row.Row.{Row}
use Rattle.key_schema.specs.Keys.{spelled_key, IsSpellable}
use Rattle.key_schema.specs.declared.key.Key.{Key}
use Rattle.key_schema.proofs.KeyLaws.{one_key_each}
use Rattle.kv_store.proofs.HoldLemmas.{same_key}
use Rattle.row_tree.specs.HasTree.{HasTree}
use Rattle.row_tree.specs.TreeOf.{tree_of}
use Rattle.row_tree.specs.TypedRows.{TypedRows}
use Rattle.tree_model.specs.Tree.{Tree}
use Rattle.path_walk.specs.Areas.{Area, OneKey, IsArea, IsRangeOf}
use Rattle.path_walk.specs.Footprint.{footprint}
use Rattle.path_walk.specs.Owed.{MayAsk}
use Rattle.path_walk.proofs.AreaLaws.{next_reaches}
use Rattle.txn_task.specs.Agreeing.{Agrees}
use Rattle.txn_task.specs.Transactions.{with_key, with_range}
use Rattle.txn_task.specs.declared.messages.Ask.TheVariants as asks
use Rattle.run_record.specs.Touched.{IsKeyTouched, AreTouched, AreKeysTouched, AreRangesTouched}
use Rattle.request_run.specs.Served.{AreSpelledIn, AreReadsCovered}

-- ---- one more read

pub KeysAgree-push : (rows : List Row) (reads : List KeyRead) (read : KeyRead) → KeysAgree rows reads → KeysAgree rows (read ∷ []) → KeysAgree rows (reads ++ read ∷ [])
KeysAgree-push rows [] read h e = e
KeysAgree-push rows (r ∷ reads) read h e = (h.0, KeysAgree-push rows reads read h.1 e)

pub RangesAgree-push : (rows : List Row) (reads : List RangeRead) (read : RangeRead) → RangesAgree rows reads → RangesAgree rows (read ∷ []) → RangesAgree rows (reads ++ read ∷ [])
RangesAgree-push rows [] read h e = e
RangesAgree-push rows (r ∷ reads) read h e = (h.0, RangesAgree-push rows reads read h.1 e)

KeysAgree-before : (rows : List Row) (reads more : List KeyRead) → KeysAgree rows (reads ++ more) → KeysAgree rows reads
KeysAgree-before rows [] more h = tt
KeysAgree-before rows (r ∷ reads) more h = (h.0, KeysAgree-before rows reads more h.1)

RangesAgree-before : (rows : List Row) (reads more : List RangeRead) → RangesAgree rows (reads ++ more) → RangesAgree rows reads
RangesAgree-before rows [] more h = tt
RangesAgree-before rows (r ∷ reads) more h = (h.0, RangesAgree-before rows reads more h.1)

-- rows that agree with more agree with less
before_key : (S : TypedRows) (reads : ReadSet) (key : List ℕ) (value : Option (List ℕ)) → Agrees S (with_key reads key value) → Agrees S reads
before_key S reads key value h =
    search (h.spells, KeysAgree-before h.rows reads.keys (record { key = key; value = value } ∷ []) h.agrees.keys)

before_range : (S : TypedRows) (reads : ReadSet) (range : RangeRead) → Agrees S (with_range reads range) → Agrees S reads
before_range S reads range h =
    search (h.spells, RangesAgree-before h.rows reads.ranges (range ∷ []) h.agrees.ranges)

SpelledIn-push : (areas : List Area) (reads : List KeyRead) (read : KeyRead) → AreSpelledIn areas reads → AreSpelledIn areas (read ∷ []) → AreSpelledIn areas (reads ++ read ∷ [])
SpelledIn-push areas [] read h e = e
SpelledIn-push areas (r ∷ reads) read h e = (h.0, SpelledIn-push areas reads read h.1 e)

RangesTouched-push : (areas : List Area) (reads : List RangeRead) (read : RangeRead) → AreRangesTouched areas reads → AreRangesTouched areas (read ∷ []) → AreRangesTouched areas (reads ++ read ∷ [])
RangesTouched-push areas [] read h e = e
RangesTouched-push areas (r ∷ reads) read h e = (h.0, RangesTouched-push areas reads read h.1 e)

-- a key, or rows, that could be asked for
pub covered_key : (C : Settings) (q : Request) (reads : ReadSet) (key : Key) (value : Option (List ℕ)) → IsSpellable key → MayAsk C (λ T. footprint C T q) reads (asks.Get key) → AreReadsCovered C q reads → AreReadsCovered C q (with_key reads (spelled_key key) value)
covered_key C q reads key value spelled may h S good agrees =
    let less : Agrees S reads = before_key S reads (spelled_key key) value agrees in
    let old = h S good less in (
      SpelledIn-push (footprint C (tree_of S) q) reads.keys (record { key = spelled_key key; value = value }) old.0 ((key, spelled, refl, next_reaches reads (footprint C (tree_of S) q) (asks.Get key) (may S good less)), tt),
      old.1,
    )

pub covered_range : (C : Settings) (q : Request) (reads : ReadSet) (lo hi : List ℕ) (limit : ℕ) (rows : List Row) → MayAsk C (λ T. footprint C T q) reads (asks.Range lo hi limit) → AreReadsCovered C q reads
    → AreReadsCovered C q (with_range reads (record { lo = lo; hi = hi; limit = limit; rows = rows }))
covered_range C q reads lo hi limit rows may h S good agrees =
    let less : Agrees S reads = before_range S reads (record { lo = lo; hi = hi; limit = limit; rows = rows }) agrees in
    let old = h S good less in (
      old.0,
      RangesTouched-push (footprint C (tree_of S) q) reads.ranges (record { lo = lo; hi = hi; limit = limit; rows = rows }) old.1 (next_reaches reads (footprint C (tree_of S) q) (asks.Range lo hi limit) (may S good less), tt),
    )

-- what was read is touched
keys_touched : (areas : List Area) (reads : List KeyRead) → AreSpelledIn areas reads → AreKeysTouched areas reads
keys_touched areas [] h = tt
keys_touched areas (read ∷ reads) h = ((h.0.0, h.0.2, h.0.3), keys_touched areas reads h.1)

module _ (C : Settings) (q : Request) (reads : ReadSet) (rows : List Row) (T : Tree) (covered : AreReadsCovered C q reads) (ascending : IsAscending rows) (tree : HasTree C rows T) (agrees : BytesAgree rows reads) where
  covered_here : AreSpelledIn (footprint C T q) reads.keys × AreRangesTouched (footprint C T q) reads.ranges
  covered_here =
      subst (λ (t : Tree). AreSpelledIn (footprint C t q) reads.keys × AreRangesTouched (footprint C t q) reads.ranges) tree.3
      (covered tree.0 tree.2 (record { rows = rows; ascending = ascending; spells = tree.1; agrees = agrees }))

  pub all_touched : AreTouched (footprint C T q) reads
  all_touched = record { keys = keys_touched (footprint C T q) reads.keys covered_here.0; ranges = covered_here.1 }

-- ---- a key that was held

-- a key that was read
key_touched : (areas : List Area) (reads : List KeyRead) (key : Key) → IsSpellable key → AreSpelledIn areas reads → list_any (λ (read : KeyRead). is_eq (key_cmp (spelled_key key) read.key)) reads ≡ true → IsKeyTouched areas key
key_touched areas [] key valid h e = absurd (let f : false ≡ true = e in cc)
key_touched areas (r ∷ reads) key valid h e =
    elim (or_cases (is_eq (key_cmp (spelled_key key) r.key)) (list_any (λ (read : KeyRead). is_eq (key_cmp (spelled_key key) read.key)) reads) e) [
      | inl here ↦
          (let bytes_are : r.key ≡ spelled_key key = same_key (spelled_key key) r.key here in
          let same : h.0.0 ≡ key = one_key_each h.0.0 key h.0.1 valid (sym h.0.2 ∙ bytes_are) in
          inl (subst (λ (k : Key). IsArea (OneKey k) areas) same h.0.3))
      | inr later ↦ key_touched areas reads key valid h.1 later
    ]

-- from what is below on
above_both : (low lo key : List ℕ) → is_le (key_cmp low lo) ≡ true → is_ge (key_cmp key lo) ≡ true → is_ge (key_cmp key low) ≡ true
above_both low lo key l g = by_place (is_ge (key_cmp key low) ≡ true) low lo
    (λ less. by_place (is_ge (key_cmp key low) ≡ true) key lo
    (λ under. absurd (let f : false ≡ true = (rw under at g) in cc))
    (λ same. ap (λ k. is_ge (key_cmp k low)) (key_exact key lo same) ∙ (rw (key_less_flips low lo less) refl))
    (λ over. (rw (key_less_flips low key (key_trans low lo key less (flipped key lo over))) refl)))
    (λ same. ap (λ k. is_ge (key_cmp key k)) (key_exact low lo same) ∙ g)
    (λ more. absurd (let f : false ≡ true = (rw more at l) in cc))
  where
    flipped : (a b : List ℕ) → key_cmp a b ≡ Greater → key_cmp b a ≡ Less
    flipped a b h = key_greater_flips a b h

-- a key in a range that was read lies in the area's range
range_key : (from to lo hi : List ℕ) (key : List ℕ) → IsRangeOf from to lo hi → is_ge (key_cmp key from) ≡ true → is_lt (key_cmp key to) ≡ true → is_inside lo hi key ≡ true
range_key from to lo hi key of behind before =
    and_from (is_ge (key_cmp key lo)) (is_lt (key_cmp key hi)) (above_both lo from key of.0 behind) (ap (λ h. is_lt (key_cmp key h)) (sym of.1) ∙ before)

range_touched : (areas : List Area) (reads : List RangeRead) (key : Key) → AreRangesTouched areas reads → list_any (λ (read : RangeRead). range_holds read (spelled_key key)) reads ≡ true → IsKeyTouched areas key
range_touched areas [] key h e = absurd (let f : false ≡ true = e in cc)
range_touched areas (r ∷ reads) key h e =
    elim (or_cases (range_holds r (spelled_key key)) (list_any (λ (read : RangeRead). range_holds read (spelled_key key)) reads) e) [
      | inl here ↦
          (let from_lo : Bool = is_ge (key_cmp (spelled_key key) r.lo) in
          let below_hi : Bool = is_lt (key_cmp (spelled_key key) r.hi) in
          let both = and_parts (from_lo && below_hi) (if length r.rows == r.limit then is_up_to_last r.rows (spelled_key key) else true) here in
          let sides = and_parts from_lo below_hi both.0 in
          let area = h.0 in
          inr (area.0, area.1, area.2, range_key r.lo r.hi area.0 area.1 (spelled_key key) area.3 sides.0 sides.1))
      | inr later ↦ range_touched areas reads key h.1 later
    ]

-- A key that reads hold, where rows of the tree agree with them, is touched.
pub held_touched : (C : Settings) (q : Request) (reads : ReadSet) (rows : List Row) (T : Tree) (key : Key) → AreReadsCovered C q reads → IsAscending rows → HasTree C rows T → BytesAgree rows reads → IsSpellable key → reads_hold reads (spelled_key key) ≡ true
    → IsKeyTouched (footprint C T q) key
held_touched C q reads rows T key covered ascending tree agrees fits held =
    let here = covered_here C q reads rows T covered ascending tree agrees in
    elim (or_cases (list_any (λ (read : KeyRead). is_eq (key_cmp (spelled_key key) read.key)) reads.keys) (list_any (λ (read : RangeRead). range_holds read (spelled_key key)) reads.ranges) held) [
      | inl in_keys ↦ key_touched (footprint C T q) reads.keys key fits here.0 in_keys
      | inr in_ranges ↦ range_touched (footprint C T q) reads.ranges key here.1 in_ranges
    ]
