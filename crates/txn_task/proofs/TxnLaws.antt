-- From reads and writes of bytes to typed rows.
use Rattle.std.proofs.Common.{◌≡◌, ℕ, List, [], ◌∷◌, ◌++◌, refl, sym, ap, subst, ◌∙◌}
use Rattle.std.specs.Prelude.{Option, Some, None, Bool, true, false, cond}
use Rattle.std.specs.List.{find}
use Rattle.std.specs.Option.{option_map}
use Rattle.conflict_sets.specs.Reads as bytes
use Rattle.conflict_sets.specs.Rows.{rows_between, with_writes}
use Rattle.conflict_sets.specs.declared.sets.KeyRead.{KeyRead}
use Rattle.conflict_sets.specs.declared.sets.RangeRead.{RangeRead}
use Rattle.conflict_sets.specs.declared.sets.ReadSet.{ReadSet}
use Rattle.conflict_sets.specs.declared.sets.Write.{Write}
use Rattle.conflict_sets.proofs.RowLemmas.{IsAscending-with_writes, by_place}
use Rattle.fs_base.specs.declared.row.Row.{Row}
use Rattle.key_schema.specs.Keys.{spelled_key, IsSpellable, IsValidKey}
use Rattle.key_schema.specs.declared.key.Key.{Key}
use Rattle.row_tree.specs.Reading.{HasNoValue}
use Rattle.row_tree.specs.Spelling.{Spells, IsValueOf}
use Rattle.row_tree.specs.TypedRows.{TypedRows, value_at, write}
use Rattle.row_tree.specs.Values.{Value, spelled_value}
use Rattle.row_tree.proofs.OneValue.{one_value_each}
use Rattle.row_tree.proofs.SpellingLaws.{at_any, spells_write, found_back, lookup-form}
use Rattle.txn_task.specs.Agreeing.{Agrees, LeadsTo, AreWrites, HaveValidKeys}
use Rattle.txn_task.specs.Transactions.{noted}
use Rattle.txn_task.specs.declared.messages.Answer.{Answer}
use Rattle.txn_task.specs.declared.messages.Answer.TheVariants as answers
use Rattle.txn_task.specs.declared.messages.Ask.{Ask}
use Rattle.txn_task.specs.declared.messages.Ask.TheVariants as asks
use Rattle.txn_task.specs.Writes.{set_write, read_of}
use Rattle.txn_task.proofs.WriteLaws.{with_writes-set_write, ascending_put, value_of_read}

-- ---- what a read tells
pub told_key : (S : TypedRows) (reads : ReadSet) (k : Key) (v : Option (List ℕ)) → Agrees S reads → IsSpellable k → read_of reads.keys (spelled_key k) ≡ Some v → option_map spelled_value (value_at S k) ≡ v
told_key S reads k v a fits is = sym (at_any a.rows S a.spells k fits) ∙ value_of_read a.rows reads.keys (spelled_key k) v a.agrees.keys is

none_back : (o : Option Value) → option_map spelled_value o ≡ None → o ≡ None
none_back None e = refl
none_back (Some v) e = absurd (cc)

-- nothing was there
pub told_absent : (S : TypedRows) (reads : ReadSet) (k : Key) → Agrees S reads → IsSpellable k → read_of reads.keys (spelled_key k) ≡ Some None → value_at S k ≡ None
told_absent S reads k a fits is = none_back (value_at S k) (told_key S reads k None a fits is)

-- the spelling of a value was there
pub told_there : (S : TypedRows) (reads : ReadSet) (k : Key) (w : Value) → Agrees S reads → IsSpellable k → read_of reads.keys (spelled_key k) ≡ Some (Some (spelled_value w)) → IsValueOf k (Some w) → value_at S k ≡ Some w
told_there S reads k w a fits is h =
    let found = found_back (value_at S k) (spelled_value w) (sym (told_key S reads k (Some (spelled_value w)) a fits is)) in
    found.1 ∙ ap Some (one_value_each k found.0 w (lookup-form S k found.0 found.1) h.0 (a.spells.fits k found.0 found.1).1 h.1 found.2)

-- bytes were there that spell no value of the key's form: no rows agree
pub told_never : (S : TypedRows) (reads : ReadSet) (k : Key) (b : List ℕ) → Agrees S reads → IsSpellable k → read_of reads.keys (spelled_key k) ≡ Some (Some b) → HasNoValue k b → ⊥
told_never S reads k b a fits is never =
    let found = found_back (value_at S k) b (sym (told_key S reads k (Some b) a fits is)) in
    never found.0 (lookup-form S k found.0 found.1, (a.spells.fits k found.0 found.1).1) found.2

-- ---- a put keeps the writes those of valid keys, in order
valid_put : (k : Key) (v : Option (List ℕ)) (writes : List Write) → IsValidKey k → HaveValidKeys writes → HaveValidKeys (set_write (spelled_key k) v writes)
valid_put k v [] valid h = ((k, valid, refl), tt)
valid_put k v (w ∷ writes) valid h = by_place _ (spelled_key k) w.key
    (λ e. rw e ((k, valid, refl), h))
    (λ e. rw e ((k, valid, refl), h.1))
    (λ e. rw e (h.0, valid_put k v writes valid h.1))

pub are_writes_put : (k : Key) (v : Option (List ℕ)) (writes : List Write) → IsValidKey k → AreWrites writes → AreWrites (set_write (spelled_key k) v writes)
are_writes_put k v writes valid h = record { ascending = ascending_put (spelled_key k) v writes h.ascending; valid = valid_put k v writes valid h.valid }

-- ---- what writes make
pub leads_none : (S : TypedRows) → LeadsTo [] S S
leads_none S = record { writes_are = record { ascending = tt; valid = tt }; leads = λ rows asc spells. spells }

pub leads_put : (writes : List Write) (S U : TypedRows) (k : Key) (w : Option Value) → LeadsTo writes S U → IsValidKey k → IsValueOf k w
    → LeadsTo (set_write (spelled_key k) (option_map spelled_value w) writes) S (write U k w)
leads_put writes S U k w made valid h =
    record {
      writes_are = are_writes_put k (option_map spelled_value w) writes valid made.writes_are;
      leads = λ rows up spells.
          subst (λ R. Spells R (write U k w)) (sym (with_writes-set_write (spelled_key k) (option_map spelled_value w) writes rows up made.writes_are.ascending))
          (spells_write (with_writes rows writes) U (IsAscending-with_writes rows writes up) (made.leads rows up spells) k w valid h);
    }

-- ---- fewer reads agree with more rows
pub agrees_fewer : (S : TypedRows) (reads more : ReadSet) → ((rows : List Row) → bytes.RowsAgree rows more → bytes.RowsAgree rows reads) → Agrees S more → Agrees S reads
agrees_fewer S reads more fewer a = record { rows = a.rows; ascending = a.ascending; spells = a.spells; agrees = fewer a.rows a.agrees }

keys_fewer : (rows : List Row) (reads more : List KeyRead) → bytes.KeysAgree rows (reads ++ more) → bytes.KeysAgree rows reads
keys_fewer rows [] more h = tt
keys_fewer rows (r ∷ reads) more h = (h.0, keys_fewer rows reads more h.1)

ranges_fewer : (rows : List Row) (reads more : List RangeRead) → bytes.RangesAgree rows (reads ++ more) → bytes.RangesAgree rows reads
ranges_fewer rows [] more h = tt
ranges_fewer rows (r ∷ reads) more h = (h.0, ranges_fewer rows reads more h.1)

-- rows that agree with more reads agreed before
pub agrees_more : (S : TypedRows) (reads : ReadSet) (keys : List KeyRead) (ranges : List RangeRead) → Agrees S (record { keys = reads.keys ++ keys; ranges = reads.ranges ++ ranges }) → Agrees S reads
agrees_more S reads keys ranges a =
    agrees_fewer S reads (record { keys = reads.keys ++ keys; ranges = reads.ranges ++ ranges })
    (λ rows h. record { keys = keys_fewer rows reads.keys keys h.keys; ranges = ranges_fewer rows reads.ranges ranges h.ranges }) a

-- ---- a range among the reads
-- the first range read that passes a test passes it, and rows that agree give it
pub record IsFound (p : RangeRead → Bool) (reads : List RangeRead) (r : RangeRead) : Type 0 where
  pub passes : p r ≡ true
  pub gives : (rows : List Row) → bytes.RangesAgree rows reads → rows_between rows r.lo r.hi r.limit ≡ r.rows

pub range_found : (p : RangeRead → Bool) (reads : List RangeRead) (r : RangeRead) → find p reads ≡ Some r → IsFound p reads r
range_found p [] r e = absurd (cc)
range_found p (x ∷ reads) r e = by_test (p x) refl e (range_found p reads r)
  where
    this : Some x ≡ Some r → x ≡ r
    this e = cc

    by_test : (b : Bool) → p x ≡ b → cond b (Some x) (find p reads) ≡ Some r → (find p reads ≡ Some r → IsFound p reads r) → IsFound p (x ∷ reads) r
    by_test true is f later = record { passes = subst (λ y. p y ≡ true) (this f) is; gives = λ rows h. subst (λ (y : RangeRead). rows_between rows y.lo y.hi y.limit ≡ y.rows) (this f) h.0 }
    by_test false is f later = let found = later f in record { passes = found.passes; gives = λ rows h. found.gives rows h.1 }

-- ---- a read that is noted
pub agrees_noted : (S : TypedRows) (reads : ReadSet) (ask : Ask) (answer : Answer) → Agrees S (noted reads ask answer) → Agrees S reads
agrees_noted S reads (asks.Get key) (answers.Got got) a =
    agrees_fewer S reads (noted reads (asks.Get key) (answers.Got got)) (λ rows h. record { keys = keys_fewer rows reads.keys _ h.keys; ranges = h.ranges }) a
agrees_noted S reads (asks.Range lo hi limit) (answers.Rows found) a =
    agrees_fewer S reads (noted reads (asks.Range lo hi limit) (answers.Rows found)) (λ rows h. record { keys = h.keys; ranges = ranges_fewer rows reads.ranges _ h.ranges }) a
agrees_noted S reads ask answer a = a
