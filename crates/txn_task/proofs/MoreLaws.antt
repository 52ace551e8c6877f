-- What was read stays so when more is, and what is noted was read.
use Rattle.std.proofs.Common.{◌≡◌, ℕ, ◌+◌, ◌<◌, eq-eqb, Bool, true, false, cond, List, [], ◌∷◌, ◌++◌, length, take, get_or, Option, Some, None, refl, sym, ap, subst, ◌∙◌, append_assoc}
use Rattle.std.specs.Prelude.{◌&&◌}
use Rattle.std.specs.List.{find}
use Rattle.std.specs.Option.{option_or}
use Rattle.std.specs.Ordering.{is_eq}
use Rattle.std.proofs.lemmas.List.{append-nil, take_more}
use Rattle.std.proofs.lemmas.List.Folds.{find-append}
use Rattle.conflict_sets.specs.Keys.{key_cmp}
use Rattle.conflict_sets.specs.declared.sets.Got.{Got}
use Rattle.conflict_sets.specs.declared.sets.KeyRead.{KeyRead}
use Rattle.conflict_sets.specs.declared.sets.RangeRead.{RangeRead}
use Rattle.conflict_sets.specs.declared.sets.ReadSet.{ReadSet}
use Rattle.conflict_sets.proofs.KeyOrder.{key_self}
use Rattle.fs_base.specs.declared.row.Row.{Row}
use Rattle.key_schema.specs.Keys.{spelled_key}
use Rattle.key_schema.specs.declared.key.Key.{Key}
use Rattle.txn_task.specs.Pages.{reads_range, first_read, start_after, page_behind, next_page, rows_of_page, page_rows}
use Rattle.txn_task.specs.Transactions.{noted, IsNews}
use Rattle.txn_task.specs.Wanted.{IsUnread, IsKeyRead, IsFirstRead}
use Rattle.txn_task.specs.Writes.{read_of}
use Rattle.txn_task.specs.declared.messages.Answer.TheVariants as answers
use Rattle.txn_task.specs.declared.messages.Ask.{Ask}
use Rattle.txn_task.specs.declared.messages.Ask.TheVariants as asks

-- ---- keys
pub key_more : (reads more : List KeyRead) (key : List ℕ) (value : Option (List ℕ)) → read_of reads key ≡ Some value → read_of (reads ++ more) key ≡ Some value
key_more [] more key value e = absurd (cc)
key_more (r ∷ reads) more key value e = by_test (is_eq (key_cmp key r.key)) e (key_more reads more key value)
  where
    by_test : (b : Bool) → cond b (Some r.value) (read_of reads key) ≡ Some value → (read_of reads key ≡ Some value → read_of (reads ++ more) key ≡ Some value) → cond b (Some r.value) (read_of (reads ++ more) key) ≡ Some value
    by_test true e later = e
    by_test false e later = later e

key_last : (reads : List KeyRead) (key : List ℕ) (value : Option (List ℕ)) → read_of reads key ≡ None → read_of (reads ++ record { key = key; value = value } ∷ []) key ≡ Some value
key_last [] key value e = ap (λ o. cond (is_eq o) (Some value) None) (key_self key)
key_last (r ∷ reads) key value e = by_test (is_eq (key_cmp key r.key)) e (key_last reads key value)
  where
    by_test : (b : Bool) → cond b (Some r.value) (read_of reads key) ≡ None → (read_of reads key ≡ None → read_of (reads ++ record { key = key; value = value } ∷ []) key ≡ Some value) → cond b (Some r.value) (read_of (reads ++ record { key = key; value = value } ∷ []) key) ≡ Some value
    by_test true e later = absurd (cc)
    by_test false e later = later e

-- a key that wasn't read has the value told
pub key_told : (reads : ReadSet) (key : Key) (got : Got) → IsUnread reads key → read_of (noted reads (asks.Get key) (answers.Got got)).keys (spelled_key key) ≡ Some got.value
key_told reads key got unread = key_last reads.keys (spelled_key key) got.value unread

pub key_noted : (reads : ReadSet) (key : Key) (got : Got) → IsKeyRead (noted reads (asks.Get key) (answers.Got got)) key
key_noted reads key got = by_read (read_of reads.keys (spelled_key key)) refl
  where
    by_read : (o : Option (Option (List ℕ))) → read_of reads.keys (spelled_key key) ≡ o → IsKeyRead (noted reads (asks.Get key) (answers.Got got)) key
    by_read None is = (got.value, key_told reads key got is)
    by_read (Some value) is = (value, key_more reads.keys (record { key = spelled_key key; value = got.value } ∷ []) (spelled_key key) value is)

-- ---- pages
pub pages_more : (hi : List ℕ) (start : Option (List ℕ)) (ranges more : List RangeRead) → next_page hi start (ranges ++ more) ≡ next_page hi (next_page hi start ranges) more
pages_more hi start [] more = refl
pages_more hi start (range ∷ ranges) more = pages_more hi (page_behind hi start range) ranges more

pub page_rows_more : (hi : List ℕ) (start : Option (List ℕ)) (ranges more : List RangeRead) → page_rows hi start (ranges ++ more) ≡ page_rows hi start ranges ++ page_rows hi (next_page hi start ranges) more
page_rows_more hi start [] more = refl
page_rows_more hi start (range ∷ ranges) more =
    ap (λ rows. rows_of_page hi start range ++ rows) (page_rows_more hi (page_behind hi start range) ranges more)
    ∙ sym (append_assoc (rows_of_page hi start range) (page_rows hi (page_behind hi start range) ranges) (page_rows hi (next_page hi (page_behind hi start range) ranges) more))

-- once all were read, no page is to come
pub pages_done : (hi : List ℕ) (ranges : List RangeRead) → next_page hi None ranges ≡ None
pages_done hi [] = refl
pages_done hi (range ∷ ranges) = pages_done hi ranges

pub rows_done : (hi : List ℕ) (ranges : List RangeRead) → page_rows hi None ranges ≡ []
rows_done hi [] = refl
rows_done hi (range ∷ ranges) = rows_done hi ranges

-- one more range of those gone through
taken_more : (ranges : List RangeRead) (i : ℕ) (range : RangeRead) → i < length ranges → get_or ranges i range ≡ range → take (i + 1) ranges ≡ take i ranges ++ range ∷ []
taken_more ranges i range l at = take_more ranges i range l ∙ ap (λ r. take i ranges ++ r ∷ []) at

pub start_moved : (hi : List ℕ) (first start : Option (List ℕ)) (ranges : List RangeRead) (i : ℕ) (range : RangeRead) → i < length ranges → get_or ranges i range ≡ range → start ≡ next_page hi first (take i ranges)
    → page_behind hi start range ≡ next_page hi first (take (i + 1) ranges)
start_moved hi first start ranges i range l at is =
    ap (λ s. page_behind hi s range) is
    ∙ sym (ap (next_page hi first) (taken_more ranges i range l at) ∙ pages_more hi first (take i ranges) (range ∷ []))

pub rows_moved : (hi : List ℕ) (first start : Option (List ℕ)) (ranges : List RangeRead) (i : ℕ) (range : RangeRead) → i < length ranges → get_or ranges i range ≡ range → start ≡ next_page hi first (take i ranges)
    → page_rows hi first (take i ranges) ++ rows_of_page hi start range ≡ page_rows hi first (take (i + 1) ranges)
rows_moved hi first start ranges i range l at is =
    ap (λ s. page_rows hi first (take i ranges) ++ rows_of_page hi s range) is
    ∙ sym (ap (page_rows hi first) (taken_more ranges i range l at)
    ∙ (page_rows_more hi first (take i ranges) (range ∷ []) ∙ ap (λ rows. page_rows hi first (take i ranges) ++ rows) (append-nil (rows_of_page hi (next_page hi first (take i ranges)) range))))

-- a range reads itself
reads_itself : (lo hi : List ℕ) (limit : ℕ) (rows : List Row) → reads_range lo hi limit (record { lo = lo; hi = hi; limit = limit; rows = rows }) ≡ true
reads_itself lo hi limit rows = λ i. eq-eqb limit limit refl i && (is_eq (key_self lo i) && is_eq (key_self hi i))

pub page_noted : (lo hi start : List ℕ) (reads : ReadSet) (rows : List Row) → next_page hi (Some lo) reads.ranges ≡ Some start → next_page hi (Some lo) (noted reads (asks.Range start hi 128) (answers.Rows rows)).ranges ≡ start_after start rows
page_noted lo hi start reads rows is =
    pages_more hi (Some lo) reads.ranges (page ∷ [])
    ∙ (ap (λ s. next_page hi s (page ∷ [])) is ∙ ap (λ b. cond b (start_after start rows) (Some start)) (reads_itself start hi 128 rows))
  where
    page : RangeRead
    page = record { lo = start; hi = hi; limit = 128; rows = rows }

-- ---- the first row
pub first_more : (lo hi : List ℕ) (ranges more : List RangeRead) (range : RangeRead) → first_read lo hi ranges ≡ Some range → first_read lo hi (ranges ++ more) ≡ Some range
first_more lo hi ranges more range is = find-append (reads_range lo hi 1) ranges more ∙ ap (λ o. option_or o (find (reads_range lo hi 1) more)) is

pub first_noted : (lo hi : List ℕ) (reads : ReadSet) (rows : List Row) → IsFirstRead (noted reads (asks.Range lo hi 1) (answers.Rows rows)) lo hi
first_noted lo hi reads rows = by_read (first_read lo hi reads.ranges) refl
  where
    new : RangeRead
    new = record { lo = lo; hi = hi; limit = 1; rows = rows }

    by_read : (o : Option RangeRead) → first_read lo hi reads.ranges ≡ o → IsFirstRead (noted reads (asks.Range lo hi 1) (answers.Rows rows)) lo hi
    by_read None is = (new, find-append (reads_range lo hi 1) reads.ranges (new ∷ []) ∙ (ap (λ o. option_or o (find (reads_range lo hi 1) (new ∷ []))) is ∙ ap (λ b. cond b (Some new) None) (reads_itself lo hi 1 rows)))
    by_read (Some range) is = (range, first_more lo hi reads.ranges (new ∷ []) range is)

-- rows that a range is answered are news
pub range_is_news : (lo hi : List ℕ) (limit : ℕ) (reads : ReadSet) (ask : Ask) (rows : List Row) → ask ≡ asks.Range lo hi limit → IsNews reads ask (answers.Rows rows)
range_is_news lo hi limit reads ask rows is = subst (λ (x : Ask). IsNews reads x (answers.Rows rows)) (sym is) tt
