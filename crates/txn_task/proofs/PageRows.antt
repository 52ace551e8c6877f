-- Where all pages of a range were read, their rows are the range; and what its first row tells.
use Rattle.std.proofs.Common.{◌≡◌, ℕ, zero, suc, ◌+◌, ◌<◌, ◌≤◌, ◌^◌, ◌==◌, eq-eqb, eqb-true, min, Bool, true, false, cond, List, [], ◌∷◌, ◌++◌, map, take, length, Option, Some, None, refl, sym, ap, subst, ◌∙◌, arith, get_or}
use Rattle.std.specs.Prelude.{◌&&◌, Result, Ok, Err, IfOk}
use Rattle.std.specs.FinMap.{get}
use Rattle.std.specs.Option.{option_and_then}
use Rattle.std.specs.Ordering.{is_eq, is_lt, is_le, is_ge, is_gt}
use Rattle.std.proofs.lemmas.Bool.{eqb-false}
use Rattle.std.proofs.lemmas.List.{append-nil, length-take, take-append-drop, take_more, take_all}
use Rattle.conflict_sets.specs.Keys.{key_cmp}
use Rattle.conflict_sets.specs.Ranges.{range_rows, last_key, key_after}
use Rattle.conflict_sets.specs.Reads as bytes
use Rattle.conflict_sets.specs.Rows.{IsAscending, is_inside, rows_between}
use Rattle.conflict_sets.specs.declared.sets.RangeRead.{RangeRead}
use Rattle.conflict_sets.specs.declared.sets.ReadSet.{ReadSet}
use Rattle.conflict_sets.proofs.KeyOrder.{key_exact, key_greater_flips, key_self, key_trans}
use Rattle.conflict_sets.proofs.RowLemmas.{by_place}
use Rattle.conflict_sets.proofs.RowRanges.{after_is_above, short_page, not_true}
use Rattle.conflict_sets.proofs.RowRanges as row_ranges
use Rattle.fs_base.specs.declared.memory.Memory.{Memory}
use Rattle.fs_base.specs.declared.row.Row.{Row}
use Rattle.key_schema.specs.Ranges.{dir_prefix, raised}
use Rattle.row_records.specs.declared.rows.DentRow.{DentRow}
use Rattle.row_tree.specs.Spelling.{spelled_dent_row}
use Rattle.row_tree.specs.TypedRows.{TypedRows, dir_rows}
use Rattle.row_tree.proofs.DirRanges.{dir_range_rows}
use Rattle.row_tree.proofs.Ranges.{empty_range, used_range}
use Rattle.tree_model.proofs.MapLaws.{and_true}
use Rattle.txn_task.specs.Agreeing.{Agrees}
use Rattle.txn_task.specs.Pages.{IsWantPages, reads_range, first_read, start_behind, start_after, page_behind, next_page, page_rows}
use Rattle.txn_task.specs.Wanted.{IsWantFirst, IsWantRange}
use Rattle.txn_task.specs.declared.first.WantFirst.{WantFirst}
use Rattle.txn_task.specs.declared.first.WantFirst.TheVariants as firsts
use Rattle.txn_task.specs.declared.messages.Ask.{Ask}
use Rattle.txn_task.proofs.MoreLaws.{pages_done, rows_done}
use Rattle.txn_task.proofs.TxnLaws.{range_found}

-- ---- the order of keys
pub key_from : (lo : List ℕ) → is_le (key_cmp lo lo) ≡ true
key_from lo = ap is_le (key_self lo)

not_above : (a b : List ℕ) → is_le (key_cmp a b) ≡ true → is_gt (key_cmp a b) ≡ false
not_above a b h = by_place _ a b
    (λ e. ap is_gt e)
    (λ e. ap is_gt e)
    (λ e. not_true (sym (ap is_le e) ∙ h))

not_from : (a b : List ℕ) → is_ge (key_cmp a b) ≡ false → is_le (key_cmp a b) ≡ true
not_from a b h = by_place _ a b
    (λ e. ap is_le e)
    (λ e. ap is_le e)
    (λ e. not_true (sym h ∙ ap is_ge e))

before_next : (lo key : List ℕ) → is_le (key_cmp lo key) ≡ true → is_le (key_cmp lo (key_after key)) ≡ true
before_next lo key h = not_from lo (key_after key) (after_is_above lo key ∙ not_above lo key h)

turned_round : (a b : List ℕ) → is_ge (key_cmp b a) ≡ true → is_le (key_cmp a b) ≡ true
turned_round a b h = by_place _ a b
    (λ e. ap is_le e)
    (λ e. ap is_le e)
    (λ e. not_true (sym (ap is_ge (key_greater_flips a b e)) ∙ h))

le_trans : (a b c : List ℕ) → is_le (key_cmp a b) ≡ true → is_le (key_cmp b c) ≡ true → is_le (key_cmp a c) ≡ true
le_trans a b c h g = by_place _ a b
    (λ e. by_place _ b c
    (λ f. ap is_le (key_trans a b c e f))
    (λ f. ap is_le (ap (key_cmp a) (sym (key_exact b c f)) ∙ e))
    (λ f. not_true (sym (ap is_le f) ∙ g)))
    (λ e. ap (λ x. is_le (key_cmp x c)) (key_exact a b e) ∙ g)
    (λ e. not_true (sym (ap is_le e) ∙ h))

same : (a b : List ℕ) → is_eq (key_cmp a b) ≡ true → a ≡ b
same a b h = by_place _ a b
    (λ e. not_true (sym (ap is_eq e) ∙ h))
    (λ e. key_exact a b e)
    (λ e. not_true (sym (ap is_eq e) ∙ h))

-- ---- a range with these bounds
read_between : (R : List Row) (lo hi : List ℕ) (limit : ℕ) (range : RangeRead) → reads_range lo hi limit range ≡ true → rows_between R range.lo range.hi range.limit ≡ range.rows → rows_between R lo hi limit ≡ range.rows
read_between R lo hi limit range reads gives =
    let by_limit = and_true (range.limit == limit) (is_eq (key_cmp range.lo lo) && is_eq (key_cmp range.hi hi)) reads in
    let ends = and_true (is_eq (key_cmp range.lo lo)) (is_eq (key_cmp range.hi hi)) by_limit.1 in
    sym (λ i. rows_between R (same range.lo lo ends.0 i) (same range.hi hi ends.1 i) (eqb-true range.limit limit by_limit.0 i)) ∙ gives

-- ---- where the next page starts
record Starts (lo : List ℕ) (rows : List Row) (at : List ℕ) : Type 0 where
  pub key : List ℕ
  pub last : last_key rows ≡ Some key
  pub full : length rows ≡ 128
  pub from : is_le (key_cmp lo key) ≡ true
  pub is : at ≡ key_after key

same_start : (x y : List ℕ) → Some x ≡ Some y → y ≡ x
same_start x y e = cc

starts : (lo : List ℕ) (rows : List Row) (at : List ℕ) → start_after lo rows ≡ Some at → Starts lo rows at
starts lo rows at is = by_length (length rows == 128) refl (last_key rows) refl is
  where
    by_key : (key : List ℕ) → last_key rows ≡ Some key → length rows ≡ 128 → (b : Bool) → is_le (key_cmp lo key) ≡ b → cond b (Some (key_after key)) None ≡ Some at → Starts lo rows at
    by_key key last full false from e = absurd (cc)
    by_key key last full true from e = record { key = key; last = last; full = full; from = from; is = same_start (key_after key) at e }

    by_length : (b : Bool) → (length rows == 128) ≡ b → (o : Option (List ℕ)) → last_key rows ≡ o → cond b (option_and_then (start_behind lo) o) None ≡ Some at → Starts lo rows at
    by_length false full o last e = absurd (cc)
    by_length true full None last e = absurd (cc)
    by_length true full (Some key) last e = by_key key last (eqb-true (length rows) 128 full) (is_le (key_cmp lo key)) refl e

starts_behind : (lo : List ℕ) (rows : List Row) (key : List ℕ) → length rows ≡ 128 → last_key rows ≡ Some key → is_le (key_cmp lo key) ≡ true → start_after lo rows ≡ Some (key_after key)
starts_behind lo rows key full last from =
    ap (λ b. cond b (option_and_then (start_behind lo) (last_key rows)) None) (eq-eqb (length rows) 128 full)
    ∙ (ap (option_and_then (start_behind lo)) last ∙ ap (λ b. cond b (Some (key_after key)) None) from)

no_start : {P : Type 0} (at : List ℕ) → None ≡ Some at → P
no_start at e = absurd (cc)

behind_from : (hi lo at : List ℕ) (range : RangeRead) → page_behind hi (Some lo) range ≡ Some at → is_le (key_cmp lo at) ≡ true
behind_from hi lo at range is = by_test (reads_range lo hi 128 range) is
  where
    by_test : (b : Bool) → cond b (start_after lo range.rows) (Some lo) ≡ Some at → is_le (key_cmp lo at) ≡ true
    by_test true e = let s = starts lo range.rows at e in ap (λ x. is_le (key_cmp lo x)) s.is ∙ before_next lo s.key s.from
    by_test false e = ap (λ x. is_le (key_cmp lo x)) (same_start lo at e) ∙ key_from lo

-- no page starts before the range
pub page_inside : (hi lo start : List ℕ) (ranges : List RangeRead) → next_page hi (Some lo) ranges ≡ Some start → is_le (key_cmp lo start) ≡ true
page_inside hi lo start [] is = ap (λ x. is_le (key_cmp lo x)) (same_start lo start is) ∙ key_from lo
page_inside hi lo start (range ∷ ranges) is = by_start (page_behind hi (Some lo) range) refl is (λ at. page_inside hi at start ranges)
  where
    by_start : (o : Option (List ℕ)) → page_behind hi (Some lo) range ≡ o → next_page hi o ranges ≡ Some start → ((at : List ℕ) → next_page hi (Some at) ranges ≡ Some start → is_le (key_cmp at start) ≡ true) → is_le (key_cmp lo start) ≡ true
    by_start None o e later = no_start start (sym (pages_done hi ranges) ∙ e)
    by_start (Some at) o e later = le_trans lo at start (behind_from hi lo at range o) (later at e)

-- ---- the last row of a page
some_last : (rows : List Row) (n : ℕ) → length rows ≡ n + 1 → (key : List ℕ) × (last_key rows ≡ Some key)
some_last [] n h = absurd (omega arith)
some_last (row ∷ []) n h = (row.key, refl)
some_last (row ∷ next ∷ rows) n h = some_last (next ∷ rows) (length rows) (omega arith)

-- the last key of a front of a range isn't before it
module _ (lo hi : List ℕ) where
  inside_from : (key : List ℕ) → is_inside lo hi key ≡ true → is_le (key_cmp lo key) ≡ true
  inside_from key is = turned_round lo key (and_true (is_ge (key_cmp key lo)) (is_lt (key_cmp key hi)) is).0

  abbrev IsLastFrom : List Row → Type 0
  IsLastFrom rows = (key : List ℕ) → last_key rows ≡ Some key → is_le (key_cmp lo key) ≡ true

  last_more : (row : Row) (rows : List Row) → is_le (key_cmp lo row.key) ≡ true → IsLastFrom rows → IsLastFrom (row ∷ rows)
  last_more row [] from later key e = ap (λ x. is_le (key_cmp lo x)) (same_start row.key key e) ∙ from
  last_more row (next ∷ rows) from later key e = later key e

  front_from : (n : ℕ) (rows : List Row) → IsLastFrom (take n (range_rows rows lo hi))
  front_from zero rows key e = no_start key e
  front_from (suc n) [] key e = no_start key e
  front_from (suc n) (row ∷ rows) key e = by_test (is_inside lo hi row.key) refl (front_from n rows) (front_from (suc n) rows) key e
    where
      by_test : (b : Bool) → is_inside lo hi row.key ≡ b → IsLastFrom (take n (range_rows rows lo hi)) → IsLastFrom (take (suc n) (range_rows rows lo hi)) → IsLastFrom (take (suc n) (cond b (row ∷ range_rows rows lo hi) (range_rows rows lo hi)))
      by_test true is this later = last_more row (take n (range_rows rows lo hi)) (inside_from row.key is) this
      by_test false is this later = later

-- ---- all pages are the range
module _ (R : List Row) (ascending : IsAscending R) (hi : List ℕ) where
  -- a page that no other follows ends the range
  short_end : (lo : List ℕ) (rows : List Row) → rows_between R lo hi 128 ≡ rows → start_after lo rows ≡ None → range_rows R lo hi ≡ rows
  short_end lo rows read none = by_length (length rows == 128) refl
    where
      within : length rows ≤ 128
      within = subst (λ (x : List Row). length x ≤ 128) read (at_most (length-take 128 (range_rows R lo hi)))
        where
          at_most : length (take 128 (range_rows R lo hi)) ≡ min 128 (length (range_rows R lo hi)) → length (take 128 (range_rows R lo hi)) ≤ 128
          at_most e = omega arith

      full : length rows ≡ 128 → ⊥
      full is =
          let last = some_last rows 127 is in
          let from = front_from lo hi 128 R last.0 (ap last_key read ∙ last.1) in
          no_start (key_after last.0) (sym none ∙ starts_behind lo rows last.0 is last.1 from)

      fewer : (length rows == 128) ≡ false → length rows < 128
      fewer e = omega (arith, within, eqb-false (length rows) 128 e)

      by_length : (b : Bool) → (length rows == 128) ≡ b → range_rows R lo hi ≡ rows
      by_length true is = absurd (full (eqb-true (length rows) 128 is))
      by_length false is = sym (short_page R lo hi 128 (subst (λ (x : List Row). length x < 128) (sym read) (fewer is))) ∙ read

  -- a full page, and what is behind it
  full_page : (lo at : List ℕ) (rows more : List Row) → rows_between R lo hi 128 ≡ rows → start_after lo rows ≡ Some at → range_rows R at hi ≡ more → range_rows R lo hi ≡ rows ++ more
  full_page lo at rows more read is rest =
      let s = starts lo rows at is in
      let behind = row_ranges.next_page R lo hi s.key 128 ascending (ap length read ∙ s.full) (ap last_key read ∙ s.last) in
      sym (take-append-drop 128 (range_rows R lo hi)) ∙ (λ i. read i ++ (sym behind ∙ (ap (λ x. range_rows R x hi) (sym s.is) ∙ rest)) i)

  pub pages_are : (lo : List ℕ) (ranges : List RangeRead) → bytes.RangesAgree R ranges → next_page hi (Some lo) ranges ≡ None → range_rows R lo hi ≡ page_rows hi (Some lo) ranges
  pages_are lo [] agrees none = no_start lo (sym none)
  pages_are lo (range ∷ ranges) agrees none = by_test (reads_range lo hi 128 range) refl none (λ at. pages_are at ranges agrees.1)
    where
      by_start : (o : Option (List ℕ)) → start_after lo range.rows ≡ o → rows_between R lo hi 128 ≡ range.rows → next_page hi o ranges ≡ None → ((at : List ℕ) → next_page hi (Some at) ranges ≡ None → range_rows R at hi ≡ page_rows hi (Some at) ranges)
          → range_rows R lo hi ≡ range.rows ++ page_rows hi o ranges
      by_start None is read e later = short_end lo range.rows read is ∙ (sym (append-nil range.rows) ∙ ap (λ rows. range.rows ++ rows) (sym (rows_done hi ranges)))
      by_start (Some at) is read e later = full_page lo at range.rows (page_rows hi (Some at) ranges) read is (later at e)

      by_test : (b : Bool) → reads_range lo hi 128 range ≡ b → next_page hi (cond b (start_after lo range.rows) (Some lo)) ranges ≡ None → ((at : List ℕ) → next_page hi (Some at) ranges ≡ None → range_rows R at hi ≡ page_rows hi (Some at) ranges)
          → range_rows R lo hi ≡ cond b range.rows [] ++ page_rows hi (cond b (start_after lo range.rows) (Some lo)) ranges
      by_test true is e later = by_start (start_after lo range.rows) refl (read_between R lo hi 128 range is agrees.0) e later
      by_test false is e later = later lo e

pub range_pages : (rows : List Row) (lo hi : List ℕ) (ranges : List RangeRead) → IsAscending rows → bytes.RangesAgree rows ranges → next_page hi (Some lo) ranges ≡ None → range_rows rows lo hi ≡ page_rows hi (Some lo) ranges
range_pages rows lo hi ranges ascending agrees none = pages_are rows ascending hi lo ranges agrees none

-- all pages of a directory are its rows
pub all_pages : (reads : ReadSet) (dir : ℕ) → dir < 2 ^ 36 → next_page (raised (dir_prefix dir)) (Some (dir_prefix dir)) reads.ranges ≡ None
    → (S : TypedRows) → Agrees S reads → map (spelled_dent_row dir) (dir_rows S dir) ≡ page_rows (raised (dir_prefix dir)) (Some (dir_prefix dir)) reads.ranges
all_pages reads dir fits none S a =
    sym (dir_range_rows a.rows S a.ascending a.spells dir fits)
    ∙ range_pages a.rows (dir_prefix dir) (raised (dir_prefix dir)) reads.ranges a.ascending a.agrees.ranges none

-- ---- the first row of a range
first_gives : (reads : ReadSet) (lo hi : List ℕ) (range : RangeRead) → first_read lo hi reads.ranges ≡ Some range → (rows : List Row) → bytes.RowsAgree rows reads → take 1 (range_rows rows lo hi) ≡ range.rows
first_gives reads lo hi range is rows agrees =
    let found = range_found (reads_range lo hi 1) reads.ranges range is in
    read_between rows lo hi 1 range found.passes (found.gives rows agrees.ranges)

pub first_empty : (reads : ReadSet) (lo hi : List ℕ) (range : RangeRead) → first_read lo hi reads.ranges ≡ Some range → range.rows ≡ [] → (rows : List Row) → bytes.RowsAgree rows reads → range_rows rows lo hi ≡ []
first_empty reads lo hi range is none rows agrees = empty (range_rows rows lo hi) (first_gives reads lo hi range is rows agrees ∙ none)
  where
    empty : (xs : List Row) → take 1 xs ≡ [] → xs ≡ []
    empty [] e = refl
    empty (x ∷ xs) e = absurd (cc)

pub first_used : (reads : ReadSet) (lo hi : List ℕ) (range : RangeRead) → first_read lo hi reads.ranges ≡ Some range → (range.rows ≡ [] → ⊥) → (rows : List Row) → bytes.RowsAgree rows reads → (row : Row) × (more : List Row) × (range_rows rows lo hi ≡ row ∷ more)
first_used reads lo hi range is some rows agrees = used (range_rows rows lo hi) (first_gives reads lo hi range is rows agrees)
  where
    used : (xs : List Row) → take 1 xs ≡ range.rows → (row : Row) × (more : List Row) × (xs ≡ row ∷ more)
    used [] e = absurd (some (sym e))
    used (x ∷ xs) e = (x, xs, refl)

-- ---- the same of a directory
pub dir_empty : (dir : ℕ) (S : TypedRows) (reads : ReadSet) → dir < 2 ^ 36 → ((rows : List Row) → bytes.RowsAgree rows reads → range_rows rows (dir_prefix dir) (raised (dir_prefix dir)) ≡ []) → Agrees S reads → (name : List ℕ) → get S.dents (dir, name) ≡ None
dir_empty dir S reads fits none a = empty_range S dir 0 (ap (take 1) (unmapped (dir_rows S dir) (sym (dir_range_rows a.rows S a.ascending a.spells dir fits) ∙ none a.rows a.agrees)))
  where
    unmapped : (es : List (List ℕ × DentRow)) → map (spelled_dent_row dir) es ≡ [] → es ≡ []
    unmapped [] e = refl
    unmapped (x ∷ es) e = absurd (cc)

pub dir_used : (dir : ℕ) (S : TypedRows) (reads : ReadSet) → dir < 2 ^ 36 → ((rows : List Row) → bytes.RowsAgree rows reads → (row : Row) × (more : List Row) × (range_rows rows (dir_prefix dir) (raised (dir_prefix dir)) ≡ row ∷ more)) → Agrees S reads
    → (name : List ℕ) × (row : DentRow) × (get S.dents (dir, name) ≡ Some row)
dir_used dir S reads fits some a =
    let first = some a.rows a.agrees in
    let entry = unmapped (dir_rows S dir) first.0 first.1 (sym (dir_range_rows a.rows S a.ascending a.spells dir fits) ∙ first.2) in
    (entry.0.0, entry.0.1, used_range S dir 0 entry.0 [] (ap (take 1) entry.2))
  where
    unmapped : (es : List (List ℕ × DentRow)) (row : Row) (more : List Row) → map (spelled_dent_row dir) es ≡ row ∷ more → (e : List ℕ × DentRow) × (rest : List (List ℕ × DentRow)) × (es ≡ e ∷ rest)
    unmapped [] row more e = absurd (cc)
    unmapped (x ∷ es) row more e = (x, es, refl)

first_tells : (reads : ReadSet) (dir : ℕ) → dir < 2 ^ 36 → (want : WantFirst) → IsWantFirst want reads (dir_prefix dir) (raised (dir_prefix dir)) → IsWantRange want reads dir
first_tells reads dir fits (firsts.Ask ask) h = h
first_tells reads dir fits firsts.Empty h = (h.0, λ S a. dir_empty dir S reads fits h.1 a)
first_tells reads dir fits firsts.Used h = (h.0, λ S a. dir_used dir S reads fits h.1 a)

pub dir_tells : (reads : ReadSet) (dir : ℕ) (lo hi from to : List ℕ) (result : Result WantFirst Memory) → dir < 2 ^ 36 → lo ≡ from → hi ≡ to → ◌≡◌ {A = List ℕ × List ℕ} (from, to) (dir_prefix dir, raised (dir_prefix dir)) → IfOk result (λ want. IsWantFirst want reads lo hi) → IfOk result (λ want. IsWantRange want reads dir)
dir_tells reads dir lo hi from to (Ok want) fits a b pair h =
    first_tells reads dir fits want
    (subst (λ (p : List ℕ × List ℕ). IsWantFirst want reads p.0 p.1) pair (subst (λ x. IsWantFirst want reads from x) b (subst (λ x. IsWantFirst want reads x hi) a h)))
dir_tells reads dir lo hi from to (Err e) fits a b pair h = tt

-- the pages of a directory are those of its range
pub dir_pages : (reads : ReadSet) (dir : ℕ) (lo hi from to : List ℕ) (want : Option Ask) → lo ≡ from → hi ≡ to → ◌≡◌ {A = List ℕ × List ℕ} (from, to) (dir_prefix dir, raised (dir_prefix dir)) → IsWantPages want reads lo hi → IsWantPages want reads (dir_prefix dir) (raised (dir_prefix dir))
dir_pages reads dir lo hi from to want a b pair h =
    subst (λ (p : List ℕ × List ℕ). IsWantPages want reads p.0 p.1) pair (subst (λ x. IsWantPages want reads from x) b (subst (λ x. IsWantPages want reads x hi) a h))

by_front : {X : Type 0} (xs : List X) (i : ℕ) (x : X) → i + 1 ≡ length xs → get_or xs i x ≡ x → take i xs ++ x ∷ [] ≡ xs
by_front xs i x l at = ap (λ y. take i xs ++ y ∷ []) (sym at) ∙ (sym (take_more xs i x (omega arith)) ∙ take_all (i + 1) xs (omega arith))

last_added : (rows : List Row) (row : Row) → last_key (rows ++ row ∷ []) ≡ Some row.key
last_added [] row = refl
last_added (x ∷ []) row = refl
last_added (x ∷ y ∷ rows) row = last_added (y ∷ rows) row

last_is : (rows : List Row) (i : ℕ) (row : Row) → i + 1 ≡ length rows → get_or rows i row ≡ row → last_key rows ≡ Some row.key
last_is rows i row l at = ap last_key (sym (by_front rows i row l at)) ∙ last_added (take i rows) row

pub after_is : (lo : List ℕ) (rows : List Row) (i : ℕ) (row : Row) → length rows ≡ 128 → i + 1 ≡ length rows → get_or rows i row ≡ row → start_behind lo row.key ≡ start_after lo rows
after_is lo rows i row full l at =
    sym (ap (λ b. cond b (option_and_then (start_behind lo) (last_key rows)) None) (eq-eqb (length rows) 128 full) ∙ ap (option_and_then (start_behind lo)) (last_is rows i row l at))
