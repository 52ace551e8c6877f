-- Rows read one after another add the entries that they stand for.
use Rattle.std.proofs.Common.{◌≡◌, ℕ, ◌+◌, ◌<◌, ◌^◌, ◌==◌, length, take, get_or, eqb-true, Bool, true, false, cond, T, List, [], ◌∷◌, ◌++◌, map, Option, Some, None, refl, sym, ap, subst, ◌∙◌, inl, inr, append_assoc}
use Rattle.std.specs.Prelude.{Result, Ok, Err}
use Rattle.std.specs.Option.{option_map}
use Rattle.std.specs.List.{filter_map, cons_option}
use Rattle.std.specs.Ordering.{is_eq}
use Rattle.std.specs.Cmp.{tied_itself}
use Rattle.std.specs.FinMap.{entries, get-entries, entries_sorted, find, is_sorted}
use Rattle.std.proofs.lemmas.List.{append-nil, take_more}
use Rattle.conflict_sets.specs.declared.sets.RangeRead.{RangeRead}
use Rattle.conflict_sets.specs.declared.sets.ReadSet.{ReadSet}
use Rattle.fs_base.specs.declared.reply.DirEntry.{DirEntry}
use Rattle.fs_base.specs.declared.row.Row.{Row}
use Rattle.key_schema.specs.Keys.{IsValidKey}
use Rattle.key_schema.specs.Ranges.{dir_prefix, raised}
use Rattle.key_schema.specs.declared.key.Key.TheVariants as keys
use Rattle.row_records.specs.Rows.{read_dent}
use Rattle.row_records.specs.declared.rows.DentRow.{DentRow}
use Rattle.row_tree.specs.Spelling.{Spells, spelled_dent_row}
use Rattle.row_tree.specs.Told.{listed_entry}
use Rattle.row_tree.specs.TypedRows.{TypedRows, named_in_dir, dir_rows}
use Rattle.row_tree.specs.Values.{DentValue, IsValue, spelled_value}
use Rattle.row_tree.proofs.OneValue.{dents}
use Rattle.tree_model.specs.Maps.{dent_cmp}
use Rattle.tree_model.proofs.MapLaws.{decide, both_first, both_second, find_below, not_some, names}
use Rattle.txn_task.specs.Agreeing.{Agrees}
use Rattle.txn_task.specs.Listing.{AddsEntries, AreEntries, IsEntryOf, IsNameOf}
use Rattle.txn_task.specs.Pages.{next_page, rows_of_page, page_rows}
use Rattle.txn_task.specs.Wanted.{IsRowReading}
use Rattle.txn_task.proofs.MoreLaws.{rows_moved}
use Rattle.txn_task.proofs.PageRows.{all_pages}

-- ---- a list in two parts
same_parts : {X : Type 0} (x y : X) (xs ys : List X) → x ∷ xs ≡ y ∷ ys → (x ≡ y) × (xs ≡ ys)
same_parts x y xs ys e = (cc, cc)

-- what is mapped to two lists joined is two lists joined
halves : {X Y : Type 0} (f : X → Y) (es : List X) (xs ys : List Y) → xs ++ ys ≡ map f es → (front : List X) × (back : List X) × (es ≡ front ++ back) × (xs ≡ map f front) × (ys ≡ map f back)
halves f es [] ys is = ([], es, refl, refl, is)
halves f [] (x ∷ xs) ys is = absurd (cc)
halves f (e ∷ es) (x ∷ xs) ys is =
    let same = same_parts x (f e) (xs ++ ys) (map f es) is in
    let more = halves f es xs ys same.1 in
    (e ∷ more.0, more.1, ap (λ l. e ∷ l) more.2, λ i. same.0 i ∷ more.3 i, more.4)

entry_halves : (dir : ℕ) (front back : List (List ℕ × DentRow)) → AreEntries dir (front ++ back) → AreEntries dir front × AreEntries dir back
entry_halves dir [] back h = (tt, h)
entry_halves dir (e ∷ front) back h = let more = entry_halves dir front back h.1 in ((h.0, more.0), more.1)

entries_joined : (front back : List (List ℕ × DentRow)) → map listed_entry front ++ map listed_entry back ≡ map listed_entry (front ++ back)
entries_joined [] back = refl
entries_joined (e ∷ front) back = ap (λ l. listed_entry e ∷ l) (entries_joined front back)

-- ---- rows one after another
pub adds_none : (names : List DirEntry) → AddsEntries [] names names
adds_none names dir [] fits is = sym (append-nil names)
adds_none names dir (e ∷ es) fits is = absurd (cc)

pub adds_more : (xs ys : List Row) (a b c : List DirEntry) → AddsEntries xs a b → AddsEntries ys b c → AddsEntries (xs ++ ys) a c
adds_more xs ys a b c first second dir es fits is =
    let parts = halves (spelled_dent_row dir) es xs ys is in
    let both = entry_halves dir parts.0 parts.1 (subst (AreEntries dir) parts.2 fits) in
    second dir parts.1 both.1 parts.4
    ∙ (ap (λ l. l ++ map listed_entry parts.1) (first dir parts.0 both.0 parts.3)
    ∙ (append_assoc a (map listed_entry parts.0) (map listed_entry parts.1)
    ∙ ap (λ l. a ++ l) (entries_joined parts.0 parts.1 ∙ ap (map listed_entry) (sym parts.2))))

-- one more row
pub page_more : (rows : List Row) (i : ℕ) (row : Row) (a b c : List DirEntry) → i < length rows → get_or rows i row ≡ row → AddsEntries (take i rows) a b → AddsEntries (row ∷ []) b c → AddsEntries (take (i + 1) rows) a c
page_more rows i row a b c l at before this =
    subst (λ (xs : List Row). AddsEntries xs a c) (sym (take_more rows i row l ∙ ap (λ x. take i rows ++ x ∷ []) at)) (adds_more (take i rows) (row ∷ []) a b c before this)

-- one more range
pub range_more : (hi : List ℕ) (first start : Option (List ℕ)) (ranges : List RangeRead) (i : ℕ) (range : RangeRead) (a b c : List DirEntry) → i < length ranges → get_or ranges i range ≡ range → start ≡ next_page hi first (take i ranges)
    → AddsEntries (page_rows hi first (take i ranges)) a b → AddsEntries (rows_of_page hi start range) b c → AddsEntries (page_rows hi first (take (i + 1) ranges)) a c
range_more hi first start ranges i range a b c l at is before this =
    subst (λ (xs : List Row). AddsEntries xs a c) (rows_moved hi first start ranges i range l at is) (adds_more (page_rows hi first (take i ranges)) (rows_of_page hi start range) a b c before this)

-- ---- one row
never_found : {P : Type 0} (e : DirEntry) → None ≡ Some e → P
never_found e is = absurd (cc)

just_that : (x e : DirEntry) → Some x ≡ Some e → x ≡ e
just_that x e is = cc

pub adds_nothing : (row : Row) (names : List DirEntry) → IsEntryOf row None → AddsEntries (row ∷ []) names names
adds_nothing row names none dir [] fits is = absurd (cc)
adds_nothing row names none dir (e ∷ []) fits is = never_found (listed_entry e) (none dir e fits (same_parts row (spelled_dent_row dir e) [] [] is).0)
adds_nothing row names none dir (e ∷ f ∷ es) fits is = absurd (cc)

pub adds_one : (row : Row) (entry : DirEntry) (names : List DirEntry) → IsEntryOf row (Some entry) → AddsEntries (row ∷ []) names (names ++ entry ∷ [])
adds_one row entry names some dir [] fits is = absurd (cc)
adds_one row entry names some dir (e ∷ []) fits is =
    ap (λ x. names ++ x ∷ []) (just_that entry (listed_entry e) (some dir e fits (same_parts row (spelled_dent_row dir e) [] [] is).0))
adds_one row entry names some dir (e ∷ f ∷ es) fits is = absurd (cc)

-- ---- a row's key and value
no_name : {P : Type 0} (name : List ℕ) → None ≡ Some name → P
no_name name is = absurd (cc)

pub entry_unnamed : (row : Row) → IsNameOf row.key None → IsEntryOf row None
entry_unnamed row none dir e fits is = no_name e.0 (none dir e.0 (fits.0.0, sym (ap (λ (r : Row). r.key) is)))

-- the value of an entry's row reads as it
reads_back : (row : Row) (dir : ℕ) (e : List ℕ × DentRow) → AreEntries dir (e ∷ []) → row ≡ spelled_dent_row dir e → read_dent row.value ≡ Ok e.1
unfolding spelled_value
reads_back row dir e fits is = ap (λ (r : Row). read_dent r.value) is ∙ dents.back e.1 fits.0.1

never_read : {P : Type 0} (answer : Result DentRow ℕ) (place : ℕ) (e : DentRow) → answer ≡ Err place → answer ≡ Ok e → P
never_read answer place e bad good = let clash : ◌≡◌ {A = Result DentRow ℕ} (Err place) (Ok e) = sym bad ∙ good in absurd (cc)

pub entry_unread : (row : Row) → IsRowReading (read_dent row.value) None → IsEntryOf row None
entry_unread row bad dir e fits is = never_read (read_dent row.value) bad.0 e.1 bad.1 (reads_back row dir e fits is)

pub entry_read : (row : Row) (name : List ℕ) (dent : DentRow) → IsNameOf row.key (Some name) → IsRowReading (read_dent row.value) (Some dent) → IsEntryOf row (Some (listed_entry (name, dent)))
entry_read row name dent named read dir e fits is =
    let this : name ≡ e.0 = that_name name e.0 (named dir e.0 (fits.0.0, sym (ap (λ (r : Row). r.key) is))) in
    let value : dent ≡ e.1 = that_value dent e.1 (sym read ∙ reads_back row dir e fits is) in
    λ i. Some (listed_entry (this i, value i))
  where
    that_name : (x y : List ℕ) → Some x ≡ Some y → x ≡ y
    that_name x y same = cc

    that_value : (x y : DentRow) → ◌≡◌ {A = Result DentRow ℕ} (Ok x) (Ok y) → x ≡ y
    that_value x y same = cc

-- ---- what stands in a directory may stand there
entries_among : (d : ℕ) (es : List ((ℕ × List ℕ) × DentRow)) → T (is_sorted dent_cmp es) → ((k : ℕ × List ℕ) (e : DentRow) → find dent_cmp k es ≡ Some e → IsValidKey (keys.Dent k.0 k.1) × IsValue (DentValue e)) → AreEntries d (filter_map (named_in_dir d) es)
entries_among d [] h all = tt
entries_among d (e ∷ es) h all =
    by_dir (e.0.0 == d) refl (entries_among d es (both_second _ _ h) (λ k v is. elim (decide names k e.0) [
      | inl q ↦ absurd (not_some v (find_below names e.0 es (both_first _ _ h)) (ap (λ (x : ℕ × List ℕ). find dent_cmp x es) (sym q.0) ∙ is))
      | inr q ↦ all k v (ap (λ b. cond b (Some e.1) (find dent_cmp k es)) q.1 ∙ is)
    ]))
  where
    itself : IsValidKey (keys.Dent e.0.0 e.0.1) × IsValue (DentValue e.1)
    itself = all e.0 e.1 (ap (λ o. cond (is_eq o) (Some e.1) (find dent_cmp e.0 es)) (tied_itself names.total e.0))

    by_dir : (b : Bool) → (e.0.0 == d) ≡ b → AreEntries d (filter_map (named_in_dir d) es) → AreEntries d (filter_map (named_in_dir d) (e ∷ es))
    by_dir true is later =
        subst (λ b. AreEntries d (cons_option (cond b (Some (e.0.1, e.1)) None) (filter_map (named_in_dir d) es))) (sym is)
        (subst (λ x. IsValidKey (keys.Dent x e.0.1) × IsValue (DentValue e.1)) (eqb-true e.0.0 d is) itself, later)
    by_dir false is later = subst (λ b. AreEntries d (cons_option (cond b (Some (e.0.1, e.1)) None) (filter_map (named_in_dir d) es))) (sym is) later

pub dir_entries : (R : List Row) (S : TypedRows) → Spells R S → (d : ℕ) → AreEntries d (dir_rows S d)
dir_entries R S spells d = entries_among d (entries S.dents) (entries_sorted S.dents) (λ k e is. spells.fits (keys.Dent k.0 k.1) (DentValue e) (ap (option_map DentValue) (get-entries S.dents (k.0, k.1) ∙ is)))

-- where all pages were read, the entries of their rows are the directory's
pub list_told : (reads : ReadSet) (dir : ℕ) (lo hi from to : List ℕ) (ranges : List RangeRead) (found : List DirEntry) → dir < 2 ^ 36 → lo ≡ from → hi ≡ to → ◌≡◌ {A = List ℕ × List ℕ} (from, to) (dir_prefix dir, raised (dir_prefix dir)) → ranges ≡ reads.ranges
    → next_page (raised (dir_prefix dir)) (Some (dir_prefix dir)) reads.ranges ≡ None → AddsEntries (page_rows hi (Some lo) ranges) [] found → (S : TypedRows) → Agrees S reads → found ≡ map listed_entry (dir_rows S dir)
list_told reads dir lo hi from to ranges found fits a b pair same none added S agrees =
    let start = a ∙ ap (λ (p : List ℕ × List ℕ). p.0) pair in
    let end = b ∙ ap (λ (p : List ℕ × List ℕ). p.1) pair in
    let all : map (spelled_dent_row dir) (dir_rows S dir) ≡ page_rows hi (Some lo) ranges = all_pages reads dir fits none S agrees ∙ sym (λ i. page_rows (end i) (Some (start i)) (same i)) in
    added dir (dir_rows S dir) (dir_entries agrees.rows S agrees.spells dir) (sym all)
