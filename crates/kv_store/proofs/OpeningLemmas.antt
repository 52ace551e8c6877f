-- The chains of opening rows, row by row.
use Rattle.std.proofs.Common.{◌≡◌, ℕ, ◌<◌, ◌+◌, List, [], ◌∷◌, ◌++◌, Option, Some, None, Bool, true, false, cond, length, take, get_or, sym, ◌∙◌, ap, refl, arith, suc, zero, subst}
use Rattle.std.specs.Ordering.{is_eq}
use Rattle.std.specs.declared.cmp.Ordering.TheVariants.{Less, Greater}
use Rattle.std.proofs.lemmas.List.{take_more}
use Rattle.conflict_sets.specs.Keys.{key_cmp}
use Rattle.conflict_sets.specs.Rows.{KeysAbove, IsAscending, value_at_key}
use Rattle.conflict_sets.proofs.KeyOrder.{key_exact, key_less_flips}
use Rattle.conflict_sets.proofs.RowLemmas.{by_place}
use Rattle.fs_base.specs.declared.row.Row.{Row}
use Rattle.kv_store.specs.declared.chain.Version.{Version}
use Rattle.kv_store.specs.Journal.{or_else}
use Rattle.kv_store.specs.Chains.{AreBelow}
use Rattle.kv_store.specs.Versions.{opening_version, with_version}

above_row : (key : List ℕ) (rows : List Row) (i : ℕ) (row : Row) → KeysAbove key rows → i < length rows → get_or rows i row ≡ row → key_cmp key row.key ≡ Less
above_row key [] i row h l at = absurd (omega arith)
above_row key (x ∷ rows) zero row h l at = ap (λ (y : Row). key_cmp key y.key) (sym at) ∙ h.0
above_row key (x ∷ rows) (suc i) row h l at = above_row key rows i row h.1 (omega arith) at

-- no row before this one has its key
unopened : (rows : List Row) (i : ℕ) (row : Row) → IsAscending rows → i < length rows → get_or rows i row ≡ row → value_at_key (take i rows) row.key ≡ None
unopened [] i row a l at = absurd (omega arith)
unopened (x ∷ rows) zero row a l at = refl
unopened (x ∷ rows) (suc i) row a l at =
    let g : key_cmp row.key x.key ≡ Greater = key_less_flips x.key row.key (above_row x.key rows i row a.0 (omega arith) at) in
    rw g (unopened rows i row a.1 (omega arith) at)

value-push : (rows : List Row) (row : Row) (key : List ℕ) → value_at_key (rows ++ row ∷ []) key ≡ or_else (value_at_key rows key) (cond (is_eq (key_cmp key row.key)) (Some row.value) None)
value-push [] row key = refl
value-push (x ∷ rows) row key = first (is_eq (key_cmp key x.key)) (value-push rows row key)
  where
    first : (b : Bool) → value_at_key (rows ++ row ∷ []) key ≡ or_else (value_at_key rows key) (cond (is_eq (key_cmp key row.key)) (Some row.value) None)
        → cond b (Some x.value) (value_at_key (rows ++ row ∷ []) key) ≡ or_else (cond b (Some x.value) (value_at_key rows key)) (cond (is_eq (key_cmp key row.key)) (Some row.value) None)
    first true h = refl
    first false h = h

value_more : (rows : List Row) (i : ℕ) (row : Row) (key : List ℕ) → i < length rows → get_or rows i row ≡ row → value_at_key (take (i + 1) rows) key ≡ or_else (value_at_key (take i rows) key) (cond (is_eq (key_cmp key row.key)) (Some row.value) None)
value_more rows i row key l at =
    ap (λ rs. value_at_key rs key) (take_more rows i row l ∙ ap (λ (x : Row). take i rows ++ x ∷ []) at) ∙ value-push (take i rows) row key

-- what stands at a key that the next row has: nothing
pub none_yet : (rows : List Row) (i : ℕ) (row : Row) (now : List Version) → IsAscending rows → i < length rows → get_or rows i row ≡ row → now ≡ opening_version (value_at_key (take i rows) row.key) → AreBelow 0 now
none_yet rows i row now a l at n = subst (AreBelow 0) (sym (n ∙ ap opening_version (unopened rows i row a l at))) tt

-- one row further
pub opened_more : (rows : List Row) (i : ℕ) (row : Row) (key : List ℕ) (now new : List Version)
    → IsAscending rows → i < length rows → get_or rows i row ≡ row
    → now ≡ opening_version (value_at_key (take i rows) key)
    → new ≡ with_version (is_eq (key_cmp key row.key)) 0 (Some row.value) now
    → new ≡ opening_version (value_at_key (take (i + 1) rows) key)
opened_more rows i row key now new a l at n h =
    h ∙ (by_place (with_version (is_eq (key_cmp key row.key)) 0 (Some row.value) now ≡ opening_version (or_else (value_at_key (take i rows) key) (cond (is_eq (key_cmp key row.key)) (Some row.value) None))) key row.key
    (λ e. rw e (n ∙ ap opening_version (same (value_at_key (take i rows) key))))
    (λ e. rw e (here (key_exact key row.key e)))
    (λ e. rw e (n ∙ ap opening_version (same (value_at_key (take i rows) key))))
    ∙ ap opening_version (sym (value_more rows i row key l at)))
  where
    same : (o : Option (List ℕ)) → o ≡ or_else o None
    same None = refl
    same (Some v) = refl

    here : key ≡ row.key → now ++ record { version = 0; value = Some row.value } ∷ [] ≡ opening_version (or_else (value_at_key (take i rows) key) (Some row.value))
    here k =
        let none : value_at_key (take i rows) key ≡ None = ap (value_at_key (take i rows)) k ∙ unopened rows i row a l at in
        ap (λ chain. chain ++ record { version = 0; value = Some row.value } ∷ []) (n ∙ ap opening_version none) ∙ ap (λ o. opening_version (or_else o (Some row.value))) (sym none)
