-- Entries counted for each inode by one pass over them.
use Rattle.std.proofs.Common.{◌≡◌, ℕ, suc, ◌+◌, ◌≤◌, Bool, true, false, cond, List, [], ◌∷◌, length, sym, ap, ◌∙◌, inl, inr, arith, eq-eqb, ne_eqb, unwrap_or}
use Rattle.std.specs.Prelude.{Some}
use Rattle.std.specs.Ordering.{nat_cmp}
use Rattle.std.specs.FinMap.{FinMap, empty, get, insert, get-empty}
use Rattle.row_records.specs.declared.rows.DentRow.{DentRow}
use Rattle.tree_model.specs.Maps.{tally}
use Rattle.tree_model.proofs.MapLaws.{ids, decide, get-set_same, get-set_other}
use Rattle.row_tree.specs.TypedRows.{is_to}

pub tally_le : {K X : Type 0} (p : X → Bool) (es : List (K × X)) → tally p es ≤ length es
tally_le p [] = omega arith
tally_le p (e ∷ es) = let rest = tally_le p es in one_more (p e.1) (tally p es) (length es) rest
  where
    one_more : (b : Bool) (m n : ℕ) → m ≤ n → cond b 1 0 + m ≤ suc n
    one_more true m n h = omega arith
    one_more false m n h = omega arith

zero_plus : (n : ℕ) → 0 + n ≡ n
zero_plus n = omega arith

-- nothing is counted at first
pub none_counted : {K : Type 0} (counts : FinMap nat_cmp ℕ) (items es : List (K × DentRow)) → counts ≡ empty → items ≡ es → (id : ℕ) → unwrap_or (get counts id) 0 + tally (is_to id) items ≡ tally (is_to id) es
none_counted counts items es none same id =
    ap (λ (m : FinMap nat_cmp ℕ). unwrap_or (get m id) 0 + tally (is_to id) items) none
    ∙ ap (λ o. unwrap_or o 0 + tally (is_to id) items) (get-empty nat_cmp id) ∙ zero_plus (tally (is_to id) items) ∙ ap (tally (is_to id)) same

moved : (a b : ℕ) → a + 1 + b ≡ a + (1 + b)
moved a b = omega arith

skipped : (a b : ℕ) → a + b ≡ a + (0 + b)
skipped a b = omega arith

-- an entry goes from those that are left to the counts
one_counted : {K : Type 0} (counts : FinMap nat_cmp ℕ) (k : K) (e : DentRow) (rest : List (K × DentRow)) (id : ℕ) → unwrap_or (get (insert counts e.inode (unwrap_or (get counts e.inode) 0 + 1)) id) 0 + tally (is_to id) rest ≡ unwrap_or (get counts id) 0 + tally (is_to id) ((k, e) ∷ rest)
one_counted counts k e rest id = elim (decide ids id e.inode) [
  | inl same ↦
      ap (λ (i : ℕ). unwrap_or (get (insert counts e.inode (unwrap_or (get counts e.inode) 0 + 1)) i) 0 + tally (is_to id) rest) same.0
      ∙ ap (λ o. unwrap_or o 0 + tally (is_to id) rest) (get-set_same ids counts e.inode (Some (unwrap_or (get counts e.inode) 0 + 1)))
      ∙ moved (unwrap_or (get counts e.inode) 0) (tally (is_to id) rest)
      ∙ ap (λ (i : ℕ). unwrap_or (get counts i) 0 + (1 + tally (is_to id) rest)) (sym same.0)
      ∙ ap (λ b. unwrap_or (get counts id) 0 + (cond b 1 0 + tally (is_to id) rest)) (sym (eq-eqb e.inode id (sym same.0)))
  | inr apart ↦
      ap (λ o. unwrap_or o 0 + tally (is_to id) rest) (get-set_other ids counts e.inode (Some (unwrap_or (get counts e.inode) 0 + 1)) id apart.0)
      ∙ skipped (unwrap_or (get counts id) 0) (tally (is_to id) rest)
      ∙ ap (λ b. unwrap_or (get counts id) 0 + (cond b 1 0 + tally (is_to id) rest)) (sym (ne_eqb e.inode id (λ q. apart.0 (sym q))))
]

pub counted_on : {K : Type 0} (counts after : FinMap nat_cmp ℕ) (k : K) (e : DentRow) (items rest : List (K × DentRow)) (at count : ℕ) (total : ℕ → ℕ)
    → at ≡ e.inode → count ≡ unwrap_or (get counts at) 0 → after ≡ insert counts at (count + 1) → items ≡ (k, e) ∷ rest
    → ((id : ℕ) → unwrap_or (get counts id) 0 + tally (is_to id) items ≡ total id)
    → (id : ℕ) → unwrap_or (get after id) 0 + tally (is_to id) rest ≡ total id
counted_on counts after k e items rest at count total at_is count_is after_is items_are all id =
    let one : count ≡ unwrap_or (get counts e.inode) 0 = count_is ∙ ap (λ (i : ℕ). unwrap_or (get counts i) 0) at_is in
    ap (λ (m : FinMap nat_cmp ℕ). unwrap_or (get m id) 0 + tally (is_to id) rest) (after_is ∙ (λ i. insert counts (at_is i) (one i + 1)))
    ∙ one_counted counts k e rest id ∙ ap (λ es. unwrap_or (get counts id) 0 + tally (is_to id) es) (sym items_are) ∙ all id
