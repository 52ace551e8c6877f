-- The versions of a key, and what the rows and the entries say of it.
use Rattle.std.proofs.Common.{◌≡◌, ℕ, ◌≤◌, ◌+◌, List, [], ◌∷◌, ◌++◌, Option, Some, None, true, length, take, drop, sym, ◌∙◌, ap, refl, arith, suc, zero}
use Rattle.std.specs.Prelude.{leb, unwrap_or}
use Rattle.std.proofs.lemmas.List.{append-nil, append_assoc}
use Rattle.conflict_sets.specs.Rows.{IsAscending, value_at_key, with_writes}
use Rattle.conflict_sets.specs.declared.sets.WriteSet.{WriteSet}
use Rattle.conflict_sets.proofs.RowLemmas.{IsAscending-with_writes}
use Rattle.fs_base.specs.declared.row.Row.{Row}
use Rattle.kv_store.specs.declared.chain.Version.{Version}
use Rattle.kv_store.specs.Journal.{written_value, is_written, after_all, rows_at, writer_from, last_writer}
use Rattle.kv_store.specs.Chains.{AreBelow, AreVersionsAbove, up_to, last_of, value_of, number_of}
use Rattle.kv_store.specs.Versions.{opening_version, written_version, chain_from, chain_of}
use Rattle.kv_store.proofs.JournalLemmas.{value-with_writes}
use Rattle.kv_store.proofs.ChainLemmas.{AreBelow_higher, AreBelow-append, AreAbove_lower, AreAbove-append, up_to-append, none_up_to}

chain_from_above : {E : Type 0} (writes_of : E → WriteSet) (key : List ℕ) (v : ℕ) (es : List E) → AreVersionsAbove v (chain_from writes_of key v es)
chain_from_above writes_of key v [] = tt
chain_from_above {E} writes_of key v (e ∷ es) =
    AreAbove-append v (written_version (written_value (writes_of e).writes key) (v + 1)) (chain_from writes_of key (v + 1) es)
    (one (written_value (writes_of e).writes key)) (AreAbove_lower (v + 1) v (chain_from writes_of key (v + 1) es) (omega arith) (chain_from_above writes_of key (v + 1) es))
  where
    one : (o : Option (Option (List ℕ))) → AreVersionsAbove v (written_version o (v + 1))
    one None = tt
    one (Some x) = (omega arith, tt)

chain_from_below : {E : Type 0} (writes_of : E → WriteSet) (key : List ℕ) (v : ℕ) (es : List E) → AreBelow (v + length es + 1) (chain_from writes_of key v es)
chain_from_below writes_of key v [] = tt
chain_from_below {E} writes_of key v (e ∷ es) =
    AreBelow-append (v + length (e ∷ es) + 1) (written_version (written_value (writes_of e).writes key) (v + 1)) (chain_from writes_of key (v + 1) es)
    (one (written_value (writes_of e).writes key)) (AreBelow_higher (v + 1 + length es + 1) (v + length (e ∷ es) + 1) (chain_from writes_of key (v + 1) es) (omega arith) (chain_from_below writes_of key (v + 1) es))
  where
    one : (o : Option (Option (List ℕ))) → AreBelow (v + length (e ∷ es) + 1) (written_version o (v + 1))
    one None = tt
    one (Some x) = (omega arith, tt)

-- every version of a key is at most the front
pub chain_of_below : {E : Type 0} (writes_of : E → WriteSet) (opening : List Row) (journal : List E) (key : List ℕ) → AreBelow (length journal + 1) (chain_of writes_of opening journal key)
chain_of_below writes_of opening journal key =
    AreBelow-append (length journal + 1) (opening_version (value_at_key opening key)) (chain_from writes_of key 0 journal) (one (value_at_key opening key))
    (AreBelow_higher (0 + length journal + 1) (length journal + 1) (chain_from writes_of key 0 journal) (omega arith) (chain_from_below writes_of key 0 journal))
  where
    one : (o : Option (List ℕ)) → AreBelow (length journal + 1) (opening_version o)
    one None = tt
    one (Some x) = (omega arith, tt)

-- up to a version stand those of the entries that it has
from_up_to : {E : Type 0} (writes_of : E → WriteSet) (key : List ℕ) (v n m : ℕ) (es : List E) → m ≡ v + n → up_to m (chain_from writes_of key v es) ≡ chain_from writes_of key v (take n es)
from_up_to writes_of key v n m [] s = ap (chain_from writes_of key v) (none n)
  where
    none : {E : Type 0} (n : ℕ) → [] ≡ take {A = E} n []
    none zero = refl
    none (suc n) = refl
from_up_to writes_of key v zero m (e ∷ es) s =
    none_up_to m (chain_from writes_of key v (e ∷ es)) (AreAbove_lower v m (chain_from writes_of key v (e ∷ es)) (omega arith) (chain_from_above writes_of key v (e ∷ es)))
from_up_to {E} writes_of key v (suc n) m (e ∷ es) s =
    up_to-append m (written_version (written_value (writes_of e).writes key) (v + 1)) (chain_from writes_of key (v + 1) es)
    ∙ (ap (λ first. first ++ up_to m (chain_from writes_of key (v + 1) es)) (one (written_value (writes_of e).writes key))
    ∙ ap (λ rest. written_version (written_value (writes_of e).writes key) (v + 1) ++ rest) (from_up_to writes_of key (v + 1) n m es (omega arith)))
  where
    one : (o : Option (Option (List ℕ))) → up_to m (written_version o (v + 1)) ≡ written_version o (v + 1)
    one None = refl
    one (Some x) = let t : leb (v + 1) m ≡ true = grind arith in rw t refl

of_up_to : {E : Type 0} (writes_of : E → WriteSet) (opening : List Row) (journal : List E) (n : ℕ) (key : List ℕ) → up_to n (chain_of writes_of opening journal key) ≡ chain_of writes_of opening (take n journal) key
of_up_to writes_of opening journal n key =
    up_to-append n (opening_version (value_at_key opening key)) (chain_from writes_of key 0 journal)
    ∙ (ap (λ first. first ++ up_to n (chain_from writes_of key 0 journal)) (one (value_at_key opening key))
    ∙ ap (λ rest. opening_version (value_at_key opening key) ++ rest) (from_up_to writes_of key 0 n n journal (omega arith)))
  where
    one : (o : Option (List ℕ)) → up_to n (opening_version o) ≡ opening_version o
    one None = refl
    one (Some x) = let t : leb 0 n ≡ true = grind arith in rw t refl

-- the last of these versions, or the one before them
last_from : Option Version → List Version → Option Version
last_from before [] = before
last_from before (v ∷ chain) = last_from (Some v) chain

last_from-append : (before : Option Version) (xs ys : List Version) → last_from before (xs ++ ys) ≡ last_from (last_from before xs) ys
unfolding last_from
last_from-append before [] ys = refl
last_from-append before (v ∷ xs) ys = last_from-append (Some v) xs ys

last_of_from : (chain : List Version) → last_of chain ≡ last_from None chain
unfolding last_from
last_of_from [] = refl
last_of_from (v ∷ chain) = some v chain
  where
    some : (v : Version) (chain : List Version) → last_of (v ∷ chain) ≡ last_from (Some v) chain
    some v [] = refl
    some v (w ∷ chain) = some w chain

value_from : {E : Type 0} (writes_of : E → WriteSet) (rows : List Row) (key : List ℕ) (v : ℕ) (es : List E) (before : Option Version) → IsAscending rows → value_of before ≡ value_at_key rows key → value_of (last_from before (chain_from writes_of key v es)) ≡ value_at_key (after_all writes_of rows es) key
unfolding last_from
value_from writes_of rows key v [] before a h = h
value_from {E} writes_of rows key v (e ∷ es) before a h =
    let o : Option (Option (List ℕ)) = written_value (writes_of e).writes key in
    ap value_of (last_from-append before (written_version o (v + 1)) (chain_from writes_of key (v + 1) es))
    ∙ value_from writes_of (with_writes rows (writes_of e).writes) key (v + 1) es (last_from before (written_version o (v + 1))) (IsAscending-with_writes rows (writes_of e).writes a)
    (one o ∙ (ap (unwrap_or o) h ∙ sym (value-with_writes rows (writes_of e).writes key a)))
  where
    one : (o : Option (Option (List ℕ))) → value_of (last_from before (written_version o (v + 1))) ≡ unwrap_or o (value_of before)
    one None = refl
    one (Some x) = refl

number_from : {E : Type 0} (writes_of : E → WriteSet) (key : List ℕ) (v : ℕ) (es : List E) (before : Option Version) (writer : ℕ) → number_of before ≡ writer → number_of (last_from before (chain_from writes_of key v es)) ≡ writer_from writes_of key v writer es
unfolding last_from
number_from writes_of key v [] before writer h = h
number_from {E} writes_of key v (e ∷ es) before writer h =
    let o : Option (Option (List ℕ)) = written_value (writes_of e).writes key in
    ap number_of (last_from-append before (written_version o (v + 1)) (chain_from writes_of key (v + 1) es))
    ∙ number_from writes_of key (v + 1) es (last_from before (written_version o (v + 1))) (is_written o (v + 1) writer) (one o)
  where
    one : (o : Option (Option (List ℕ))) → number_of (last_from before (written_version o (v + 1))) ≡ is_written o (v + 1) writer
    one None = h
    one (Some x) = refl

-- the last version of a key up to a version has its value then
pub seen_value : {E : Type 0} (writes_of : E → WriteSet) (opening : List Row) (journal : List E) (n : ℕ) (key : List ℕ) → IsAscending opening → value_of (last_of (up_to n (chain_of writes_of opening journal key))) ≡ value_at_key (rows_at writes_of opening journal n) key
unfolding last_from
seen_value writes_of opening journal n key a =
    ap (λ chain. value_of (last_of chain)) (of_up_to writes_of opening journal n key)
    ∙ (ap value_of (last_of_from (chain_of writes_of opening (take n journal) key) ∙ last_from-append None (opening_version (value_at_key opening key)) (chain_from writes_of key 0 (take n journal)))
    ∙ value_from writes_of opening key 0 (take n journal) (last_from None (opening_version (value_at_key opening key))) a (one (value_at_key opening key)))
  where
    one : (o : Option (List ℕ)) → value_of (last_from None (opening_version o)) ≡ o
    one None = refl
    one (Some x) = refl

-- and the number of its last writer
pub seen_number : {E : Type 0} (writes_of : E → WriteSet) (opening : List Row) (journal : List E) (n : ℕ) (key : List ℕ) → number_of (last_of (up_to n (chain_of writes_of opening journal key))) ≡ last_writer writes_of journal n key
unfolding last_from
seen_number writes_of opening journal n key =
    ap (λ chain. number_of (last_of chain)) (of_up_to writes_of opening journal n key)
    ∙ (ap number_of (last_of_from (chain_of writes_of opening (take n journal) key) ∙ last_from-append None (opening_version (value_at_key opening key)) (chain_from writes_of key 0 (take n journal)))
    ∙ number_from writes_of key 0 (take n journal) (last_from None (opening_version (value_at_key opening key))) 0 (one (value_at_key opening key)))
  where
    one : (o : Option (List ℕ)) → number_of (last_from None (opening_version o)) ≡ 0
    one None = refl
    one (Some x) = refl

-- one entry more
from_push : {E : Type 0} (writes_of : E → WriteSet) (key : List ℕ) (v m : ℕ) (es : List E) (e : E) → m ≡ v + length es → chain_from writes_of key v (es ++ e ∷ []) ≡ chain_from writes_of key v es ++ written_version (written_value (writes_of e).writes key) (m + 1)
from_push writes_of key v m [] e s =
    append-nil (written_version (written_value (writes_of e).writes key) (v + 1)) ∙ ap (λ k. written_version (written_value (writes_of e).writes key) (k + 1)) (sym (s ∙ omega arith))
from_push writes_of key v m (x ∷ es) e s =
    ap (λ rest. written_version (written_value (writes_of x).writes key) (v + 1) ++ rest) (from_push writes_of key (v + 1) m es e (omega arith))
    ∙ sym (append_assoc (written_version (written_value (writes_of x).writes key) (v + 1)) (chain_from writes_of key (v + 1) es) (written_version (written_value (writes_of e).writes key) (m + 1)))

pub chain_of_push : {E : Type 0} (writes_of : E → WriteSet) (opening : List Row) (journal : List E) (key : List ℕ) (e : E) → chain_of writes_of opening (journal ++ e ∷ []) key ≡ chain_of writes_of opening journal key ++ written_version (written_value (writes_of e).writes key) (length journal + 1)
chain_of_push writes_of opening journal key e =
    ap (λ rest. opening_version (value_at_key opening key) ++ rest) (from_push writes_of key 0 (length journal) journal e (omega arith))
    ∙ sym (append_assoc (opening_version (value_at_key opening key)) (chain_from writes_of key 0 journal) (written_version (written_value (writes_of e).writes key) (length journal + 1)))

-- the versions of the entries from a place on
pub from_split : {E : Type 0} (writes_of : E → WriteSet) (key : List ℕ) (v s m : ℕ) (es : List E) → m ≡ v + s → s ≤ length es → chain_from writes_of key v es ≡ chain_from writes_of key v (take s es) ++ chain_from writes_of key m (drop s es)
from_split writes_of key v zero m es e l = ap (λ k. chain_from writes_of key k es) (sym (e ∙ omega arith))
from_split writes_of key v (suc s) m [] e l = absurd (omega arith)
from_split writes_of key v (suc s) m (x ∷ es) e l =
    ap (λ rest. written_version (written_value (writes_of x).writes key) (v + 1) ++ rest) (from_split writes_of key (v + 1) s m es (omega arith) (omega arith))
    ∙ sym (append_assoc (written_version (written_value (writes_of x).writes key) (v + 1)) (chain_from writes_of key (v + 1) (take s es)) (chain_from writes_of key m (drop s es)))
