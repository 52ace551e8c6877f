-- Finite maps: a value set or taken away, values changed one by one, entries counted and tested; the keys'
-- orders.
use Rattle.std.specs.Prelude.{ℕ, ◌+◌, Bool, true, false, cond, List, [], ◌∷◌, map, Some, None, Option}
use Rattle.std.specs.List.{list_all}
use Rattle.std.specs.declared.cmp.Ordering.{Ordering}
use Rattle.std.specs.Ordering.{nat_cmp, ordering_then}
use Rattle.std.specs.Cmp.Lexicographic.{slice_cmp}
use Rattle.std.specs.FinMap.{FinMap, insert, remove, entries, from_sorted}

-- the map with this at the key: a value, or nothing
abbrev pub set : {K X : Type 0} {R : K → K → Ordering} → FinMap R X → K → Option X → FinMap R X
set m k None = remove m k
set m k (Some v) = insert m k v

-- each value changed by f, at the same keys
unfoldable pub map_values : {K X Y : Type 0} {R : K → K → Ordering} → (X → Y) → FinMap R X → FinMap R Y
map_values {R = R} f m = from_sorted {R = R} (map (λ e. (e.0, f e.1)) (entries m))

-- how many values pass the test
abbrev pub tally : {K X : Type 0} → (X → Bool) → List (K × X) → ℕ
tally p [] = 0
tally p (e ∷ es) = cond (p e.1) 1 0 + tally p es

abbrev pub count_where : {K X : Type 0} {R : K → K → Ordering} → (X → Bool) → FinMap R X → ℕ
count_where p m = tally p (entries m)

-- whether each key with its value passes the test
abbrev pub all_pass : {K X : Type 0} {R : K → K → Ordering} → (K → X → Bool) → FinMap R X → Bool
all_pass p m = list_all (λ e. p e.0 e.1) (entries m)

-- an entry's directory and name, by number and then by bytes
abbrev pub dent_cmp : ℕ × List ℕ → ℕ × List ℕ → Ordering
dent_cmp a b = ordering_then (nat_cmp a.0 b.0) (slice_cmp nat_cmp a.1 b.1)

-- a session's inode, client and number, in this order: that of pairs in a pair
abbrev pub session_cmp : ℕ × (ℕ × ℕ) → ℕ × (ℕ × ℕ) → Ordering
session_cmp a b = ordering_then (nat_cmp a.0 b.0) (ordering_then (nat_cmp a.1.0 b.1.0) (nat_cmp a.1.1 b.1.1))

abbrev pub is_end : {X : Type 0} → List X → Bool
is_end [] = true
is_end (x ∷ xs) = false
