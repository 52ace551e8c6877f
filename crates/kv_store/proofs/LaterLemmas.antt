-- The first later write, in plain words.
use Rattle.std.proofs.Common.{◌≡◌, ℕ, ◌<◌, ◌≤◌, ◌+◌, List, [], ◌∷◌, Option, Some, None, drop, refl, arith, suc, zero, subst}
use Rattle.std.specs.Prelude.{slice_get}
use Rattle.conflict_sets.specs.Reads.{first_held}
use Rattle.conflict_sets.specs.Held.{HoldNone, IsLeastHeld}
use Rattle.conflict_sets.specs.declared.sets.ReadSet.{ReadSet}
use Rattle.conflict_sets.specs.declared.sets.WriteSet.{WriteSet}
use Rattle.conflict_sets.proofs.HeldLemmas.{none_holds, first_is_least}
use Rattle.kv_store.specs.Journal.{this_or, later_from, first_later}
use Rattle.kv_store.specs.Later.{IsFirstConflict}

-- the same where the versions of these entries begin above base
record FirstAt {E : Type 0} (writes_of : E → WriteSet) (reads : ReadSet) (base from : ℕ) (es : List E) (version : ℕ) (key : List ℕ) : Type 0 where
  place : ℕ
  entry : E
  numbered : version ≡ base + place + 1
  later : from ≤ place
  there : slice_get es place ≡ Some entry
  least : IsLeastHeld reads (writes_of entry).writes key
  before : (p : ℕ) (other : E) → from ≤ p → p < place → slice_get es p ≡ Some other → HoldNone reads (writes_of other).writes

abbrev IsFirstFrom : {E : Type 0} → (E → WriteSet) → ReadSet → ℕ → ℕ → List E → Option (ℕ × List ℕ) → Type 0
IsFirstFrom {E} writes_of reads base from es None = (p : ℕ) (other : E) → from ≤ p → slice_get es p ≡ Some other → HoldNone reads (writes_of other).writes
IsFirstFrom writes_of reads base from es (Some found) = FirstAt writes_of reads base from es found.0 found.1

-- one entry before that isn't looked at
passed : {E : Type 0} (writes_of : E → WriteSet) (reads : ReadSet) (base from : ℕ) (e : E) (es : List E) (answer : Option (ℕ × List ℕ)) → IsFirstFrom writes_of reads (base + 1) from es answer → IsFirstFrom writes_of reads base (suc from) (e ∷ es) answer
passed {E} writes_of reads base from e es None h = none
  where
    none : (p : ℕ) (other : E) → suc from ≤ p → slice_get (e ∷ es) p ≡ Some other → HoldNone reads (writes_of other).writes
    none zero other l at = absurd (omega arith)
    none (suc p) other l at = h p other (omega arith) at
passed {E} writes_of reads base from e es (Some found) h = record {
  place = suc h.place;
  entry = h.entry;
  numbered = (let n : found.0 ≡ base + 1 + h.place + 1 = h.numbered in omega arith);
  later = (let l : from ≤ h.place = h.later in omega arith);
  there = h.there;
  least = h.least;
  before = before;
}
  where
    before : (p : ℕ) (other : E) → suc from ≤ p → p < suc h.place → slice_get (e ∷ es) p ≡ Some other → HoldNone reads (writes_of other).writes
    before zero other l t at = absurd (omega arith)
    before (suc p) other l t at = h.before p other (omega arith) (omega arith) at

-- one entry before that wrote nothing held
unheld : {E : Type 0} (writes_of : E → WriteSet) (reads : ReadSet) (base : ℕ) (e : E) (es : List E) (answer : Option (ℕ × List ℕ)) → HoldNone reads (writes_of e).writes → IsFirstFrom writes_of reads (base + 1) 0 es answer → IsFirstFrom writes_of reads base 0 (e ∷ es) answer
unheld {E} writes_of reads base e es None n h = none
  where
    none : (p : ℕ) (other : E) → 0 ≤ p → slice_get (e ∷ es) p ≡ Some other → HoldNone reads (writes_of other).writes
    none zero other l at = let same : e ≡ other = cc in subst (λ x. HoldNone reads (writes_of x).writes) same n
    none (suc p) other l at = h p other (omega arith) at
unheld {E} writes_of reads base e es (Some found) n h = record {
  place = suc h.place;
  entry = h.entry;
  numbered = (let k : found.0 ≡ base + 1 + h.place + 1 = h.numbered in omega arith);
  later = omega arith;
  there = h.there;
  least = h.least;
  before = before;
}
  where
    before : (p : ℕ) (other : E) → 0 ≤ p → p < suc h.place → slice_get (e ∷ es) p ≡ Some other → HoldNone reads (writes_of other).writes
    before zero other l t at = let same : e ≡ other = cc in subst (λ x. HoldNone reads (writes_of x).writes) same n
    before (suc p) other l t at = h.before p other (omega arith) (omega arith) at

-- the first entry that is looked at, given what is found after it
looked_at : {E : Type 0} (writes_of : E → WriteSet) (reads : ReadSet) (base : ℕ) (e : E) (es : List E) (answer : Option (ℕ × List ℕ)) (o : Option (List ℕ)) → first_held reads (writes_of e).writes ≡ o → IsFirstFrom writes_of reads (base + 1) 0 es answer → IsFirstFrom writes_of reads base 0 (e ∷ es) (this_or o (base + 1) answer)
looked_at writes_of reads base e es answer None n rest = unheld writes_of reads base e es answer (none_holds reads (writes_of e).writes n) rest
looked_at writes_of reads base e es answer (Some key) h rest = record {
  place = 0;
  entry = e;
  numbered = omega arith;
  later = omega arith;
  there = refl;
  least = first_is_least reads (writes_of e).writes key (writes_of e).ascending h;
  before = λ p other l t at. absurd (omega arith);
}

later_first : {E : Type 0} (writes_of : E → WriteSet) (reads : ReadSet) (base from start : ℕ) (es : List E) → start ≡ base + from → IsFirstFrom writes_of reads base from es (later_from writes_of reads start (drop from es))
later_first writes_of reads base zero start [] s = λ p other l at. absurd (let f : None ≡ Some other = at in cc)
later_first writes_of reads base (suc from) start [] s = λ p other l at. absurd (let f : None ≡ Some other = at in cc)
later_first writes_of reads base (suc from) start (e ∷ es) s =
    passed writes_of reads base from e es (later_from writes_of reads start (drop from es)) (later_first writes_of reads (base + 1) from start es (omega arith))
later_first {E} writes_of reads base zero start (e ∷ es) s =
    subst (λ v. IsFirstFrom writes_of reads base 0 (e ∷ es) (this_or (first_held reads (writes_of e).writes) (v + 1) (later_from writes_of reads (v + 1) es))) (start_is base start s)
    (looked_at writes_of reads base e es (later_from writes_of reads (base + 1) es) (first_held reads (writes_of e).writes) refl
    (later_first writes_of reads (base + 1) 0 (base + 1) es (omega arith)))
  where
    start_is : (base start : ℕ) → start ≡ base + 0 → base ≡ start
    start_is base start s = omega arith

unbased : {E : Type 0} (writes_of : E → WriteSet) (reads : ReadSet) (snapshot : ℕ) (es : List E) (answer : Option (ℕ × List ℕ)) → IsFirstFrom writes_of reads 0 snapshot es answer → IsFirstConflict writes_of es snapshot reads answer
unbased writes_of reads snapshot es None h = h
unbased writes_of reads snapshot es (Some found) h = record {
  place = h.place;
  entry = h.entry;
  numbered = (let n : found.0 ≡ 0 + h.place + 1 = h.numbered in omega arith);
  later = h.later;
  there = h.there;
  least = h.least;
  before = h.before;
}

-- The first later write is the one that its name says.
pub first_later_first : {E : Type 0} (writes_of : E → WriteSet) (es : List E) (snapshot : ℕ) (reads : ReadSet) → IsFirstConflict writes_of es snapshot reads (first_later writes_of es snapshot reads)
first_later_first writes_of es snapshot reads =
    unbased writes_of reads snapshot es (first_later writes_of es snapshot reads) (later_first writes_of reads 0 snapshot snapshot es (omega arith))
