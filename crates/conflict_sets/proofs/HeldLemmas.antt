-- The first written key that is held, and the least.
use Rattle.std.proofs.Common.{◌≡◌, ℕ, ◌<◌, ◌≤◌, ◌-◌, List, [], ◌∷◌, Option, Some, None, Bool, true, false, cond, length, get_or, sym, ◌∙◌, ap, refl, arith, suc, zero, subst}
use Rattle.std.specs.Prelude.{slice_get, position, IfSome, IfNone, not}
use Rattle.std.specs.List.{position_or_len}
use Rattle.std.proofs.lemmas.List.Sums.{prefix_len_passes}
use Rattle.std.proofs.lemmas.Grind.{common_steps}
use Rattle.std.specs.Option.{option_map}
use Rattle.std.specs.Ordering.{is_le, is_eq}
use Rattle.std.specs.declared.cmp.Ordering.TheVariants.{Less}
use Rattle.std.proofs.lemmas.List.Quantifiers.{position-Some}
use Rattle.std.proofs.lemmas.Option.{slice_get-get_or}
use Rattle.conflict_sets.specs.Keys.{key_cmp}
use Rattle.conflict_sets.specs.Writes.{WritesAbove, AreAscending}
use Rattle.conflict_sets.specs.Reads.{is_up_to_last, reads_hold, first_held}
use Rattle.conflict_sets.specs.Held.{is_written_key, HoldNone, IsLeastHeld, HeldAt, LeastAt}
use Rattle.fs_base.specs.declared.row.Row.{Row}
use Rattle.conflict_sets.specs.declared.sets.Write.{Write}
use Rattle.conflict_sets.specs.declared.sets.ReadSet.{ReadSet}
use Rattle.conflict_sets.proofs.KeyOrder.{key_exact, key_self}
use Rattle.conflict_sets.proofs.RowLemmas.{by_place}

pub up_to_last_at : (rows : List Row) (last : Row) (key : List ℕ) → Some last ≡ slice_get rows (length rows - 1) → is_up_to_last rows key ≡ is_le (key_cmp key last.key)
up_to_last_at [] last key e = absurd (cc)
up_to_last_at (row ∷ []) last key e = let same : row ≡ last = cc in ap (λ (r : Row). is_le (key_cmp key r.key)) same
up_to_last_at (row ∷ next ∷ rows) last key e =
    up_to_last_at (next ∷ rows) last key (e ∙ rw step refl)
  where
    step : length (row ∷ next ∷ rows) - 1 ≡ suc (length (next ∷ rows) - 1)
    step = omega arith

-- no write is held, by places
none_at : (reads : ReadSet) (writes : List Write) (d : Write) → ((k : ℕ) → k < length writes → reads_hold reads (get_or writes k d).key ≡ false) → first_held reads writes ≡ None
none_at reads [] d h = refl
none_at reads (w ∷ writes) d h = rw (h 0 (omega arith)) (none_at reads writes d (λ k l. h (suc k) (omega arith)))

-- the first write that is held, by places
some_at : (reads : ReadSet) (writes : List Write) (i : ℕ) (d : Write) → i < length writes → reads_hold reads (get_or writes i d).key ≡ true → ((k : ℕ) → k < i → reads_hold reads (get_or writes k d).key ≡ false) → first_held reads writes ≡ Some (get_or writes i d).key
some_at reads [] i d l h n = absurd (omega arith)
some_at reads (w ∷ writes) zero d l h n = rw h refl
some_at reads (w ∷ writes) (suc i) d l h n = rw (n 0 (omega arith)) (some_at reads writes i d (omega arith) h (λ k l. n (suc k) (omega arith)))

an_empty_write : Write
an_empty_write = record { key = []; value = None }

abbrev is_held : ReadSet → Write → Bool
is_held reads w = reads_hold reads w.key

pub none_placed : (reads : ReadSet) (writes : List Write) → position (is_held reads) writes ≡ None → first_held reads writes ≡ None
none_placed reads writes e = none_at reads writes an_empty_write (λ k l. not_true (is_held reads (get_or writes k an_empty_write)) (prefix_len_passes (λ w. not (is_held reads w)) writes k an_empty_write (let all : length writes ≤ position_or_len (is_held reads) writes = grind (arith, common_steps) in omega arith)))
  where
    not_true : (b : Bool) → not b ≡ true → b ≡ false
    not_true true h = absurd (let f : false ≡ true = h in cc)
    not_true false h = refl

pub placed_held : (reads : ReadSet) (writes : List Write) (i : ℕ) → position (is_held reads) writes ≡ Some i → HeldAt reads writes i
placed_held reads writes i e =
    let at = position-Some (is_held reads) writes i an_empty_write e in
    record {
      within = at.0;
      first = some_at reads writes i an_empty_write at.0 at.1 at.2 ∙ sym (ap (option_map (λ (x : Write). x.key)) (slice_get-get_or writes i an_empty_write at.0));
    }

-- a key that isn't the first write's is among the others
written_later : (w : Write) (writes : List Write) (key : List ℕ) → is_eq (key_cmp key w.key) ≡ false → is_written_key (w ∷ writes) key ≡ true → is_written_key writes key ≡ true
written_later w writes key n h = (rw n at h)

-- a case for a key that is the first write's, and one for a key that isn't
same_or_not : (P : Type 0) (a b : List ℕ) → (a ≡ b → P) → (is_eq (key_cmp a b) ≡ false → P) → P
same_or_not P a b same other = by_place P a b (λ e. other (rw e refl)) (λ e. same (key_exact a b e)) (λ e. other (rw e refl))

pub none_holds : (reads : ReadSet) (writes : List Write) → first_held reads writes ≡ None → HoldNone reads writes
none_holds reads [] n key h = absurd (let f : false ≡ true = h in cc)
none_holds reads (w ∷ writes) n key h =
    let parts : (reads_hold reads w.key ≡ false) × (first_held reads writes ≡ None) = split (reads_hold reads w.key) w.key (first_held reads writes) n in
    same_or_not (reads_hold reads key ≡ false) key w.key
    (λ e. ap (reads_hold reads) e ∙ parts.0)
    (λ o. none_holds reads writes parts.1 key (written_later w writes key o h))
  where
    split : (b : Bool) (k : List ℕ) (o : Option (List ℕ)) → cond b (Some k) o ≡ None → (b ≡ false) × (o ≡ None)
    split true k o h = absurd (let e : Some k ≡ None = h in cc)
    split false k o h = (refl, h)

above_written : (a : List ℕ) (writes : List Write) (key : List ℕ) → WritesAbove a writes → is_written_key writes key ≡ true → key_cmp a key ≡ Less
above_written a [] key above h = absurd (let f : false ≡ true = h in cc)
above_written a (w ∷ writes) key above h =
    same_or_not (key_cmp a key ≡ Less) key w.key
    (λ e. ap (key_cmp a) e ∙ above.0)
    (λ o. above_written a writes key above.1 (written_later w writes key o h))

written_first : (w : Write) (writes : List Write) → is_written_key (w ∷ writes) w.key ≡ true
written_first w writes = rw (key_self w.key) refl

written_more : (w : Write) (writes : List Write) (key : List ℕ) → is_written_key writes key ≡ true → is_written_key (w ∷ writes) key ≡ true
written_more w writes key h = same_or_not (is_written_key (w ∷ writes) key ≡ true) key w.key (λ e. subst (λ k. is_written_key (w ∷ writes) k ≡ true) (sym e) (written_first w writes)) (λ o. rw o h)

-- Where writes ascend, the first key that is held is the least.
pub first_is_least : (reads : ReadSet) (writes : List Write) (key : List ℕ) → AreAscending writes → first_held reads writes ≡ Some key → IsLeastHeld reads writes key
first_is_least reads [] key a h = absurd (let f : None ≡ Some key = h in cc)
first_is_least reads (w ∷ writes) key a h =
    (elim (reads_hold reads w.key) as (λ b. reads_hold reads w.key ≡ b → cond b (Some w.key) (first_held reads writes) ≡ Some key → IsLeastHeld reads (w ∷ writes) key) [
      | true ↦ λ holds h'. here (let e : w.key ≡ key = cc in e) holds
      | false ↦ λ lets_go h'. further lets_go (first_is_least reads writes key a.1 h')
    ]) refl h
  where
    here : w.key ≡ key → reads_hold reads w.key ≡ true → IsLeastHeld reads (w ∷ writes) key
    here e holds = subst (λ k. IsLeastHeld reads (w ∷ writes) k) e (record {
      written = written_first w writes;
      held = holds;
      least = λ other o t. same_or_not (is_le (key_cmp w.key other) ≡ true) other w.key
          (λ e'. rw e' (rw (key_self w.key) refl))
          (λ n. rw (above_written w.key writes other a.0 (written_later w writes other n o)) refl);
    })

    further : reads_hold reads w.key ≡ false → IsLeastHeld reads writes key → IsLeastHeld reads (w ∷ writes) key
    further lets_go is = record {
      written = written_more w writes key is.written;
      held = is.held;
      least = λ other o t. same_or_not (is_le (key_cmp key other) ≡ true) other w.key
          (λ e'. absurd (let f : true ≡ false = sym t ∙ (ap (reads_hold reads) e' ∙ lets_go) in cc))
          (λ n. is.least other (written_later w writes other n o) t);
    }

-- what the place says, by whether there is one
pub tells_none : (reads : ReadSet) (writes : List Write) (place : Option ℕ) → place ≡ position (is_held reads) writes → IfNone place (first_held reads writes ≡ None)
tells_none reads writes None e = none_placed reads writes (sym e)
tells_none reads writes (Some i) e = tt

pub tells_some : (reads : ReadSet) (writes : List Write) (place : Option ℕ) → place ≡ position (is_held reads) writes → IfSome place (λ i. HeldAt reads writes i)
tells_some reads writes None e = tt
tells_some reads writes (Some i) e = placed_held reads writes i (sym e)

pub tells_least : (reads : ReadSet) (writes : List Write) (place : Option ℕ) → place ≡ position (is_held reads) writes → AreAscending writes → IfSome place (λ i. LeastAt reads writes i)
tells_least reads writes None e a = tt
tells_least reads writes (Some i) e a =
    λ write at. first_is_least reads writes write.key a ((placed_held reads writes i (sym e)).first ∙ ap (option_map (λ (x : Write). x.key)) at)

pub placed_by : (reads : ReadSet) {slice writes : List Write} {place : Option ℕ} → slice ≡ writes → place ≡ position (is_held reads) slice → place ≡ position (is_held reads) writes
placed_by reads same e = e ∙ ap (position (is_held reads)) same
