-- A form reads back what it spells, and reads nothing else.
use Rattle.std.proofs.Common.{◌≡◌, ◌==◌, ◌&&◌, nat_le, length, take, drop, ℕ, zero, suc, ◌≤◌, Bool, true, false, List, [], ◌∷◌, ◌++◌, Option, Some, None, Result, Ok, Err, refl, sym, ap, subst, ◌∙◌, inl, inr, take-append-drop, arith, append_assoc, length-append}
use Rattle.std.proofs.lemmas.Bool.{le-leb, leb-true, and_from, and_parts, eqb-true, eq-eqb, cases_Bool}
use Rattle.std.proofs.lemmas.List.{length-take-le}
use Rattle.std.proofs.Math.Seq.{take-append_seam, drop-append_seam}
use Rattle.fs_base.specs.Gives.{◌>>=◌}
use Rattle.byte_fields.specs.Forms.{Form, front, nothing, followed, paired, seen, shaped, passed, tested, or_left, one_field, sized, reads_items, spelled_items, items_fit, listed, Arm, arm, reads_arm, Tagged, tagged, choice, are_bytes}

pub record IsForm {X : Type 0} (form : Form X) : Type 0 where
  pub back : (x : X) (rest : List ℕ) → form.fits x ≡ true → form.reads (form.spelled x ++ rest) ≡ Ok (x, rest)
  pub exact : (bytes rest : List ℕ) (x : X) → form.reads bytes ≡ Ok (x, rest) → (form.fits x ≡ true) × (bytes ≡ form.spelled x ++ rest)

-- what a step gave, where the next one read
pub record Went {A B F : Type 0} (r : Result A F) (f : A → Result B F) (b : B) : Type 0 where
  pub a : A
  pub first : r ≡ Ok a
  pub then : f a ≡ Ok b

pub went : {A B F : Type 0} (r : Result A F) (f : A → Result B F) (b : B) → (r >>= f) ≡ Ok b → Went r f b
went (Ok a) f b h = record { a = a; first = refl; then = h }
went (Err e) f b h = absurd (cc)

abbrev in_ok : {A F : Type 0} → A → Result A F → A
in_ok other (Ok a) = a
in_ok other (Err e) = other

-- one value and one rest
pub same : {X F : Type 0} (x y : X) (rest left : List ℕ) → (let r : Result (X × List ℕ) F = Ok (x, rest) in r ≡ Ok (y, left)) → (x ≡ y) × (rest ≡ left)
same x y rest left h = let e = ap (in_ok (x, rest)) h in (ap (λ q. q.0) e, ap (λ q. q.1) e)

pub nothing_is : IsForm nothing
nothing_is = record { back = λ x rest h. refl; exact = λ bytes rest x h. (refl, (same tt x bytes rest h).1) }

followed_exact : {X Y : Type 0} (a : Form X) (b : X → Form Y) → IsForm a → ((x : X) → IsForm (b x)) → (bytes rest : List ℕ) (p : X × Y) → (followed a b).reads bytes ≡ Ok (p, rest) → ((followed a b).fits p ≡ true) × (bytes ≡ (followed a b).spelled p ++ rest)
followed_exact {X} {Y} a b ia ib bytes rest p h =
    let w = went (a.reads bytes) _ _ h in
    let x = w.a.0 in
    let v = went ((b x).reads w.a.1) _ _ w.then in
    let y = v.a.0 in
    let ea = ia.exact bytes w.a.1 x w.first in
    let eb = (ib x).exact w.a.1 v.a.1 y v.first in
    let e = same (x, y) p v.a.1 rest v.then in
    let P : X × Y → List ℕ → Type 0 = λ q r. ((a.fits q.0 && (b q.0).fits q.1) ≡ true) × (bytes ≡ (a.spelled q.0 ++ (b q.0).spelled q.1) ++ r) in
    let here : P (x, y) v.a.1 = (and_from (a.fits x) ((b x).fits y) ea.0 eb.0, ea.1 ∙ (ap (λ r. a.spelled x ++ r) eb.1 ∙ sym (append_assoc (a.spelled x) ((b x).spelled y) v.a.1))) in
    subst (λ q. P q rest) e.0 (subst (λ r. P (x, y) r) e.1 here)

pub followed_is : {X Y : Type 0} (a : Form X) (b : X → Form Y) → IsForm a → ((x : X) → IsForm (b x)) → IsForm (followed a b)
followed_is a b ia ib = record {
  back = λ p rest h.
      let hs = and_parts (a.fits p.0) ((b p.0).fits p.1) h in
      rw (append_assoc, ia.back p.0 ((b p.0).spelled p.1 ++ rest) hs.0, (ib p.0).back p.1 rest hs.1) refl;
  exact = followed_exact a b ia ib;
}

pub paired_is : {X Y : Type 0} (a : Form X) (b : Form Y) → IsForm a → IsForm b → IsForm (paired a b)
paired_is a b ia ib = followed_is a (λ x. b) ia (λ x. ib)

-- the test holds of what reads, and the two ways undo each other
pub record IsView {X Y : Type 0} (form : Form X) (test : Y → Bool) (into : X → Y) (back : Y → X) : Type 0 where
  pub kept : (x : X) → form.fits x ≡ true → test (into x) ≡ true
  pub there : (x : X) → form.fits x ≡ true → back (into x) ≡ x
  pub here : (y : Y) → test y ≡ true → into (back y) ≡ y

pub seen_is : {X Y : Type 0} (form : Form X) (test : Y → Bool) (into : X → Y) (back : Y → X) → IsForm form → IsView form test into back → IsForm (seen form test into back)
seen_is {X} {Y} form test into back is view = record {
  back = λ y rest h.
      let hs : (test y ≡ true) × (form.fits (back y) ≡ true) = and_parts (test y) (form.fits (back y)) h in
      rw (is.back (back y) rest hs.1, view.here y hs.0) refl;
  exact = λ bytes rest y h.
      let w = went (form.reads bytes) _ _ h in
      let x = w.a.0 in
      let ex = is.exact bytes w.a.1 x w.first in
      let e = same (into x) y w.a.1 rest w.then in
      let P : Y → List ℕ → Type 0 = λ v r. ((test v && form.fits (back v)) ≡ true) × (bytes ≡ form.spelled (back v) ++ r) in
      let at : P (into x) w.a.1 = rw (view.there x ex.0) (and_from (test (into x)) (form.fits x) (view.kept x ex.0) ex.0, ex.1) in
      subst (λ v. P v rest) e.0 (subst (λ r. P (into x) r) e.1 at);
}

pub shaped_is : {X Y : Type 0} (form : Form X) (into : X → Y) (back : Y → X) → IsForm form → ((x : X) → back (into x) ≡ x) → ((y : Y) → into (back y) ≡ y) → IsForm (shaped form into back)
shaped_is form into back is there here = seen_is form (λ y. true) into back is (record { kept = λ x h. refl; there = λ x h. there x; here = λ y h. here y })

pub passes : {X : Type 0} (ok : Bool) (left : ℕ) (x : X) (rest : List ℕ) (q : X × List ℕ) → passed ok left x rest ≡ Ok q → (ok ≡ true) × (x ≡ q.0) × (rest ≡ q.1)
passes true left x rest q h = let e = same x q.0 rest q.1 h in (refl, e.0, e.1)
passes false left x rest q h = absurd (cc)

pub tested_is : {X : Type 0} (form : Form X) (test : X → Bool) → IsForm form → IsForm (tested form test)
tested_is {X} form test is = record {
  back = λ x rest h.
      let hs : (form.fits x ≡ true) × (test x ≡ true) = and_parts (form.fits x) (test x) h in
      rw (is.back x rest hs.0, hs.1) refl;
  exact = λ bytes rest y h.
      let w = went (form.reads bytes) _ _ h in
      let x = w.a.0 in
      let ex = is.exact bytes w.a.1 x w.first in
      let e = passes (test x) (length bytes) x w.a.1 (y, rest) w.then in
      let P : X → List ℕ → Type 0 = λ v r. ((form.fits v && test v) ≡ true) × (bytes ≡ form.spelled v ++ r) in
      let at : P x w.a.1 = (and_from (form.fits x) (test x) ex.0 e.0, ex.1) in
      subst (λ v. P v rest) e.1 (subst (λ r. P x r) e.2 at);
}

or_left_ok : {X : Type 0} (left : ℕ) (r : Result X ℕ) (x : X) → or_left left r ≡ Ok x → r ≡ Ok x
or_left_ok left (Ok y) x h = h
or_left_ok left (Err e) x h = absurd (cc)

pub one_field_is : {X : Type 0} (form : Form X) → IsForm form → IsForm (one_field form)
one_field_is form is = record {
  back = λ x rest h. rw (is.back x rest h) refl;
  exact = λ bytes rest x h. is.exact bytes rest x (or_left_ok (length bytes) (form.reads bytes) (x, rest) h);
}

front_ok : (count : ℕ) (bytes : List ℕ) (q : List ℕ × List ℕ) → (front count).reads bytes ≡ Ok q → (count ≤ length bytes) × (are_bytes (take count bytes) ≡ true) × (take count bytes ≡ q.0) × (drop count bytes ≡ q.1)
front_ok count bytes q h = elim (cases_Bool (nat_le count (length bytes) && are_bytes (take count bytes))) [
  | inl t ↦ (let hs = and_parts (nat_le count (length bytes)) (are_bytes (take count bytes)) t in
      let e = same (take count bytes) q.0 (drop count bytes) q.1 (rw t at h) in
      (leb-true count (length bytes) hs.0, hs.1, e.0, e.1))
  | inr f ↦ absurd (let no = rw f at h in cc)
]

pub front_is : (count : ℕ) → IsForm (front count)
front_is count = record {
  back = λ x rest h.
      let hs = and_parts (length x == count) (are_bytes x) h in
      let e = eqb-true (length x) count hs.0 in
      let le : count ≤ length (x ++ rest) = omega (arith, length-append x rest) in
      let here : (front (length x)).reads (x ++ rest) ≡ Ok (x, rest) = rw (take-append_seam x rest, drop-append_seam x rest, le-leb (length x) (length (x ++ rest)) (omega (arith, length-append x rest)), hs.1) refl in
      subst (λ n. (front n).reads (x ++ rest) ≡ Ok (x, rest)) e here;
  exact = λ bytes rest x h.
      let f = front_ok count bytes (x, rest) h in
      let size : length x ≡ count = rw (← f.2) (length-take-le count bytes f.0) in
      let known : are_bytes x ≡ true = rw (← f.2) f.1 in
      (and_from (length x == count) (are_bytes x) (eq-eqb (length x) count size) known, rw (← f.2, ← f.3) (sym (take-append-drop count bytes)));
}

pub sized_is : (count : Form ℕ) → IsForm count → IsForm (sized count)
sized_is count is = record {
  back = λ x rest h.
      let hs = and_parts (count.fits (length x)) (are_bytes x) h in
      rw (append_assoc, is.back (length x) (x ++ rest) hs.0) ((front_is (length x)).back x rest (and_from (length x == length x) (are_bytes x) (eq-eqb (length x) (length x) refl) hs.1));
  exact = λ bytes rest x h.
      let w = went (count.reads bytes) _ _ h in
      let n = w.a.0 in
      let en = is.exact bytes w.a.1 n w.first in
      let ef = (front_is n).exact w.a.1 rest x w.then in
      let fs = and_parts (length x == n) (are_bytes x) ef.0 in
      let size : length x ≡ n = eqb-true (length x) n fs.0 in
      (and_from (count.fits (length x)) (are_bytes x) (rw size en.0) fs.1, rw size (en.1 ∙ (ap (λ r. count.spelled n ++ r) ef.1 ∙ sym (append_assoc (count.spelled n) x rest))));
}

items_back : {X : Type 0} (form : Form X) (follows : Option X → X → Bool) → IsForm form → (before : Option X) (xs : List X) (rest : List ℕ) → items_fit form follows before xs ≡ true → reads_items form follows before (length xs) (spelled_items form xs ++ rest) ≡ Ok (xs, rest)
items_back form follows is before [] rest h = refl
items_back form follows is before (x ∷ xs) rest h =
    let hs = and_parts (form.fits x && follows before x) (items_fit form follows (Some x) xs) h in
    let ks = and_parts (form.fits x) (follows before x) hs.0 in
    rw (append_assoc, is.back x (spelled_items form xs ++ rest) ks.0, ks.1, items_back form follows is (Some x) xs rest hs.1) refl

pub record AreItems {X : Type 0} (form : Form X) (follows : Option X → X → Bool) (before : Option X) (n : ℕ) (bytes rest : List ℕ) (xs : List X) : Type 0 where
  pub size : length xs ≡ n
  pub fit : items_fit form follows before xs ≡ true
  pub are : bytes ≡ spelled_items form xs ++ rest

one_more : {X : Type 0} (form : Form X) (follows : Option X → X → Bool) (before : Option X) (n : ℕ) (bytes : List ℕ) (x : X) (mid : List ℕ) (xs : List X) (rest : List ℕ) → form.fits x ≡ true → follows before x ≡ true → bytes ≡ form.spelled x ++ mid
    → AreItems form follows (Some x) n mid rest xs → AreItems form follows before (suc n) bytes rest (x ∷ xs)
one_more form follows before n bytes x mid xs rest fits may are er = record {
  size = ap suc er.size;
  fit = and_from (form.fits x && follows before x) (items_fit form follows (Some x) xs) (and_from (form.fits x) (follows before x) fits may) er.fit;
  are = are ∙ (ap (λ r. form.spelled x ++ r) er.are ∙ sym (append_assoc (form.spelled x) (spelled_items form xs) rest));
}

items_exact : {X : Type 0} (form : Form X) (follows : Option X → X → Bool) → IsForm form → (before : Option X) (n : ℕ) (bytes rest : List ℕ) (xs : List X) → reads_items form follows before n bytes ≡ Ok (xs, rest) → AreItems form follows before n bytes rest xs
items_exact {X} form follows is before zero bytes rest xs h =
    let e = same [] xs bytes rest h in
    subst (λ ys. AreItems form follows before zero bytes rest ys) e.0 (record { size = refl; fit = refl; are = e.1 })
items_exact {X} form follows is before (suc n) bytes rest xs h =
    let w = went (form.reads bytes) _ _ h in
    let x = w.a.0 in
    let ex = is.exact bytes w.a.1 x w.first in
    let v = went (passed (follows before x) (length bytes) x w.a.1) _ _ w.then in
    let p = passes (follows before x) (length bytes) x w.a.1 v.a v.first in
    let u = went (reads_items form follows (Some v.a.0) n v.a.1) _ _ v.then in
    let er = items_exact form follows is (Some v.a.0) n v.a.1 u.a.1 u.a.0 u.first in
    let e = same (v.a.0 ∷ u.a.0) xs u.a.1 rest u.then in
    let fits = subst (λ y. form.fits y ≡ true) p.1 ex.0 in
    let may = subst (λ y. follows before y ≡ true) p.1 p.0 in
    let are = subst (λ y. bytes ≡ form.spelled y ++ v.a.1) p.1 (subst (λ r. bytes ≡ form.spelled x ++ r) p.2 ex.1) in
    let here = one_more form follows before n bytes v.a.0 v.a.1 u.a.0 u.a.1 fits may are er in
    subst (λ ys. AreItems form follows before (suc n) bytes rest ys) e.0 (subst (λ r. AreItems form follows before (suc n) bytes r (v.a.0 ∷ u.a.0)) e.1 here)

pub listed_is : {X : Type 0} (count : Form ℕ) (form : Form X) (follows : Option X → X → Bool) → IsForm count → IsForm form → IsForm (listed count form follows)
listed_is {X} count form follows ic is = record {
  back = λ xs rest h.
      let hs = and_parts (count.fits (length xs)) (items_fit form follows None xs) h in
      rw (append_assoc, ic.back (length xs) (spelled_items form xs ++ rest) hs.0) (items_back form follows is None xs rest hs.1);
  exact = λ bytes rest xs h.
      let w = went (count.reads bytes) _ _ h in
      let n = w.a.0 in
      let en = ic.exact bytes w.a.1 n w.first in
      let er = items_exact form follows is None n w.a.1 rest xs w.then in
      (and_from (count.fits (length xs)) (items_fit form follows None xs) (rw er.size en.0) er.fit, rw er.size (en.1 ∙ (ap (λ r. count.spelled n ++ r) er.are ∙ sym (append_assoc (count.spelled n) (spelled_items form xs) rest))));
}

-- what an arm reads is written with its tag
pub record IsWritten {X : Type 0} (written : X → Tagged) (tag : ℕ) (bytes rest : List ℕ) (x : X) : Type 0 where
  pub tags : (written x).tag ≡ tag
  pub fits : (written x).fits ≡ true
  pub are : bytes ≡ (written x).spelled ++ rest

abbrev pub IsArm : {X : Type 0} → (X → Tagged) → Arm X → Type 0
IsArm {X} written a = (bytes rest : List ℕ) (x : X) → a.reads bytes ≡ Ok (x, rest) → IsWritten written a.tag bytes rest x

abbrev pub EachArm : {X : Type 0} → (X → Tagged) → List (Arm X) → Type 0
EachArm written [] = Unit {0}
EachArm written (a ∷ arms) = IsArm written a × EachArm written arms

pub record AreArms {X : Type 0} (written : X → Tagged) (arms : List (Arm X)) : Type 0 where
  pub each : EachArm written arms
  pub back : (x : X) (left : ℕ) (rest : List ℕ) → (written x).fits ≡ true → reads_arm arms (written x).tag left ((written x).spelled ++ rest) ≡ Ok (x, rest)

pub arm_back : {X Y : Type 0} (tag : ℕ) (form : Form X) (into : X → Y) → IsForm form → (x : X) (rest : List ℕ) → form.fits x ≡ true → (arm tag form into).reads (form.spelled x ++ rest) ≡ Ok (into x, rest)
arm_back tag form into is x rest h = rw (is.back x rest h) refl

pub arm_is : {X Y : Type 0} (written : Y → Tagged) (tag : ℕ) (form : Form X) (into : X → Y) → IsForm form → ((x : X) → written (into x) ≡ tagged tag form x) → IsArm written (arm tag form into)
arm_is {X} {Y} written tag form into is agree bytes rest y h =
    let w = went (form.reads bytes) _ _ h in
    let x = w.a.0 in
    let ex = is.exact bytes w.a.1 x w.first in
    let e = same (into x) y w.a.1 rest w.then in
    let here : IsWritten written tag bytes w.a.1 (into x) = record {
      tags = ap (λ t. t.tag) (agree x);
      fits = ap (λ t. t.fits) (agree x) ∙ ex.0;
      are = ex.1 ∙ ap (λ s. s ++ w.a.1) (sym (ap (λ t. t.spelled) (agree x)));
    } in
    subst (λ v. IsWritten written tag bytes rest v) e.0 (subst (λ r. IsWritten written tag bytes r (into x)) e.1 here)

arms_exact : {X : Type 0} (written : X → Tagged) (arms : List (Arm X)) → EachArm written arms → (tag left : ℕ) (bytes rest : List ℕ) (x : X) → reads_arm arms tag left bytes ≡ Ok (x, rest) → IsWritten written tag bytes rest x
arms_exact written [] each tag left bytes rest x h = absurd (cc)
arms_exact written (a ∷ arms) each tag left bytes rest x h = elim (cases_Bool (tag == a.tag)) [
  | inl t ↦ subst (λ n. IsWritten written n bytes rest x) (sym (eqb-true tag a.tag t)) (each.0 bytes rest x (rw t at h))
  | inr f ↦ arms_exact written arms each.1 tag left bytes rest x (rw f at h)
]

pub choice_is : {X : Type 0} (tag : Form ℕ) (written : X → Tagged) (arms : List (Arm X)) → IsForm tag → AreArms written arms → IsForm (choice tag written arms)
choice_is {X} tag written arms it are = record {
  back = λ x rest h.
      let hs = and_parts (tag.fits (written x).tag) ((written x).fits) h in
      rw (append_assoc, it.back (written x).tag ((written x).spelled ++ rest) hs.0) (are.back x (length (tag.spelled (written x).tag ++ ((written x).spelled ++ rest))) rest hs.1);
  exact = λ bytes rest x h.
      let w = went (tag.reads bytes) _ _ h in
      let t = w.a.0 in
      let et = it.exact bytes w.a.1 t w.first in
      let ew = arms_exact written arms are.each t (length bytes) w.a.1 rest x w.then in
      (and_from (tag.fits (written x).tag) ((written x).fits) (rw ew.tags et.0) ew.fits, rw ew.tags (et.1 ∙ (ap (λ r. tag.spelled t ++ r) ew.are ∙ sym (append_assoc (tag.spelled t) ((written x).spelled) rest))));
}
