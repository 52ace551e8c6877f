-- Each form is a spelling: of all the bytes.
use Rattle.std.proofs.Common.{◌≡◌, ℕ, true, List, [], ◌∷◌, length, Result, Ok, Err, refl, sym, ap, subst, ◌∙◌}
use Rattle.std.proofs.lemmas.List.{append-nil}
use Rattle.byte_fields.specs.Forms.{Form, placed, whole}
use Rattle.byte_fields.specs.Spelling.{IsSpelling}
use Rattle.byte_fields.proofs.FormLaws.{IsForm, same}

reads_alone : {X : Type 0} (form : Form X) → IsForm form → (x : X) → form.fits x ≡ true → form.reads (form.spelled x) ≡ Ok (x, [])
reads_alone {X} form is x h = subst (λ s. form.reads s ≡ Ok (x, [])) (append-nil (form.spelled x)) (is.back x [] h)

placed_ok : {X : Type 0} (size : ℕ) (r : Result (X × List ℕ) ℕ) (x : X) → placed size r ≡ Ok x → r ≡ Ok (x, [])
placed_ok {X} size (Ok (y, [])) x h = let P : X → Type 0 = λ z. (let a : Result (X × List ℕ) ℕ = Ok (y, []) in a ≡ Ok (z, [])) in subst P (cc) refl
placed_ok size (Ok (y, b ∷ bytes)) x h = absurd (cc)
placed_ok size (Err left) x h = absurd (cc)

whole_back : {X : Type 0} (form : Form X) → IsForm form → (x : X) → form.fits x ≡ true → whole form (form.spelled x) ≡ Ok x
whole_back form is x h = rw (reads_alone form is x h) refl

pub whole_is : {X : Type 0} (form : Form X) → IsForm form → IsSpelling form.spelled form.fits (whole form)
whole_is {X} form is = record {
  back = whole_back form is;
  exact = λ bytes x h.
      let e = is.exact bytes [] x (placed_ok (length bytes) (form.reads bytes) x h) in
      (e.0, e.1 ∙ append-nil (form.spelled x));
  refused = λ bytes place x h fits e.
      let read : whole form bytes ≡ Ok x = subst (λ b. whole form b ≡ Ok x) e (whole_back form is x fits) in
      cc;
  one_each = λ x y fx fy e.
      let first = reads_alone form is x fx in
      let second = reads_alone form is y fy in
      (same x y [] [] (sym first ∙ (ap form.reads e ∙ second))).0;
  no_prefix = λ x y more fx fy e.
      let first = is.back x more fx in
      let second = reads_alone form is y fy in
      (same x y more [] (sym first ∙ (ap form.reads (sym e) ∙ second))).1;
}
