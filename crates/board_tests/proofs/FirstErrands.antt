-- The first two passes that are split off a new board's pass have the errands 0 and 1.
use Rattle.std.proofs.Common.{◌≡◌, ℕ, List, [], ◌∷◌, sym, ap, ◌∙◌, subst}
use Rattle.std.specs.Prelude.{Contains}
use Rattle.hist_board.specs.Rule.{handed, handing, least_errand, other_errands, all_errands}
use Rattle.hist_board.specs.declared.view.View.{View}
use Rattle.hist_board.proofs.Contained.{contains_first}
use Rattle.hist_board.proofs.Ends.{least_number, other_numbers, all_are}

has_one : (errands : List ℕ) (e : ℕ) → errands ≡ e ∷ [] → Contains errands e
has_one errands e is = subst (λ (es : List ℕ). Contains es e) (sym is) (contains_first e [])

module _ {I F : Type 0} where
  pub first_has : (v : View I F) → v.errands ≡ all_errands → Contains (handed v).errands 0
  first_has v is = has_one (handed v).errands 0 (ap least_errand (is ∙ all_are) ∙ least_number 0 65535)

  pub second_has : (v : View I F) → v.errands ≡ all_errands → Contains (handed (handing v)).errands 1
  second_has v is = has_one (handed (handing v)).errands 1
      (ap (λ (es : List ℕ). least_errand (other_errands es)) (is ∙ all_are) ∙
      (ap least_errand (other_numbers 0 65535) ∙ least_number 1 65534))
