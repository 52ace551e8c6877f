-- What proofs know of the order of keys.
use Rattle.std.proofs.Common.{◌≡◌, ℕ, List, ◌∙◌, ap}
use Rattle.std.specs.Ordering.{ordering_reverse}
use Rattle.std.specs.declared.cmp.Ordering.TheVariants.{Less, Equal, Greater}
use Rattle.std.specs.Cmp.{IsTotalOrder}
use Rattle.std.proofs.lemmas.Cmp.{nat_list_cmp_total, tied_itself}
use Rattle.std.specs.FinMap.{slice_cmp-IsAntisymmetric, nat_cmp-IsAntisymmetric}
use Rattle.conflict_sets.specs.Keys.{key_cmp}

pub key_total : IsTotalOrder key_cmp
unfolding key_cmp
key_total = nat_list_cmp_total

-- keys that compare alike are one
pub key_exact : (a b : List ℕ) → key_cmp a b ≡ Equal → a ≡ b
unfolding key_cmp
key_exact a b h = slice_cmp-IsAntisymmetric nat_cmp-IsAntisymmetric a b h

pub key_self : (a : List ℕ) → key_cmp a a ≡ Equal
key_self a = tied_itself key_total a

pub key_less_flips : (a b : List ℕ) → key_cmp a b ≡ Less → key_cmp b a ≡ Greater
key_less_flips a b h = key_total.antisymm b a ∙ ap ordering_reverse h

pub key_greater_flips : (a b : List ℕ) → key_cmp a b ≡ Greater → key_cmp b a ≡ Less
key_greater_flips a b h = key_total.antisymm b a ∙ ap ordering_reverse h

pub key_trans : (a b c : List ℕ) → key_cmp a b ≡ Less → key_cmp b c ≡ Less → key_cmp a c ≡ Less
key_trans a b c = key_total.trans a b c
