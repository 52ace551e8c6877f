use Rattle.std.proofs.Common.{◌≡◌, ◌∙◌, ◌-◌, ap, sym, length, true, eq-eqb}
use Rattle.std.specs.Prelude.{slice_get, nat_eq}
use Rattle.kv_store.proofs.HoldLemmas.{held_inside, inside_from, held_last}
use Rattle.kv_store.proofs.later.after_range.Goals as goal

pub returns-in-Some-clause-outside : goal.returns-in-Some-clause-outside
returns-in-Some-clause-outside c =
    let read = c.args.read.now in
    let full : nat_eq (length read.rows) read.limit ≡ true = eq-eqb (length read.rows) read.limit (sym c.len.ensures ∙ c.if-len-read.true) in
    λ key h. c.after_row.ensures.outside key (inside_from read.lo read.hi key (held_inside read key h))
    (held_last read key c.in-Some.last.now full (c.in-Some.ensures.value ∙ ap (λ rows. slice_get rows (length rows - 1)) c.as_slice.ensures) h)
