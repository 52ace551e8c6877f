use Rattle.std.proofs.Common.{◌≡◌, ◌∙◌, sym, ap, length, ◌-◌, Some}
use Rattle.std.specs.Prelude.{slice_get}
use Rattle.std.specs.Ordering.{is_le}
use Rattle.conflict_sets.specs.Keys.{key_cmp}
use Rattle.conflict_sets.proofs.HeldLemmas.{up_to_last_at}
use Rattle.conflict_sets.proofs.conflict.is_up_to_last.Goals as goal

pub returns-in-Some : goal.returns-in-Some
returns-in-Some c =
    let at_end : Some c.in-Some.row.now ≡ slice_get c.args.rows.now (length c.args.rows.now - 1) = c.in-Some.ensures.value in
    c.is_le.ensures ∙ (ap is_le (c.compare.ensures ∙ ap (key_cmp c.args.key.now) c.as_slice.ensures) ∙ sym (up_to_last_at c.args.rows.now c.in-Some.row.now c.args.key.now at_end))
