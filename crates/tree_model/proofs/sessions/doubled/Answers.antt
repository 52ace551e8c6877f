use Rattle.std.proofs.Common.{◌≡◌, ◌+◌, ◌-◌, ℕ, sym, ap, ◌∙◌, arith}
use Rattle.tree_model.specs.Sessions.{doubled}
use Rattle.tree_model.proofs.HintLaws.{doubled_above, doubled_next, doubled_no_more}
use Rattle.tree_model.proofs.sessions.doubled.Goals as goal

pub returns-then-place-doubled : goal.returns-then-place-doubled
returns-then-place-doubled c =
    sym (doubled_above (16 - c.loop.counter) c.from-place.result c.loop.doubled c.if-place-doubled.true) ∙ c.loop.invariant.same

pub loop-preserved : goal.loop-preserved
loop-preserved c =
    let more = c.loop-test.true in
    let below = c.if-place-doubled.false in
    let place = c.loop.invariant.place in
    let range = c.ranges.place.fits in
    let fewer : 16 - (c.loop.counter + 1) ≡ (16 - c.loop.counter) - 1 = omega arith in
    record {
      same =
          ap (λ (n : ℕ). doubled n c.from-place.result (c.loop.doubled + c.loop.doubled)) fewer
          ∙ doubled_next (16 - c.loop.counter) c.from-place.result c.loop.doubled (omega arith) below
          ∙ c.loop.invariant.same;
      place = place;
      small = omega arith;
    }

pub returns : goal.returns
returns c =
    let done = c.loop-test.false in
    let end = c.loop.auto.counter-end in
    let none : 16 - c.loop.counter ≡ 0 = omega arith in
    sym (doubled_no_more c.from-place.result c.loop.doubled)
    ∙ ap (λ (n : ℕ). doubled n c.from-place.result c.loop.doubled) (sym none)
    ∙ c.loop.invariant.same
