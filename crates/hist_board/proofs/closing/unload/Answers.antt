use Rattle.std.proofs.Common.{◌∷◌, ◌++◌, [], ℕ, ◌<◌, List, Bool, false, get_or, ◌∙◌, sym, ap, subst, arith}
use Rattle.std.specs.Slots.{slots_filled, slots_items, slots_len, slots_counts}
use Rattle.hist_board.proofs.ClosingLemmas.{take_snoc, emptied}
use lib.ListN.{get_elem?}
use Rattle.hist_board.proofs.closing.unload.Goals as goal

pub loop-i-preserved : goal.loop-i-preserved
loop-i-preserved g c = let i = c.loop-i.invariant in let t = c.take.ensures in
    let p = c.push_reserved.ensures in
    let n = slots_counts c.loop-i.closed.slots in
    let f = emptied (slots_filled c.loop-i.closed.slots) c.loop-i.i (slots_len c.loop-i.closed.slots) (omega arith) i.0 i.1 in (
      (λ k lo hi. ap (λ (fs : List Bool). get_or fs k false) t.others.1 ∙ f.0 k lo
          (subst (λ (m : ℕ). k < m) t.others.2 hi)),
      (λ k lo. ap (λ (fs : List Bool). get_or fs k false) t.others.1 ∙ f.1 k lo),
      t.others.0 ∙ i.2,
      t.others.2 ∙ i.3,
      p.items ∙ (ap (λ (xs : List g.row.S.Denot). xs ++ c.take.result ∷ []) i.4 ∙ sym
          (take_snoc (slots_items c.args.closed.slots) c.loop-i.i c.take.result
          (ap (λ (xs : List g.row.S.Denot). get_elem? xs c.loop-i.i) (sym i.2) ∙ t.value))),
      omega arith,
      omega arith,
    )
