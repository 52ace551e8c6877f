use Rattle.std.proofs.Common.{◌≡◌, ℕ, ◌*◌, List, [], take, sym, ap, ◌∙◌, subst, arith}
use Rattle.atomic_table.specs.Table.{opening}
use Rattle.hist_board.specs.Rule.{IsBoard, first_view}
use Rattle.hist_board.specs.Passes.{AtRest, Counts}
use Rattle.hist_board.proofs.Ends.{starts}
use Rattle.hist_board.proofs.FirstState.{first_words_of, first_rests, first_counts}
use Rattle.hist_board.proofs.board.Board.new.Goals as goal

pub new-requires : goal.new-requires
new-requires g c = let h = g.S.Held in let w = c.first_words.ensures in let objects = c.args.objects.items in
    let words = take (3 * c.len-count.result) c.first_words.result.0 in
    subst (λ (made : List g.row.S.Denot). IsBoard h.history h.frame h.kind h.errands h.fits made
    (opening words objects (first_view h.history h.frame h.kind made)))
    (ap (λ v. v.items) (sym c.of-made.ensures))
    (starts h.history h.frame h.kind h.errands h.fits objects words c.requires.frame (first_words_of h.history objects c.first_words.result.0 c.len-count.result (omega arith) (omega arith) w.sizes.0 (λ o x e. let r = w.each o x e in
    (r.0, r.1, r.2))) c.requires.fit)

pub invariant_of-result : goal.invariant_of-result
invariant_of-result g c = let h = g.S.Held in let k = c.in-Ok.ensures.ok in let w = c.first_words.ensures in
    let objects = c.args.objects.items in
    let f = first_words_of h.history objects c.first_words.result.0 c.len-count.result (omega arith) (omega arith) w.sizes.0 (λ o x e. let r = w.each o x e in
    (r.0, r.1, r.2)) in
    record { sized = k.0 ∙ (f.0 ∙ ap (λ (n : ℕ). 3 * n) (sym k.1)) }

pub invariant_of-result-in-Ok : goal.invariant_of-result-in-Ok
invariant_of-result-in-Ok g c = let h = g.S.Held in let k = c.in-Ok.ensures.ok in
    let w = c.first_words.ensures in let objects = c.args.objects.items in
    let is : c.in-Ok.seat.me ≡ (first_view h.history h.frame h.kind objects, []) = k.4 ∙ ap
    (λ made. (first_view h.history h.frame h.kind made.items, [])) c.of-made.ensures in
    let f = first_words_of h.history objects c.first_words.result.0 c.len-count.result (omega arith) (omega arith) w.sizes.0 (λ o x e. let r = w.each o x e in
    (r.0, r.1, r.2)) in record {
      rest = subst (λ m. AtRest c.in-Ok.seat.table_id.words m) (sym is)
          (first_rests h.history h.frame h.kind objects c.in-Ok.seat.table_id.words
          (ap (λ t. t.words) k.2 ∙ (k.0 ∙ f.0)) (omega arith) (omega arith));
      sized = w.sizes.1;
      counted = subst (λ m. Counts c.first_words.result.1 m.0) (sym is)
          (first_counts h.history h.frame h.kind objects c.first_words.result.1 (λ o x e. (w.each o x e).3));
    }
