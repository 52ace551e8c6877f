use Rattle.std.proofs.Common.{◌∙◌, sym, ap, subst, arith}
use Rattle.hist_board.specs.Rule.{Live, told}
use Rattle.hist_board.proofs.Ends.{meet_allowed, recall_allowed}
use Rattle.hist_board.proofs.Meeting.{join_counts, join_rests, join_tells}
use Rattle.hist_board.proofs.pass.Pass.join.Goals as goal

pub join_seat-requires : goal.join_seat-requires
join_seat-requires g c = let h = g.S.Held in let r = c.args.self.now.rest in let w = r.words_are in
    let n = r.some_object in let w' = ap (λ t. t.words) c.requires.board.0.0 in let o = c.args.other.rest in
    (c.requires.board.0.0, c.requires.board.1.0, o.none_out, omega arith, meet_allowed h.history h.frame h.kind h.errands h.fits c.args.board.now.table.shared.key.value.items c.args.self.now.seat.id c.args.self.now.seat.me.0 c.args.other.seat.id c.args.other.seat.me.0 r.live o.live o.no_turns)

pub load-requires : goal.load-requires
load-requires g c = let h = g.S.Held in let r = c.args.self.now.rest in let w = r.words_are in
    let n = r.some_object in let w' = ap (λ t. t.words) c.requires.board.0.0 in let s = c.join_seat.ensures in
    (s.0 ∙ c.requires.board.0.0, omega arith, recall_allowed h.history h.frame h.kind h.errands h.fits c.args.board.now.table.shared.key.value.items _ c.join_seat.new.seat.id c.join_seat.new.seat.me (subst (λ m. Live m.0) (sym s.2) r.live))

pub invariant_of-self : goal.invariant_of-self
invariant_of-self g c = let s = c.join_seat.ensures in let l = c.load.ensures in
    let w = c.args.other.seat.me.0 in let m = c.args.self.now.seat.me in record {
      rest = join_rests _ _ m c.join_seat.new.seat.me c.load.new.seat.me w c.args.self.now.rest
          (sym (ap (λ t. t.words) (l.0 ∙ s.0))) s.2 (λ i. (l.2.1 i, l.2.0 i));
      sized = c.longest-self.ensures.size;
      counted = join_counts _ _ m c.args.other.seat.me c.load.new.seat.me c.args.self.now.lengths c.args.other.lengths c.longest-self.result c.args.self.now.rest c.args.other.rest (ap (λ t. t.words) (c.requires.board.0.0 ∙ sym c.requires.board.1.0)) c.args.self.now.counted c.args.other.counted c.longest-self.ensures.each
          (l.2.1 ∙ ap (λ m. told m.0) s.2);
    }

pub returns-clause-own : goal.returns-clause-own
returns-clause-own g c = let s = c.join_seat.ensures in let l = c.load.ensures in
    let mine = c.requires.board.0 in let theirs = c.requires.board.1 in
    (join_tells g.S.Held.errands c.args.self.now.seat.me.0 c.args.other.seat.me.0 c.join_seat.new.seat.me c.load.new.seat.me c.args.self.now.seat.me.1 (theirs.1 ∙ sym mine.1) (theirs.2 ∙ sym mine.2) s.2 l.2.1 l.2.2).0

pub returns-clause-theirs : goal.returns-clause-theirs
returns-clause-theirs g c = let s = c.join_seat.ensures in let l = c.load.ensures in
    let mine = c.requires.board.0 in let theirs = c.requires.board.1 in
    (join_tells g.S.Held.errands c.args.self.now.seat.me.0 c.args.other.seat.me.0 c.join_seat.new.seat.me c.load.new.seat.me c.args.self.now.seat.me.1 (theirs.1 ∙ sym mine.1) (theirs.2 ∙ sym mine.2) s.2 l.2.1 l.2.2).1
