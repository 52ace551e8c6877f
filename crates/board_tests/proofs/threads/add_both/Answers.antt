use Rattle.std.proofs.Common.{rules, ◌≡◌, ◌<◌, true, length, ap, sym, subst, ◌∙◌}
use Rattle.std.specs.Prelude.{Contains}
use Rattle.hist_board.specs.Rule.{handed, seen_at}
use Rattle.hist_board.specs.Calls.{view_of}
use Rattle.board_tests.specs.Errands.{numbers_of, numbers_below}
use Rattle.board_tests.proofs.FirstErrands.{first_has, second_has}
use Rattle.board_tests.proofs.Own.{both_held, both_seen}
use Rattle.board_tests.proofs.threads.add_both.Goals as goal

pub join-first-requires-after_bounds : goal.join-first-requires-after_bounds
join-first-requires-after_bounds g c κs within =
    let v = view_of c.args.pass.now in
    let one = c.split-first.ensures in
    let two = c.split-second.ensures in
    let right = two.right ∙ ap handed one.left in (
      (
        one.board.1,
        subst (λ w. 0 < length w.kinds) (sym one.right) c.requires.object,
        subst (λ w. Contains w.errands 0) (sym one.right) (first_has v c.requires.errands),
        ap (λ w. numbers_of 0 (seen_at w 0)) one.right ∙ ap (λ es. numbers_of 0 es) c.requires.none,
      ),
      (
        two.board.1,
        subst (λ w. 0 < length w.kinds) (sym right) c.requires.object,
        subst (λ w. Contains w.errands 1) (sym right) (second_has v c.requires.errands),
        ap (λ w. numbers_of 1 (seen_at w 0)) right ∙ ap (λ es. numbers_of 1 es) c.requires.none,
      ),
    )

pub returns-then-a-clause-errands : goal.returns-then-a-clause-errands
returns-then-a-clause-errands g c =
    let a = c.join-first.result.0.0 in
    let b = c.join-first.result.1.0 in
    let one = c.join-first.ensures.first in
    let two = c.join-first.ensures.second in
    let has_a : Contains (view_of a).errands 0 = search rules in
    let has_b : Contains (view_of b).errands 1 = search rules in
    both_held (view_of c.split-second.new.self) (view_of a) (view_of b) (view_of c.join.new.self)
    (view_of c.join-2.new.self) c.join.ensures.view c.join-2.ensures.view has_a has_b

pub returns-else-a-clause-errands : goal.returns-else-a-clause-errands
returns-else-a-clause-errands g c =
    let a = c.join-first.result.0.0 in
    let b = c.join-first.result.1.0 in
    let one = c.join-first.ensures.first in
    let two = c.join-first.ensures.second in
    let has_a : Contains (view_of a).errands 0 = search rules in
    let has_b : Contains (view_of b).errands 1 = search rules in
    both_held (view_of c.split-second.new.self) (view_of a) (view_of b) (view_of c.join.new.self)
    (view_of c.join-2.new.self) c.join.ensures.view c.join-2.ensures.view has_a has_b

pub returns-then-a-clause-own : goal.returns-then-a-clause-own
returns-then-a-clause-own g c = λ all.
    let a = c.join-first.result.0.0 in
    let b = c.join-first.result.1.0 in
    let one = c.join-first.ensures.first in
    let two = c.join-first.ensures.second in
    let has_a : Contains (view_of a).errands 0 = search rules in
    let has_b : Contains (view_of b).errands 1 = search rules in
    let seen_0 = numbers_of 0 (seen_at (view_of a) 0) in
    let seen_1 = numbers_of 1 (seen_at (view_of b) 0) in
    let own_a : c.join-first.result.0.1 ≡ true → seen_0 ≡ numbers_below 500 = search rules in
    let own_b : c.join-first.result.1.1 ≡ true → seen_1 ≡ numbers_below 500 = search rules in
    let v = view_of c.split-second.new.self in
    let v1 = view_of c.join.new.self in
    let v2 = view_of c.join-2.new.self in
    let live = c.join.new.self.rest.live in
    let on = c.join-2.ensures in
    let seen = both_seen v (view_of a) (view_of b) v1 v2 c.join.ensures.view on.view has_a has_b
    a.rest.live live b.rest.live c.join.ensures.theirs on.own on.theirs in
    (seen.0 ∙ own_a c.if-a.true, seen.1 ∙ own_b all)
