use Rattle.std.proofs.Common.{rules, ◌≡◌, ℕ, List, length, ap, sym, ◌∙◌}
use lib.ListN.{length-map}
use Rattle.hist_board.specs.Calls.{view_of}
use Rattle.board_tests.proofs.Own.{closed_once}
use Rattle.board_tests.proofs.threads.two_threads.Goals as goal

pub returns : goal.returns
returns g c = λ all.
    let pass = c.add_both-all.new.pass in
    let made = c.push.new.self.items in
    let named = c.add_both-all.ensures.board.2 ∙ sym c.in_ok-board.ensures.pass.2 in
    let kinds = named ∙ ap (λ w. w.kinds) c.in_ok-board.ensures.view in
    let many = ap (λ (ks : List ℕ). length ks) kinds in
    let same = length-map made _ in
    let pushed : length made ≡ 1 = search rules in
    let one : length (view_of pass).kinds ≡ 1 = many ∙ (same ∙ pushed) in
    let closed = c.in_ok-objects.ensures in
    let held = c.add_both-all.ensures.errands in
    let own = c.add_both-all.ensures.own all in
    let objects = c.in_ok-objects.objects.items in
    closed_once 500 (view_of pass) closed.0 objects one pass.rest.live held.0 held.1 closed.1 closed.2 own.0 own.1
