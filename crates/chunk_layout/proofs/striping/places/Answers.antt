use Rattle.std.proofs.Common.{◌≡◌, ◌≢◌, ◌≤◌, ◌<◌, ◌-◌, ◌∙◌, sym, ap, subst, arith, ℕ, List, length}
use Rattle.std.specs.Prelude.{All, AllPairs}
use Rattle.chunk_layout.specs.Striping.{chains_of, in_turn, shuffled}
use Rattle.chunk_layout.proofs.Shuffling.{length_in_turn, chains_are, length_of, within_of, distinct_of}
use Rattle.chunk_layout.proofs.striping.places.Goals as goal

pub shuffle-requires-clause-few : goal.shuffle-requires-clause-few
shuffle-requires-clause-few c =
    let size : length c.in_ok-chains.chains.items ≡ c.args.layout.now.stripe
    = ap length c.in_ok-chains.ensures ∙ length_in_turn c.args.config.now c.args.layout.now in
    omega (arith, size, c.known.ensures.stripe, c.known.ensures.few)

is_of : (c : goal.After-shuffle) → c.shuffle.result.items ≡ chains_of c.args.config.now c.args.layout.now
is_of c =
    chains_are c.args.config.now c.args.layout.now c.shuffle.result.items
    (c.shuffle.ensures ∙ ap (λ (chains : List ℕ). shuffled c.args.layout.now.mix (length chains - 1) chains) c.in_ok-chains.ensures)

pub returns-clause-value : goal.returns-clause-value
returns-clause-value c = is_of c

pub returns-clause-size : goal.returns-clause-size
returns-clause-size c = ap length (is_of c) ∙ length_of c.args.config.now c.args.layout.now c.known.ensures

pub returns-clause-within : goal.returns-clause-within
returns-clause-within c = subst (All (λ chain. chain < c.args.config.now.chains)) (sym (is_of c)) (within_of c.args.config.now c.args.layout.now c.known.ensures)

pub returns-clause-distinct : goal.returns-clause-distinct
returns-clause-distinct c = subst (AllPairs (λ one other. one ≢ other)) (sym (is_of c)) (distinct_of c.args.config.now c.args.layout.now c.known.ensures)
