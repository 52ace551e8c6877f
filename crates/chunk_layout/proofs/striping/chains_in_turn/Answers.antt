use Rattle.std.proofs.Common.{◌≡◌, ◌∙◌, sym, ap, ◌+◌, ◌%◌, [], ◌∷◌, ◌++◌, arith, ℕ, List, map}
use Rattle.std.specs.List.{range_with_len}
use Rattle.std.proofs.lemmas.List.FromFn.{map-range_with_len_more}
use Rattle.chunk_layout.proofs.striping.chains_in_turn.Goals as goal

pub loop-place-preserved : goal.loop-place-preserved
loop-place-preserved c =
    let start : ℕ = c.args.layout.now.start in
    let place : ℕ = c.loop-place.place in
    let chain : ℕ → ℕ = λ p. (start + p) % c.args.config.now.chains in
    c.in_ok-push.ensures.items
    ∙ (ap (λ (chains : List ℕ). chains ++ ((start + place) % c.chains.result) ∷ []) c.loop-place.invariant
    ∙ (ap (λ n. map chain (range_with_len 0 place) ++ ((start + place) % n) ∷ []) c.chains.ensures.value
    ∙ sym (map-range_with_len_more chain 0 place place (omega arith))))
