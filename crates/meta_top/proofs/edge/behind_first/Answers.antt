use Rattle.std.proofs.Common.{◌≡◌, ◌∙◌, ℕ, Ok, ap, length, rules}
use Rattle.std.specs.Vec.Iter.{into_iter_items, into_iter_len}
use Rattle.std.proofs.lemmas.Iterator.{items_from_collect}
use Rattle.std.proofs.lemmas.Iterator.Adapters.{YieldsList-from_skip, YieldsList-from_vec}
use Rattle.meta_top.proofs.edge.behind_first.Goals as goal

-- the words are those of the command line, but for the first
pub returns : goal.returns
returns c =
    let count : into_iter_len c.args.args ≡ length (into_iter_items c.args.args) = search rules in
    items_from_collect {E = ℕ} (Ok c.in_ok-words.words) c.in_ok-words.ensures.ran
    (YieldsList-from_skip 1 (YieldsList-from_vec (into_iter_items c.args.args) (ap into_iter_items c.skip.ensures.source) (ap into_iter_len c.skip.ensures.source ∙ count)) c.skip.ensures.count)
