use Rattle.std.proofs.Common.{◌≡◌, ◌∙◌, get_or, ap, sym, subst, arith}
use Rattle.kv_store.specs.declared.chain.Version.{Version}
use Rattle.kv_store.specs.Chains.{AreVersionsRising, AreOutside}
use Rattle.kv_store.proofs.ChainLemmas.{outside_first, outside_all}
use Rattle.kv_store.proofs.chain.VersionChain.first_after.Goals as goal

pub returns-then-place-versions-clause-outside : goal.returns-then-place-versions-clause-outside
returns-then-place-versions-clause-outside c =
    subst (AreOutside c.args.version c.args.until) (c.as_slice-versions.ensures.value ∙ c.self.view_is)
    (outside_all c.as_slice-versions.result.now c.args.version c.place_in-place.result c.args.until c.place_in-place.ensures (omega arith))

pub returns-clause-outside : goal.returns-clause-outside
returns-clause-outside c =
    let here : c.index-versions-place.result.version ≡ (get_or c.as_slice-versions.result.now c.place_in-place.result c.index-versions-place.result).version = ap (λ (v : Version). v.version) c.index-versions-place.is in
    subst (AreOutside c.args.version c.min.result) (c.as_slice-versions.ensures.value ∙ c.self.view_is)
    (outside_first c.as_slice-versions.result.now c.args.version c.place_in-place.result c.min.result c.index-versions-place.result
    (subst AreVersionsRising (sym c.as_slice-versions.ensures.value) c.self.invariant) c.place_in-place.ensures (omega arith) (sym c.index-versions-place.is) (omega arith))
