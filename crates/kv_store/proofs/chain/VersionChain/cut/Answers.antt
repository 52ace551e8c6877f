use Rattle.std.proofs.Common.{◌∙◌, sym, subst, refl}
use Rattle.kv_store.specs.Chains.{AreVersionsRising}
use Rattle.kv_store.proofs.ChainLemmas.{split_seen, IsRising-up_to}
use Rattle.kv_store.proofs.chain.VersionChain.cut.Goals as goal

pub invariant_of-self : goal.invariant_of-self
invariant_of-self c =
    subst AreVersionsRising (sym (c.truncate.ensures.items ∙ split_seen _ _ _ _ refl (subst (λ s. Rattle.kv_store.specs.Chains.IsSplit s c.args.version c.place_in-place.result) c.as_slice.ensures.value c.place_in-place.ensures)))
    (IsRising-up_to c.args.version c.self.inside.versions.items c.self.invariant)

pub returns : goal.returns
returns c =
    c.truncate.ensures.items ∙ split_seen _ _ _ _ c.self.view_is (subst (λ s. Rattle.kv_store.specs.Chains.IsSplit s c.args.version c.place_in-place.result) c.as_slice.ensures.value c.place_in-place.ensures)
