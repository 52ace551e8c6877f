use Rattle.std.proofs.Common.{sym, subst}
use Rattle.kv_store.specs.Chains.{AreVersionsRising, AreBelow}
use Rattle.kv_store.proofs.ChainLemmas.{IsRising-push}
use Rattle.kv_store.proofs.chain.VersionChain.push.Goals as goal

pub invariant_of-self-2 : goal.invariant_of-self-2
invariant_of-self-2 c =
    subst AreVersionsRising (sym c.in_ok-push.ensures.items)
    (IsRising-push c.self.inside.versions.items (record { version = c.args.version; value = c.args.value }) c.self.invariant
    (subst (AreBelow c.args.version) (sym c.self.view_is) c.requires))
