use Rattle.std.proofs.Common.{◌≡◌, []}
use Rattle.std.proofs.lemmas.Result.{IfOk-weaker}
use Rattle.request_run.specs.Sound.{IsStoreOpening}
use Rattle.world_core.proofs.Closing.{store_open}
use Rattle.world_core.proofs.world.new_store.Goals as goal

pub returns-clause-begun : goal.returns-clause-begun
returns-clause-begun c =
    IfOk-weaker c.new.result (λ store. store ≡ record { config = c.args.config.now; opening = c.in_ok-rows.rows; journal = [] }) (λ store. IsStoreOpening store)
    (λ store is. store_open c.args.config.now c.in_ok-rows.rows store c.in_ok-rows.ensures.value c.in_ok-rows.ensures.tree is)
    c.new.ensures
