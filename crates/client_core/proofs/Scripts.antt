-- Where no plan has a sweeper, the scripts of its run are the clients'.
use Rattle.std.proofs.Common.{◌≡◌, List, append-nil, sym, subst}
use Rattle.client_core.specs.Plans.{AreDistinct, IsPlan}
use Rattle.client_core.specs.Scripts.{scripts_in}
use Rattle.client_core.specs.declared.plan.Plan.{Plan}
use Rattle.client_core.specs.declared.plan.Script.{Script}

pub scripts_are : (plan : Plan) → scripts_in plan ≡ plan.clients
scripts_are plan = append-nil plan.clients

-- scripts with one id are one
pub distinct_scripts : (plan : Plan) → IsPlan plan → AreDistinct (scripts_in plan)
distinct_scripts plan h = subst (λ (scripts : List Script). AreDistinct scripts) (sym (scripts_are plan)) h.distinct
