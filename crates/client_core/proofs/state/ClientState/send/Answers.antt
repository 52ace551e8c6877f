use Rattle.std.proofs.Common.{◌≡◌, ◌+◌, Option, Some, sym, subst, ◌∙◌}
use Rattle.std.specs.Prelude.{option_map, slice_get, IfSome}
use Rattle.fs_base.specs.declared.call.Request.{Request}
use Rattle.path_walk.specs.Requests.{IsRequest}
use Rattle.client_core.specs.Client.{ClientView, next_request}
use Rattle.client_core.specs.Moved.{IsUnderWay}
use Rattle.client_core.proofs.Moved.{under_way_sent}
use Rattle.client_core.proofs.state.ClientState.send.Goals as goal

pub invariant_of-self : goal.invariant_of-self
invariant_of-self c =
    let now : ClientView = c.args.self.now in
    let request : Request = c.in-Some.request in
    let was : IsUnderWay now = subst (λ (v : ClientView). IsUnderWay v) c.self.view_is c.self.invariant in
    let is : Some request ≡ option_map (next_request now) (slice_get now.script.ops now.op) = sym c.in-Some.is ∙ c.in_ok-request.ensures.gives in
    let valid : IsRequest now.config request = subst (λ (o : Option Request). IfSome o (IsRequest now.config)) c.in-Some.is c.in_ok-request.ensures.valid in
    let sent : IsUnderWay (record now { number = now.number + 1; request = Some request }) = under_way_sent now request was c.requires is valid in
    let then : ClientView =
    record {
      config = c.self.inside.config;
      script = c.self.inside.script;
      op = c.self.inside.op;
      number = c.self.inside.number;
      server = c.self.inside.server;
      descriptors = c.self.inside.descriptors;
      gone = c.self.inside.gone;
      request = c.self.inside.request;
      failed = c.self.inside.failed;
    } in
    subst (λ (q : Request). IsUnderWay (record then { number = then.number + 1; request = Some q })) (sym c.in_ok-copy.ensures)
    (subst (λ (v : ClientView). IsUnderWay (record v { number = v.number + 1; request = Some request })) (sym c.self.view_is) sent)
