use Rattle.std.proofs.Common.{◌≡◌, ℕ, Option, sym, ap, subst, ◌∙◌}
use Rattle.fs_base.specs.declared.call.Request.{Request}
use Rattle.client_core.specs.Client.{ClientView, answered_on, end_call, fd_at}
use Rattle.client_core.specs.Descriptors.{descriptor_after, descriptors_after, with_descriptor}
use Rattle.client_core.specs.Files.{IsFileSound}
use Rattle.client_core.specs.Moved.{IsUnderWay}
use Rattle.client_core.specs.declared.descriptors.Descriptor.{Descriptor}
use Rattle.client_core.proofs.Moved.{answered_is, under_way_ended}
use Rattle.client_core.proofs.state.ClientState.end_call.Goals as goal

pub returns-clause-client : goal.returns-clause-client
returns-clause-client c =
    let then : ClientView =
    record {
      config = c.self.inside.config;
      script = c.self.inside.script;
      op = c.self.inside.op;
      number = c.self.inside.number;
      server = c.self.inside.server;
      descriptors = c.self.inside.descriptors;
      gone = c.self.inside.gone;
      request = c.self.inside.request;
      failed = c.self.inside.failed;
    } in
    let request : Request = c.in-Some.request in
    let fd : c.fd-fd.result ≡ fd_at then.script.ops then.op = c.fd-fd.ensures ∙ ap (λ (v : ClientView). fd_at v.script.ops v.op) (sym c.self.view_is) in
    let one : c.descriptor_after-descriptor.result ≡ descriptor_after request c.args.outcome c.at.result = c.descriptor_after-descriptor.ensures in
    let kept : c.put.new.self ≡ answered_on then request c.args.outcome =
    c.put.ensures
    ∙ (ap (λ (d : Option Descriptor). with_descriptor then.descriptors c.fd-fd.result d) (one ∙ ap (descriptor_after request c.args.outcome) c.at.ensures)
    ∙ ap (λ (n : Option ℕ). descriptors_after then.descriptors n request c.args.outcome) fd) in
    answered_is then c.args.server c.args.outcome request c.put.new.self c.new.result c.in-Some.is kept c.new.ensures
    ∙ ap (λ (v : ClientView). (end_call v c.args.server c.args.outcome v.request).0) c.self.view_is

pub invariant_of-self : goal.invariant_of-self
invariant_of-self c =
    let then : ClientView =
    record {
      config = c.self.inside.config;
      script = c.self.inside.script;
      op = c.self.inside.op;
      number = c.self.inside.number;
      server = c.self.inside.server;
      descriptors = c.self.inside.descriptors;
      gone = c.self.inside.gone;
      request = c.self.inside.request;
      failed = c.self.inside.failed;
    } in
    let request : Request = c.in-Some.request in
    let fd : c.fd-fd.result ≡ fd_at then.script.ops then.op = c.fd-fd.ensures ∙ ap (λ (v : ClientView). fd_at v.script.ops v.op) (sym c.self.view_is) in
    let one : c.descriptor_after-descriptor.result ≡ descriptor_after request c.args.outcome c.at.result = c.descriptor_after-descriptor.ensures in
    let kept : c.put.new.self ≡ answered_on then request c.args.outcome =
    c.put.ensures
    ∙ (ap (λ (d : Option Descriptor). with_descriptor then.descriptors c.fd-fd.result d) (one ∙ ap (descriptor_after request c.args.outcome) c.at.ensures)
    ∙ ap (λ (n : Option ℕ). descriptors_after then.descriptors n request c.args.outcome) fd) in
    let file : IsFileSound then.config c.args.outcome.reply = subst (λ (v : ClientView). IsFileSound v.config c.args.outcome.reply) (sym c.self.view_is) c.requires in
    subst (λ (v : ClientView). IsUnderWay v)
    (sym (answered_is then c.args.server c.args.outcome request c.put.new.self c.new.result c.in-Some.is kept c.new.ensures))
    (under_way_ended then c.args.server c.args.outcome file c.self.invariant)
