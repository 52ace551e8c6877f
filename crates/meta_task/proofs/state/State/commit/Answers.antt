use Rattle.std.proofs.Common.{sym, subst, refl, ◌∙◌}
use Rattle.conflict_sets.specs.declared.sets.ReadSet.{ReadSet}
use Rattle.fs_base.specs.declared.call.Request.{Request}
use Rattle.path_walk.specs.Footprint.{footprint}
use Rattle.path_walk.specs.Owed.{HasRead}
use Rattle.path_walk.specs.Sound.{IsSoundEntry}
use Rattle.meta_task.proofs.state.State.commit.Goals as goal

pub returns-clause-goes : goal.returns-clause-goes
returns-clause-goes c =
    let parts = c.in_ok-request.field-0 in
    let told = c.in_ok-request.ensures.parts in
    let kept = c.in_ok-request.ensures.kept in (
      rw (c.set_waiting.ensures, told.1, kept.0, kept.1) refl,
      c.requires.going.begun,
      told.0,
      told.2 ∙ sym kept.0,
      subst (λ (q : Request). IsSoundEntry c.args.self.now.config (record { request = q; reply = c.args.reply; asked = c.args.asked; reads = parts.reads; writes = parts.writes })) (sym told.0)
          (subst (λ (reads : ReadSet). IsSoundEntry c.args.self.now.config (record { request = c.args.self.now.request; reply = c.args.reply; asked = c.args.asked; reads = reads; writes = parts.writes })) (sym told.2)
          (c.requires.sound parts.writes c.in_ok-request.ensures.writes)),
      subst (λ (reads : ReadSet). HasRead c.args.self.now.config (λ T. footprint c.args.self.now.config T c.args.self.now.request) reads) (sym kept.0) c.requires.all,
    )
