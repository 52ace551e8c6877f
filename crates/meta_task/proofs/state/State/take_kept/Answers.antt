use Rattle.std.proofs.Common.{inr, subst, sym}
use Rattle.conflict_sets.specs.declared.sets.ReadSet.{ReadSet}
use Rattle.fs_base.specs.declared.code.Code.TheVariants.{Stale}
use Rattle.fs_base.specs.declared.reply.Reply.TheVariants.{Refused}
use Rattle.key_schema.specs.declared.key.Key.TheVariants as keys
use Rattle.path_walk.specs.Footprint.{footprint}
use Rattle.path_walk.specs.Owed.{HasRead, IsKeptBefore}
use Rattle.path_walk.specs.Sound.{IsJustifiedReply}
use Rattle.txn_task.specs.Wanted.{IsKeyRead}
use Rattle.meta_task.proofs.KeptLaws.{kept_all, kept_earlier, kept_read, kept_stale}
use Rattle.meta_task.proofs.state.State.take_kept.Goals as goal

pub begin-requires-clause-new : goal.begin-requires-clause-new
begin-requires-clause-new c =
    let q = c.args.self.now.request in
    inr (
      c.requires.update,
      subst (λ (r : ReadSet). IsKeptBefore r q) (sym c.requires.reads) (kept_earlier q c.args.got.value c.requires.going.taken.client (rw c.in-Earlier.is at c.in_ok-kept.ensures)),
      subst (λ (r : ReadSet). IsKeyRead r (keys.Idem q.client)) (sym c.requires.reads) (kept_read q c.args.got.value),
    )

pub tell-requires-clause-told : goal.tell-requires-clause-told
tell-requires-clause-told c =
    let q = c.args.self.now.request in
    subst (λ (r : ReadSet). IsJustifiedReply c.args.self.now.config q r (Refused (Stale c.in-Later.number))) (sym c.requires.reads)
    (kept_stale c.args.self.now.config q c.args.got.value c.in-Later.number c.requires.going.taken.client c.requires.update (rw c.in-Later.is at c.in_ok-kept.ensures))

pub tell-requires-clause-all : goal.tell-requires-clause-all
tell-requires-clause-all c =
    let q = c.args.self.now.request in
    let C = c.args.self.now.config in
    subst (λ (r : ReadSet). HasRead C (λ T. footprint C T q) r) (sym c.requires.reads)
    (kept_all C q c.args.got.value c.in-Later.number c.requires.going.taken.client c.requires.update (rw c.in-Later.is at c.in_ok-kept.ensures))
