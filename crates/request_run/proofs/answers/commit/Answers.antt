use Rattle.std.proofs.Common.{◌∙◌, sym, subst, ap, ◌+◌}
use Rattle.conflict_sets.specs.Reads.{RowsAgree}
use Rattle.kv_store.specs.Causes.{HasCommitCause}
use Rattle.request_run.specs.Entries.{entries_of}
use Rattle.request_run.proofs.Answering.{cause_keyed, cause_same, rows_are}
use Rattle.request_run.proofs.Rows.{entries-push, later_same, length_entries}
use Rattle.request_run.proofs.answers.commit.Goals as goal

pub commit-requires-clause-agreed : goal.commit-requires-clause-agreed
commit-requires-clause-agreed c = subst (λ rows. RowsAgree rows c.args.entry.reads) (sym (rows_are c.args.store.now c.args.snapshot c.requires.open)) c.requires.agreed

pub returns-in-Ok-clause-ok : goal.returns-in-Ok-clause-ok
returns-in-Ok-clause-ok c = (
  ap (λ store. entries_of store.journal) c.in-Ok.ensures.ok ∙ entries-push c.args.store.now.journal (record { entry = c.args.entry }),
  c.in-Ok.ensures.version ∙ ap (λ n. n + 1) (sym (length_entries c.args.store.now.journal)),
  sym (later_same c.args.store.now.journal c.args.snapshot c.args.entry.reads) ∙ c.in-Ok.ensures.alone,
)

pub returns-in-Err-clause-cause : goal.returns-in-Err-clause-cause
returns-in-Err-clause-cause c =
    subst (HasCommitCause _ _) (sym c.cause_of.ensures) (cause_same c.args.store.now c.args.snapshot c.args.entry.reads c.in-Err.refused.why c.in-Err.ensures.cause)

pub returns-in-Err-clause-keyed : goal.returns-in-Err-clause-keyed
returns-in-Err-clause-keyed c =
    cause_keyed c.args.store.now.config (entries_of c.args.store.now.journal) c.args.snapshot c.args.entry.reads _ c.cause_of.result c.sound_store.ensures.sound
    (subst (HasCommitCause _ _) (sym c.cause_of.ensures) (cause_same c.args.store.now c.args.snapshot c.args.entry.reads c.in-Err.refused.why c.in-Err.ensures.cause))
