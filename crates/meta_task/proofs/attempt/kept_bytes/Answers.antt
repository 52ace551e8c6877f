use Rattle.std.proofs.Common.{ap, ◌∙◌}
use Rattle.fs_base.specs.declared.reply.Reply.{Reply}
use Rattle.row_records.specs.Rows.{spelled_kept}
use Rattle.row_tree.specs.Values.{spelled_value}
use Rattle.meta_task.proofs.attempt.kept_bytes.Goals as goal

pub returns : goal.returns
unfolding spelled_value
returns c = c.in_ok-bytes.ensures ∙ ap (λ (r : Reply). spelled_kept (record { number = c.args.number; reply = r })) c.in_ok-reply.ensures
