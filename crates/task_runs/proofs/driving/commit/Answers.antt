use Rattle.std.proofs.Common.{sym, subst}
use Rattle.meta_task.specs.Task.{MayTake}
use Rattle.meta_task.specs.declared.waiting.Waiting.{Waiting}
use Rattle.task_runs.proofs.driving.commit.Goals as goal

pub next-requires : goal.next-requires
next-requires c = subst (λ (w : Waiting). MayTake w c.in_ok-answer.answer) (sym c.requires.1) (c.in_ok-answer.ensures c.requires.0)
