-- What a step owes where the walk has ended.
use Rattle.fs_base.specs.Config.{Settings}
use Rattle.tree_model.specs.declared.walk.Walked.{Walked}
use Rattle.txn_task.specs.Transactions.{Transaction}
use Rattle.txn_task.specs.declared.messages.OpStep.{OpStep}
use Rattle.path_walk.specs.Owed.{HasDone}
use Rattle.op_attr.specs.declared.task.AttrCall.{AttrCall}
use Rattle.op_attr.specs.Attr.{at_end_of, read_at}

-- under whatever configuration it reads what the call reads there, and does what the call does there
abbrev pub IsAttrEndStep : AttrCall → Walked → Transaction → Transaction → OpStep → Type 0
IsAttrEndStep call walked before after s =
    (C : Settings) → HasDone C (λ T. read_at call walked) (λ T. at_end_of call T walked) before after s
