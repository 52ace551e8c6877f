-- Where a request has ended.
use Rattle.std.specs.Prelude.{Bool, true, false, IfSome}
use Rattle.client_core.specs.Files.{IsFileSound}
use Rattle.fs_base.specs.Config.{Settings}
use Rattle.meta_task.specs.Task.{TaskView}
use Rattle.txn_task.specs.declared.messages.Ask.{Ask}
use Rattle.txn_task.specs.declared.messages.Ask.TheVariants as asks

-- nothing is asked any more
abbrev pub is_done : Ask → Bool
is_done asks.Done = true
is_done ask = false

-- a file that the reply of what it came to shows is laid out as the configuration asks
abbrev pub TellsSound : Settings → TaskView → Type 0
TellsSound C task = IfSome task.outcome (λ outcome. IsFileSound C outcome.reply)
