-- What a task waits for that has asked.
use Rattle.std.specs.Prelude.{◌≡◌}
use Rattle.txn_task.specs.declared.messages.Ask.{Ask}
use Rattle.txn_task.specs.declared.messages.Ask.TheVariants as asks
use Rattle.meta_task.specs.declared.waiting.Waiting.{Waiting}
use Rattle.meta_task.specs.declared.waiting.Waiting.TheVariants as waits

abbrev pub TaskAwaits : Waiting → Ask → Type 0
TaskAwaits waiting asks.Begin = waiting ≡ waits.Beginning
TaskAwaits waiting (asks.Get key) = waiting ≡ waits.Reading (asks.Get key)
TaskAwaits waiting (asks.Range lo hi limit) = waiting ≡ waits.Reading (asks.Range lo hi limit)
TaskAwaits waiting (asks.Commit entry) = waiting ≡ waits.Committing entry.reply
TaskAwaits waiting asks.Done = waiting ≡ waits.Ended
TaskAwaits waiting ask = ⊥
