-- The asks that look at rows.
use Rattle.txn_task.specs.declared.messages.Ask.{Ask}
use Rattle.txn_task.specs.declared.messages.Ask.TheVariants as asks

abbrev pub IsLook : Ask → Type 0
IsLook (asks.Get key) = Unit {0}
IsLook (asks.Range lo hi limit) = Unit {0}
IsLook ask = ⊥
