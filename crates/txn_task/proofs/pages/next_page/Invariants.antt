use Rattle.std.proofs.Common.{◌≡◌, take}
use Rattle.txn_task.specs.Pages.{next_page}
use Rattle.txn_task.proofs.pages.next_page.Given as goal

abbrev pub invariant-loop-range : goal.invariant-loop-range
invariant-loop-range l = l.start ≡ next_page l.hi l.initial.start (take l.range-index l.ranges)
