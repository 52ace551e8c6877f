use Rattle.std.proofs.Common.{◌≡◌, take}
use Rattle.fs_base.proofs.reply_copy.copy_names.Given as goal

abbrev pub invariant-loop-entry : goal.invariant-loop-entry
invariant-loop-entry l = l.copy ≡ take l.entry-index l.entries
