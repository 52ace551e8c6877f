use Rattle.std.proofs.Common.{◌≡◌, ℕ, ◌<◌, ◌≤◌, false, get_or, take, vec_len}
use Rattle.std.specs.Prelude.{vec_capacity}
use Rattle.std.specs.Slots.{slots_filled, slots_items, slots_len}
use Rattle.std.specs.Slots.Ownership.{Filled}
use Rattle.hist_board.proofs.closing.unload.Given as goal

abbrev pub invariant-loop-i : goal.invariant-loop-i
invariant-loop-i g l =
    Filled (slots_filled l.closed.slots) l.i (slots_len l.closed.slots)
    × ((k : ℕ) → k < l.i → get_or (slots_filled l.closed.slots) k false ≡ false)
    × (slots_items l.closed.slots ≡ slots_items l.initial.closed.slots)
    × (slots_len l.closed.slots ≡ slots_len l.initial.closed.slots)
    × (l.objects.items ≡ take l.i (slots_items l.initial.closed.slots)) × (vec_len l.objects ≡ l.i)
    × (slots_len l.initial.closed.slots ≤ vec_capacity l.objects)
