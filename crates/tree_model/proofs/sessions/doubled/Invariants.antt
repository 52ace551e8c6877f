use Rattle.std.proofs.Common.{◌≡◌, ◌-◌, ◌≤◌}
use Rattle.tree_model.specs.Sessions.{doubled}
use Rattle.tree_model.proofs.sessions.doubled.Given as goal

-- what is left to double comes to the same
abbrev pub invariant-loop : goal.invariant-loop
invariant-loop l =
    record { same : doubled (16 - l.counter) l.place l.doubled ≡ doubled 16 l.fn.place l.fn.hint; place : l.place ≡ l.fn.place; small : l.doubled ≤ 131070 }
