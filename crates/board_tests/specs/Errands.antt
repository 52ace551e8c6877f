-- The errands of an entry, and what a log says of one client.
use Rattle.std.specs.Prelude.{◌≡◌, ℕ, ◌==◌, zero, suc, if◌then◌else◌, List, [], ◌∷◌, ◌++◌}
use Rattle.board_tests.specs.declared.log.Entry.{Entry}
use Rattle.board_tests.specs.declared.log.Log.{Log}

-- its client
abbrev pub errand_of : Entry → List ℕ
errand_of entry = entry.client ∷ []

-- the numbers of a client's entries, in order
abbrev pub numbers_of : ℕ → List Entry → List ℕ
numbers_of client [] = []
numbers_of client
    (entry ∷ entries) = if entry.client == client then entry.number ∷ numbers_of client entries else numbers_of client entries

-- the numbers below n, in order
unfoldable pub numbers_below : ℕ → List ℕ
numbers_below zero = []
numbers_below (suc n) = numbers_below n ++ n ∷ []

-- it is one log, in which the clients 0 and 1 have the numbers below n, each once and in order
abbrev pub HasEachOnce : ℕ → List Log → Type 0
HasEachOnce n logs = (log : Log) × (logs ≡ log ∷ []) × (numbers_of 0 log.items.items ≡ numbers_below n) ×
    (numbers_of 1 log.items.items ≡ numbers_below n)
