-- What the receipts of a client that is alone say of its commits.
use Rattle.std.specs.Prelude.{◌≡◌, ℕ, ◌+◌, List, [], ◌∷◌, if◌then◌else◌}
use Rattle.run_record.specs.declared.run.Listed.{Listed}

-- how many commits there are with this call's
abbrev pub commits_with : ℕ → Listed → ℕ
commits_with commits listed = if listed.receipt.committed then commits + 1 else commits

-- the version of each reply is the number of the client's own commits so far
abbrev pub CountCommits : ℕ → List Listed → Type 0
CountCommits commits [] = Unit {0}
CountCommits commits (listed ∷ rest) =
    (listed.receipt.version ≡ commits_with commits listed) × CountCommits (commits_with commits listed) rest
