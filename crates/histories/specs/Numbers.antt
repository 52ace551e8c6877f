-- The numbers of the nodes and of the servers.
use Rattle.std.specs.Prelude.{ℕ, zero, suc, List, [], ◌∷◌, ◌++◌}
use Rattle.fs_base.specs.Config.{Settings}

-- 0 and so on, so many
abbrev pub numbers : ℕ → List ℕ
numbers zero = []
numbers (suc n) = numbers n ++ n ∷ []

abbrev pub all_servers : Settings → List ℕ
all_servers C = numbers C.servers
