-- Which server does the length work of an inode.
use Rattle.std.specs.Prelude.{◌≡◌, ◌≢◌, ℕ, ◌+◌, ◌*◌, ◌/◌, ◌%◌, ◌<◌, ◌≤◌, nat_lt, if◌then◌else◌, List, [], ◌∷◌, ◌++◌, ◌⊎◌, All, Contains}

abbrev pub score_from : ℕ → ℕ
score_from x = ((x * x) / 256) % 65536

unfoldable pub score : ℕ → ℕ → ℕ
score inode server = score_from (((inode % 65536) * 40503 + server * 30011 + 1) % 65536)

-- the greater score wins, and the first of equal ones
abbrev pub higher : ℕ → ℕ → ℕ → ℕ
higher inode first second = if nat_lt (score inode first) (score inode second) then second else first

abbrev pub owner_from : ℕ → ℕ → List ℕ → ℕ
owner_from inode best [] = best
owner_from inode best (server ∷ servers) = owner_from inode (higher inode best server) servers

-- the server of the greatest score, the first of equal ones; 0 where there are no servers
abbrev pub owner_of : ℕ → List ℕ → ℕ
owner_of inode [] = 0
owner_of inode (server ∷ servers) = owner_from inode server servers

-- each number is above this one
abbrev pub AreAbove : ℕ → List ℕ → Type 0
AreAbove n [] = Unit {0}
AreAbove n (m ∷ ms) = (n < m) × AreAbove n ms

abbrev pub IsRising : List ℕ → Type 0
IsRising [] = Unit {0}
IsRising (n ∷ ns) = AreAbove n ns × IsRising ns

-- the first stands higher: its score is greater, or the same at a number that isn't
abbrev pub Beats : ℕ → ℕ → ℕ → Type 0
Beats inode first second =
    (score inode second < score inode first) ⊎ ((score inode second ≡ score inode first) × (first ≤ second))

-- one of the servers, which none of them stands above
pub record IsOwner (inode : ℕ) (servers : List ℕ) (owner : ℕ) : Type 0 where
  pub among : Contains servers owner
  pub best : All (Beats inode owner) servers

-- without a server that stands among them, an inode that it didn't own has the owner that it had
abbrev pub KeepsOwners : Type 0
KeepsOwners =
    (inode gone : ℕ) (before after : List ℕ) → IsRising (before ++ gone ∷ after)
    → owner_of inode (before ++ gone ∷ after) ≢ gone
    → owner_of inode (before ++ after) ≡ owner_of inode (before ++ gone ∷ after)
