-- Keys and ranges in the order of a call's asks: what of them was read, and which ask is the next.
use Rattle.std.specs.Prelude.{◌≡◌, ◌⊎◌, ℕ, IsTrue, List, [], ◌∷◌, ◌++◌, map, Some, None}
use Rattle.std.specs.Ordering.{is_le}
use Rattle.fs_base.specs.declared.limits.TheConstants.{PAGE_ROWS}
use Rattle.conflict_sets.specs.Keys.{key_cmp}
use Rattle.conflict_sets.specs.declared.sets.ReadSet.{ReadSet}
use Rattle.key_schema.specs.declared.key.Key.{Key}
use Rattle.key_schema.specs.declared.key.Key.TheVariants as keys
use Rattle.key_schema.specs.Ranges.{dir_prefix, raised}
use Rattle.tree_model.specs.declared.walk.Walked.{Walked}
use Rattle.tree_model.specs.Walk.{Visit, Inode, Entry, Trip}
use Rattle.txn_task.specs.Pages.{first_read, next_page}
use Rattle.txn_task.specs.Wanted.{IsUnread, IsKeyRead, IsFirstRead}
use Rattle.txn_task.specs.declared.messages.Ask.{Ask}
use Rattle.txn_task.specs.declared.messages.Ask.TheVariants as asks

-- one key, the first row of a range, or all rows of a range, page by page
pub data Area : Type 0 where
  OneKey : (key : Key) → Area
  FirstRow : (lo hi : List ℕ) → Area
  Pages : (lo hi : List ℕ) → Area

-- the rows of a directory's entries
abbrev pub entries : ℕ → Area
entries dir = Pages (dir_prefix dir) (raised (dir_prefix dir))

-- ---- what a walk looks at

abbrev pub key_of_visit : Visit → Key
key_of_visit (Inode id) = keys.Inode id
key_of_visit (Entry dir name) = keys.Dent dir name

abbrev pub visited : Visit → Area
visited visit = OneKey (key_of_visit visit)

abbrev pub walked_areas : Trip → List Area
walked_areas trip = map visited trip.visits

-- a walk, and what is read where it ends
abbrev pub trip_areas : Trip → (Walked → List Area) → List Area
trip_areas trip at = walked_areas trip ++ at trip.end

-- ---- what was read

-- the area was read whole
abbrev pub IsRead : ReadSet → Area → Type 0
IsRead reads (OneKey key) = IsKeyRead reads key
IsRead reads (FirstRow lo hi) = IsFirstRead reads lo hi
IsRead reads (Pages lo hi) = next_page hi (Some lo) reads.ranges ≡ None

abbrev pub AreRead : ReadSet → List Area → Type 0
AreRead reads [] = Unit {0}
AreRead reads (area ∷ areas) = IsRead reads area × AreRead reads areas

-- ---- which ask is the next

-- the ask for what wasn't read yet of an area
abbrev pub IsAskOf : ReadSet → Area → Ask → Type 0
IsAskOf reads (OneKey key) (asks.Get other) = (other ≡ key) × IsUnread reads key
IsAskOf reads (FirstRow lo hi) (asks.Range from to limit) =
    (from ≡ lo) × (to ≡ hi) × (limit ≡ 1) × (first_read lo hi reads.ranges ≡ None)
IsAskOf reads (Pages lo hi) (asks.Range from to limit) =
    (to ≡ hi) × (limit ≡ PAGE_ROWS) × (next_page hi (Some lo) reads.ranges ≡ Some from)
IsAskOf reads area ask = ⊥

-- the ask for the first area that wasn't read whole
abbrev pub IsNextOf : ReadSet → List Area → Ask → Type 0
IsNextOf reads [] ask = ⊥
IsNextOf reads (area ∷ areas) ask = IsAskOf reads area ask ⊎ (IsRead reads area × IsNextOf reads areas ask)

-- ---- what lies in areas

abbrev pub IsArea : Area → List Area → Type 0
IsArea area [] = ⊥
IsArea area (other ∷ areas) = (area ≡ other) ⊎ IsArea area areas

abbrev pub IsRangeArea : List ℕ → List ℕ → List Area → Type 0
IsRangeArea lo hi areas = IsArea (FirstRow lo hi) areas ⊎ IsArea (Pages lo hi) areas

-- from somewhere in the range lo to hi up to its end
abbrev pub IsRangeOf : List ℕ → List ℕ → List ℕ → List ℕ → Type 0
IsRangeOf from to lo hi = IsTrue (is_le (key_cmp lo from)) × (to ≡ hi)

-- the other asks read no rows
abbrev pub Reaches : List Area → Ask → Type 0
Reaches areas (asks.Get key) = IsArea (OneKey key) areas
Reaches areas (asks.Range from to limit) =
    (lo : List ℕ) × (hi : List ℕ) × IsRangeArea lo hi areas × IsRangeOf from to lo hi
Reaches areas ask = Unit {0}
