-- What was read and is written at a key.
use Rattle.std.specs.Prelude.{ℕ, List, [], ◌∷◌, Option, Some, None, if◌then◌else◌}
use Rattle.std.specs.Ordering.{is_eq}
use Rattle.std.specs.declared.cmp.Ordering.{Ordering}
use Rattle.std.specs.declared.cmp.Ordering.TheVariants.{Less, Equal, Greater}
use Rattle.conflict_sets.specs.Keys.{key_cmp}
use Rattle.conflict_sets.specs.declared.sets.Write.{Write}
use Rattle.conflict_sets.specs.declared.sets.KeyRead.{KeyRead}

-- before the write, in its place, or after it
abbrev pub put_at : Ordering → Write → Write → List Write → List Write → List Write
put_at Less new write writes later = new ∷ write ∷ writes
put_at Equal new write writes later = new ∷ writes
put_at Greater new write writes later = write ∷ later

-- the writes with the write of one key set
abbrev pub set_write : List ℕ → Option (List ℕ) → List Write → List Write
set_write key value [] = record { key = key; value = value } ∷ []
set_write key value (write ∷ writes) =
    put_at (key_cmp key write.key) (record { key = key; value = value }) write writes
    (set_write key value writes)

-- what was read at a key, if it was read
abbrev pub read_of : List KeyRead → List ℕ → Option (Option (List ℕ))
read_of [] key = None
read_of (read ∷ reads) key = if is_eq (key_cmp key read.key) then Some read.value else read_of reads key

-- the version that last wrote a key, if it was read: each read's stands at the same place
abbrev pub version_of : List KeyRead → List ℕ → List ℕ → Option ℕ
version_of [] versions key = None
version_of (read ∷ reads) [] key = None
version_of (read ∷ reads) (version ∷ versions) key =
    if is_eq (key_cmp key read.key) then Some version else version_of reads versions key

-- what is written at a key, if it is
abbrev pub written_at : List Write → List ℕ → Option (Option (List ℕ))
written_at [] key = None
written_at (write ∷ writes) key =
    if is_eq (key_cmp key write.key) then Some write.value else written_at writes key
