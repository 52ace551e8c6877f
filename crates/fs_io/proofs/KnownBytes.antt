-- Known bytes after several reads or writes.
use Rattle.std.proofs.Common.{◌≡◌, ℕ, ◌+◌, List, ◌++◌, take, drop, Option, sym, drop-drop, take-append-drop}
use Rattle.std.proofs.Math.Seq.{take-add}
use Rattle.std.proofs.KnownBytes.{Appends-trans}
use Rattle.std.specs.Io.KnownBytes.{Appends}

-- the first i, and then the next n, are the first i + n
pub Appends-then : (old mid new : Option (List ℕ)) (xs : List ℕ) (i n : ℕ) → Appends old mid (take i xs) → Appends mid new (take n (drop i xs)) → Appends old new (take (i + n) xs)
Appends-then old mid new xs i n first next =
    rw (take-add i n xs) (Appends-trans old mid new _ _ first next)

-- what is left at i is the next n, and then what is left at i + n
pub drop-append-drop : (i n : ℕ) (xs : List ℕ) → drop i xs ≡ take n (drop i xs) ++ drop (i + n) xs
drop-append-drop i n xs = rw (← drop-drop n i xs) (sym (take-append-drop n (drop i xs)))
