-- A value put back where another was inserted.
use Rattle.std.proofs.Common.{◌≡◌, ℕ}
use Rattle.std.specs.Prelude.{Option, Some, IsSome}
use Rattle.std.specs.Ordering.{nat_cmp}
use Rattle.std.specs.FinMap.{FinMap, get, insert}
use Rattle.tree_model.specs.Maps.{set}
use Rattle.tree_model.proofs.MapLaws.{ids, there_after, undone, set-set}

pub there_by_id : {X : Type 0} (m : FinMap nat_cmp X) (k : ℕ) (v : X) → IsSome (get (insert m k v) k)
there_by_id m k v = there_after ids m k v

pub undone_by_id : {X : Type 0} (m : FinMap nat_cmp X) (k : ℕ) (v : X) (w : Option X) → w ≡ get m k → set (insert m k v) k w ≡ m
undone_by_id m k v w is = undone ids m k (Some v) w is

pub over_by_id : {X : Type 0} (m : FinMap nat_cmp X) (k : ℕ) (v w : X) → insert (insert m k v) k w ≡ insert m k w
over_by_id m k v w = set-set ids m k (Some v) (Some w)
