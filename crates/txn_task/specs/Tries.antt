-- The attempts that a request may make, and the conflicts that it met.
use Rattle.std.specs.Prelude.{ℕ, List}
use Rattle.key_schema.specs.declared.key.Key.{Key}

pub record Tries : Type 0 where
  pub attempts : ℕ
  -- of each attempt before this one: the version of the later entry, and the key
  pub conflicts : List (ℕ × Key)
