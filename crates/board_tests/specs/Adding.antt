-- What adding to a list does.
use Rattle.std.specs.Prelude.{◌≡◌, List, [], ◌∷◌, ◌++◌, Result, Ok, Err}

-- the item was added at the end; or there was no memory, and the list is as it was
abbrev pub HasAdded : {I E : Type 0} → List I → I → Result (Unit {0}) E → List I → Type 0
HasAdded before item (Ok _) after = after ≡ before ++ item ∷ []
HasAdded before item (Err _) after = after ≡ before
