-- A list of events, one after another, with the worlds between them.
use Rattle.std.specs.Prelude.{◌≡◌, ℕ, List, [], ◌∷◌}
use Rattle.world_core.specs.World.{HasGone, WorldView}

-- whose turn it was, and the worlds before and after it
pub record Event : Type 0 where
  pub client : ℕ
  pub before : WorldView
  pub after : WorldView

-- the newest one first: from one world to another, each event begins where the one before it ended
abbrev pub AreEvents : WorldView → List Event → WorldView → Type 0
AreEvents old [] new = new ≡ old
AreEvents old (event ∷ earlier) new =
    (event.after ≡ new) × HasGone event.before event.after event.client × AreEvents old earlier event.before
