use Rattle.std.proofs.Common.{◌≡◌, false, ap, subst, sym, ◌∙◌}
use Rattle.request_run.specs.Entries.{entries_of}
use Rattle.seat_turns.specs.Left.{AreSeatsAhead, has_left}
use Rattle.world_core.specs.World.{WorldView}
use Rattle.seat_turns.proofs.Ahead.{none_left}
use Rattle.world_core.proofs.world.World.enough_rounds.Goals as goal

pub returns : goal.returns
returns c =
    let alive : c.self.inside.failed ≡ false = ap (λ (w : WorldView). w.failed) c.self.view_is ∙ c.requires.alive in
    subst (λ (w : WorldView). has_left w.seats ≡ false) c.self.view_is
    (none_left c.self.inside.config c.self.inside.attempts c.self.inside.servers.stops (entries_of c.self.inside.store.journal) c.self.inside.seats.items (c.self.invariant.seated alive).all
    (subst (λ (w : WorldView). AreSeatsAhead 4000 w.seats) (sym c.self.view_is) c.requires.ahead))
