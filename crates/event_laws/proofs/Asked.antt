-- Which server the newest event asks, and what servers count behind it.
use Rattle.std.proofs.Common.{◌≡◌, ◌≢◌, ℕ, zero, suc, ◌+◌, ◌<◌, Bool, true, false, cond, List, [], ◌∷◌, Some, None, inl, inr, length, refl, sym, ap, subst, ◌∙◌, arith}
use Rattle.std.specs.Prelude.{◌==◌, count_by, replicate, slice_get}
use Rattle.std.proofs.lemmas.Bool.{cases_eq, eq-eqb, eqb-true, ne_eqb}
use Rattle.std.proofs.lemmas.Option.{same_Some, slice_get_within}
use Rattle.run_record.proofs.Stopping.{count_by-cons}
use Rattle.client_core.specs.declared.plan.Plan.{Plan}
use Rattle.world_core.specs.EventList.{AreEvents, Event}
use Rattle.world_core.specs.World.{HasGone, IsOpening, WorldView}
use Rattle.world_core.proofs.Closing.{same_seats}
use Rattle.seat_turns.specs.Servers.{counted, no_counts, with_ask, with_stop}
use Rattle.seat_turns.specs.declared.seats.Seat.{Seat}
use Rattle.seat_turns.specs.declared.servers.ServerCounts.{ServerCounts}
use Rattle.event_laws.specs.Laws.{CountsAreOfEvents, UnaskedServersStay}
use Rattle.event_laws.specs.Moments.{asks_server, has_seat, is_at, makes_entry}
use Rattle.event_laws.proofs.Homing.{IsHome, asked_home, seats_home}
use Rattle.event_laws.proofs.Places.{there}

-- ---- the server

module _ (plan : Plan) (first : WorldView) (opening : IsOpening plan first) (event : Event) (earlier : List Event) (before : AreEvents first earlier event.before) (gone : HasGone event.before event.after event.client) where
  pub asks_is : (server : ℕ) → asks_server server event ≡ (gone.event.server == server)
  asks_is server =
      let same : length event.after.seats ≡ length event.before.seats = same_seats event.after event.before gone.same_plan in
      let seat : (s : Seat) × (slice_get event.before.seats event.client ≡ Some s) = there event.before.seats event.client gone.within in
      let later : (s : Seat) × (slice_get event.after.seats event.client ≡ Some s) = there event.after.seats event.client (subst (λ n. event.client < n) (sym same) gone.within) in
      let home : IsHome seat.0 = seats_home plan first opening earlier event.before before event.client seat.0 seat.1 in
      let server_is : gone.event.server ≡ seat.0.client.server
      = asked_home event gone.event.server gone.event.stop seat.0 later.0 home (gone.event.own seat.0 later.0 seat.1 later.1) in
      ap (has_seat (is_at server)) seat.1 ∙ ap (λ n. n == server) (sym server_is)

  pub asked_is : (server : ℕ) → asks_server server event ≡ true → gone.event.server ≡ server
  asked_is server asks = eqb-true gone.event.server server (sym (asks_is server) ∙ asks)

  -- a server that was not asked
  pub unasked : (server : ℕ) → asks_server server event ≡ false → slice_get event.after.counts server ≡ slice_get event.before.counts server
  unasked server none = gone.event.counted.others server other
    where
      other : server ≢ gone.event.server
      other same = absurd (let no : true ≡ false = sym (eq-eqb gone.event.server server (sym same)) ∙ (sym (asks_is server) ∙ none) in cc)

-- ---- its asks

opened : (n server : ℕ) (counts : ServerCounts) → slice_get (replicate n no_counts) server ≡ Some counts → counts.asks ≡ 0
opened zero server counts at = absurd (let no : None ≡ Some counts = at in cc)
opened (suc n) zero counts at = ap (λ (c : ServerCounts). c.asks) (same_Some counts no_counts (sym at))
opened (suc n) (suc server) counts at = opened n server counts at

stop_asks : (due : Bool) (counts : ServerCounts) → (with_stop due counts).0.asks ≡ counts.asks
stop_asks false counts = refl
stop_asks true counts = refl

-- the counts of the server that was asked, before the event and behind it
pub counted_there : (event : Event) → (gone : HasGone event.before event.after event.client) → (new : ServerCounts) → slice_get event.after.counts gone.event.server ≡ Some new
    → (old : ServerCounts) × (slice_get event.before.counts gone.event.server ≡ Some old) × (new ≡ (counted event.before.stops gone.event.server (makes_entry event) old).0)
counted_there event gone new at =
    let many : length event.after.counts ≡ length event.before.counts = gone.event.counted.many in
    let within : gone.event.server < length event.after.counts = slice_get_within event.after.counts gone.event.server new at in
    let old : (c : ServerCounts) × (slice_get event.before.counts gone.event.server ≡ Some c) = there event.before.counts gone.event.server (omega arith) in
    (old.0, old.1, same_Some new (counted event.before.stops gone.event.server (makes_entry event) old.0).0 (sym at ∙ (gone.event.counted.own old.0 old.1).0))

more_asks : (test : Event → Bool) (event : Event) (earlier : List Event) → test event ≡ true → count_by test (event ∷ earlier) ≡ count_by test earlier + 1
more_asks test event earlier is = let more : count_by test (event ∷ earlier) ≡ 1 + count_by test earlier = count_by-cons test event earlier ∙ ap (λ b. cond b 1 0 + count_by test earlier) is in omega arith

same_asks : (test : Event → Bool) (event : Event) (earlier : List Event) → test event ≡ false → count_by test (event ∷ earlier) ≡ count_by test earlier
same_asks test event earlier is = let more : count_by test (event ∷ earlier) ≡ 0 + count_by test earlier = count_by-cons test event earlier ∙ ap (λ b. cond b 1 0 + count_by test earlier) is in omega arith

-- what a server has counted, and what the events have of it
abbrev AreCounted : List Event → WorldView → Type 0
AreCounted events w = (server : ℕ) (counts : ServerCounts) → slice_get w.counts server ≡ Some counts → counts.asks ≡ count_by (asks_server server) events

module _ (plan : Plan) (first : WorldView) (opening : IsOpening plan first) (event : Event) (earlier : List Event) (before : AreEvents first earlier event.before) (gone : HasGone event.before event.after event.client) (so_far : AreCounted earlier event.before) where
  one_asked : (server : ℕ) (counts : ServerCounts) → slice_get event.after.counts server ≡ Some counts → gone.event.server ≡ server → counts.asks ≡ count_by (asks_server server) (event ∷ earlier)
  one_asked server counts at same =
      let was : (old : ServerCounts) × (slice_get event.before.counts gone.event.server ≡ Some old) × (counts ≡ (counted event.before.stops gone.event.server (makes_entry event) old).0)
      = counted_there event gone counts (subst (λ n. slice_get event.after.counts n ≡ Some counts) (sym same) at) in
      let one_more : counts.asks ≡ was.0.asks + 1 = ap (λ (c : ServerCounts). c.asks) was.2 ∙ stop_asks _ (with_ask (makes_entry event) was.0) in
      let old : was.0.asks ≡ count_by (asks_server server) earlier = so_far server was.0 (subst (λ n. slice_get event.before.counts n ≡ Some was.0) same was.1) in
      let new : count_by (asks_server server) (event ∷ earlier) ≡ count_by (asks_server server) earlier + 1
      = more_asks (asks_server server) event earlier (asks_is plan first opening event earlier before gone server ∙ eq-eqb gone.event.server server same) in
      omega arith

  one_other : (server : ℕ) (counts : ServerCounts) → slice_get event.after.counts server ≡ Some counts → gone.event.server ≢ server → counts.asks ≡ count_by (asks_server server) (event ∷ earlier)
  one_other server counts at apart =
      let old : counts.asks ≡ count_by (asks_server server) earlier = so_far server counts (sym (gone.event.counted.others server (λ e. apart (sym e))) ∙ at) in
      let new : count_by (asks_server server) (event ∷ earlier) ≡ count_by (asks_server server) earlier
      = same_asks (asks_server server) event earlier (asks_is plan first opening event earlier before gone server ∙ ne_eqb gone.event.server server apart) in
      omega arith

  one_more : AreCounted (event ∷ earlier) event.after
  one_more server counts at = elim (cases_eq gone.event.server server) [ inl same ↦ one_asked server counts at same | inr apart ↦ one_other server counts at apart ]

pub asks_along : (plan : Plan) (first : WorldView) → IsOpening plan first → (events : List Event) (last : WorldView) → AreEvents first events last → AreCounted events last
asks_along plan first opening [] last h server counts at =
    opened plan.config.servers server counts (subst (λ (all : List ServerCounts). slice_get all server ≡ Some counts) (ap (λ (w : WorldView). w.counts) h ∙ opening.counts) at)
asks_along plan first opening (event ∷ earlier) last h server counts at =
    one_more plan first opening event earlier h.2 h.1 (asks_along plan first opening earlier event.before h.2) server counts (subst (λ (w : WorldView). slice_get w.counts server ≡ Some counts) (sym h.0) at)

pub counts_of_events : CountsAreOfEvents
counts_of_events plan event earlier server counts ends at = record {
  asks = asks_along plan ends.first ends.opening (event ∷ earlier) event.after ends.events server counts at;
  commits = ((ends.events.1.world.seated ends.events.1.alive).counted.each server counts at).commits;
}

pub unasked_stay : UnaskedServersStay
unasked_stay plan event earlier server ends none = unasked plan ends.first ends.opening event earlier ends.events.2 ends.events.1 server none
