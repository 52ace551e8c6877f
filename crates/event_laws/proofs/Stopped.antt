-- What a stop of its server leaves of a client.
use Rattle.std.proofs.Common.{◌≡◌, ℕ, Bool, true, false, cond, Option, Some, None, refl, sym, ap}
use Rattle.std.specs.Prelude.{◌==◌}
use Rattle.seat_turns.specs.Events.{after_stop, lost_at, taken_away}
use Rattle.seat_turns.specs.declared.seats.Seat.{Seat}
use Rattle.seat_turns.specs.declared.seats.Work.{Work}

-- where the call under way began: its request is being served, or is to be sent again
abbrev pub call_front : Option Work → Option ℕ → Option ℕ
call_front (Some work) again = Some work.front
call_front None again = again

module _ (server stop : ℕ) (seat : Seat) where
  lost_receipts : (w : Option Work) → (lost_at server stop seat w).receipts ≡ seat.receipts
  lost_receipts None = refl
  lost_receipts (Some work) = by_server (work.server == server)
    where
      by_server : (b : Bool) → (cond b (taken_away stop work seat) seat).receipts ≡ seat.receipts
      by_server true = refl
      by_server false = refl

  lost_work : (w : Option Work) (work : Work) → (lost_at server stop seat w).work ≡ Some work → seat.work ≡ Some work
  lost_work None work at = at
  lost_work (Some old) work at = by_server (old.server == server) at
    where
      by_server : (b : Bool) → (cond b (taken_away stop old seat) seat).work ≡ Some work → seat.work ≡ Some work
      by_server true h = absurd (let none : None ≡ Some work = h in cc)
      by_server false h = h

  lost_front : (w : Option Work) → seat.work ≡ w → call_front (lost_at server stop seat w).work (lost_at server stop seat w).again ≡ call_front seat.work seat.again
  lost_front None is = refl
  lost_front (Some work) is = by_server (work.server == server)
    where
      by_server : (b : Bool) → call_front (cond b (taken_away stop work seat) seat).work (cond b (taken_away stop work seat) seat).again ≡ call_front seat.work seat.again
      by_server true = sym (ap (λ w. call_front w seat.again) is)
      by_server false = refl

-- ---- behind another client's event

module _ (server : ℕ) where
  pub stop_receipts : (stop : Option ℕ) (seat : Seat) → (after_stop server stop seat).receipts ≡ seat.receipts
  stop_receipts None seat = refl
  stop_receipts (Some stop) seat = lost_receipts server stop seat seat.work

  -- a request that is still served is the one that was
  pub stop_work : (stop : Option ℕ) (seat : Seat) (work : Work) → (after_stop server stop seat).work ≡ Some work → seat.work ≡ Some work
  stop_work None seat work at = at
  stop_work (Some stop) seat work at = lost_work server stop seat seat.work work at

  -- the call under way keeps its front
  pub stop_front : (stop : Option ℕ) (seat : Seat) → call_front (after_stop server stop seat).work (after_stop server stop seat).again ≡ call_front seat.work seat.again
  stop_front None seat = refl
  stop_front (Some stop) seat = lost_front server stop seat seat.work refl
