use Rattle.std.proofs.Common.{◌≡◌, ◌∙◌, ◌++◌, [], ◌∷◌, append-nil, append_assoc, sym, ap, List}
use Rattle.run_record.specs.declared.run.Listed.{Listed}
use Rattle.seat_turns.specs.Seats.{receipts_in}
use Rattle.seat_turns.specs.declared.seats.Seat.{Seat}
use Rattle.world_core.proofs.record.receipts.Goals as goal

push : (seats : List Seat) (seat : Seat) → receipts_in (seats ++ seat ∷ []) ≡ receipts_in seats ++ seat.receipts
push [] seat = append-nil seat.receipts
push (x ∷ seats) seat =
    ap (λ (rest : List Listed). x.receipts ++ rest) (push seats seat)
    ∙ sym (append_assoc x.receipts (receipts_in seats) seat.receipts)

pub loop-seat-preserved : goal.loop-seat-preserved
loop-seat-preserved c =
    c.in_ok-append.ensures ∙ (ap (λ (all : List Listed). all ++ c.receipts_of.result) c.loop-seat.invariant
    ∙ (ap (λ (own : List Listed). receipts_in c.loop-seat.yielded ++ own) c.receipts_of.ensures
    ∙ sym (push c.loop-seat.yielded c.in-Some.seat)))
