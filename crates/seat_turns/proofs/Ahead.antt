-- Turns, operations and rounds bring clients nearer to their scripts' ends.
use Rattle.std.proofs.Common.{◌≡◌, ◌≢◌, ℕ, suc, ◌+◌, ◌<◌, ◌≤◌, inl, inr, Bool, true, false, not, ◌||◌, List, [], ◌∷◌, Some, None, length, get_or, refl, sym, ap, ◌∙◌, arith}
use Rattle.std.specs.Prelude.{slice_get}
use Rattle.std.specs.List.{list_any}
use Rattle.std.proofs.lemmas.Bool.{cases_Bool, cases_eq}
use Rattle.std.proofs.lemmas.List.Folds.{list_any_at}
use Rattle.std.proofs.lemmas.List.{length-map}
use Rattle.std.proofs.lemmas.Option.{get_or_from_slice_get, slice_get_within, same_Some}
use Rattle.fs_base.specs.Config.{Settings}
use Rattle.txn_task.specs.declared.messages.Entry.{Entry}
use Rattle.client_core.specs.Client.{ClientView, has_ended}
use Rattle.client_core.specs.declared.plan.Script.{Script}
use Rattle.client_core.specs.declared.plan.Stop.{Stop}
use Rattle.seat_turns.specs.Kept.{IsSeat}
use Rattle.seat_turns.specs.Left.{AreSeatsAhead, EndsOne, SeatsGoOn, IsSeatAhead, KeepsOthers, Stays}
use Rattle.seat_turns.specs.Left.{has_left}
use Rattle.seat_turns.specs.Seats.{AllSeats, HaveEnded, scripts_of_seats}
use Rattle.seat_turns.specs.declared.seats.Seat.{Seat}
use Rattle.client_core.proofs.Ending.{ended_is, has_ended_by}
use Rattle.run_record.proofs.History.{at_there}
use Rattle.seat_turns.proofs.Seating.{script_at}
use Rattle.seat_turns.proofs.Working.{all_done}

-- ---- turns of one operation

pub stays : (seats : List Seat) (k : ℕ) → Stays seats seats k
stays seats k = record {
  others = λ j apart before after at_before at_after. ap (λ (s : Seat). s.client.op) (same_Some after before (sym at_after ∙ at_before));
  own = λ before after at_before at_after. ap (λ (s : Seat). s.client.op) (same_Some after before (sym at_after ∙ at_before));
}

module _ (old mid new : List Seat) (k : ℕ) (within : k < length mid) (many : length mid ≡ length old) (so_far : Stays old mid k) (turn : SeatsGoOn mid new k) where
  others : KeepsOthers old new k
  others j apart before after at_before at_after =
      let there : j < length old = slice_get_within old j before at_before in
      let between : (seat : Seat) × (slice_get mid j ≡ Some seat) = at_there mid j (omega arith) in
      turn.others j apart between.0 after between.1 at_after ∙ so_far.others j apart before between.0 at_before between.1

  pub stays_on : ((before after : Seat) → slice_get old k ≡ Some before → slice_get new k ≡ Some after → after.client.op ≡ before.client.op) → Stays old new k
  stays_on same = record { others = others; own = same }

  pub ends_one : ((before after : Seat) → slice_get old k ≡ Some before → slice_get new k ≡ Some after → after.client.op ≢ before.client.op) → EndsOne old new k
  ends_one apart = record { others = others; own = own }
    where
      own : (before after : Seat) → slice_get old k ≡ Some before → slice_get new k ≡ Some after → after.client.op ≡ before.client.op + 1
      own before after at_before at_after =
          let between : (seat : Seat) × (slice_get mid k ≡ Some seat) = at_there mid k within in
          let same : between.0.client.op ≡ before.client.op = so_far.own before between.0 at_before between.1 in
          elim (turn.own between.0 after between.1 at_after) [
            | inl still ↦ absurd (apart before after at_before at_after (still ∙ same))
            | inr more ↦ more ∙ ap (λ n. n + 1) same
          ]

module _ (old new : List Seat) (k : ℕ) (x y : Seat) (m n : ℕ) (at_x : slice_get old k ≡ Some x) (at_y : slice_get new k ≡ Some y) (is_m : m ≡ x.client.op) (is_n : n ≡ y.client.op) where
  op_of : (seats : List Seat) (x seat : Seat) → slice_get seats k ≡ Some x → slice_get seats k ≡ Some seat → x.client.op ≡ seat.client.op
  op_of seats x seat at_x at = ap (λ (s : Seat). s.client.op) (same_Some x seat (sym at_x ∙ at))

  pub ops_same : n ≡ m → (before after : Seat) → slice_get old k ≡ Some before → slice_get new k ≡ Some after → after.client.op ≡ before.client.op
  ops_same same before after at_before at_after = sym (op_of new y after at_y at_after) ∙ (sym is_n ∙ (same ∙ (is_m ∙ op_of old x before at_x at_before)))

  pub ops_apart : n ≢ m → (before after : Seat) → slice_get old k ≡ Some before → slice_get new k ≡ Some after → after.client.op ≢ before.client.op
  ops_apart apart before after at_before at_after e = apart (is_n ∙ (op_of new y after at_y at_after ∙ (e ∙ (sym (op_of old x before at_x at_before) ∙ sym is_m))))

-- ---- rounds

-- the clients before c have been asked for one more operation than the others
abbrev pub AreAheadTo : ℕ → ℕ → List Seat → Type 0
AreAheadTo rounds c seats = (k : ℕ) (seat : Seat) → slice_get seats k ≡ Some seat → IsSeatAhead rounds seat × (k < c → IsSeatAhead (rounds + 1) seat)

pub ahead_more : (rounds c : ℕ) (seats : List Seat) → length seats ≤ c → AreAheadTo rounds c seats → AreSeatsAhead (rounds + 1) seats
ahead_more rounds c seats all h k seat at = let l : k < length seats = slice_get_within seats k seat at in (h k seat at).1 (omega arith)

all_ended : (c : ClientView) → has_ended c ≡ true → length c.script.ops ≤ c.op
all_ended c ended = (ended_is c ended).1

-- the next client had nothing left
pub ahead_idle : (rounds c : ℕ) (seats : List Seat) → ((seat : Seat) → slice_get seats c ≡ Some seat → has_ended seat.client ≡ true) → AreAheadTo rounds c seats → AreAheadTo rounds (c + 1) seats
ahead_idle rounds c seats ended h k seat at = ((h k seat at).0, next)
  where
    next : k < c + 1 → IsSeatAhead (rounds + 1) seat
    next l = elim (cases_eq k c) [
      | inl same ↦ inr (all_ended seat.client (ended seat (ap (slice_get seats) (sym same) ∙ at)))
      | inr apart ↦ (h k seat at).1 (omega arith)
    ]

one_ahead : (rounds : ℕ) (before after : Seat) → after.client.script ≡ before.client.script → after.client.op ≡ before.client.op + 1 → IsSeatAhead rounds before → IsSeatAhead (rounds + 1) after
one_ahead rounds before after script more (inl some) = inl (omega arith)
one_ahead rounds before after script more (inr all) =
    let same : length after.client.script.ops ≡ length before.client.script.ops = ap (λ (s : Script). length s.ops) script in
    inr (omega arith)

as_far : (rounds : ℕ) (before after : Seat) → after.client.script ≡ before.client.script → after.client.op ≡ before.client.op → IsSeatAhead rounds before → IsSeatAhead rounds after
as_far rounds before after script op (inl some) = inl (omega arith)
as_far rounds before after script op (inr all) =
    let same : length after.client.script.ops ≡ length before.client.script.ops = ap (λ (s : Script). length s.ops) script in
    inr (omega arith)

-- an operation of the next client has ended
pub ahead_went : (rounds c : ℕ) (old new : List Seat) → c < length old → scripts_of_seats new ≡ scripts_of_seats old → EndsOne old new c → AreAheadTo rounds c old → AreAheadTo rounds (c + 1) new
ahead_went rounds c old new l scripts one h k seat at = elim (cases_eq k c) [ inl same ↦ here same | inr apart ↦ other apart ]
  where
    here : k ≡ c → IsSeatAhead rounds seat × (k < c + 1 → IsSeatAhead (rounds + 1) seat)
    here same =
        let before : (b : Seat) × (slice_get old c ≡ Some b) = at_there old c l in
        let at_c : slice_get new c ≡ Some seat = ap (slice_get new) (sym same) ∙ at in
        let more : seat.client.op ≡ before.0.client.op + 1 = one.own before.0 seat before.1 at_c in
        let script : seat.client.script ≡ before.0.client.script = same_Some seat.client.script before.0.client.script (sym (script_at new c seat at_c) ∙ (ap (λ (ss : List Script). slice_get ss c) scripts ∙ script_at old c before.0 before.1)) in
        let ahead : IsSeatAhead (rounds + 1) seat = one_ahead rounds before.0 seat script more (h c before.0 before.1).0 in
        (less rounds seat ahead, λ _. ahead)
      where
        less : (rounds : ℕ) (seat : Seat) → IsSeatAhead (rounds + 1) seat → IsSeatAhead rounds seat
        less rounds seat (inl some) = inl (omega arith)
        less rounds seat (inr all) = inr all

    many : length new ≡ length old
    many = sym (length-map new (λ (s : Seat). s.client.script)) ∙ (ap (λ (ss : List Script). length ss) scripts ∙ length-map old (λ (s : Seat). s.client.script))

    -- its operations are as many as before
    other : k ≢ c → IsSeatAhead rounds seat × (k < c + 1 → IsSeatAhead (rounds + 1) seat)
    other apart =
        let there : k < length new = slice_get_within new k seat at in
        let before : (b : Seat) × (slice_get old k ≡ Some b) = at_there old k (omega (arith, many)) in
        let op : seat.client.op ≡ before.0.client.op = one.others k apart before.0 seat before.1 at in
        let script : seat.client.script ≡ before.0.client.script = same_Some seat.client.script before.0.client.script (sym (script_at new k seat at) ∙ (ap (λ (ss : List Script). slice_get ss k) scripts ∙ script_at old k before.0 before.1)) in
        let was : IsSeatAhead rounds before.0 × (k < c → IsSeatAhead (rounds + 1) before.0) = h k before.0 before.1 in
        (as_far rounds before.0 seat script op was.0, λ below. as_far (rounds + 1) before.0 seat script op (was.1 (omega arith)))

-- ---- no more is left

any_none : (test : Seat → Bool) (seats : List Seat) → ((k : ℕ) (seat : Seat) → slice_get seats k ≡ Some seat → test seat ≡ false) → list_any test seats ≡ false
any_none test [] none = refl
any_none test (seat ∷ seats) none =
    let first : test seat ≡ false = none 0 seat refl in
    let rest : list_any test seats ≡ false = any_none test seats (λ k s at. none (suc k) s at) in
    ap (λ b. b || list_any test seats) first ∙ rest

pub have_ended : (seats : List Seat) → has_left seats ≡ false → HaveEnded seats
have_ended seats none k seat at = elim (cases_Bool (has_ended seat.client)) [
  | inl ended ↦ ended
  | inr left ↦ absurd
      (let passes : not (has_ended (get_or seats k seat).client) ≡ true = ap (λ (s : Seat). not (has_ended s.client)) (get_or_from_slice_get seats k seat seat at) ∙ ap not left in
      let some : has_left seats ≡ true = list_any_at (λ s. not (has_ended s.client)) seats k seat (slice_get_within seats k seat at) passes in
      cc)
]

-- a script has at most 4,000 operations, so that as many rounds are enough
pub none_left : (C : Settings) (attempts : ℕ) (stops : List Stop) (journal : List Entry) (seats : List Seat) → AllSeats C attempts stops journal seats → AreSeatsAhead 4000 seats → has_left seats ≡ false
none_left C attempts stops journal seats are ahead = any_none (λ s. not (has_ended s.client)) seats (λ k seat at. ap not (ended seat k (are k seat at) (ahead k seat at)))
  where
    ended : (seat : Seat) (k : ℕ) → IsSeat C attempts stops journal k seat → IsSeatAhead 4000 seat → has_ended seat.client ≡ true
    ended seat k is far =
        let all : length seat.client.script.ops ≤ seat.client.op = omega (arith, is.script.short) in
        let rest : seat.client.request ≡ None = all_done C attempts stops journal k seat is all in
        has_ended_by seat.client rest all
