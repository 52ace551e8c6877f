-- From clients that have ended to the record of their run.
use Rattle.std.proofs.Common.{◌≡◌, ◌≢◌, ℕ, zero, suc, ◌+◌, ◌<◌, List, [], ◌∷◌, ◌++◌, All, map, Some, None, true, length, count_by, refl, sym, ap, subst, ◌∙◌, arith, zero-add}
use Rattle.std.specs.Prelude.{slice_get}
use Rattle.std.proofs.lemmas.List.Elements.{All-nil}
use Rattle.std.proofs.lemmas.Option.{same_Some}
use Rattle.fs_base.specs.Config.{Settings}
use Rattle.fs_base.specs.declared.ids.ClientId.{ClientId}
use Rattle.path_walk.specs.Areas.{AreRead}
use Rattle.path_walk.specs.Footprint.{footprint}
use Rattle.row_tree.specs.HasTree.{HasTree}
use Rattle.tree_model.specs.Tree.{Tree}
use Rattle.txn_task.specs.declared.messages.Entry.{Entry}
use Rattle.txn_task.specs.declared.outcome.Receipt.{Receipt}
use Rattle.client_core.specs.Client.{ClientView, has_ended, new_client}
use Rattle.client_core.specs.Courses.{AreNumbered, IsFrom, after_courses}
use Rattle.client_core.specs.Plans.{AreDistinct}
use Rattle.client_core.specs.Scripts.{scripts_in}
use Rattle.client_core.specs.declared.plan.Script.{Script}
use Rattle.client_core.specs.declared.plan.Stop.{Stop}
use Rattle.run_record.specs.Legal.{EntryAt, journal_rows, tree_at}
use Rattle.run_record.specs.Receipts.{IsSection}
use Rattle.run_record.specs.Right.{AreSections, IsRightRecord, IsRightEntry, names_place, summary_of}
use Rattle.run_record.specs.Stops.{AllPlanned, HasGoneReceipt, IsPlannedStop, StopsBehind}
use Rattle.run_record.specs.declared.run.Listed.{Listed}
use Rattle.run_record.specs.declared.run.Record.{Record}
use Rattle.client_core.proofs.Courses.{numbered}
use Rattle.client_core.proofs.Ending.{ended_is}
use Rattle.client_core.proofs.Scripts.{scripts_are}
use Rattle.run_record.proofs.Moving.{moved_on}
use Rattle.run_record.proofs.Named.{none_other, one_receipt}
use Rattle.run_record.proofs.Naming.{naming, naming-append}
use Rattle.run_record.proofs.Stopping.{AllPlanned-append, HasGoneReceipt-left, HasGoneReceipt-right}
use Rattle.request_run.specs.Served.{AreCovered}
use Rattle.seat_turns.specs.Kept.{IsNamed, IsSeat}
use Rattle.request_run.specs.Entries.{entries_of}
use Rattle.run_record.specs.Sound.{IsSoundJournal}
use Rattle.seat_turns.specs.Seats.{AreSeated, HaveEnded, receipts_in, scripts_of_seats}
use Rattle.world_core.specs.World.{WorldView, plan_of_world}
use Rattle.seat_turns.specs.declared.seats.Seat.{Seat}
use Rattle.seat_turns.specs.declared.servers.ServerCounts.{ServerCounts}
use Rattle.request_run.proofs.Covered.{all_touched}
use Rattle.run_record.proofs.History.{at_there, entry_sound, legal, no_refusal, rows_ascend, rows_tree}
use Rattle.seat_turns.proofs.Seating.{one_seat}
use Rattle.seat_turns.proofs.Working.{unsent}

-- ---- each entry

pub entry_right : (C : Settings) (journal : List Entry) (place : ℕ) (e : Entry) → IsSoundJournal C journal → AreCovered C journal → EntryAt journal place e → IsRightEntry C journal place e
entry_right C journal place e s covered at =
    let sound = entry_sound C journal s place e at in
    let tree : HasTree C (journal_rows C journal place) (tree_at C journal place) = rows_tree C journal s place in
    let read = covered place e at in
    record {
      agrees = sound.1;
      sound = sound.0;
      touched = all_touched C e.request e.reads (journal_rows C journal place) (tree_at C journal place) read.0 (rows_ascend C journal s place) tree sound.1;
      whole = subst (λ (T : Tree). AreRead e.reads (footprint C T e.request)) tree.3 (read.1 tree.0 tree.2 (record { rows = journal_rows C journal place; ascending = rows_ascend C journal s place; spells = tree.1; agrees = sound.1 }));
      none_asked = sound.0.none_asked;
      update = sound.0.update;
      accepted = no_refusal C journal s place e at;
    }

-- ---- each client's receipts

section : (C : Settings) (attempts : ℕ) (stops : List Stop) (journal : List Entry) (k : ℕ) (seat : Seat) → IsSeat C attempts stops journal k seat → has_ended seat.client ≡ true → IsSection C attempts journal k seat.client.script seat.receipts
section C attempts stops journal k seat h ended =
    let rest : ClientView = after_courses (new_client C seat.client.script) h.past.courses in
    let at_rest : seat.client ≡ rest = subst (IsFrom rest seat.client) (ended_is seat.client ended).0 h.past.from in
    record {
      courses = h.past.courses;
      told = h.past.told;
      ended = subst (λ (c : ClientView). has_ended c ≡ true) at_rest ended;
      ordinals = h.past.ordinals;
      each = h.past.each;
      rises = h.past.rises;
      moved = moved_on C seat.client.script h.script.home h.past.courses seat.receipts h.past.told;
    }

sections : (C : Settings) (attempts : ℕ) (stops : List Stop) (journal : List Entry) (seats : List Seat) (base : ℕ)
    → ((k : ℕ) (seat : Seat) → slice_get seats k ≡ Some seat → IsSeat C attempts stops journal (base + k) seat × (has_ended seat.client ≡ true))
    → AreSections C attempts journal base (scripts_of_seats seats) (receipts_in seats)
sections C attempts stops journal [] base each = refl
sections C attempts stops journal (seat ∷ seats) base each =
    let first : IsSeat C attempts stops journal (base + 0) seat × (has_ended seat.client ≡ true) = each 0 seat refl in
    let here : base + 0 ≡ base = omega arith in (
      seat.receipts,
      receipts_in seats,
      refl,
      section C attempts stops journal base seat (subst (λ n. IsSeat C attempts stops journal n seat) here first.0) first.1,
      sections C attempts stops journal seats (base + 1) (λ k z at.
          (let later : IsSeat C attempts stops journal (base + suc k) z × (has_ended z.client ≡ true) = each (suc k) z at in
          let same : base + suc k ≡ (base + 1) + k = omega arith in
          (subst (λ n. IsSeat C attempts stops journal n z) same later.0, later.1))),
    )

pub all_sections : (C : Settings) (attempts : ℕ) (stops : List Stop) (counts : List ServerCounts) (journal : List Entry) (seats : List Seat)
    → AreSeated C attempts stops counts journal seats → HaveEnded seats
    → AreSections C attempts journal 0 (scripts_of_seats seats) (receipts_in seats)
all_sections C attempts stops counts journal seats seated ended =
    sections C attempts stops journal seats 0
    (λ k z at. (subst (λ n. IsSeat C attempts stops journal n z) (sym (zero-add k)) (seated.all k z at), ended k z at))

-- ---- each entry has one receipt

none_in : (place : ℕ) (seats : List Seat) → ((j : ℕ) (z : Seat) → slice_get seats j ≡ Some z → naming place z.receipts ≡ 0) → naming place (receipts_in seats) ≡ 0
none_in place [] none = refl
none_in place (seat ∷ seats) none =
    let first : naming place seat.receipts ≡ 0 = none 0 seat refl in
    let others : naming place (receipts_in seats) ≡ 0 = none_in place seats (λ j z at. none (suc j) z at) in
    let both : naming place (seat.receipts ++ receipts_in seats) ≡ naming place seat.receipts + naming place (receipts_in seats) = naming-append place seat.receipts (receipts_in seats) in
    omega arith

one_in : (place : ℕ) (seats : List Seat) (k : ℕ) (x : Seat) → slice_get seats k ≡ Some x → naming place x.receipts ≡ 1 → ((j : ℕ) (z : Seat) → j ≢ k → slice_get seats j ≡ Some z → naming place z.receipts ≡ 0) → naming place (receipts_in seats) ≡ 1
one_in place [] k x at one none = absurd (let n : None ≡ Some x = at in cc)
one_in place (seat ∷ seats) zero x at one none =
    let first : naming place seat.receipts ≡ 1 = ap (λ (w : Seat). naming place w.receipts) (same_Some seat x at) ∙ one in
    let others : naming place (receipts_in seats) ≡ 0 = none_in place seats (λ j z at_z. none (suc j) z (λ same. omega arith) at_z) in
    let both : naming place (seat.receipts ++ receipts_in seats) ≡ naming place seat.receipts + naming place (receipts_in seats) = naming-append place seat.receipts (receipts_in seats) in
    omega arith
one_in place (seat ∷ seats) (suc k) x at one none =
    let first : naming place seat.receipts ≡ 0 = none 0 seat (λ same. omega arith) refl in
    let others : naming place (receipts_in seats) ≡ 1 = one_in place seats k x at one (λ j z apart at_z. none (suc j) z (λ same. apart (omega arith)) at_z) in
    let both : naming place (seat.receipts ++ receipts_in seats) ≡ naming place seat.receipts + naming place (receipts_in seats) = naming-append place seat.receipts (receipts_in seats) in
    omega arith

pub named_once : (C : Settings) (attempts : ℕ) (stops : List Stop) (counts : List ServerCounts) (journal : List Entry) (seats : List Seat) → AreDistinct (scripts_of_seats seats) → AreSeated C attempts stops counts journal seats → HaveEnded seats → (place : ℕ) → place < length journal → count_by (names_place place) (receipts_in seats) ≡ 1
named_once C attempts stops counts journal seats distinct seated ended place l =
    let here : (e : Entry) × EntryAt journal place e = at_there journal place l in
    owned here.0 here.1 (seated.owned place here.0 here.1)
  where
    owned : (e : Entry) → EntryAt journal place e → (k : ℕ) × (seat : Seat) × (slice_get seats k ≡ Some seat) × (e.request.client ≡ seat.client.script.id) → naming place (receipts_in seats) ≡ 1
    owned e at owner =
        let x : Seat = owner.1 in
        let h : IsSeat C attempts stops journal owner.0 x = seated.all owner.0 x owner.2 in
        let still : x.client.request ≡ None = (ended_is x.client (ended owner.0 x owner.2)).0 in
        let is : IsNamed stops journal x.receipts place e = unsent C attempts stops journal owner.0 x h still place e at owner.3 in
        one_in place seats owner.0 x owner.2
        (one_receipt C attempts journal place e at x.client.script.id 0 (after_courses (new_client C x.client.script) h.past.courses).op x.receipts h.past.each
        (subst (λ (told : List Receipt). AreNumbered 0 told (after_courses (new_client C x.client.script) h.past.courses).op) (sym h.past.told)
        (numbered C x.client.script h.past.courses)) is.named)
        (λ j z apart at_z. none_other C attempts journal place e at z.client.script.id z.receipts
        (λ same. apart (one_seat seats j owner.0 z x distinct at_z owner.2 (sym same ∙ owner.3))) (seated.all j z at_z).past.each)

-- ---- stops

all_planned : (C : Settings) (attempts : ℕ) (stops : List Stop) (journal : List Entry) (seats : List Seat) (base : ℕ)
    → ((k : ℕ) (seat : Seat) → slice_get seats k ≡ Some seat → IsSeat C attempts stops journal (base + k) seat)
    → AllPlanned stops journal (receipts_in seats)
all_planned C attempts stops journal [] base each = All-nil (λ (l : Listed). All (IsPlannedStop stops journal) l.receipt.gone)
all_planned C attempts stops journal (seat ∷ seats) base each =
    AllPlanned-append stops journal seat.receipts (receipts_in seats) (each 0 seat refl).past.planned
    (all_planned C attempts stops journal seats (base + 1)
    (λ k z at. let same : base + suc k ≡ (base + 1) + k = omega arith in subst (λ n. IsSeat C attempts stops journal n z) same (each (suc k) z at)))

-- what one of the clients was told of is in the record
told_in : (place server : ℕ) (seats : List Seat) (k : ℕ) (x : Seat) → slice_get seats k ≡ Some x → HasGoneReceipt x.receipts place server → HasGoneReceipt (receipts_in seats) place server
told_in place server [] k x at told = absurd (let n : None ≡ Some x = at in cc)
told_in place server (seat ∷ seats) zero x at told =
    HasGoneReceipt-left seat.receipts (receipts_in seats) place server
    (subst (λ (z : Seat). HasGoneReceipt z.receipts place server) (sym (same_Some seat x at)) told)
told_in place server (seat ∷ seats) (suc k) x at told =
    HasGoneReceipt-right seat.receipts (receipts_in seats) place server (told_in place server seats k x at told)

-- where a server was to stop behind an entry, the entry's client was told
told_once : (C : Settings) (attempts : ℕ) (stops : List Stop) (counts : List ServerCounts) (journal : List Entry) (seats : List Seat) → AreSeated C attempts stops counts journal seats → HaveEnded seats
    → (place : ℕ) (e : Entry) → EntryAt journal place e → StopsBehind stops journal place e → HasGoneReceipt (receipts_in seats) place e.request.server
told_once C attempts stops counts journal seats seated ended place e at behind =
    let owner : (k : ℕ) × (seat : Seat) × (slice_get seats k ≡ Some seat) × (e.request.client ≡ seat.client.script.id) = seated.owned place e at in
    let x : Seat = owner.1 in
    let still : x.client.request ≡ None = (ended_is x.client (ended owner.0 x owner.2)).0 in
    let is : IsNamed stops journal x.receipts place e = unsent C attempts stops journal owner.0 x (seated.all owner.0 x owner.2) still place e at owner.3 in
    told_in place e.request.server seats owner.0 x owner.2 (is.told behind)

-- ---- the record

pub right_record : (w : WorldView) (run : Record) → IsSoundJournal w.config (entries_of w.objects.store.journal) → AreDistinct (scripts_of_seats w.seats) → AreSeated w.config w.attempts w.stops w.counts (entries_of w.objects.store.journal) w.seats → HaveEnded w.seats
    → run.config ≡ w.config → run.clients ≡ map (λ (script : Script). script.id) (scripts_of_seats w.seats) → run.receipts ≡ receipts_in w.seats → run.entries ≡ entries_of w.objects.store.journal → run.summary ≡ summary_of w.config run.clients run.receipts run.entries
    → IsRightRecord (plan_of_world w) run
right_record w run s distinct seated ended config clients receipts entries summary =
    let C : Settings = w.config in
    let journal : List Entry = entries_of w.objects.store.journal in
    let all : scripts_in (plan_of_world w) ≡ scripts_of_seats w.seats = scripts_are (plan_of_world w) in
    let ids : List ClientId = map (λ (script : Script). script.id) (scripts_of_seats w.seats) in
    let is : run ≡ record run { config = C; clients = ids; receipts = receipts_in w.seats; entries = journal } =
    λ i. record run { config = config i; clients = clients i; receipts = receipts i; entries = entries i } in
    subst (IsRightRecord (plan_of_world w)) (sym is)
    (record {
      config = refl;
      clients = ap (λ (ss : List Script). map (λ (script : Script). script.id) ss) (sym all);
      legal = legal C journal s;
      rows = rows_tree C journal s;
      entries = λ place e at. entry_right C journal place e s seated.covered at;
      sections = subst (λ (ss : List Script). AreSections C w.attempts journal 0 ss (receipts_in w.seats)) (sym all)
          (all_sections C w.attempts w.stops w.counts journal w.seats seated ended);
      named = named_once C w.attempts w.stops w.counts journal w.seats distinct seated ended;
      planned = all_planned C w.attempts w.stops journal w.seats 0 (λ k z at. subst (λ n. IsSeat C w.attempts w.stops journal n z) (sym (zero-add k)) (seated.all k z at));
      told = told_once C w.attempts w.stops w.counts journal w.seats seated ended;
      summary = summary ∙ (λ i. summary_of C (clients i) (receipts i) (entries i));
    })
