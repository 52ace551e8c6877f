-- A client whose operations send one request each: its replay, and its receipts beside its script.
use Rattle.std.proofs.Common.{◌≡◌, ℕ, zero, suc, ◌+◌, ◌≤◌, ◌<◌, ◌⊎◌, inl, inr, List, [], ◌∷◌, ◌++◌, All, Option, Some, None, true, length, map, drop, refl, sym, ap, subst, ◌∙◌, arith, add-one}
use Rattle.std.specs.Prelude.{slice_get}
use Rattle.std.proofs.lemmas.Bool.{leb-true}
use Rattle.std.proofs.lemmas.List.{drop_all, length-map}
use Rattle.std.proofs.lemmas.List.Elements.{All-head, All-tail}
use Rattle.std.proofs.lemmas.Option.{slice_get_within}
use Rattle.fs_base.specs.Config.{Settings}
use Rattle.txn_task.specs.declared.messages.Entry.{Entry}
use Rattle.txn_task.specs.declared.outcome.Outcome.{Outcome}
use Rattle.txn_task.specs.declared.outcome.Receipt.{Receipt}
use Rattle.client_core.specs.Client.{ClientView, has_ended}
use Rattle.client_core.specs.Courses.{Course, after_courses, receipts_along, receipts_of_ask}
use Rattle.client_core.specs.Moved.{gone_from, server_after_stops}
use Rattle.client_core.specs.Descriptors.{none_open}
use Rattle.client_core.specs.Single.{open_after, single_receipt, single_request}
use Rattle.client_core.specs.declared.descriptors.Descriptor.{Descriptor}
use Rattle.client_core.specs.declared.messages.ClientAsk.{ClientAsk}
use Rattle.client_core.specs.declared.plan.Op.{Op}
use Rattle.client_core.specs.declared.plan.Script.{Script}
use Rattle.client_core.proofs.Replayed.{answered_end, answered_there, client_at, course_open, course_receipt}
use Rattle.run_record.specs.Follow.{Follow}
use Rattle.run_record.specs.Receipts.{outcome_of, IsOf, IsSection}
use Rattle.run_record.specs.declared.run.Listed.{Listed}

abbrev receipts_of : List Listed → List Receipt
receipts_of own = map (λ listed. listed.receipt) own

-- ---- places in a script

there_or_end : (steps : List Op) (n : ℕ)
    → ((step : Op) × (slice_get steps n ≡ Some step) × (drop n steps ≡ step ∷ drop (suc n) steps))
    ⊎ ((slice_get steps n ≡ None) × (drop n steps ≡ []))
there_or_end [] zero = inr (refl, refl)
there_or_end [] (suc n) = inr (refl, refl)
there_or_end (x ∷ steps) zero = inl (x, refl, refl)
there_or_end (x ∷ steps) (suc n) = elim (there_or_end steps n) [ inl there ↦ inl (there.0, there.1, there.2) | inr end ↦ inr (end.0, end.1) ]

-- ---- from the courses

module _ (C : Settings) (script : Script) (k : ℕ) where
  is_of : (descriptors : List (Option Descriptor)) (op : ℕ) (step : Op) (outcome : Outcome) (r : Receipt) → r ≡ single_receipt script descriptors op step outcome → IsOf (single_request script descriptors op step) r
  is_of descriptors op step outcome r is = record {
    server = ap (λ (x : Receipt). x.server) is;
    number = ap (λ (x : Receipt). x.number) is;
    stamp = ap (λ (x : Receipt). x.stamp) is;
    call = ap (λ (x : Receipt). x.call) is;
  }

  -- where no stop took it away a request is answered at home
  stays_home : (descriptors : List (Option Descriptor)) (op : ℕ) (step : Op) (stops : List ℕ) (outcome : Outcome) → gone_from C script.home stops ≡ []
      → (server_after_stops C script.home stops ≡ script.home)
      × (course_receipt C script descriptors script.home op step (record { stops = stops; outcome = outcome }) ≡ single_receipt script descriptors op step outcome)
      × (course_open C script descriptors script.home op step (record { stops = stops; outcome = outcome }) ≡ open_after script descriptors op step outcome)
  stays_home descriptors op step [] outcome none = (refl, refl, refl)
  stays_home descriptors op step (stop ∷ stops) outcome none = absurd (cc)

  -- one receipt, and then the others
  follow_first : (descriptors : List (Option Descriptor)) (op : ℕ) (step : Op) (steps : List Op) (course : Course) (told : List Receipt)
      → (server_after_stops C script.home course.stops ≡ script.home → (own : List Listed) → receipts_of own ≡ told → All (λ listed. listed.client ≡ k) own → All (λ listed. listed.receipt.gone ≡ []) own
      → Follow k script (course_open C script descriptors script.home op step course) (op + 1) steps own)
      → (own : List Listed) → receipts_of own ≡ course_receipt C script descriptors script.home op step course ∷ told → All (λ listed. listed.client ≡ k) own → All (λ listed. listed.receipt.gone ≡ []) own
      → Follow k script descriptors op (step ∷ steps) own
  follow_first descriptors op step steps course told next [] is all gone = absurd (let f : [] ≡ course_receipt C script descriptors script.home op step course ∷ told = is in cc)
  follow_first descriptors op step steps course told next (l ∷ own) is all gone =
      let first : l.receipt ≡ course_receipt C script descriptors script.home op step course = head_is l.receipt (course_receipt C script descriptors script.home op step course) (receipts_of own) told is in
      let none : l.receipt.gone ≡ [] = All-head (λ (x : Listed). x.receipt.gone ≡ []) l own gone in
      let home = stays_home descriptors op step course.stops course.outcome (sym (ap (λ (x : Receipt). x.gone) first) ∙ none) in
      let one : l.receipt ≡ single_receipt script descriptors op step course.outcome = first ∙ home.1 in
      let outcome : outcome_of l.receipt ≡ course.outcome = ap outcome_of one in
      let rest : Follow k script (course_open C script descriptors script.home op step course) (op + 1) steps own =
      next home.0 own (tail_is l.receipt (course_receipt C script descriptors script.home op step course) (receipts_of own) told is) (All-tail (λ (x : Listed). x.client ≡ k) l own all)
      (All-tail (λ (x : Listed). x.receipt.gone ≡ []) l own gone) in (
        All-head (λ (x : Listed). x.client ≡ k) l own all,
        ap (λ (x : Receipt). x.op) one,
        is_of descriptors op step course.outcome l.receipt one,
        none,
        subst (λ (o : List (Option Descriptor)). Follow k script o (op + 1) steps own) (home.2 ∙ ap (open_after script descriptors op step) (sym outcome)) rest,
      )
    where
      head_is : (a b : Receipt) (xs ys : List Receipt) → a ∷ xs ≡ b ∷ ys → a ≡ b
      head_is a b xs ys e = cc

      tail_is : (a b : Receipt) (xs ys : List Receipt) → a ∷ xs ≡ b ∷ ys → xs ≡ ys
      tail_is a b xs ys e = cc

  follow_told : (descriptors : List (Option Descriptor)) (op : ℕ) (courses : List Course) (own : List Listed) → receipts_of own ≡ receipts_along (client_at C script descriptors script.home op) courses
      → has_ended (after_courses (client_at C script descriptors script.home op) courses) ≡ true → All (λ listed. listed.client ≡ k) own → All (λ listed. listed.receipt.gone ≡ []) own
      → Follow k script descriptors op (drop op script.ops) own
  follow_told descriptors op [] [] told ended all gone =
      subst (λ (steps : List Op). Follow k script descriptors op steps []) (sym (drop_all op script.ops (leb-true (length script.ops) op ended))) tt
  follow_told descriptors op [] (l ∷ own) told ended all gone = absurd (let f : l.receipt ∷ receipts_of own ≡ [] = told in cc)
  follow_told descriptors op (course ∷ courses) own told ended all gone = elim (there_or_end script.ops op) [
    | inl there ↦
        (let last : ℕ = server_after_stops C script.home course.stops in
        let opened : List (Option Descriptor) = course_open C script descriptors script.home op there.0 course in
        let ask = answered_there C script descriptors script.home op there.0 course there.1 in
        let is : receipts_of own ≡ course_receipt C script descriptors script.home op there.0 course ∷ receipts_along (client_at C script opened last (op + 1)) courses
        = told ∙ ap (λ (p : ClientView × ClientAsk). receipts_of_ask p.1 ++ receipts_along p.0 courses) ask in
        let end : has_ended (after_courses (client_at C script opened last (op + 1)) courses) ≡ true = ap (λ (p : ClientView × ClientAsk). has_ended (after_courses p.0 courses)) (sym ask) ∙ ended in
        subst (λ (steps : List Op). Follow k script descriptors op steps own) (sym there.2)
        (follow_first descriptors op there.0 (drop (suc op) script.ops) course (receipts_along (client_at C script opened last (op + 1)) courses)
        (λ home xs t a g.
        subst (λ n. Follow k script opened (op + 1) (drop n script.ops) xs) (add-one op)
        (follow_told opened (op + 1) courses xs
        (t ∙ ap (λ n. receipts_along (client_at C script opened n (op + 1)) courses) home)
        (ap (λ n. has_ended (after_courses (client_at C script opened n (op + 1)) courses)) (sym home) ∙ end) a g))
        own is all gone))
    | inr end ↦
        (let ask = answered_end C script descriptors script.home op course end.0 in
        follow_told descriptors op courses own (told ∙ ap (λ (p : ClientView × ClientAsk). receipts_of_ask p.1 ++ receipts_along p.0 courses) ask)
        (ap (λ (p : ClientView × ClientAsk). has_ended (after_courses p.0 courses)) (sym ask) ∙ ended) all gone)
  ]

-- ---- a client's receipts

-- none but one for each operation that is left
few_along : (C : Settings) (script : Script) (courses : List Course) (descriptors : List (Option Descriptor)) (server op : ℕ) → op ≤ length script.ops
    → length (receipts_along (client_at C script descriptors server op) courses) + op ≤ length script.ops
few_along C script [] descriptors server op within = omega arith
few_along C script (course ∷ courses) descriptors server op within = elim (there_or_end script.ops op) [
  | inl there ↦
      (let last : ℕ = server_after_stops C server course.stops in
      let opened : List (Option Descriptor) = course_open C script descriptors server op there.0 course in
      let left : op < length script.ops = slice_get_within script.ops op there.0 there.1 in
      let others : length (receipts_along (client_at C script opened last (op + 1)) courses) + (op + 1) ≤ length script.ops = few_along C script courses opened last (op + 1) (omega arith) in
      subst (λ (p : ClientView × ClientAsk). length (receipts_of_ask p.1 ++ receipts_along p.0 courses) + op ≤ length script.ops) (sym (answered_there C script descriptors server op there.0 course there.1)) (omega arith))
  | inr end ↦
      subst (λ (p : ClientView × ClientAsk). length (receipts_of_ask p.1 ++ receipts_along p.0 courses) + op ≤ length script.ops) (sym (answered_end C script descriptors server op course end.0)) (few_along C script courses descriptors server op within)
]

pub few_receipts : (C : Settings) (attempts : ℕ) (journal : List Entry) (k : ℕ) (script : Script) (own : List Listed) → IsSection C attempts journal k script own → length own ≤ length script.ops
few_receipts C attempts journal k script own h =
    let few : length (receipts_along (client_at C script none_open script.home 0) h.courses) + 0 ≤ length script.ops = few_along C script h.courses none_open script.home 0 (omega arith) in
    let told : length (receipts_of own) ≡ length (receipts_along (client_at C script none_open script.home 0) h.courses) = ap (λ (rs : List Receipt). length rs) h.told in
    let same : length (receipts_of own) ≡ length own = length-map own (λ (listed : Listed). listed.receipt) in
    omega arith

pub follows : (C : Settings) (attempts : ℕ) (journal : List Entry) (k : ℕ) (script : Script) (own : List Listed) → IsSection C attempts journal k script own
    → All (λ listed. listed.receipt.gone ≡ []) own → Follow k script none_open 0 script.ops own
follows C attempts journal k script own h gone = follow_told C script k none_open 0 h.courses own h.told h.ended h.ordinals gone
