-- A client's receipts come from the server that the stops so far have moved it to.
use Rattle.std.proofs.Common.{◌≡◌, ℕ, suc, ◌+◌, ◌<◌, ◌%◌, inl, inr, List, [], ◌∷◌, ◌++◌, Option, Some, map, length, refl, sym, ap, ◌∙◌, arith}
use Rattle.std.proofs.Math.Nat.{mod-add-mod, mod-eq_of_lt}
use Rattle.fs_base.specs.Config.{Settings}
use Rattle.txn_task.specs.declared.outcome.Receipt.{Receipt}
use Rattle.client_core.specs.Client.{ClientView, new_client, server_after}
use Rattle.client_core.specs.Courses.{Course, receipts_along, receipts_of_ask}
use Rattle.client_core.specs.Descriptors.{none_open}
use Rattle.client_core.specs.Moved.{gone_from, server_after_stops}
use Rattle.client_core.specs.declared.descriptors.Descriptor.{Descriptor}
use Rattle.client_core.specs.declared.messages.ClientAsk.{ClientAsk}
use Rattle.client_core.specs.declared.plan.Op.{Op}
use Rattle.client_core.specs.declared.plan.Script.{Script}
use Rattle.client_core.proofs.Moved.{moved_below, moved_count}
use Rattle.client_core.proofs.Replayed.{answered_end, answered_there, client_at, course_open, course_receipt, there_or_end}
use Rattle.run_record.specs.Receipts.{AreMovedOn, server_moved}
use Rattle.run_record.specs.declared.run.Listed.{Listed}

-- a gone line for each stop
gone_count : (C : Settings) (server : ℕ) (stops : List ℕ) → length (gone_from C server stops) ≡ length stops
gone_count C server [] = refl
gone_count C server (stop ∷ stops) = ap (λ (n : ℕ). suc n) (gone_count C (server_after C server) stops)

-- a client that was moved so often, once these stops have moved it further
moved_further : (C : Settings) (home moved server : ℕ) (stops : List ℕ) → server < C.servers → server ≡ server_moved C home moved
    → server_after_stops C server stops ≡ server_moved C home (moved + length (gone_from C server stops))
moved_further C home moved server stops below is =
    let same : home + moved + length stops ≡ home + (moved + length (gone_from C server stops)) = omega (arith, gone_count C server stops) in
    moved_count C server stops below
    ∙ (ap (λ n. (n + length stops) % C.servers) is
    ∙ (mod-add-mod (home + moved) C.servers (length stops) ∙ ap (λ n. n % C.servers) same))

abbrev receipts_of : List Listed → List Receipt
receipts_of own = map (λ listed. listed.receipt) own

module _ (C : Settings) (script : Script) where
  -- one receipt, and then the others
  moved_first : (descriptors : List (Option Descriptor)) (server op moved : ℕ) (step : Op) (course : Course) (told : List Receipt) → server < C.servers → server ≡ server_moved C script.home moved
      → ((m : ℕ) → server_after_stops C server course.stops ≡ server_moved C script.home m → (own : List Listed) → receipts_of own ≡ told → AreMovedOn C script.home m own)
      → (own : List Listed) → receipts_of own ≡ course_receipt C script descriptors server op step course ∷ told → AreMovedOn C script.home moved own
  moved_first descriptors server op moved step course told below at next [] is = absurd (let f : [] ≡ course_receipt C script descriptors server op step course ∷ told = is in cc)
  moved_first descriptors server op moved step course told below at next (l ∷ own) is =
      let first : l.receipt ≡ course_receipt C script descriptors server op step course = head_is l.receipt (course_receipt C script descriptors server op step course) (receipts_of own) told is in
      let gone : l.receipt.gone ≡ gone_from C server course.stops = ap (λ (x : Receipt). x.gone) first in
      let last : server_after_stops C server course.stops ≡ server_moved C script.home (moved + length l.receipt.gone)
      = moved_further C script.home moved server course.stops below at ∙ ap (λ (g : List (ℕ × ℕ)). server_moved C script.home (moved + length g)) (sym gone) in (
        ap (λ (x : Receipt). x.server) first ∙ ap (λ (n : ℕ). Some n) last,
        next (moved + length l.receipt.gone) last own (tail_is l.receipt (course_receipt C script descriptors server op step course) (receipts_of own) told is),
      )
    where
      head_is : (a b : Receipt) (xs ys : List Receipt) → a ∷ xs ≡ b ∷ ys → a ≡ b
      head_is a b xs ys e = cc

      tail_is : (a b : Receipt) (xs ys : List Receipt) → a ∷ xs ≡ b ∷ ys → xs ≡ ys
      tail_is a b xs ys e = cc

  moved_told : (descriptors : List (Option Descriptor)) (server op moved : ℕ) (courses : List Course) → server < C.servers → server ≡ server_moved C script.home moved
      → (own : List Listed) → receipts_of own ≡ receipts_along (client_at C script descriptors server op) courses → AreMovedOn C script.home moved own
  moved_told descriptors server op moved [] below at [] told = tt
  moved_told descriptors server op moved [] below at (l ∷ own) told = absurd (let f : l.receipt ∷ receipts_of own ≡ [] = told in cc)
  moved_told descriptors server op moved (course ∷ courses) below at own told = elim (there_or_end C script script.ops op) [
    | inl there ↦
        (let last : ℕ = server_after_stops C server course.stops in
        let opened : List (Option Descriptor) = course_open C script descriptors server op there.0 course in
        moved_first descriptors server op moved there.0 course (receipts_along (client_at C script opened last (op + 1)) courses) below at
        (λ m is xs t. moved_told opened last (op + 1) m courses (moved_below C server course.stops below) is xs t)
        own
        (told ∙ ap (λ (p : ClientView × ClientAsk). receipts_of_ask p.1 ++ receipts_along p.0 courses) (answered_there C script descriptors server op there.0 course there.1)))
    | inr end ↦
        moved_told descriptors server op moved courses below at own
        (told ∙ ap (λ (p : ClientView × ClientAsk). receipts_of_ask p.1 ++ receipts_along p.0 courses) (answered_end C script descriptors server op course end))
  ]

  -- of a client that has done nothing before
  pub moved_on : script.home < C.servers → (courses : List Course) (own : List Listed) → receipts_of own ≡ receipts_along (new_client C script) courses → AreMovedOn C script.home 0 own
  moved_on below courses own told =
      let same : script.home + 0 ≡ script.home = omega arith in
      moved_told none_open script.home 0 0 courses below (sym (ap (λ n. n % C.servers) same ∙ mod-eq_of_lt below)) own told
