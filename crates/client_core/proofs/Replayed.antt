-- What a request comes to that stops take away: its call's one receipt, and a client that stays where they moved it.
use Rattle.std.proofs.Common.{◌≡◌, ◌⊎◌, ℕ, ◌+◌, ◌≤◌, ◌<◌, inl, inr, List, [], ◌∷◌, ◌++◌, Option, Some, None, true, false, length, refl, sym, ap, subst, ◌∙◌, append-nil, append_assoc, arith}
use Rattle.std.specs.Prelude.{slice_get, option_and_then}
use Rattle.std.proofs.lemmas.Option.{slice_get_within}
use Rattle.fs_base.specs.Config.{Settings}
use Rattle.fs_base.specs.declared.call.Request.{Request}
use Rattle.txn_task.specs.declared.outcome.Receipt.{Receipt}
use Rattle.client_core.specs.Client.{ClientView, client_step, send, server_after}
use Rattle.client_core.specs.Courses.{Course, after_course, after_courses, replied, sent_again}
use Rattle.client_core.specs.Moved.{IsInScript, gone_from, server_after_stops}
use Rattle.client_core.specs.Descriptors.{descriptors_after}
use Rattle.client_core.specs.Ops.{fd_of, receipt_of, request_of, session_for}
use Rattle.client_core.specs.Plans.{IsScript}
use Rattle.client_core.specs.declared.messages.ClientAnswer.TheVariants as answers
use Rattle.client_core.specs.declared.messages.ClientAsk.{ClientAsk}
use Rattle.client_core.specs.declared.messages.ClientAsk.TheVariants as asks
use Rattle.client_core.specs.declared.descriptors.Descriptor.{Descriptor}
use Rattle.client_core.specs.declared.plan.Op.{Op}
use Rattle.client_core.specs.declared.plan.Script.{Script}
use Rattle.client_core.proofs.Moved.{moved_below}

module _ (C : Settings) (script : Script) where
  -- the client at a server, with these descriptors, and with so many operations done
  abbrev pub client_at : List (Option Descriptor) → ℕ → ℕ → ClientView
  client_at descriptors server op =
      record { config = C; script = script; op = op; number = op; server = server; descriptors = descriptors; gone = []; request = None; failed = false }

  -- the request of its next operation
  abbrev pub request_at : List (Option Descriptor) → ℕ → ℕ → Op → Request
  request_at descriptors server op step = request_of script.id server (op + 1) (session_for descriptors step) step

  -- and the client that has sent it, behind these stops
  abbrev pub sent_at : List (Option Descriptor) → ℕ → List (ℕ × ℕ) → ℕ → Op → ClientView × ClientAsk
  sent_at descriptors server gone op step = (
    record (client_at descriptors server op) { number = op + 1; gone = gone; request = Some (request_at descriptors server op step) },
    asks.Send server
        (request_at descriptors server op step),
  )

  -- the receipt of a request's whole course
  abbrev pub course_receipt : List (Option Descriptor) → ℕ → ℕ → Op → Course → Receipt
  course_receipt descriptors server op step course =
      let last = server_after_stops C server course.stops in receipt_of op (request_at descriptors last op step) last (gone_from C server course.stops) course.outcome

  -- and what is open afterwards
  abbrev pub course_open : List (Option Descriptor) → ℕ → ℕ → Op → Course → List (Option Descriptor)
  course_open descriptors server op step course =
      descriptors_after descriptors (fd_of step) (request_at descriptors (server_after_stops C server course.stops) op step) course.outcome

  pub again_there : (stops : List ℕ) (descriptors : List (Option Descriptor)) (server : ℕ) (gone : List (ℕ × ℕ)) (op : ℕ) (step : Op)
      → sent_again stops (sent_at descriptors server gone op step) ≡ sent_at descriptors (server_after_stops C server stops) (gone ++ gone_from C server stops) op step
  again_there [] descriptors server gone op step = ap (λ (g : List (ℕ × ℕ)). sent_at descriptors server g op step) (sym (append-nil gone))
  again_there (stop ∷ stops) descriptors server gone op step =
      let next : ℕ = server_after C server in
      again_there stops descriptors next (gone ++ (server, stop) ∷ []) op step
      ∙ ap (λ (g : List (ℕ × ℕ)). sent_at descriptors (server_after_stops C next stops) g op step) (append_assoc gone ((server, stop) ∷ []) (gone_from C next stops))

  pub answered_there : (descriptors : List (Option Descriptor)) (server op : ℕ) (step : Op) (course : Course) → slice_get script.ops op ≡ Some step
      → after_course (client_at descriptors server op) course
      ≡ (
        client_at (course_open descriptors server op step course) (server_after_stops C server course.stops) (op + 1),
        asks.CallEnd
            (course_receipt descriptors server op step course ∷ []) true,
      )
  answered_there descriptors server op step course there =
      let last : ℕ = server_after_stops C server course.stops in
      let sends : client_step (client_at descriptors server op) answers.Next ≡ sent_at descriptors server [] op step = ap (send (client_at descriptors server op)) there in
      ap (λ (p : ClientView × ClientAsk). replied course.outcome (sent_again course.stops p)) sends
      ∙ (ap (replied course.outcome) (again_there course.stops descriptors server [] op step)
      ∙ ap
      (λ (o : Option Op). (
        client_at (descriptors_after descriptors (option_and_then fd_of o) (request_at descriptors last op step) course.outcome) last (op + 1),
        asks.CallEnd
            (course_receipt descriptors server op step course ∷ []) true,
      ))
      there)

  -- behind the last operation nothing changes
  pub ended_there : (stops : List ℕ) (descriptors : List (Option Descriptor)) (server op : ℕ) → slice_get script.ops op ≡ None
      → sent_again stops (client_at descriptors server op, asks.Ended) ≡ (client_at descriptors server op, asks.Ended)
  ended_there [] descriptors server op none = refl
  ended_there (stop ∷ stops) descriptors server op none =
      ap (λ (o : Option Op). sent_again stops (send (client_at descriptors server op) o)) none ∙ ended_there stops descriptors server op none

  pub answered_end : (descriptors : List (Option Descriptor)) (server op : ℕ) (course : Course) → slice_get script.ops op ≡ None
      → after_course (client_at descriptors server op) course ≡ (client_at descriptors server op, asks.Ended)
  answered_end descriptors server op course none =
      ap (λ (o : Option Op). replied course.outcome (sent_again course.stops (send (client_at descriptors server op) o))) none
      ∙ (ap (replied course.outcome) (ended_there course.stops descriptors server op none) ∙ ap (send (client_at descriptors server op)) none)

  -- ---- after any replay

  pub there_or_end : (steps : List Op) (n : ℕ) → ((step : Op) × (slice_get steps n ≡ Some step)) ⊎ (slice_get steps n ≡ None)
  there_or_end steps n = of (slice_get steps n) refl
    where
      of : (o : Option Op) → slice_get steps n ≡ o → ((step : Op) × (slice_get steps n ≡ Some step)) ⊎ (slice_get steps n ≡ None)
      of (Some step) is = inl (step, is)
      of None is = inr is

  -- a client that waits for nothing, with some operations done, at some server, whatever it has open
  pub record IsIdleAt (c : ClientView) : Type 0 where
    pub op : ℕ
    pub server : ℕ
    pub descriptors : List (Option Descriptor)
    pub is : c ≡ client_at descriptors server op
    pub below : server < C.servers
    pub within : op ≤ length script.ops

  pub idle_in_script : (c : ClientView) → IsScript C.servers script → IsIdleAt c → IsInScript c
  idle_in_script c valid h =
      subst (λ (v : ClientView). IsInScript v) (sym h.is) (record { script = valid; server = h.below; place = (h.within, refl) })

  answered_idle : (c : ClientView) (course : Course) → IsIdleAt c → IsIdleAt (after_course c course).0
  answered_idle c course h = elim (there_or_end script.ops h.op) [
    | inl there ↦
        (let within : h.op < length script.ops = slice_get_within script.ops h.op there.0 there.1 in
        record {
          op = h.op + 1;
          server = server_after_stops C h.server course.stops;
          descriptors = course_open h.descriptors h.server h.op there.0 course;
          is = ap (λ (v : ClientView). (after_course v course).0) h.is
              ∙ ap (λ (p : ClientView × ClientAsk). p.0) (answered_there h.descriptors h.server h.op there.0 course there.1);
          below = moved_below C h.server course.stops h.below;
          within = omega arith;
        })
    | inr end ↦
        record {
          op = h.op;
          server = h.server;
          descriptors = h.descriptors;
          is = ap (λ (v : ClientView). (after_course v course).0) h.is ∙ ap (λ (p : ClientView × ClientAsk). p.0) (answered_end h.descriptors h.server h.op course end);
          below = h.below;
          within = h.within;
        }
  ]

  -- whatever its requests came to
  pub replayed_idle : (c : ClientView) (courses : List Course) → IsIdleAt c → IsIdleAt (after_courses c courses)
  replayed_idle c [] h = h
  replayed_idle c (course ∷ courses) h = replayed_idle (after_course c course).0 courses (answered_idle c course h)
