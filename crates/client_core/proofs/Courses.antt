-- Clients by the courses of their requests: one course more, and the numbers of all receipts.
use Rattle.std.proofs.Common.{◌≡◌, ℕ, ◌+◌, ◌<◌, ◌≤◌, inl, inr, List, [], ◌∷◌, ◌++◌, Option, Some, None, true, refl, sym, ap, subst, ◌∙◌}
use Rattle.std.proofs.Common.{append-nil, append_assoc, arith}
use Rattle.std.specs.Prelude.{slice_get}
use Rattle.fs_base.specs.Config.{Settings}
use Rattle.fs_base.specs.declared.call.Request.{Request}
use Rattle.txn_task.specs.declared.outcome.Outcome.{Outcome}
use Rattle.txn_task.specs.declared.outcome.Receipt.{Receipt}
use Rattle.client_core.specs.Client.{ClientView, client_step, end_call, new_client, send}
use Rattle.client_core.specs.Courses.{Course, IsFrom, AreNumbered, after_course, after_courses, gone_at, receipts_along}
use Rattle.client_core.specs.Courses.{receipts_of_ask, replied, sent_again}
use Rattle.client_core.specs.Descriptors.{none_open}
use Rattle.client_core.specs.Moved.{gone_from, server_after_stops}
use Rattle.client_core.specs.Ops.{receipt_of}
use Rattle.client_core.specs.Plans.{IsScript}
use Rattle.client_core.specs.declared.messages.ClientAnswer.TheVariants as answers
use Rattle.client_core.specs.declared.messages.ClientAsk.{ClientAsk}
use Rattle.client_core.specs.declared.messages.ClientAsk.TheVariants as asks
use Rattle.client_core.specs.declared.descriptors.Descriptor.{Descriptor}
use Rattle.client_core.specs.declared.plan.Op.{Op}
use Rattle.client_core.specs.declared.plan.Script.{Script}
use Rattle.client_core.proofs.Moved.{moved_below}
use Rattle.client_core.proofs.Replayed.{IsIdleAt, again_there, answered_end, answered_there, client_at, course_open, ended_there, sent_at}
use Rattle.client_core.proofs.Replayed.{replayed_idle, request_at, there_or_end}

-- ---- one more

pub after_push : (c : ClientView) (courses : List Course) (one : Course)
    → after_courses c (courses ++ one ∷ []) ≡ (after_course (after_courses c courses) one).0
after_push c [] one = refl
after_push c (first ∷ courses) one = after_push (after_course c first).0 courses one

pub along_push : (c : ClientView) (courses : List Course) (one : Course)
    → receipts_along c (courses ++ one ∷ [])
    ≡ receipts_along c courses ++ receipts_of_ask (after_course (after_courses c courses) one).1
along_push c [] one = append-nil (receipts_of_ask (after_course c one).1)
along_push c (first ∷ courses) one =
    let told : List Receipt = receipts_of_ask (after_course c first).1 in
    let next : ClientView = (after_course c first).0 in
    ap (λ (rs : List Receipt). told ++ rs) (along_push next courses one)
    ∙ sym (append_assoc told (receipts_along next courses) (receipts_of_ask (after_course (after_courses next courses) one).1))

pub again_push : (stops : List ℕ) (stop : ℕ) (sent : ClientView × ClientAsk)
    → sent_again (stops ++ stop ∷ []) sent
    ≡ client_step (sent_again stops sent).0 (gone_at (sent_again stops sent).1 stop)
again_push [] stop sent = refl
again_push (first ∷ stops) stop sent = again_push stops stop (client_step sent.0 (gone_at sent.1 first))

-- a request that is answered ends its course
pub course_ends : (rest c : ClientView) (request : Request) (stops : List ℕ) (outcome : Outcome)
    → sent_again stops (client_step rest answers.Next) ≡ (c, asks.Send c.server request)
    → after_course rest (record { stops = stops; outcome = outcome }) ≡ end_call c c.server outcome c.request
course_ends rest c request stops outcome is = ap (replied outcome) is

-- the receipt that a client keeps of a request that ended
pub kept_is : (c : ClientView) (server : ℕ) (outcome : Outcome) (request : Request) (receipt : Receipt)
    → asks.CallEnd (receipt ∷ []) true ≡ (end_call c server outcome (Some request)).1
    → receipt ≡ receipt_of c.op request server c.gone outcome
kept_is c server outcome request receipt e = cc

-- and one operation more has ended
pub op_kept : (c : ClientView) (server : ℕ) (outcome : Outcome) (o : Option Request) (receipt : Receipt)
    → asks.CallEnd (receipt ∷ []) true ≡ (end_call c server outcome o).1 → (end_call c server outcome o).0.op ≡ c.op + 1
op_kept c server outcome None receipt e = absurd (cc)
op_kept c server outcome (Some request) receipt e = refl

-- ---- where it stands

module _ (C : Settings) (script : Script) where
  -- the client with a request under way, after these stops
  pub record IsOnWay (op : ℕ) (c : ClientView) (request : Request) : Type 0 where
    pub step : Op
    pub there : slice_get script.ops op ≡ Some step
    pub server : ℕ
    pub below : server < C.servers
    pub descriptors : List (Option Descriptor)
    pub gone : List (ℕ × ℕ)
    pub is : c ≡ record (client_at C script descriptors server op) { number = op + 1; gone = gone; request = Some request }
    pub request_is : request ≡ request_at C script descriptors server op step

  pub on_way : (rest c : ClientView) (request : Request) (h : IsIdleAt C script rest) → IsFrom rest c (Some request)
      → IsOnWay h.op c request
  on_way rest c request h from = elim (there_or_end C script script.ops h.op) [ inl there ↦ there_is there.0 there.1 | inr end ↦ none_left end ]
    where
      sends : (o : Option Op) → slice_get script.ops h.op ≡ o
          → sent_again from.0 (send (client_at C script h.descriptors h.server h.op) o) ≡ (c, asks.Send c.server request)
      sends o is =
          ap (λ (p : Option Op). sent_again from.0 (send (client_at C script h.descriptors h.server h.op) p)) (sym is)
          ∙ (ap (λ (v : ClientView). sent_again from.0 (client_step v answers.Next)) (sym h.is) ∙ from.1)

      asked_is : (m n : ℕ) (p q : Request) → asks.Send m p ≡ asks.Send n q → p ≡ q
      asked_is m n p q e = cc

      there_is : (step : Op) → slice_get script.ops h.op ≡ Some step → IsOnWay h.op c request
      there_is step there =
          let last : ℕ = server_after_stops C h.server from.0 in
          let gone : List (ℕ × ℕ) = gone_from C h.server from.0 in
          let both : sent_at C script h.descriptors last gone h.op step ≡ (c, asks.Send c.server request)
          = sym (again_there C script from.0 h.descriptors h.server [] h.op step) ∙ sends (Some step) there in
          let request_is : request_at C script h.descriptors last h.op step ≡ request
          = asked_is last c.server (request_at C script h.descriptors last h.op step) request (ap (λ (p : ClientView × ClientAsk). p.1) both) in
          record {
            step = step;
            there = there;
            server = last;
            below = moved_below C h.server from.0 h.below;
            descriptors = h.descriptors;
            gone = gone;
            is = sym (ap (λ (p : ClientView × ClientAsk). p.0) both)
                ∙ ap (λ (q : Request). record (client_at C script h.descriptors last h.op) { number = h.op + 1; gone = gone; request = Some q }) request_is;
            request_is = sym request_is;
          }

      apart : (m : ℕ) (q : Request) → asks.Ended ≡ asks.Send m q → ⊥
      apart m q e = cc

      none_left : slice_get script.ops h.op ≡ None → IsOnWay h.op c request
      none_left end =
          absurd (apart c.server request
          (ap (λ (p : ClientView × ClientAsk). p.1)
          (sym (ended_there C script from.0 h.descriptors h.server h.op end) ∙ sends None end)))

  -- ---- numbers

  numbered_at : (courses : List Course) (descriptors : List (Option Descriptor)) (server op : ℕ)
      → AreNumbered op (receipts_along (client_at C script descriptors server op) courses) (after_courses (client_at C script descriptors server op) courses).op
  numbered_at [] descriptors server op = refl
  numbered_at (course ∷ courses) descriptors server op = elim (there_or_end C script script.ops op) [
    | inl there ↦
        subst (λ (p : ClientView × ClientAsk). AreNumbered op (receipts_of_ask p.1 ++ receipts_along p.0 courses) (after_courses p.0 courses).op)
        (sym (answered_there C script descriptors server op there.0 course there.1))
        (refl, refl, numbered_at courses (course_open C script descriptors server op there.0 course) (server_after_stops C server course.stops) (op + 1))
    | inr end ↦
        subst (λ (p : ClientView × ClientAsk). AreNumbered op (receipts_of_ask p.1 ++ receipts_along p.0 courses) (after_courses p.0 courses).op)
        (sym (answered_end C script descriptors server op course end))
        (numbered_at courses descriptors server op)
  ]

  -- of a client that has done nothing before
  pub numbered : (courses : List Course)
      → AreNumbered 0 (receipts_along (new_client C script) courses) (after_courses (new_client C script) courses).op
  numbered courses = numbered_at courses none_open script.home 0

  pub rests_at : (courses : List Course) → IsScript C.servers script → IsIdleAt C script (after_courses (new_client C script) courses)
  rests_at courses is =
      replayed_idle C script (new_client C script) courses
      (record { op = 0; server = script.home; descriptors = none_open; is = refl; below = is.home; within = omega arith })

  -- a client is at the operation of the one that it went on from
  pub same_op : (rest c : ClientView) (o : Option Request) → IsIdleAt C script rest → IsFrom rest c o → c.op ≡ rest.op
  same_op rest c None h from = ap (λ (v : ClientView). v.op) from
  same_op rest c (Some request) h from =
      let way : IsOnWay h.op c request = on_way rest c request h from in
      ap (λ (v : ClientView). v.op) way.is ∙ sym (ap (λ (v : ClientView). v.op) h.is)

-- numbers rise
pub numbered_up : (op last : ℕ) (rs : List Receipt) → AreNumbered op rs last → op ≤ last
numbered_up op last [] h = omega (arith, h)
numbered_up op last (r ∷ rs) h = omega (arith, numbered_up (op + 1) last rs h.2)
