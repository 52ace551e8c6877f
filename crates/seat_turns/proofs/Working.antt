-- A client's seat: its request under way, and what is done of it.
use Rattle.std.proofs.Common.{◌≡◌, ◌⊎◌, ℕ, ◌+◌, ◌<◌, ◌≤◌, inl, inr, List, Option, Some, None, length, refl, sym, ap, subst, ◌∙◌, arith}
use Rattle.std.specs.Prelude.{slice_get}
use Rattle.std.proofs.lemmas.Option.{same_Some, slice_get_within}
use Rattle.fs_base.specs.Config.{Settings}
use Rattle.fs_base.specs.declared.call.Request.{Request}
use Rattle.txn_task.specs.declared.messages.Entry.{Entry}
use Rattle.client_core.specs.Client.{ClientView, new_client}
use Rattle.client_core.specs.Courses.{IsFrom, after_courses}
use Rattle.client_core.specs.declared.plan.Stop.{Stop}
use Rattle.client_core.proofs.Courses.{IsOnWay, on_way, rests_at}
use Rattle.client_core.proofs.Replayed.{IsIdleAt, client_at}
use Rattle.seat_turns.specs.Kept.{AreNamed, IsSeat, IsTakenAway, IsWork, IsWorking}
use Rattle.seat_turns.specs.declared.seats.Seat.{Seat}
use Rattle.seat_turns.specs.declared.seats.Work.{Work}

module _ (C : Settings) (attempts : ℕ) (stops : List Stop) (journal : List Entry) (k : ℕ) (seat : Seat) (h : IsSeat C attempts stops journal k seat) where
  -- ---- the request under way

  abbrev rest : ClientView
  rest = after_courses (new_client C seat.client.script) h.past.courses

  abbrev rests : IsIdleAt C seat.client.script rest
  rests = rests_at C seat.client.script h.past.courses h.script

  way : (request : Request) → seat.client.request ≡ Some request → IsOnWay C seat.client.script rests.op seat.client request
  way request is = on_way C seat.client.script rest seat.client request rests (subst (IsFrom rest seat.client) is h.past.from)

  -- it is its client's
  pub sent_own : (request : Request) → seat.client.request ≡ Some request → request.client ≡ seat.client.script.id
  sent_own request is = ap (λ (q : Request). q.client) (way request is).request_is

  -- and was sent to the present server
  pub sent_where : (request : Request) → seat.client.request ≡ Some request → request.server ≡ seat.client.server
  sent_where request is =
      ap (λ (q : Request). q.server) (way request is).request_is ∙ sym (ap (λ (c : ClientView). c.server) (way request is).is)

  -- which is one of the configuration
  pub sent_below : (request : Request) → seat.client.request ≡ Some request → seat.client.server < C.servers
  sent_below request is =
      let on : IsOnWay C seat.client.script rests.op seat.client request = way request is in
      let here : seat.client.server ≡ on.server = ap (λ (c : ClientView). c.server) on.is in
      omega (arith, on.below)

  -- its operation is there
  sent_step : (request : Request) → seat.client.request ≡ Some request → seat.client.op < length seat.client.script.ops
  sent_step request is =
      let on : IsOnWay C seat.client.script rests.op seat.client request = way request is in
      let here : seat.client.op ≡ rests.op = ap (λ (c : ClientView). c.op) on.is in
      omega (arith, slice_get_within seat.client.script.ops rests.op on.step on.there)

  -- where none is, the next number is that of the next operation
  pub next_number : seat.client.request ≡ None → seat.client.number ≡ seat.client.op
  next_number none =
      let is : seat.client ≡ client_at C seat.client.script rests.descriptors rests.server rests.op = subst (IsFrom rest seat.client) none h.past.from ∙ rests.is in
      ap (λ (c : ClientView). c.number) is ∙ sym (ap (λ (c : ClientView). c.op) is)

  -- ---- what a seat works on

  abbrev pub Rests : Type 0
  Rests = (seat.client.request ≡ None) × AreNamed stops journal seat.client.script.id seat.receipts

  abbrev pub Works : Work → Type 0
  Works work = (sent : (request : Request) × (seat.client.request ≡ Some request)) × IsWork C attempts stops journal seat.client seat.receipts sent.0 work

  abbrev pub Waits : ℕ → Type 0
  Waits front = (sent : (request : Request) × (seat.client.request ≡ Some request)) × IsTakenAway C stops journal seat.client seat.receipts sent.0 front

  pub record IsResting : Type 0 where
    pub work : seat.work ≡ None
    pub again : seat.again ≡ None
    pub rests : Rests

  pub record IsServed : Type 0 where
    pub work : Work
    pub there : seat.work ≡ Some work
    pub again : seat.again ≡ None
    pub works : Works work

  pub record IsWaiting : Type 0 where
    pub front : ℕ
    pub work : seat.work ≡ None
    pub again : seat.again ≡ Some front
    pub waits : Waits front

  pub stage : IsResting ⊎ (IsServed ⊎ IsWaiting)
  stage = by_parts seat.client.request seat.work seat.again refl refl refl h.working
    where
      by_parts : (b : Option Request) (o : Option Work) (a : Option ℕ) → seat.client.request ≡ b → seat.work ≡ o → seat.again ≡ a
          → IsWorking C attempts stops journal seat.client seat.receipts b o a → IsResting ⊎ (IsServed ⊎ IsWaiting)
      by_parts None None None sent is again w = inl (record { work = is; again = again; rests = (sent, w) })
      by_parts (Some request) (Some work) None sent is again w =
          inr (inl (record { work = work; there = is; again = again; works = ((request, sent), w) }))
      by_parts (Some request) None (Some front) sent is again w =
          inr (inr (record { front = front; work = is; again = again; waits = ((request, sent), w) }))
      by_parts None None (Some front) sent is again w = absurd w
      by_parts None (Some work) None sent is again w = absurd w
      by_parts None (Some work) (Some front) sent is again w = absurd w
      by_parts (Some request) None None sent is again w = absurd w
      by_parts (Some request) (Some work) (Some front) sent is again w = absurd w

  apart : {A : Type 0} (o : Option A) (a : A) → o ≡ None → o ≡ Some a → ⊥
  apart o a none some = let f : None ≡ Some a = sym none ∙ some in cc

  pub served_of : (work : Work) → seat.work ≡ Some work → (seat.again ≡ None) × Works work
  served_of work is = elim stage [
    | inl rests ↦ absurd (apart seat.work work rests.work is)
    | inr other ↦ elim other [
      | inl served ↦ (served.again, subst Works (same_Some served.work work (sym served.there ∙ is)) served.works)
      | inr waiting ↦ absurd (apart seat.work work waiting.work is)
    ]
  ]

  pub work_of : (work : Work) → seat.work ≡ Some work → Works work
  work_of work is = (served_of work is).1

  pub waits_of : (front : ℕ) → seat.again ≡ Some front → Waits front
  waits_of front is = elim stage [
    | inl rests ↦ absurd (apart seat.again front rests.again is)
    | inr other ↦ elim other [
      | inl served ↦ absurd (apart seat.again front served.again is)
      | inr waiting ↦ subst Waits (same_Some waiting.front front (sym waiting.again ∙ is)) waiting.waits
    ]
  ]

  pub rests_of : seat.work ≡ None → seat.again ≡ None → Rests
  rests_of work again = elim stage [
    | inl rests ↦ rests.rests
    | inr other ↦ elim other [
      | inl served ↦ absurd (apart seat.work served.work work served.there)
      | inr waiting ↦ absurd (apart seat.again waiting.front again waiting.again)
    ]
  ]

  pub unsent : seat.client.request ≡ None → AreNamed stops journal seat.client.script.id seat.receipts
  unsent still = elim stage [
    | inl rests ↦ rests.rests.1
    | inr other ↦ elim other [
      | inl served ↦ absurd (apart seat.client.request served.works.0.0 still served.works.0.1)
      | inr waiting ↦ absurd (apart seat.client.request waiting.waits.0.0 still waiting.waits.0.1)
    ]
  ]

  -- where a request is under way its operation is there
  pub all_done : length seat.client.script.ops ≤ seat.client.op → seat.client.request ≡ None
  all_done all = elim stage [
    | inl rests ↦ rests.rests.0
    | inr other ↦ elim other [
      | inl served ↦ absurd (omega (arith, sent_step served.works.0.0 served.works.0.1))
      | inr waiting ↦ absurd (omega (arith, sent_step waiting.waits.0.0 waiting.waits.0.1))
    ]
  ]
