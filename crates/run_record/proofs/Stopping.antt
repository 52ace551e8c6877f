-- What holds of stops while the journal and the receipts grow.
use Rattle.std.proofs.Common.{◌≡◌, ◌≢◌, inl, inr, ℕ, ◌+◌, ◌<◌, ◌≤◌, List, [], ◌∷◌, ◌++◌, Bool, true, false, cond, eqb, count_by, All, length, take, refl, sym, ap, ◌∙◌, arith}
use Rattle.std.specs.List.{list_any}
use Rattle.std.proofs.lemmas.Bool.{and_from, and_parts, eq-eqb, le-leb, leb-true, ne_eqb, or_cases}
use Rattle.std.proofs.lemmas.List.{take-append-le, take_all, length-append}
use Rattle.std.proofs.lemmas.List.Elements.{All-append, All-head, All-push, All-weaker}
use Rattle.std.proofs.lemmas.List.Sums.{count_by-le-length, sum_by-append, sum_by-cons}
use Rattle.client_core.specs.declared.plan.Stop.{Stop}
use Rattle.client_core.specs.declared.plan.StopAfter.{StopAfter}
use Rattle.client_core.specs.declared.plan.StopAfter.TheVariants as after
use Rattle.run_record.specs.Receipts.{HasStopped}
use Rattle.run_record.specs.Stops.{AllPlanned, HasGoneReceipt, IsPlannedStop, StopsBehind, entries_by, is_reached, is_stop_behind, may_have_come}
use Rattle.run_record.specs.declared.run.Listed.{Listed}
use Rattle.txn_task.specs.declared.messages.Entry.{Entry}

-- ---- how many pass a test

abbrev one_if : Bool → ℕ
one_if b = cond b 1 0

passes : (b c : Bool) → (b ≡ true → c ≡ true) → one_if b ≤ one_if c
passes false c h = omega arith
passes true c h = let is : one_if c ≡ 1 = ap one_if (h refl) in omega arith

module _ {X : Type 0} where
  pub count_by-cons : (p : X → Bool) (x : X) (xs : List X) → count_by p (x ∷ xs) ≡ one_if (p x) + count_by p xs
  count_by-cons p x xs = sum_by-cons (λ y. cond (p y) 1 0) x xs

  -- a test that more pass
  pub count_by_up : (p q : X → Bool) → ((x : X) → p x ≡ true → q x ≡ true) → (xs : List X) → count_by p xs ≤ count_by q xs
  count_by_up p q up [] = omega arith
  count_by_up p q up (x ∷ xs) =
      omega (arith, count_by-cons p x xs, count_by-cons q x xs, passes (p x) (q x) (up x), count_by_up p q up xs)

  -- one passes the second that doesn't pass the first
  pub count_by_more : (p q r : X → Bool) → ((x : X) → p x ≡ true → q x ≡ true) → ((x : X) → r x ≡ true → (p x ≡ false) × (q x ≡ true))
      → (xs : List X) → list_any r xs ≡ true → count_by p xs + 1 ≤ count_by q xs
  count_by_more p q r up new [] any = absurd (let f : false ≡ true = any in cc)
  count_by_more p q r up new (x ∷ xs) any = elim (or_cases (r x) (list_any r xs) any) [
    | inl here ↦
        (let is : (p x ≡ false) × (q x ≡ true) = new x here in
        let less : one_if (p x) ≡ 0 = ap one_if is.0 in
        let more : one_if (q x) ≡ 1 = ap one_if is.1 in
        omega (arith, count_by-cons p x xs, count_by-cons q x xs, count_by_up p q up xs))
    | inr later ↦
        omega (arith, count_by-cons p x xs, count_by-cons q x xs, passes (p x) (q x) (up x), count_by_more p q r up new xs later)
  ]

-- ---- the entries of a server

pub entries_by-append : (server : ℕ) (es more : List Entry) → entries_by server (es ++ more) ≡ entries_by server es + entries_by server more
entries_by-append server es more = sum_by-append (λ (e : Entry). cond (eqb e.request.server server) 1 0) es more

one_entry : (server : ℕ) (e : Entry) (b : Bool) → eqb e.request.server server ≡ b → entries_by server (e ∷ []) ≡ one_if b
one_entry server e b is =
    let first : entries_by server (e ∷ []) ≡ one_if (eqb e.request.server server) + 0 = count_by-cons (λ (x : Entry). eqb x.request.server server) e [] in
    let same : one_if (eqb e.request.server server) ≡ one_if b = ap one_if is in
    omega arith

pub entries_by-own : (server : ℕ) (es : List Entry) (e : Entry) → e.request.server ≡ server → entries_by server (es ++ e ∷ []) ≡ entries_by server es + 1
entries_by-own server es e is =
    omega (arith, entries_by-append server es (e ∷ []), one_entry server e true (eq-eqb e.request.server server is))

pub entries_by-other : (server : ℕ) (es : List Entry) (e : Entry) → e.request.server ≢ server → entries_by server (es ++ e ∷ []) ≡ entries_by server es
entries_by-other server es e other =
    omega (arith, entries_by-append server es (e ∷ []), one_entry server e false (ne_eqb e.request.server server other))

pub entries_by-longer : (server : ℕ) (es more : List Entry) → entries_by server es ≤ entries_by server (es ++ more)
entries_by-longer server es more = omega (arith, entries_by-append server es more)

pub entries_by_within : (server : ℕ) (es : List Entry) → entries_by server es ≤ length es
entries_by_within server es = count_by-le-length (λ (e : Entry). eqb e.request.server server) es

-- ---- stops that may have come

reached_later : (kind : StopAfter) (n made more : ℕ) → made ≤ more → is_reached kind n made ≡ true → is_reached kind n more ≡ true
reached_later after.Ask n made more l is = refl
reached_later after.Commit n made more l is = let from : n ≤ made = leb-true n made is in le-leb n more (omega arith)

pub may_have_come_later : (server made more : ℕ) → made ≤ more → (stop : Stop) → may_have_come server made stop ≡ true → may_have_come server more stop ≡ true
may_have_come_later server made more l stop is =
    let parts = and_parts (eqb stop.server server) (is_reached stop.after stop.n made) is in
    and_from (eqb stop.server server) (is_reached stop.after stop.n more) parts.0 (reached_later stop.after stop.n made more l parts.1)

module _ (stops : List Stop) (es more : List Entry) where
  pub IsPlannedStop-longer : (gone : ℕ × ℕ) → IsPlannedStop stops es gone → IsPlannedStop stops (es ++ more) gone
  IsPlannedStop-longer gone h =
      let made : ℕ = entries_by gone.0 es in
      let later : ℕ = entries_by gone.0 (es ++ more) in
      let up : count_by (may_have_come gone.0 made) stops ≤ count_by (may_have_come gone.0 later) stops
      = count_by_up (may_have_come gone.0 made) (may_have_come gone.0 later) (may_have_come_later gone.0 made later (entries_by-longer gone.0 es more)) stops in
      let to : gone.1 ≤ count_by (may_have_come gone.0 made) stops = h.1 in
      (h.0, omega arith)

  pub all_planned-longer : (gone : List (ℕ × ℕ)) → All (IsPlannedStop stops es) gone → All (IsPlannedStop stops (es ++ more)) gone
  all_planned-longer gone h = All-weaker (IsPlannedStop stops es) (IsPlannedStop stops (es ++ more)) IsPlannedStop-longer gone h

  pub AllPlanned-longer : (receipts : List Listed) → AllPlanned stops es receipts → AllPlanned stops (es ++ more) receipts
  AllPlanned-longer receipts h =
      All-weaker (λ (listed : Listed). All (IsPlannedStop stops es) listed.receipt.gone) (λ (listed : Listed). All (IsPlannedStop stops (es ++ more)) listed.receipt.gone)
      (λ listed. all_planned-longer listed.receipt.gone) receipts h

pub AllPlanned-append : (stops : List Stop) (es : List Entry) (own rest : List Listed) → AllPlanned stops es own → AllPlanned stops es rest → AllPlanned stops es (own ++ rest)
AllPlanned-append stops es own rest = All-append (λ (listed : Listed). All (IsPlannedStop stops es) listed.receipt.gone) own rest

pub AllPlanned-push : (stops : List Stop) (es : List Entry) (receipts : List Listed) (listed : Listed) → AllPlanned stops es receipts → All (IsPlannedStop stops es) listed.receipt.gone
    → AllPlanned stops es (receipts ++ listed ∷ [])
AllPlanned-push stops es receipts listed h new = All-push (λ (l : Listed). All (IsPlannedStop stops es) l.receipt.gone) receipts listed h new

-- where no stop is planned, none is told
none_told : (es : List Entry) (gone : List (ℕ × ℕ)) → All (IsPlannedStop [] es) gone → gone ≡ []
none_told es [] h = refl
none_told es (stop ∷ gone) h =
    absurd (let first : IsPlannedStop [] es stop = All-head (IsPlannedStop [] es) stop gone h in
    let from : 1 ≤ stop.1 = first.0 in
    let to : stop.1 ≤ 0 = first.1 in omega arith)

pub none_planned : (es : List Entry) (receipts : List Listed) → AllPlanned [] es receipts → All (λ listed. listed.receipt.gone ≡ []) receipts
none_planned es receipts h =
    All-weaker (λ (listed : Listed). All (IsPlannedStop [] es) listed.receipt.gone) (λ (listed : Listed). listed.receipt.gone ≡ [])
    (λ listed. none_told es listed.receipt.gone) receipts h

-- ---- stops behind entries

module _ (stops : List Stop) (es more : List Entry) (place : ℕ) (e : Entry) (within : place < length es) where
  same_front : take (place + 1) (es ++ more) ≡ take (place + 1) es
  same_front = take-append-le (place + 1) es more (omega arith)

  pub StopsBehind-longer : StopsBehind stops es place e → StopsBehind stops (es ++ more) place e
  StopsBehind-longer h = ap (λ (front : List Entry). list_any (is_stop_behind e.request.server (entries_by e.request.server front)) stops) same_front ∙ h

  pub StopsBehind-shorter : StopsBehind stops (es ++ more) place e → StopsBehind stops es place e
  StopsBehind-shorter h = ap (λ (front : List Entry). list_any (is_stop_behind e.request.server (entries_by e.request.server front)) stops) (sym same_front) ∙ h

-- behind the newest entry
pub StopsBehind_last : (stops : List Stop) (es : List Entry) (e : Entry) → StopsBehind stops (es ++ e ∷ []) (length es) e
    → list_any (is_stop_behind e.request.server (entries_by e.request.server (es ++ e ∷ []))) stops ≡ true
StopsBehind_last stops es e h =
    let whole : take (length es + 1) (es ++ e ∷ []) ≡ es ++ e ∷ [] = take_all (length es + 1) (es ++ e ∷ []) (omega (arith, length-append es (e ∷ []))) in
    ap (λ (front : List Entry). list_any (is_stop_behind e.request.server (entries_by e.request.server front)) stops) (sym whole) ∙ h

-- ---- receipts that tell of a stop

pub HasStopped-push : (gone : List (ℕ × ℕ)) (stop : ℕ × ℕ) (server : ℕ) → HasStopped gone server → HasStopped (gone ++ stop ∷ []) server
HasStopped-push [] stop server h = absurd h
HasStopped-push (x ∷ gone) stop server h = elim h [ inl here ↦ inl here | inr later ↦ inr (HasStopped-push gone stop server later) ]

pub HasStopped_new : (gone : List (ℕ × ℕ)) (stop : ℕ × ℕ) (server : ℕ) → stop.0 ≡ server → HasStopped (gone ++ stop ∷ []) server
HasStopped_new [] stop server is = inl is
HasStopped_new (x ∷ gone) stop server is = inr (HasStopped_new gone stop server is)

pub HasGoneReceipt-left : (own rest : List Listed) (place server : ℕ) → HasGoneReceipt own place server → HasGoneReceipt (own ++ rest) place server
HasGoneReceipt-left [] rest place server h = absurd h
HasGoneReceipt-left (x ∷ own) rest place server h = elim h [ inl here ↦ inl here | inr later ↦ inr (HasGoneReceipt-left own rest place server later) ]

pub HasGoneReceipt-right : (own rest : List Listed) (place server : ℕ) → HasGoneReceipt rest place server → HasGoneReceipt (own ++ rest) place server
HasGoneReceipt-right [] rest place server h = h
HasGoneReceipt-right (x ∷ own) rest place server h = inr (HasGoneReceipt-right own rest place server h)

pub HasGoneReceipt_new : (receipts : List Listed) (listed : Listed) (place server : ℕ) → listed.receipt.committed ≡ true → listed.receipt.version ≡ place + 1 → HasStopped listed.receipt.gone server
    → HasGoneReceipt (receipts ++ listed ∷ []) place server
HasGoneReceipt_new receipts listed place server mark version told =
    HasGoneReceipt-right receipts (listed ∷ []) place server (inl (mark, version, told))
