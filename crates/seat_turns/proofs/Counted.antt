-- What servers count, over one ask: their entries, and no more stops than planned.
use Rattle.std.proofs.Common.{◌≡◌, ◌≢◌, ℕ, ◌+◌, ◌<◌, ◌≤◌, inl, inr, List, [], ◌∷◌, ◌++◌, Option, Some, None, Bool, true, false, append-nil, cond, count_by, length, length-append, eqb, nat_le, nat_lt, refl, sym, ap, subst, ◌∙◌, ◌&&◌, ◌||◌, arith}
use Rattle.std.specs.List.{list_any}
use Rattle.std.specs.Prelude.{slice_get}
use Rattle.std.proofs.lemmas.Bool.{and_from, and_parts, cases_Bool, cases_eq, eqb-true, leb-true, le-leb, lt-ltb, ltb-true, or_cases}
use Rattle.std.proofs.lemmas.List.{take_all}
use Rattle.std.proofs.lemmas.Option.{same_Some}
use Rattle.fs_base.specs.Config.{Settings}
use Rattle.txn_task.specs.declared.messages.Entry.{Entry}
use Rattle.client_core.specs.declared.plan.Stop.{Stop}
use Rattle.client_core.specs.declared.plan.StopAfter.{StopAfter}
use Rattle.client_core.specs.declared.plan.StopAfter.TheVariants as after
use Rattle.histories.proofs.Lists.{at_within}
use Rattle.run_record.specs.Legal.{EntryAt}
use Rattle.run_record.specs.Stops.{IsPlannedStop, StopsBehind, entries_by, is_behind, is_reached, is_stop_behind, may_have_come}
use Rattle.run_record.proofs.History.{at_there}
use Rattle.run_record.proofs.Stopping.{count_by_more, count_by_up, entries_by-other, entries_by-own}
use Rattle.seat_turns.specs.Servers.{AreCounted, HasCounted, IsCounted, counted, has_made, is_due, is_due_after, is_past, is_past_after, with_ask, with_stop}
use Rattle.seat_turns.specs.declared.servers.ServerCounts.{ServerCounts}

-- ---- tests

not_less : (n : ℕ) → nat_lt n n ≡ false
not_less n = elim (cases_Bool (nat_lt n n)) [ inl less ↦ absurd (let l : n < n = ltb-true n n less in omega arith) | inr is ↦ is ]

not_le : (m n : ℕ) → n < m → nat_le m n ≡ false
not_le m n l = elim (cases_Bool (nat_le m n)) [ inl le ↦ absurd (let k : m ≤ n = leb-true m n le in omega arith) | inr is ↦ is ]

any_where : {X : Type 0} (p q : X → Bool) → ((x : X) → p x ≡ true → q x ≡ true) → (xs : List X) → list_any p xs ≡ true → list_any q xs ≡ true
any_where p q up [] any = any
any_where p q up (x ∷ xs) any = elim (or_cases (p x) (list_any p xs) any) [
  | inl here ↦ or_left (q x) (list_any q xs) (up x here)
  | inr later ↦ or_right (q x) (list_any q xs) (any_where p q up xs later)
]
  where
    or_left : (b c : Bool) → b ≡ true → (b || c) ≡ true
    or_left true c e = refl
    or_left false c e = absurd (cc)

    or_right : (b c : Bool) → c ≡ true → (b || c) ≡ true
    or_right true c e = refl
    or_right false c e = e

-- ---- one ask of a server, with at most one entry, which it made

module _ (stops : List Stop) (es : List Entry) (server : ℕ) where
  commits_by : (more : List Entry) → length more ≤ 1 → ((place : ℕ) (e : Entry) → EntryAt more place e → e.request.server ≡ server)
      → (c : ServerCounts) → c.commits ≡ entries_by server es
      → (with_ask (has_made es (es ++ more)) c).commits ≡ entries_by server (es ++ more)
  commits_by [] few own c is =
      subst (λ js. (with_ask (has_made es js) c).commits ≡ entries_by server js) (sym (append-nil es))
      (ap (λ b. cond b (c.commits + 1) c.commits) (not_less (length es)) ∙ is)
  commits_by (x ∷ []) few own c is =
      let longer : length es < length (es ++ x ∷ []) = omega (arith, length-append es (x ∷ [])) in
      ap (λ b. cond b (c.commits + 1) c.commits) (lt-ltb (length es) (length (es ++ x ∷ [])) longer)
      ∙ (ap (λ n. n + 1) is ∙ sym (entries_by-own server es x (own 0 x refl)))
  commits_by (x ∷ y ∷ more) few own c is = absurd (omega arith)

  others_by : (other : ℕ) → other ≢ server → (more : List Entry) → length more ≤ 1
      → ((place : ℕ) (e : Entry) → EntryAt more place e → e.request.server ≡ server)
      → entries_by other (es ++ more) ≡ entries_by other es
  others_by other apart [] few own = ap (λ js. entries_by other js) (append-nil es)
  others_by other apart (x ∷ []) few own = entries_by-other other es x (λ same. apart (sym same ∙ own 0 x refl))
  others_by other apart (x ∷ y ∷ more) few own = absurd (omega arith)

  module _ (made : Bool) (c : ServerCounts) where
    abbrev now : ServerCounts
    now = with_ask made c

    commits_up : c.commits ≤ now.commits
    commits_up = elim (cases_Bool made) [
      | inl is ↦ (let more : now.commits ≡ c.commits + 1 = ap (λ b. cond b (c.commits + 1) c.commits) is in omega arith)
      | inr is ↦ (let same : now.commits ≡ c.commits = ap (λ b. cond b (c.commits + 1) c.commits) is in omega arith)
    ]

    past_after : (a : StopAfter) (n : ℕ) → is_past_after a n c.asks c.commits ≡ true → is_past_after a n now.asks now.commits ≡ true
    past_after after.Ask n e = le-leb n now.asks (let l : n ≤ c.asks = leb-true n c.asks e in omega arith)
    past_after after.Commit n e = le-leb n now.commits (let l : n ≤ c.commits = leb-true n c.commits e in omega (arith, commits_up))

    past_on : (stop : Stop) → is_past server c.asks c.commits stop ≡ true → is_past server now.asks now.commits stop ≡ true
    past_on stop e =
        let parts : (eqb stop.server server ≡ true) × (is_past_after stop.after stop.n c.asks c.commits ≡ true) = and_parts _ _ e in
        and_from _ _ parts.0 (past_after stop.after stop.n parts.1)

    due_after : (a : StopAfter) (n : ℕ) → is_due_after a made n now ≡ true
        → (is_past_after a n c.asks c.commits ≡ false) × (is_past_after a n now.asks now.commits ≡ true)
    due_after after.Ask n e =
        let at : n ≡ c.asks + 1 = eqb-true n (c.asks + 1) e in
        (not_le n c.asks (omega arith), le-leb n now.asks (omega arith))
    due_after after.Commit n e =
        let parts : (made ≡ true) × (eqb n now.commits ≡ true) = and_parts _ _ e in
        let more : now.commits ≡ c.commits + 1 = ap (λ b. cond b (c.commits + 1) c.commits) parts.0 in
        let at : n ≡ now.commits = eqb-true n now.commits parts.1 in
        (not_le n c.commits (omega arith), le-leb n now.commits (omega arith))

    due_new : (stop : Stop) → is_due server made now stop ≡ true
        → (is_past server c.asks c.commits stop ≡ false) × (is_past server now.asks now.commits stop ≡ true)
    due_new stop e =
        let parts : (eqb stop.server server ≡ true) × (is_due_after stop.after made stop.n now ≡ true) = and_parts _ _ e in
        let both = due_after stop.after stop.n parts.1 in
        (ap (λ b. b && is_past_after stop.after stop.n c.asks c.commits) parts.0 ∙ both.0, and_from _ _ parts.0 both.1)

    -- no more stops than the plan has by then
    stops_by : (b : Bool) → list_any (is_due server made now) stops ≡ b → c.stops ≤ count_by (is_past server c.asks c.commits) stops
        → (with_stop b now).0.stops ≤ count_by (is_past server now.asks now.commits) stops
    stops_by false is few =
        let up : count_by (is_past server c.asks c.commits) stops ≤ count_by (is_past server now.asks now.commits) stops
        = count_by_up (is_past server c.asks c.commits) (is_past server now.asks now.commits) past_on stops in
        omega arith
    stops_by true is few =
        let up : count_by (is_past server c.asks c.commits) stops + 1 ≤ count_by (is_past server now.asks now.commits) stops
        = count_by_more (is_past server c.asks c.commits) (is_past server now.asks now.commits) (is_due server made now) past_on due_new stops is in
        omega arith

    commits_kept : (b : Bool) → (with_stop b now).0.commits ≡ now.commits
    commits_kept false = refl
    commits_kept true = refl

    asks_kept : (b : Bool) → (with_stop b now).0.asks ≡ now.asks
    asks_kept false = refl
    asks_kept true = refl

    number_of : (b : Bool) (number : ℕ) → Some number ≡ (with_stop b now).1 → (b ≡ true) × (number ≡ c.stops + 1)
    number_of false number e = absurd (let f : Some number ≡ None = e in cc)
    number_of true number e = (refl, same_Some number (c.stops + 1) e)

    none_due : (b : Bool) → None ≡ (with_stop b now).1 → b ≡ false
    none_due false e = refl
    none_due true e = absurd (let f : None ≡ Some (c.stops + 1) = e in cc)

-- ---- over all servers

module _ (C : Settings) (stops : List Stop) (es more : List Entry) (few : length more ≤ 1) (server : ℕ)
    (own : (place : ℕ) (e : Entry) → EntryAt more place e → e.request.server ≡ server)
    (stop : Option ℕ) (old later : List ServerCounts) (all : AreCounted C stops es old) (below : server < C.servers)
    (asked : HasCounted stops server (has_made es (es ++ more)) stop old later) where
  abbrev made : Bool
  made = has_made es (es ++ more)

  here : (c : ServerCounts) × (slice_get old server ≡ Some c)
  here = at_there old server (let many : length old ≡ C.servers = all.many in omega arith)

  abbrev was : ServerCounts
  was = here.0

  abbrev due : Bool
  due = list_any (is_due server made (with_ask made was)) stops

  is_counted : IsCounted stops es server was
  is_counted = all.each server was here.1

  new_is : (slice_get later server ≡ Some (counted stops server made was).0) × (stop ≡ (counted stops server made was).1)
  new_is = asked.own was here.1

  entries_now : (with_ask made was).commits ≡ entries_by server (es ++ more)
  entries_now = commits_by stops es server more few own was is_counted.commits

  counted_here : IsCounted stops (es ++ more) server (counted stops server made was).0
  counted_here =
      record {
        commits = commits_kept stops es server made was due ∙ entries_now;
        few = subst (λ n. (with_stop due (with_ask made was)).0.stops ≤ count_by (is_past server n (with_stop due (with_ask made was)).0.commits) stops)
            (sym (asks_kept stops es server made was due))
            (subst (λ n. (with_stop due (with_ask made was)).0.stops ≤ count_by (is_past server (with_ask made was).asks n) stops)
            (sym (commits_kept stops es server made was due))
            (stops_by stops es server made was due refl is_counted.few));
      }

  pub are_counted : AreCounted C stops (es ++ more) later
  are_counted =
      record {
        many = asked.many ∙ all.many;
        each = λ other c at. elim (cases_eq other server) [
          | inl same ↦
              subst (λ n. IsCounted stops (es ++ more) n c) (sym same)
              (subst (IsCounted stops (es ++ more) server)
              (same_Some (counted stops server made was).0 c (sym new_is.0 ∙ (ap (slice_get later) (sym same) ∙ at))) counted_here)
          | inr apart ↦
              (let old_is : IsCounted stops es other c = all.each other c (sym (asked.others other apart) ∙ at) in
              record { commits = old_is.commits ∙ sym (others_by stops es server other apart more few own); few = old_is.few })
        ];
      }

  -- the stop that comes is one of the plan's
  pub planned_now : (number : ℕ) → stop ≡ Some number → IsPlannedStop stops (es ++ more) (server, number)
  planned_now number at =
      let is : (due ≡ true) × (number ≡ was.stops + 1) = number_of stops es server made was due number (sym at ∙ new_is.1) in
      let least : was.stops + 1 ≤ count_by (is_past server (with_ask made was).asks (with_ask made was).commits) stops
      = stops_by stops es server made was true is.0 is_counted.few in
      let all_come : count_by (is_past server (with_ask made was).asks (with_ask made was).commits) stops
      ≤ count_by (may_have_come server (entries_by server (es ++ more))) stops
      = count_by_up (is_past server (with_ask made was).asks (with_ask made was).commits) (may_have_come server (entries_by server (es ++ more))) come stops in
      (omega (arith, is.1), omega (arith, is.1))
    where
      come_after : (a : StopAfter) (n : ℕ) → is_past_after a n (with_ask made was).asks (with_ask made was).commits ≡ true
          → is_reached a n (entries_by server (es ++ more)) ≡ true
      come_after after.Ask n e = refl
      come_after after.Commit n e = subst (λ m. nat_le n m ≡ true) entries_now e

      come : (one : Stop) → is_past server (with_ask made was).asks (with_ask made was).commits one ≡ true
          → may_have_come server (entries_by server (es ++ more)) one ≡ true
      come one e =
          let parts : (eqb one.server server ≡ true) × (is_past_after one.after one.n (with_ask made was).asks (with_ask made was).commits ≡ true) = and_parts _ _ e in
          and_from _ _ parts.0 (come_after one.after one.n parts.1)

  -- where none comes, none was to come behind a new entry
  pub quiet_now : stop ≡ None → (behind : ℕ) (e : Entry) → EntryAt more behind e → StopsBehind stops (es ++ more) (length es + behind) e → ⊥
  quiet_now none behind e at stops_behind =
      let within : behind < length more = at_within more behind e at in
      let last : length (es ++ more) ≤ length es + behind + 1 = omega (arith, length-append es more) in
      let longer : length es < length (es ++ more) = omega (arith, length-append es more) in
      let is_made : made ≡ true = lt-ltb (length es) (length (es ++ more)) longer in
      let here_it_is : list_any (is_stop_behind server (entries_by server (es ++ more))) stops ≡ true
      = subst (λ n. list_any (is_stop_behind n (entries_by n (es ++ more))) stops ≡ true) (own behind e at)
      (subst (λ js. list_any (is_stop_behind e.request.server (entries_by e.request.server js)) stops ≡ true)
      (take_all (length es + behind + 1) (es ++ more) last) stops_behind) in
      let is_now : due ≡ true
      = any_where (is_stop_behind server (entries_by server (es ++ more))) (is_due server made (with_ask made was)) (due_behind is_made) stops here_it_is in
      let not_now : due ≡ false = none_due stops es server made was due (sym none ∙ new_is.1) in
      let f : true ≡ false = sym is_now ∙ not_now in cc
    where
      due_after_behind : made ≡ true → (a : StopAfter) (n : ℕ) → is_behind a n (entries_by server (es ++ more)) ≡ true
          → is_due_after a made n (with_ask made was) ≡ true
      due_after_behind is_made after.Ask n e = absurd (let f : false ≡ true = e in cc)
      due_after_behind is_made after.Commit n e =
          and_from _ _ is_made (subst (λ m. eqb n m ≡ true) (sym entries_now) e)

      due_behind : made ≡ true → (one : Stop) → is_stop_behind server (entries_by server (es ++ more)) one ≡ true
          → is_due server made (with_ask made was) one ≡ true
      due_behind is_made one e =
          let parts : (eqb one.server server ≡ true) × (is_behind one.after one.n (entries_by server (es ++ more)) ≡ true) = and_parts _ _ e in
          and_from _ _ parts.0 (due_after_behind is_made one.after one.n parts.1)
