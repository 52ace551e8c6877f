-- What a pass sees of the entries of a client whose errand it holds.
use Rattle.std.proofs.Common.{◌≡◌, ◌≢◌, ℕ, ◌+◌, ◌<◌, List, [], ◌∷◌, ◌++◌, length, get_or, Option, Some, None, Bool, true, false, cond, refl, sym, ap, ◌∙◌, subst, arith, append-nil, ◌==◌, Result, Ok, Err, add-one, eq-eqb, ne_eqb}
use Rattle.std.specs.Prelude.{Contains, is_some, is_err}
use Rattle.std.proofs.Math.Seq.{get_or-set_same}
use Rattle.hist_board.specs.Rule.{Knows, errands_under, seen_at, with_seen, joined, told}
use Rattle.hist_board.specs.Passes.{SeesOn, AllSeen}
use Rattle.hist_board.specs.declared.view.View.{View}
use Rattle.hist_board.proofs.Contained.{off, contains_first, contains_more, contains_left, contains_right}
use Rattle.board_tests.specs.Adding.{HasAdded}
use Rattle.board_tests.specs.Errands.{errand_of, numbers_of, numbers_below, HasEachOnce}
use Rattle.board_tests.specs.declared.log.Entry.{Entry}
use Rattle.board_tests.specs.declared.log.Log.{Log}

abbrev errands : Unit {0} → Entry → List ℕ
errands _ = errand_of

append_case : (b : Bool) (n : ℕ) (xs ys zs : List ℕ) → zs ≡ xs ++ ys
    → cond b (n ∷ zs) zs ≡ cond b (n ∷ xs) xs ++ ys
append_case true n xs ys zs e = ap (λ (ns : List ℕ). n ∷ ns) e
append_case false n xs ys zs e = e

numbers_append : (client : ℕ) (xs ys : List Entry)
    → numbers_of client (xs ++ ys) ≡ numbers_of client xs ++ numbers_of client ys
numbers_append client [] ys = refl
numbers_append client (x ∷ xs) ys = append_case (x.client == client) x.number (numbers_of client xs)
    (numbers_of client ys) (numbers_of client (xs ++ ys)) (numbers_append client xs ys)

numbers_none : (client : ℕ) (ys : List Entry) → ((e : Entry) → Contains ys e → e.client ≢ client)
    → numbers_of client ys ≡ []
numbers_none client [] none = refl
numbers_none client (y ∷ ys) none = rw (ne_eqb y.client client (none y (contains_first y ys)))
    (numbers_none client ys (λ e c. none e (contains_more y ys e c)))

-- what is seen newly while the errand is held has no entry of its client
pub own_stays : (f : Option (Unit {0})) (mine : List ℕ) (client : ℕ) (seen whole : List Entry)
    → is_some f ≡ true → Contains mine client
    → Knows (errands_under errands f) mine seen whole → numbers_of client whole ≡ numbers_of client seen
own_stays None mine client seen whole live has k = absurd (off live)
own_stays (Some f) mine client seen whole live has k =
    ap (λ (es : List Entry). numbers_of client es) k.is ∙ (numbers_append client seen k.rest
    ∙ (ap (λ (ns : List ℕ). numbers_of client seen ++ ns)
    (numbers_none client k.rest
    (λ e c same. k.free client e has c
    (subst (λ (n : ℕ). Contains (e.client ∷ []) n) same (contains_first e.client []))))
    ∙ append-nil (numbers_of client seen)))

-- an entry that is added is the client's last
own_added : (client number : ℕ) (xs : List Entry)
    → let entry : Entry = record { client = client; number = number } in
    numbers_of client (xs ++ entry ∷ []) ≡ numbers_of client xs ++ number ∷ []
own_added client number xs = numbers_append client xs (record { client = client; number = number } ∷ [])
    ∙ ap (λ (b : Bool). numbers_of client xs ++ cond b (number ∷ []) []) (eq-eqb client client refl)

pub own_turn : {E : Type 0} (f : Option (Unit {0})) (mine : List ℕ) (client number : ℕ)
    (seen before after now : List Entry) (r : Result (Unit {0}) E)
    → is_some f ≡ true → Contains mine client
    → Knows (errands_under errands f) mine seen before
    → HasAdded before (record { client = client; number = number }) r after → now ≡ after
    → HasAdded (numbers_of client seen) number r (numbers_of client now)
own_turn f mine client number seen before after now (Ok u) live has k added is =
    ap (λ (es : List Entry). numbers_of client es) (is ∙ added) ∙
    (own_added client number before ∙ ap (λ (ns : List ℕ). ns ++ number ∷ [])
    (own_stays f mine client seen before live has k))
own_turn f mine client number seen before after now (Err e) live has k added is =
    ap (λ (es : List Entry). numbers_of client es) (is ∙ added)
    ∙ own_stays f mine client seen before live has k

pub seen_here : (v w : View Entry (Unit {0})) (h : List Entry) → 0 < length v.seen → w ≡ with_seen 0 h v
    → seen_at w 0 ≡ h
seen_here v w h near is = ap (λ (u : View Entry (Unit {0})). seen_at u 0) is
    ∙ get_or-set_same v.seen 0 h [] near

pub up_to_none : numbers_below 0 ≡ []
unfolding numbers_below
up_to_none = refl

up_to_more : (n : ℕ) → numbers_below (n + 1) ≡ numbers_below n ++ n ∷ []
unfolding numbers_below
up_to_more n = rw add-one refl

-- one number more was added
pub own_more : {E : Type 0} (n : ℕ) (xs ys : List ℕ) (r : Result (Unit {0}) E) → HasAdded xs n r ys
    → is_err r ≡ false → xs ≡ numbers_below n → ys ≡ numbers_below (n + 1)
own_more n xs ys (Ok u) added ok is = added ∙ (ap (λ (ns : List ℕ). ns ++ n ∷ []) is ∙ sym (up_to_more n))
own_more n xs ys (Err e) added ok is = absurd (off (sym ok))

module _ (v a b v1 v2 : View Entry (Unit {0})) (is1 : v1 ≡ told (joined v a)) (is2 : v2 ≡ told (joined v1 b))
    (has_a : Contains a.errands 0) (has_b : Contains b.errands 1) where
  first_held : Contains v1.errands 0
  first_held = subst (λ (u : View Entry (Unit {0})). Contains u.errands 0) (sym is1)
      (contains_right v.errands a.errands 0 has_a)

  -- who joins both has the errands of both
  pub both_held : Contains v2.errands 0 × Contains v2.errands 1
  both_held = subst (λ (u : View Entry (Unit {0})). Contains u.errands 0 × Contains u.errands 1) (sym is2)
      (contains_left v1.errands b.errands 0 first_held, contains_right v1.errands b.errands 1 has_b)

  -- and has seen of their clients what they had
  pub both_seen : is_some a.frame ≡ true → is_some v1.frame ≡ true → is_some b.frame ≡ true
      → SeesOn errands a v1 → SeesOn errands v1 v2 → SeesOn errands b v2
      → (numbers_of 0 (seen_at v2 0) ≡ numbers_of 0 (seen_at a 0)) ×
      (numbers_of 1 (seen_at v2 0) ≡ numbers_of 1 (seen_at b 0))
  both_seen live_a live_v live_b a_on v_on b_on = (
    own_stays v1.frame v1.errands 0 (seen_at v1 0) (seen_at v2 0) live_v first_held (v_on.2 0)
        ∙ own_stays a.frame a.errands 0 (seen_at a 0) (seen_at v1 0) live_a has_a (a_on.2 0),
    own_stays b.frame b.errands 1 (seen_at b 0) (seen_at v2 0) live_b has_b (b_on.2 0),
  )

abbrev hist : Log → List Entry
hist log = log.items.items

-- who closes with these errands finds just the entries of their clients that it had seen
pub closed_once : (n : ℕ) (v w : View Entry (Unit {0})) (objects : List Log) → length v.kinds ≡ 1
    → is_some v.frame ≡ true → Contains v.errands 0 → Contains v.errands 1
    → SeesOn errands v w → AllSeen hist (λ _. tt) (λ _. 0) (λ _ _. Unit {0}) w objects
    → numbers_of 0 (seen_at v 0) ≡ numbers_below n → numbers_of 1 (seen_at v 0) ≡ numbers_below n
    → HasEachOnce n objects
closed_once n v w [] one live has_0 has_1 on all is_0 is_1 = let c = all.count in
    let k = ap (λ (ks : List ℕ). length ks) on.1 in absurd (omega arith)
closed_once n v w (log ∷ other ∷ logs) one live has_0 has_1 on all is_0 is_1 = let c = all.count in
    let k = ap (λ (ks : List ℕ). length ks) on.1 in absurd (omega arith)
closed_once n v w (log ∷ []) one live has_0 has_1 on all is_0 is_1 =
    let here : hist log ≡ seen_at w 0 = ap (λ (hs : List (List Entry)). get_or hs 0 []) all.histories in (
      log,
      refl,
      ap (λ (es : List Entry). numbers_of 0 es) here ∙
          (own_stays v.frame v.errands 0 (seen_at v 0) (seen_at w 0) live has_0 (on.2 0) ∙ is_0),
      ap (λ (es : List Entry). numbers_of 1 es) here ∙
          (own_stays v.frame v.errands 1 (seen_at v 0) (seen_at w 0) live has_1 (on.2 0) ∙ is_1),
    )
