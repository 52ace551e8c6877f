-- Each step on one object keeps what the rule says of it.
use Rattle.std.proofs.Common.{◌≡◌, ◌≢◌, ℕ, zero, suc, ◌+◌, ◌^◌, ◌<◌, ◌≤◌, List, [], ◌∷◌, ◌++◌, length, set, true, false, refl, sym, ap, ◌∙◌, subst, ⊎_elim, arith, length-append, append_assoc, append-nil}
use Rattle.std.specs.Prelude.{Contains}
use mathlib.Core.Option.{none, some, some-ne-none, some-injective}
use mathlib.Core.Option as maybe
use native.Mathlib.Decide.{dec_le, ℕ_discrete}
use lib.ListN.{get_elem?}
use Rattle.atomic_table.proofs.Lists.{at_set, at_snoc, set_here, set_else, at_longer}
use Rattle.hist_board.proofs.Contained.{off, not_true, none_in_nil, contains_snoc}
use Rattle.hist_board.specs.Turn.{Turn, no_turn, waits, served, borrows}
use Rattle.hist_board.specs.Rule.{Lane, Knows, LaneKept, SomeLane, InPlace, ObjectKept}

module _ {A : Type 0} where
  pub within : (l : List A) (i : ℕ) (a : A) → get_elem? l i ≡ some a → i < length l
  within [] i a e = absurd (some-ne-none a (sym e))
  within (x ∷ xs) zero a e = omega arith
  within (x ∷ xs) (suc i) a e = let r = within xs i a e in omega arith

  pub here : (l : List A) (i : ℕ) (a b : A) → get_elem? l i ≡ some a → get_elem? (set l i b) i ≡ some b
  here l i a b e = set_here l i b (within l i a e)

  pub same_there : (l : List A) (i : ℕ) (a b : A) → get_elem? l i ≡ some a → get_elem? l i ≡ some b → a ≡ b
  same_there l i a b p q = some-injective a b (sym p ∙ q)

module _ {A : Type 0} where
  -- each element keeps P after a change of one
  pub each_set : (P : ℕ → A → Type 0) (lanes : List A) (id : ℕ) (w : A)
      → ((j : ℕ) (l : A) → j ≢ id → get_elem? lanes j ≡ some l → P j l) → P id w → (j : ℕ) (l : A)
      → get_elem? (set lanes id w) j ≡ some l → P j l
  each_set P lanes id w others mine j l e =
      ⊎_elim
      (λ (x : (j ≡ id) × (w ≡ l)). subst (λ (y : ℕ × A). P y.0 y.1) (λ i. (sym x.0 i, x.1 i)) mine)
      (λ (x : (j ≢ id) × (get_elem? lanes j ≡ some l)). others j l x.0 x.1)
      (at_set lanes id j w l e)

pub append_none : {A : Type 0} (l : List A) → l ++ [] ≡ l
append_none l = append-nil l

module _ {I : Type 0} where
  -- a lane that has P is still there, or the changed lane has P
  pub some_set : (P : Lane I → Type 0) (lanes : List (Lane I)) (id : ℕ) (l w : Lane I)
      → get_elem? lanes id ≡ some l → SomeLane lanes P → (P l → P w) → SomeLane (set lanes id w) P
  some_set P lanes id l w at one moves = decide (ℕ_discrete one.0 id)
    where
      decide : Dec (one.0 ≡ id) → SomeLane (set lanes id w) P
      decide (yes e) = (
        id,
        w,
        here lanes id l w at,
        moves
            (subst P (same_there lanes id one.1 l
            (subst (λ (j : ℕ). get_elem? lanes j ≡ some one.1) e one.2) at) one.3),
      )
      decide (no n) = (one.0, one.1, set_else lanes id one.0 w n ∙ one.2, one.3)

  abbrev Apart : List (Lane I) → ℕ → Lane I → Type 0
  Apart lanes id w = (j : ℕ) (m : Lane I) → j ≢ id → get_elem? lanes j ≡ some m → w.turn.has ≡ true
      → m.turn.has ≡ true → w.turn.ticket ≡ m.turn.ticket → ⊥

  abbrev Distinct : List (Lane I) → Type 0
  Distinct lanes = (i j : ℕ) (l m : Lane I) → get_elem? lanes i ≡ some l → get_elem? lanes j ≡ some m
      → l.turn.has ≡ true → m.turn.has ≡ true → l.turn.ticket ≡ m.turn.ticket → i ≡ j

  distinct_set : (lanes : List (Lane I)) (id : ℕ) (w : Lane I) → Distinct lanes → Apart lanes id w
      → Distinct (set lanes id w)
  distinct_set lanes id w d apart i j l m e f lh mh same =
      ⊎_elim
      (λ (x : (i ≡ id) × (w ≡ l)). ⊎_elim
      (λ (y : (j ≡ id) × (w ≡ m)). x.0 ∙ sym y.0)
      (λ (y : (j ≢ id) × (get_elem? lanes j ≡ some m)). absurd
      (apart j m y.0 y.1 (ap (λ (u : Lane I). u.turn.has) x.1 ∙ lh) mh
      (ap (λ (u : Lane I). u.turn.ticket) x.1 ∙ same)))
      (at_set lanes id j w m f))
      (λ (x : (i ≢ id) × (get_elem? lanes i ≡ some l)). ⊎_elim
      (λ (y : (j ≡ id) × (w ≡ m)). absurd
      (apart i l x.0 x.1 (ap (λ (u : Lane I). u.turn.has) y.1 ∙ mh) lh
      (ap (λ (u : Lane I). u.turn.ticket) y.1 ∙ sym same)))
      (λ (y : (j ≢ id) × (get_elem? lanes j ≡ some m)). d i j l m x.1 y.1 lh mh same)
      (at_set lanes id j w m f))
      (at_set lanes id i w l e)

  -- a lane of the same ticket as before stays apart
  apart_still : (lanes : List (Lane I)) (id : ℕ) (l w : Lane I) → Distinct lanes → get_elem? lanes id ≡ some l
      → (w.turn.has ≡ true → (l.turn.has ≡ true) × (l.turn.ticket ≡ w.turn.ticket)) → Apart lanes id w
  apart_still lanes id l w d at same j m ne e wh mh tick = let o = same wh in
      ne (d j id m l e at mh o.0 (sym tick ∙ sym o.1))

  -- the whole history is known
  pub knows_all : (errands : I → List ℕ) (mine : List ℕ) (h : List I) → Knows errands mine h h
  knows_all errands mine h =
      record { rest = []; is = sym (append-nil h); free = λ e x _ c _. none_in_nil x c }

abbrev pub Place : {S I : Type 0} → (S → List I) → (S → Type 0) → List I → List (Lane I) → maybe.Option S
    → Type 0
Place hist same h ls home = InPlace hist same h ls home

module _ {S I : Type 0} (hist : S → List I) (same : S → Type 0) (errands : I → List ℕ) where
  abbrev Fine : ℕ → ℕ → ℕ → maybe.Option S → List I → List (Lane I) → Type 0
  Fine = ObjectKept hist same errands

  -- a ticket is drawn
  pub draws : (t s n : ℕ) (home : maybe.Option S) (h : List I) (lanes : List (Lane I)) (id : ℕ) (l : Lane I)
      → Fine t s n home h lanes → get_elem? lanes id ≡ some l → l.turn ≡ no_turn → t + 1 < 2 ^ 64
      → Fine (t + 1) s n home h (set lanes id (record l { turn = waits t }))
  draws t s n home h lanes id l k at free room = let w : Lane I = record l { turn = waits t } in
      let old = k.each_lane id l at in let b = k.behind in record {
        behind = omega arith;
        room = room;
        each_lane = each_set (λ _ m. LaneKept errands (t + 1) s h m) lanes id w
            (λ j m _ e. let r = k.each_lane j m e in record {
              ticket = λ y. let p = r.ticket y in
                  (p.0, omega arith);
              whole = r.whole;
              out = r.out;
              knows = r.knows;
            })
            record {
              ticket = λ _. (b, omega arith);
              whole = λ y. absurd (off y);
              out = λ y. absurd
                  (off y);
              knows = old.knows;
            };
        distinct = distinct_set lanes id w k.distinct (λ j m ne e _ mh tick. let p = (k.each_lane j m e).ticket mh in
            let q : t ≡ m.turn.ticket = tick in omega arith);
        each_ticket = λ q lo hi. tickets q lo hi (dec_le t q);
        place = places home k.place;
        long = k.long;
        longest = some_set (λ m. m.seen ≡ h) lanes id l w at k.longest (λ y. y);
      }
    where
      places : (home : maybe.Option S) → InPlace hist same h lanes home
          → InPlace hist same h (set lanes id (record l { turn = waits t })) home
      places (some x) p = (
        p.0,
        p.1,
        each_set (λ _ m. m.turn.out ≡ false) lanes id (record l { turn = waits t })
            (λ j m _ e. p.2 j m e) refl,
      )
      places none p = some_set (λ m. m.turn.out ≡ true) lanes id l (record l { turn = waits t }) at p
          (λ y. absurd (off (sym (ap (λ (u : Turn). u.out) free) ∙ y)))

      tickets : (q : ℕ) → s ≤ q → q < t + 1 → Dec (t ≤ q)
          → SomeLane (set lanes id (record l { turn = waits t }))
          (λ m. (m.turn.has ≡ true) × (m.turn.ticket ≡ q))
      tickets q lo hi (yes d) = (
        id,
        record l { turn = waits t },
        here lanes id l (record l { turn = waits t }) at,
        (refl, omega arith),
      )
      tickets q lo hi (no d) = some_set (λ m. (m.turn.has ≡ true) × (m.turn.ticket ≡ q)) lanes id l
          (record l { turn = waits t }) at (k.each_ticket q lo (omega arith))
          (λ y. absurd (off (sym (ap (λ (u : Turn). u.has) free) ∙ y.0)))

  -- the ticket is served, and the whole history is seen
  pub looks : (t s n : ℕ) (home : maybe.Option S) (h : List I) (lanes : List (Lane I)) (id : ℕ) (l : Lane I)
      → Fine t s n home h lanes → get_elem? lanes id ≡ some l → l.turn ≡ waits s
      → Fine t s n home h (set lanes id record { turn = served s; seen = h; mine = l.mine })
  looks t s n home h lanes id l k at waiting = let w : Lane I = record { turn = served s; seen = h; mine = l.mine } in
      let old = k.each_lane id l at in let tick = old.ticket (ap (λ (u : Turn). u.has) waiting) in
      let mine : l.turn.ticket ≡ s = ap (λ (u : Turn). u.ticket) waiting in record {
        behind = k.behind;
        room = k.room;
        each_lane = each_set (λ _ m. LaneKept errands t s h m) lanes id w (λ j m _ e. k.each_lane j m e)
            record {
              ticket = λ _. (omega arith, omega arith);
              whole = λ y.
                  (refl, refl, refl);
              out = λ y. absurd (off y);
              knows = knows_all errands l.mine h;
            };
        distinct = distinct_set lanes id w k.distinct
            (apart_still lanes id l w k.distinct at (λ _. (ap (λ (u : Turn). u.has) waiting, mine)));
        each_ticket = λ q lo hi. some_set (λ m. (m.turn.has ≡ true) × (m.turn.ticket ≡ q)) lanes id l w at
            (k.each_ticket q lo hi) (λ y. (refl, sym mine ∙ y.1));
        place = places home k.place;
        long = k.long;
        longest = some_set (λ m. m.seen ≡ h) lanes id l w at k.longest (λ y. refl);
      }
    where
      places : (home : maybe.Option S) → InPlace hist same h lanes home
          → InPlace hist same h (set lanes id record { turn = served s; seen = h; mine = l.mine }) home
      places (some x) p = (
        p.0,
        p.1,
        each_set (λ _ m. m.turn.out ≡ false) lanes id
            record { turn = served s; seen = h; mine = l.mine } (λ j m _ e. p.2 j m e) refl,
      )
      places none p = some_set (λ m. m.turn.out ≡ true) lanes id l
          record { turn = served s; seen = h; mine = l.mine } at p
          (λ y. absurd (off (sym (ap (λ (u : Turn). u.out) waiting) ∙ y)))

  -- the object is taken by the view that is served
  pub takes : (t s n : ℕ) (home : maybe.Option S) (h : List I) (lanes : List (Lane I)) (id : ℕ) (l : Lane I)
      → Fine t s n home h lanes → get_elem? lanes id ≡ some l
      → (l.turn.has ≡ true) × (l.turn.whole ≡ true) × (l.turn.out ≡ false)
      → ((x : S) × (home ≡ some x) × (hist x ≡ h) × same x) × Fine t s n none h
      (set lanes id (record l { turn = borrows l.turn.ticket }))
  takes t s n home h lanes id l k at turn = let w : Lane I = record l { turn = borrows l.turn.ticket } in
      let old = k.each_lane id l at in let mine = old.whole turn.1 in (
        (there home k.place),
        record {
          behind = k.behind;
          room = k.room;
          each_lane = each_set (λ _ m. LaneKept errands t s h m) lanes id w (λ j m _ e. k.each_lane j m e)
              record {
                ticket = λ _. old.ticket turn.0;
                whole = λ y.
                    (refl, mine.1, mine.2);
                out = λ y. refl;
                knows = old.knows;
              };
          distinct = distinct_set lanes id w k.distinct
              (apart_still lanes id l w k.distinct at (λ _. (turn.0, refl)));
          each_ticket = λ q lo hi. some_set (λ m. (m.turn.has ≡ true) × (m.turn.ticket ≡ q)) lanes id l w at
              (k.each_ticket q lo hi) (λ y. (refl, y.1));
          place = (id, w, here lanes id l w at, refl);
          long = k.long;
          longest = some_set (λ m. m.seen ≡ h) lanes id l w at k.longest (λ y. y);
        },
      )
    where
      there : (home : maybe.Option S) → InPlace hist same h lanes home
          → (x : S) × (home ≡ some x) × (hist x ≡ h) × same x
      there (some x) p = (x, refl, p.0, p.1)
      there none p = let other = (k.each_lane p.0 p.1 p.2).whole ((k.each_lane p.0 p.1 p.2).out p.3) in
          let mine = (k.each_lane id l at).whole turn.1 in
          let one : p.0 ≡ id = k.distinct p.0 id p.1 l p.2 at other.0 turn.0 (other.1 ∙ sym mine.1) in
          let both : p.1 ≡ l = same_there lanes id p.1 l
          (subst (λ (j : ℕ). get_elem? lanes j ≡ some p.1) one p.2) at in
          absurd (off (sym turn.2 ∙ (sym (ap (λ (u : Lane I). u.turn.out) both) ∙ p.3)))

  -- a lane other than that of the served ticket is not served
  alone : (t s n : ℕ) (home : maybe.Option S) (h : List I) (lanes : List (Lane I)) (id : ℕ) (l : Lane I)
      → Fine t s n home h lanes → get_elem? lanes id ≡ some l → l.turn.whole ≡ true
      → (j : ℕ) (m : Lane I) → j ≢ id → get_elem? lanes j ≡ some m → m.turn.has ≡ true → m.turn.ticket ≡ s → ⊥
  alone t s n home h lanes id l k at whole j m ne e has tick = let mine = (k.each_lane id l at).whole whole in
      ne (k.distinct j id m l e at has mine.0 (tick ∙ sym mine.1))

  -- an entry is added at the end of the history
  pub grows : (t s n : ℕ) (home : maybe.Option S) (h : List I) (lanes : List (Lane I)) (id : ℕ) (l : Lane I)
      (x : I)
      → Fine t s n home h lanes → get_elem? lanes id ≡ some l → l.turn.out ≡ true
      → ((j : ℕ) (m : Lane I) (e : ℕ) → j ≢ id → get_elem? lanes j ≡ some m → Contains m.mine e → ¬ Contains
      (errands x) e)
      → Fine t s (n + 1) home (h ++ x ∷ []) (set lanes id (record l { seen = h ++ x ∷ [] }))
  grows t s n home h lanes id l x k at out foreign = let w : Lane I = record l { seen = h ++ x ∷ [] } in
      let old = k.each_lane id l at in let whole = old.out out in let mine = old.whole whole in
      let long = k.long in record {
        behind = k.behind;
        room = k.room;
        each_lane = each_set (λ _ m. LaneKept errands t s (h ++ x ∷ []) m) lanes id w
            (λ j m ne e. let r = k.each_lane j m e in record {
              ticket = r.ticket;
              whole = λ y. let p = r.whole y in absurd (alone t s n home h lanes id l k at whole j m ne e p.0 p.1);
              out = r.out;
              knows = more m.mine m.seen r.knows (λ q. foreign j m q ne e);
            })
            record {
              ticket = old.ticket;
              whole = λ y.
                  (mine.0, mine.1, refl);
              out = old.out;
              knows = knows_all errands l.mine (h ++ x ∷ []);
            };
        distinct = distinct_set lanes id w k.distinct
            (apart_still lanes id l w k.distinct at (λ y. (y, refl)));
        each_ticket = λ q lo hi. some_set (λ m. (m.turn.has ≡ true) × (m.turn.ticket ≡ q)) lanes id l w at
            (k.each_ticket q lo hi) (λ y. y);
        place = places home k.place;
        long = omega (arith, length-append h (x ∷ []));
        longest = (id, w, here lanes id l w at, refl);
      }
    where
      more : (mine : List ℕ) (seen : List I) → Knows errands mine seen h
          → ((e : ℕ) → Contains mine e → ¬ Contains (errands x) e) → Knows errands mine seen (h ++ x ∷ [])
      more mine seen o far = record {
        rest = o.rest ++ x ∷ [];
        is = ap (λ (z : List I). z ++ x ∷ []) o.is ∙ append_assoc seen o.rest (x ∷ []);
        free = λ e y has c theirs. ⊎_elim (λ (d : Contains o.rest y). o.free e y has d theirs)
            (λ (d : x ≡ y). far e has (subst (λ (z : I). Contains (errands z) e) (sym d) theirs))
            (contains_snoc o.rest x y c);
      }

      places : (home : maybe.Option S) → InPlace hist same h lanes home
          → InPlace hist same (h ++ x ∷ []) (set lanes id (record l { seen = h ++ x ∷ [] })) home
      places (some y) p = absurd (off (sym (p.2 id l at) ∙ out))
      places none p =
          (id, record l { seen = h ++ x ∷ [] }, here lanes id l (record l { seen = h ++ x ∷ [] }) at, out)

  -- the object is given back, and the turn passed on
  pub passes : (t s n : ℕ) (home : maybe.Option S) (h : List I) (lanes : List (Lane I)) (id : ℕ) (l : Lane I)
      (y : S)
      → Fine t s n home h lanes → get_elem? lanes id ≡ some l → l.turn.out ≡ true → hist y ≡ l.seen → same y
      → (s + 1 ≤ t) × Fine t (s + 1) n (some y) h (set lanes id (record l { turn = no_turn }))
  passes t s n home h lanes id l y k at out is kept = let w : Lane I = record l { turn = no_turn } in
      let old = k.each_lane id l at in let whole = old.out out in let mine = old.whole whole in
      let tick = old.ticket mine.0 in let here' = mine.1 in (
        omega arith,
        record {
          behind = omega arith;
          room = k.room;
          each_lane = each_set (λ _ m. LaneKept errands t (s + 1) h m) lanes id w
              (λ j m ne e. let r = k.each_lane j m e in record {
                ticket = λ z. let p = r.ticket z in
                    let q : m.turn.ticket ≢ s = alone t s n home h lanes id l k at whole j m ne e z in
                    (omega arith, p.1);
                whole = λ z. let p = r.whole z in
                    absurd (alone t s n home h lanes id l k at whole j m ne e p.0 p.1);
                out = r.out;
                knows = r.knows;
              })
              record {
                ticket = λ z. absurd (off z);
                whole = λ z. absurd (off z);
                out = λ z. absurd
                    (off z);
                knows = old.knows;
              };
          distinct = distinct_set lanes id w k.distinct (λ j m ne e z _ _. off z);
          each_ticket = λ q lo hi. some_set (λ m. (m.turn.has ≡ true) × (m.turn.ticket ≡ q)) lanes id l w at (k.each_ticket q (omega arith) hi) (λ z. let p : l.turn.ticket ≡ q = z.1 in
              absurd (omega arith));
          place = (
            is ∙ mine.2,
            kept,
            each_set (λ _ m. m.turn.out ≡ false) lanes id w
                (λ j m ne e. not_true m.turn.out (λ z. let p = (k.each_lane j m e).whole ((k.each_lane j m e).out z) in
                alone t s n home h lanes id l k at whole j m ne e p.0 p.1))
                refl,
          );
          long = k.long;
          longest = some_set (λ m. m.seen ≡ h) lanes id l w at k.longest (λ z. z);
        },
      )

  -- a lane knows more, at the same turn
  pub relearns : (t s n : ℕ) (home : maybe.Option S) (h : List I) (lanes : List (Lane I)) (id : ℕ)
      (l w : Lane I)
      → Fine t s n home h lanes → get_elem? lanes id ≡ some l → w.turn ≡ l.turn → (l.seen ≡ h → w.seen ≡ h)
      → Knows errands w.mine w.seen h
      → Fine t s n home h (set lanes id w)
  relearns t s n home h lanes id l w k at turn more knows = let old = k.each_lane id l at in record {
    behind = k.behind;
    room = k.room;
    each_lane = each_set (λ _ m. LaneKept errands t s h m) lanes id w (λ j m _ e. k.each_lane j m e)
        (subst (λ (u : Turn). LaneKept errands t s h record { turn = u; seen = w.seen; mine = w.mine })
        (sym turn)
        record {
          ticket = old.ticket;
          whole = λ z. let p = old.whole z in
              (p.0, p.1, more p.2);
          out = old.out;
          knows = knows;
        });
    distinct = distinct_set lanes id w k.distinct
        (apart_still lanes id l w k.distinct at
        (λ z. (sym (ap (λ (u : Turn). u.has) turn) ∙ z, sym (ap (λ (u : Turn). u.ticket) turn))));
    each_ticket = λ q lo hi. some_set (λ m. (m.turn.has ≡ true) × (m.turn.ticket ≡ q)) lanes id l w at
        (k.each_ticket q lo hi)
        (λ z. (ap (λ (u : Turn). u.has) turn ∙ z.0, ap (λ (u : Turn). u.ticket) turn ∙ z.1));
    place = places home k.place;
    long = k.long;
    longest = some_set (λ m. m.seen ≡ h) lanes id l w at k.longest more;
  }
    where
      places : (home : maybe.Option S) → InPlace hist same h lanes home
          → InPlace hist same h (set lanes id w) home
      places (some x) p = (
        p.0,
        p.1,
        each_set (λ _ m. m.turn.out ≡ false) lanes id w (λ j m _ e. p.2 j m e)
            (ap (λ (u : Turn). u.out) turn ∙ p.2 id l at),
      )
      places none p = some_set (λ m. m.turn.out ≡ true) lanes id l w at p
          (λ z. ap (λ (u : Turn). u.out) turn ∙ z)

  -- a lane that has no turn comes
  pub comes : (t s n : ℕ) (home : maybe.Option S) (h : List I) (lanes : List (Lane I)) (w : Lane I)
      → Fine t s n home h lanes → w.turn ≡ no_turn → Knows errands w.mine w.seen h
      → Fine t s n home h (lanes ++ w ∷ [])
  comes t s n home h lanes w k free knows = record {
    behind = k.behind;
    room = k.room;
    each_lane = λ j m e. ⊎_elim (λ (z : get_elem? lanes j ≡ some m). k.each_lane j m z)
        (λ (z : w ≡ m). subst (λ (u : Lane I). LaneKept errands t s h u) z idle) (at_snoc lanes w m j e);
    distinct = λ i j l m e f lh mh tick.
        ⊎_elim (λ (y : get_elem? lanes i ≡ some l). ⊎_elim
        (λ (z : get_elem? lanes j ≡ some m). k.distinct i j l m y z lh mh tick)
        (λ (z : w ≡ m). absurd
        (off (sym (ap (λ (u : Turn). u.has) free) ∙ (ap (λ (u : Lane I). u.turn.has) z ∙ mh))))
        (at_snoc lanes w m j f))
        (λ (y : w ≡ l). absurd
        (off (sym (ap (λ (u : Turn). u.has) free) ∙ (ap (λ (u : Lane I). u.turn.has) y ∙ lh))))
        (at_snoc lanes w l i e);
    each_ticket = λ q lo hi. let p = k.each_ticket q lo hi in
        (p.0, p.1, at_longer lanes (w ∷ []) p.0 p.1 p.2, p.3);
    place = places home k.place;
    long = k.long;
    longest = let p = k.longest in (p.0, p.1, at_longer lanes (w ∷ []) p.0 p.1 p.2, p.3);
  }
    where
      idle : LaneKept errands t s h w
      idle = record {
        ticket = λ z. absurd (off (sym (ap (λ (u : Turn). u.has) free) ∙ z));
        whole = λ z. absurd (off (sym (ap (λ (u : Turn). u.whole) free) ∙ z));
        out = λ z. absurd (off (sym (ap (λ (u : Turn). u.out) free) ∙ z));
        knows = knows;
      }

      places : (home : maybe.Option S) → InPlace hist same h lanes home
          → InPlace hist same h (lanes ++ w ∷ []) home
      places (some x) p = (
        p.0,
        p.1,
        λ j m e. ⊎_elim (λ (z : get_elem? lanes j ≡ some m). p.2 j m z)
            (λ (z : w ≡ m). sym (ap (λ (u : Lane I). u.turn.out) z) ∙ ap (λ (u : Turn). u.out) free)
            (at_snoc lanes w m j e),
      )
      places none p = (p.0, p.1, at_longer lanes (w ∷ []) p.0 p.1 p.2, p.3)

  -- a lane that has no turn is spent: another has seen as much
  pub spends : (t s n : ℕ) (home : maybe.Option S) (h : List I) (lanes : List (Lane I)) (id : ℕ) (l : Lane I)
      (other : ℕ) (m : Lane I)
      → Fine t s n home h lanes → get_elem? lanes id ≡ some l → l.turn ≡ no_turn
      → other ≢ id → get_elem? lanes other ≡ some m → (l.seen ≡ h → m.seen ≡ h)
      → Fine t s n home h (set lanes id record { turn = no_turn; seen = []; mine = [] })
  spends t s n home h lanes id l other m k at free ne there more = let w : Lane I = record { turn = no_turn; seen = []; mine = [] } in
      record {
        behind = k.behind;
        room = k.room;
        each_lane = each_set (λ _ u. LaneKept errands t s h u) lanes id w (λ j u _ e. k.each_lane j u e)
            record {
              ticket = λ z. absurd (off z);
              whole = λ z. absurd (off z);
              out = λ z. absurd
                  (off z);
              knows = record { rest = h; is = refl; free = λ e y c _ _. none_in_nil e c };
            };
        distinct = distinct_set lanes id w k.distinct (λ j u _ e z _ _. off z);
        each_ticket = λ q lo hi. some_set (λ u. (u.turn.has ≡ true) × (u.turn.ticket ≡ q)) lanes id l w at
            (k.each_ticket q lo hi) (λ z. absurd (off (sym (ap (λ (u : Turn). u.has) free) ∙ z.0)));
        place = places home k.place;
        long = k.long;
        longest = seen_by k.longest (ℕ_discrete k.longest.0 id);
      }
    where
      places : (home : maybe.Option S) → InPlace hist same h lanes home
          → InPlace hist same h (set lanes id record { turn = no_turn; seen = []; mine = [] }) home
      places (some x) p = (
        p.0,
        p.1,
        each_set (λ _ u. u.turn.out ≡ false) lanes id
            record { turn = no_turn; seen = []; mine = [] } (λ j u _ e. p.2 j u e) refl,
      )
      places none p = some_set (λ u. u.turn.out ≡ true) lanes id l
          record { turn = no_turn; seen = []; mine = [] } at p
          (λ z. absurd (off (sym (ap (λ (u : Turn). u.out) free) ∙ z)))

      seen_by : (p : SomeLane lanes (λ u. u.seen ≡ h)) → Dec (p.0 ≡ id)
          → SomeLane (set lanes id record { turn = no_turn; seen = []; mine = [] }) (λ u. u.seen ≡ h)
      seen_by p (yes e) = let is : p.1 ≡ l = same_there lanes id p.1 l (subst (λ (j : ℕ). get_elem? lanes j ≡ some p.1) e p.2) at in (
        other,
        m,
        set_else lanes id other record { turn = no_turn; seen = []; mine = [] } ne ∙ there,
        more
            (sym (ap (λ (u : Lane I). u.seen) is) ∙ p.3),
      )
      seen_by p (no d) =
          (p.0, p.1, set_else lanes id p.0 record { turn = no_turn; seen = []; mine = [] } d ∙ p.2, p.3)
