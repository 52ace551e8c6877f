-- The steps of a turn, put together.
use Rattle.std.proofs.Common.{◌≡◌, ◌⊎◌, ℕ, zero, suc, ◌*◌, ◌<◌, ◌≤◌, ⊎_elim, List, [], ◌∷◌, ◌++◌, map, length, get_or, set, Option, refl, sym, ap, ◌∙◌, subst, inl, inr, arith, length-set}
use Rattle.std.specs.Prelude.{slice_index, is_some}
use Rattle.std.proofs.Math.Seq.{get_or-set_same, get_or-set_other}
use native.Mathlib.Decide.{ℕ_discrete}
use Rattle.atomic_table.specs.Table.{Me}
use Rattle.hist_board.proofs.Moves.{set_same}
use Rattle.hist_board.specs.Turn.{Turn, no_turn, waits, served, borrows}
use Rattle.hist_board.specs.Rule.{Knows, turn_at, seen_at, with_turn, with_seen, errands_under, IsAs}
use Rattle.hist_board.specs.Plays.{Possible, carried_history}
use Rattle.hist_board.specs.Passes.{AtRest, Counts, staged, Lent, Keeps, Adds, Grown, MayWork, Turned}
use Rattle.hist_board.specs.declared.view.View.{View}

pub set_set : {A : Type 0} (l : List A) (i : ℕ) (a b : A) → set (set l i a) i b ≡ set l i b
set_set [] i a b = refl
set_set (x ∷ xs) zero a b = refl
set_set (x ∷ xs) (suc i) a b = ap (λ (ys : List _). x ∷ ys) (set_set xs i a b)

-- a list of one value has it everywhere
pub map_one : {A B : Type 0} (b : B) (l : List A) (i : ℕ) → get_or (map (λ _. b) l) i b ≡ b
map_one b [] i = refl
map_one b (x ∷ xs) zero = refl
map_one b (x ∷ xs) (suc i) = map_one b xs i

pub length_one : {A B : Type 0} (b : B) (l : List A) → length (map (λ _. b) l) ≡ length l
length_one b [] = refl
length_one b (x ∷ xs) = ap suc (length_one b xs)

pub map_again : {A B C : Type 0} (b : B) (f : A → C) (l : List A) → map (λ _. b) (map f l) ≡ map (λ _. b) l
map_again b f [] = refl
map_again b f (x ∷ xs) = ap (λ (ys : List _). b ∷ ys) (map_again b f xs)

module _ {S I F : Type 0} where
  -- a view that is made of one at rest
  pub made_at_rest : (words words' : ℕ) (me me' : Me S (View I F)) (w : View I F) → AtRest words me
      → words ≡ words' → me' ≡ (w, []) → w.frame ≡ me.0.frame → w.kinds ≡ me.0.kinds
      → length w.seen ≡ length me.0.seen → w.turns ≡ map (λ _. no_turn) me.0.turns → w.olds ≡ []
      → AtRest words' me'
  made_at_rest words words' me me' w r e is f k s t o = subst (λ (m : Me S (View I F)). AtRest words' m)
      (sym is) record {
        words_are = sym e ∙ (r.words_are ∙ ap (λ (ks : List ℕ). 3 * length ks) (sym k));
        none_out = refl;
        live = ap (λ (x : Option F). is_some x) f ∙ r.live;
        no_turns = t ∙
            (ap (λ (ts : List Turn). map (λ _. no_turn) ts) r.no_turns ∙
            (map_again no_turn (λ _. no_turn) me.0.kinds ∙ ap (λ (ks : List ℕ). map (λ _. no_turn) ks) (sym k)));
        some_object = subst (λ (ks : List ℕ). 0 < length ks) (sym k) r.some_object;
        few = subst (λ (ks : List ℕ). length ks ≤ 17) (sym k) r.few;
        places = s ∙ (r.places ∙ ap (λ (ks : List ℕ). length ks) (sym k));
        told = o;
      }

  -- its turns stay none
  pub turns_again : (words : ℕ) (me : Me S (View I F)) → AtRest words me
      → me.0.turns ≡ map (λ _. no_turn) me.0.turns
  turns_again words me r = r.no_turns ∙ sym
      (ap (λ (ts : List Turn). map (λ _. no_turn) ts) r.no_turns ∙ map_again no_turn
      (λ _. no_turn) me.0.kinds)

  pub holds_turn : (errands : F → I → List ℕ) (o t : ℕ) (m0 m1 m2 : Me S (View I F))
      → m1 ≡ (with_turn o (waits t) m0.0, m0.1)
      → (h : List I) × Knows (errands_under errands m1.0.frame) m1.0.errands (seen_at m1.0 o) h
      × (m2 ≡ (with_turn o (served t) (with_seen o h m1.0), m1.1))
      → (h : List I) × (t : ℕ) × Knows (errands_under errands m0.0.frame) m0.0.errands (seen_at m0.0 o) h
      × (m2.0 ≡ staged o (served t) h m0.0)
  holds_turn errands o t m0 m1 m2 e = subst
      (λ (m1 : Me S (View I F)). (h : List I) × Knows (errands_under errands m1.0.frame) m1.0.errands
      (seen_at m1.0 o) h × (m2 ≡ (with_turn o (served t) (with_seen o h m1.0), m1.1))
      → (h : List I) × (t : ℕ) × Knows (errands_under errands m0.0.frame) m0.0.errands (seen_at m0.0 o) h
      × (m2.0 ≡ staged o (served t) h m0.0)) (sym e)
      (λ s. (
        s.0,
        t,
        s.1,
        ap (λ (m : Me S (View I F)). m.0) s.2 ∙ λ i.
            record m0.0 {
              turns = set_set m0.0.turns o (waits t)
                  (served t) i;
              seen = set m0.0.seen o s.0;
              olds = [];
            },
      ))

module _ {S I F : Type 0} (hist : S → List I) (frame : S → F) (kind : S → ℕ) (errands : F → I → List ℕ)
    (fits : F → List (List I) → Type 0) where
  pub resting : (words o : ℕ) (me : Me S (View I F)) → AtRest words me → turn_at me.0 o ≡ no_turn
  resting words o me r = ap (λ (l : List Turn). get_or l o no_turn) r.no_turns ∙ map_one no_turn me.0.kinds o

  abbrev Opened : View I F → ℕ → Me S (View I F) → ℕ → Type 0
  Opened v o m n = (x : S) × (t : ℕ) × (m ≡ (staged o (borrows t) (hist x) v, (o, x) ∷ []))
      × Lent hist frame kind errands fits v o x × (n ≡ length (hist x))

  abbrev Taken : ℕ → Me S (View I F) → Me S (View I F) → Type 0
  Taken o m m' = (x : S) × (m' ≡ (with_turn o (borrows (turn_at m.0 o).ticket) m.0, (o, x) ∷ m.1))
      × (hist x ≡ seen_at m.0 o) × IsAs frame kind m.0.frame (slice_index m.0.kinds o) x

  opened_at : (words o t n : ℕ) (v : View I F) (c : List (ℕ × S)) (h : List I) (m : Me S (View I F))
      → AtRest words (v, c) → o < length v.kinds
      → Knows (errands_under errands v.frame) v.errands (seen_at v o) h
      → let v2 = with_turn o (served t) (with_seen o h (with_turn o (waits t) v)) in
      Taken o (v2, c) m → (hs : List (List I)) × Possible errands fits v2 o (seen_at v2 o) hs → n ≡ length
      (seen_at v2 o) → Opened v o m n
  opened_at words o t n v c h m r near kn took hs len =
      let places = r.places in
      let at : get_or (set v.seen o h) o [] ≡ h = get_or-set_same v.seen o h [] (omega arith) in
      let x = took.0 in let is : h ≡ hist x = sym (took.2 ∙ at) in
      let v2 : View I F = with_turn o (served t) (with_seen o h (with_turn o (waits t) v)) in
      let u = (turn_at v2 o).ticket in (
        x,
        u,
        took.1 ∙ λ i. (
          record v {
            turns =
                (set_set (set v.turns o (waits t)) o (served t) (borrows u) ∙ set_set v.turns o (waits t)
                (borrows u)) i;
            seen = set v.seen o (is i);
            olds = [];
          },
          (o, x) ∷ r.none_out i,
        ),
        record {
          later = subst
              (λ (z : List I). Knows (errands_under errands v.frame) v.errands (seen_at v o) z) is kn;
          alike = took.3;
          together = (
            hs.0,
            subst (λ (z : List I). Possible errands fits (with_seen o z v) o z hs.0) is
                record { count = hs.1.count; fit = hs.1.fit; here = hs.1.here ∙ at; begins = hs.1.begins },
          );
        },
        len ∙ ap (λ (z : List I). length z) (at ∙ is),
      )

  pub opened : (words o t n : ℕ) (m0 m1 m2 m : Me S (View I F)) → AtRest words m0 → o < length m0.0.kinds
      → m1 ≡ (with_turn o (waits t) m0.0, m0.1)
      → (h : List I) × Knows (errands_under errands m1.0.frame) m1.0.errands (seen_at m1.0 o) h
      × (m2 ≡ (with_turn o (served t) (with_seen o h m1.0), m1.1))
      → Taken o m2 m → (hs : List (List I)) × Possible errands fits m2.0 o (seen_at m2.0 o) hs
      → n ≡ length (seen_at m2.0 o) → Opened m0.0 o m n
  opened words o t n m0 m1 m2 m r near e1 =
      subst
      (λ (m1 : Me S (View I F)). (h : List I) × Knows (errands_under errands m1.0.frame) m1.0.errands
      (seen_at m1.0 o) h × (m2 ≡ (with_turn o (served t) (with_seen o h m1.0), m1.1))
      → Taken o m2 m → (hs : List (List I)) × Possible errands fits m2.0 o (seen_at m2.0 o) hs
      → n ≡ length (seen_at m2.0 o) → Opened m0.0 o m n)
      (sym e1)
      (λ s. subst (λ (m2 : Me S (View I F)). Taken o m2 m → (hs : List (List I))
      × Possible errands fits m2.0 o (seen_at m2.0 o) hs → n ≡ length (seen_at m2.0 o)
      → Opened m0.0 o m n) (sym s.2) (opened_at words o t n m0.0 m0.1 s.0 m r near s.1))

  pub same_object : (o : ℕ) (x x' : S) (l : List (ℕ × S)) → l ≡ (o, x) ∷ [] → l ≡ (o, x') ∷ [] → x ≡ x'
  same_object o x x' l e f = ap (λ (l : List (ℕ × S)). (get_or l 0 (o, x)).1) (sym e ∙ f)

  -- what the work left may be given back, or added first
  pub may_grow : (o : ℕ) (t : Turn) (v : View I F) (x y : S) → o < length v.seen
      → Keeps hist frame kind errands fits v o x y
      → IsAs frame kind v.frame (slice_index v.kinds o) y
      × ((hist y ≡ seen_at (staged o t (hist x) v) o) ⊎ Grown hist errands fits (staged o t (hist x) v) o y)
  may_grow o t v x y near k = let at : get_or (set v.seen o (hist x)) o [] ≡ hist x = get_or-set_same v.seen o (hist x) [] near in (
    k.0,
    ⊎_elim
        (λ (s : hist y ≡ hist x). inl (s ∙ sym at))
        (λ (a : Adds hist frame kind errands fits v o x y). inr record {
          entry = a.entry;
          longer = a.longer ∙ ap (λ (z : List I). z ++ a.entry ∷ []) (sym at);
          own = a.own;
          fit = λ hs p. a.fit hs
              record { count = p.count; fit = p.fit; here = p.here ∙ at; begins = p.begins };
        })
        k.1,
  )

  -- the view after a whole turn
  pub turn_ends : (words o t : ℕ) (x y : S) (m0 m1 m2 m3 : Me S (View I F)) → AtRest words m0
      → m1 ≡ (staged o (borrows t) (hist x) m0.0, (o, x) ∷ []) → m2 ≡ (m1.0, (o, y) ∷ [])
      → m3 ≡ (staged o no_turn (carried_history hist m2.1) m2.0, []) → m3 ≡ (with_seen o (hist y) m0.0, [])
  turn_ends words o t x y m0 m1 m2 m3 r e1 e2 e3 = let v = m0.0 in
      let back : set (set v.turns o (borrows t)) o no_turn ≡ v.turns = set_set v.turns o (borrows t) no_turn ∙
      (ap (λ (u : Turn). set v.turns o u) (sym (resting words o m0 r))
      ∙ set_same v.turns o no_turn) in
      let over : set (set v.seen o (hist x)) o (hist y) ≡ set v.seen o (hist y) = set_set v.seen o (hist x)
      (hist y) in
      e3 ∙ (ap (λ (m : Me S (View I F)). (staged o no_turn (carried_history hist m.1) m.0, []))
      (e2 ∙ ap (λ (m : Me S (View I F)). (m.0, (o, y) ∷ [])) e1) ∙ λ i.
      (record v { turns = back i; seen = over i; olds = [] }, []))

  pub rests : (words words' o : ℕ) (h : List I) (m0 m3 : Me S (View I F)) → AtRest words m0 → words ≡ words'
      → m3 ≡ (with_seen o h m0.0, []) → AtRest words' m3
  rests words words' o h m0 m3 r e is = subst (λ (m : Me S (View I F)). AtRest words' m) (sym is)
      record {
        words_are = sym e
            ∙ r.words_are;
        none_out = refl;
        live = r.live;
        no_turns = r.no_turns;
        some_object = r.some_object;
        few = r.few;
        places = length-set m0.0.seen o h ∙ r.places;
        told = refl;
      }

  pub counts : (words o n : ℕ) (h : List I) (lengths : List ℕ) (m0 m3 : Me S (View I F)) → AtRest words m0
      → o < length m0.0.kinds → length lengths ≡ 17 → Counts lengths m0.0 → n ≡ length h
      → m3 ≡ (with_seen o h m0.0, []) → Counts (set lengths o n) m3.0
  counts words o n h lengths m0 m3 r near long c is e = subst
      (λ (m : Me S (View I F)). Counts (set lengths o n) m.0) (sym e) (λ p lt. at p lt (ℕ_discrete p o))
    where
      at : (p : ℕ) → p < length m0.0.kinds → Dec (p ≡ o)
          → slice_index (set lengths o n) p ≡ length (seen_at (with_seen o h m0.0) p)
      at p lt (yes y) = let few = r.few in let places = r.places in
          subst (λ (q : ℕ). slice_index (set lengths o n) q ≡ length (seen_at (with_seen o h m0.0) q)) (sym y)
          (get_or-set_same lengths o n 0 (omega arith) ∙
          (is ∙ ap (λ (z : List I). length z) (sym (get_or-set_same m0.0.seen o h [] (omega arith)))))
      at p lt (no d) = get_or-set_other lengths o p n 0 d ∙
          (c p lt ∙ ap (λ (z : List I). length z) (sym (get_or-set_other m0.0.seen o p h [] d)))

  abbrev Worked : {R : Type 0} → ℕ → (S → R → S → Type 0) → R → ℕ → Me S (View I F) → Me S (View I F) → Type 0
  Worked o gives r n m m' = (x : S) × (y : S) × (m.1 ≡ (o, x) ∷ []) × (m' ≡ (m.0, (o, y) ∷ [])) × gives x r y
      × (n ≡ length (hist y))

  module _ {R : Type 0} (may : S → Type 0) (gives : S → R → S → Type 0) (words o n n' : ℕ) (r : R)
      (m0 m1 m2 : Me S (View I F)) (rest : AtRest words m0) (near : o < length m0.0.kinds)
      (work : MayWork hist frame kind errands fits m0.0 o may gives) (open' : Opened m0.0 o m1 n)
      (done : Worked o gives r n' m1 m2) where
    abbrev x : S
    x = open'.0

    abbrev y : S
    y = done.1

    given : gives x r y
    given = subst (λ (z : S). gives z r y)
        (sym (same_object o x done.0 m1.1 (ap (λ (m : Me S (View I F)). m.1) open'.2) done.2)) done.4

    kept : Keeps hist frame kind errands fits m0.0 o x y
    unfolding given
    kept = (work x open'.3).1 r y given

    pub may_close : (y : S) × (m2.1 ≡ (o, y) ∷ []) × IsAs frame kind m2.0.frame (slice_index m2.0.kinds o) y
        × (n' ≡ length (hist y)) × ((hist y ≡ seen_at m2.0 o) ⊎ Grown hist errands fits m2.0 o y)
    may_close = let places = rest.places in let g = may_grow o (borrows open'.1) m0.0 x y (omega arith) kept in
        let is : staged o (borrows open'.1) (hist x) m0.0 ≡ m2.0 = sym
        (ap (λ (m : Me S (View I F)). m.0) done.3 ∙ ap (λ (m : Me S (View I F)). m.0) open'.2) in
        let as_seen = subst
        (λ (v : View I F). IsAs frame kind v.frame (slice_index v.kinds o) y
        × ((hist y ≡ seen_at v o) ⊎ Grown hist errands fits v o y)) is g in
        (y, ap (λ (m : Me S (View I F)). m.1) done.3, as_seen.0, done.5, as_seen.1)

    pub ends : (m3 : Me S (View I F)) → m3 ≡ (staged o no_turn (carried_history hist m2.1) m2.0, [])
        → m3 ≡ (with_seen o (hist y) m0.0, [])
    ends m3 e = turn_ends words o open'.1 x y m0 m1 m2 m3 rest open'.2 done.3 e

    pub tells : (m3 : Me S (View I F)) → m3 ≡ (staged o no_turn (carried_history hist m2.1) m2.0, [])
        → Turned hist frame kind errands fits m0.0 o gives r m3.0
    tells m3 e = record {
      before = x;
      after = y;
      lent = open'.3;
      given = given;
      kept = kept;
      seen = ap
          (λ (m : Me S (View I F)). m.0) (ends m3 e);
    }
