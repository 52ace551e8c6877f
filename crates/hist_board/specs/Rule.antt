-- The rule of the board.
-- Words 3 o, 3 o + 1 and 3 o + 2 are the ticket, serving and length of the object o, and the slot o is its
-- place.
use Rattle.std.specs.Prelude.{◌≡◌, ℕ, ◌+◌, ◌*◌, ◌^◌, ◌<◌, ◌≤◌, ◌==◌, ◌⊎◌, zero, suc, not, nat_lt, min, fold, filter, if◌then◌else◌, true, false, List, [], ◌∷◌, ◌++◌, map, length, Contains, Option, Some, None, is_some, slice_index, slice_index_or, slice_set}
use mathlib.Core.Option.{none, some}
use mathlib.Core.Option as maybe
use lib.ListN.{get_elem?}
use Rattle.atomic_table.specs.Table.{State}
use Rattle.hist_board.specs.Turn.{Turn, Past, no_turn}
use Rattle.hist_board.specs.declared.view.View.{View}

-- what one view has of one object
pub record Lane (I : Type 0) : Type 0 where
  pub turn : Turn
  pub seen : List I
  pub mine : List ℕ

-- the history begins with what was seen, and the rest has no entry of an errand in `mine`
pub record Knows {I : Type 0} (errands : I → List ℕ) (mine : List ℕ) (seen whole : List I) : Type 0 where
  pub rest : List I
  pub is : whole ≡ seen ++ rest
  pub free : (e : ℕ) (x : I) → Contains mine e → Contains rest x → ¬ Contains (errands x) e

-- What the rule says of one view at one object, where serving is s, the next ticket t, and the history h.
-- Only who is served may have seen it whole by its ticket, and only who has may have the object.
pub record LaneKept {I : Type 0} (errands : I → List ℕ) (t s : ℕ) (h : List I) (l : Lane I) : Type 0 where
  pub ticket : l.turn.has ≡ true → (s ≤ l.turn.ticket) × (l.turn.ticket < t)
  pub whole : l.turn.whole ≡ true → (l.turn.has ≡ true) × (l.turn.ticket ≡ s) × (l.seen ≡ h)
  pub out : l.turn.out ≡ true → l.turn.whole ≡ true
  pub knows : Knows errands l.mine l.seen h

module _ {I : Type 0} where
  -- some lane has this
  abbrev pub SomeLane : List (Lane I) → (Lane I → Type 0) → Type 0
  SomeLane lanes P = (i : ℕ) × (l : Lane I) × (get_elem? lanes i ≡ some l) × P l

  -- the object is at home with this history and as it was made, or it is out with a view
  abbrev pub InPlace : {S : Type 0} → (S → List I) → (S → Type 0) → List I → List (Lane I) → maybe.Option S
      → Type 0
  InPlace hist same h lanes (some x) = (hist x ≡ h) × same x
      × ((i : ℕ) (l : Lane I) → get_elem? lanes i ≡ some l → l.turn.out ≡ false)
  InPlace hist same h lanes none = SomeLane lanes (λ l. l.turn.out ≡ true)

-- What the rule says of one object, of which t, s and n are the ticket, serving and length. Tickets of
-- different
-- views differ, and each from serving to below ticket is some view's. The object is in its place, its length
-- is
-- that of its history, and some view has seen that whole.
pub record ObjectKept {S I : Type 0} (hist : S → List I) (same : S → Type 0) (errands : I → List ℕ)
    (t s n : ℕ) (home : maybe.Option S) (h : List I) (lanes : List (Lane I)) : Type 0 where
  pub behind : s ≤ t
  pub room : t < 2 ^ 64
  pub each_lane : (i : ℕ) (l : Lane I) → get_elem? lanes i ≡ some l → LaneKept errands t s h l
  pub distinct : (i j : ℕ) (l m : Lane I) → get_elem? lanes i ≡ some l → get_elem? lanes j ≡ some m
      → l.turn.has ≡ true → m.turn.has ≡ true → l.turn.ticket ≡ m.turn.ticket → i ≡ j
  pub each_ticket : (k : ℕ) → s ≤ k → k < t → SomeLane lanes (λ l. (l.turn.has ≡ true) × (l.turn.ticket ≡ k))
  pub place : InPlace hist same h lanes home
  pub long : n ≡ length h
  pub longest : SomeLane lanes (λ l. l.seen ≡ h)

module _ {I F : Type 0} where
  abbrev pub turn_at : View I F → ℕ → Turn
  turn_at v o = slice_index_or v.turns o no_turn

  abbrev pub seen_at : View I F → ℕ → List I
  seen_at v o = slice_index_or v.seen o []

  abbrev pub lane : ℕ → View I F → Lane I
  lane o v = record { turn = turn_at v o; seen = seen_at v o; mine = v.errands }

  abbrev pub with_turn : ℕ → Turn → View I F → View I F
  with_turn o t v = record v { turns = slice_set v.turns o t; olds = [] }

  abbrev pub with_seen : ℕ → List I → View I F → View I F
  with_seen o h v = record v { seen = slice_set v.seen o h; olds = [] }

  -- a view that was joined away
  abbrev pub spent : View I F
  spent = record {
    marker = record {};
    frame = None;
    kinds = [];
    seen = [];
    errands = [];
    turns = [];
    olds = [];
  }

  -- the view names this frame and these kinds, and has a place for each object
  pub record Fitted (frame : Option F) (kinds : List ℕ) (v : View I F) : Type 0 where
    pub same_frame : v.frame ≡ frame
    pub same_kinds : v.kinds ≡ kinds
    pub each_seen : length v.seen ≡ length kinds
    pub each_turn : length v.turns ≡ length kinds

  -- what the view has seen goes on from each of these, with no entry of its errands
  abbrev pub Told : (I → List ℕ) → View I F → Type 0
  Told errands v = (k : ℕ) (a : Past I) → get_elem? v.olds k ≡ some a → (o : ℕ)
      → Knows errands a.mine (slice_index_or a.seen o []) (seen_at v o)

  -- the view is not spent
  abbrev pub Live : View I F → Type 0
  Live v = is_some v.frame ≡ true

-- the number below which errands are
abbrev pub ERRANDS : ℕ
ERRANDS = 65536

-- The rule: there are histories of all objects, which fit, and which each object and each view keeps to. No
-- two
-- views hold one errand, and each errand is held. A view that was joined away is spent: it has seen and holds
-- nothing.
pub record Kept {S I F : Type 0} (hist : S → List I) (same : ℕ → S → Type 0) (errands : I → List ℕ)
    (fits : List (List I) → Type 0) (frame : Option F) (kinds : List ℕ)
    (s : State S (View I F)) : Type 0 where
  pub histories : List (List I)
  pub count : length histories ≡ length kinds
  pub homes : length s.homes ≡ length kinds
  pub words : length s.words ≡ 3 * length kinds
  pub objects : (o : ℕ) → o < length kinds
      → ObjectKept hist (same o) errands (slice_index s.words (3 * o)) (slice_index s.words (3 * o + 1))
      (slice_index s.words (3 * o + 2)) (slice_index_or s.homes o none) (slice_index_or histories o [])
      (map (lane o) s.views)
  pub views : (i : ℕ) (v : View I F) → get_elem? s.views i ≡ some v
      → (v ≡ spent) ⊎ (Fitted frame kinds v × Told errands v)
  pub apart : (i j : ℕ) (v w : View I F) (e : ℕ) → get_elem? s.views i ≡ some v → get_elem? s.views j ≡ some w
      → Contains v.errands e → Contains w.errands e → i ≡ j
  pub held : (e : ℕ) → e < ERRANDS
      → (i : ℕ) × (v : View I F) × (get_elem? s.views i ≡ some v) × Contains v.errands e
  pub fit : fits histories

-- the frame of the first object, by which a board is named
abbrev pub frame_of : {S F : Type 0} → (S → F) → List S → Option F
frame_of frame [] = None
frame_of frame (x ∷ xs) = Some (frame x)

-- the errands of an entry, and whether histories fit, under a board's frame
abbrev pub errands_under : {I F : Type 0} → (F → I → List ℕ) → Option F → I → List ℕ
errands_under errands (Some f) x = errands f x
errands_under errands None x = []

abbrev pub fits_under : {I F : Type 0} → (F → List (List I) → Type 0) → Option F → List (List I) → Type 0
fits_under fits (Some f) hs = fits f hs
fits_under fits None hs = Unit {0}

-- the object has this frame and this kind
abbrev pub IsAs : {S F : Type 0} → (S → F) → (S → ℕ) → Option F → ℕ → S → Type 0
IsAs frame kind f k x = (Some (frame x) ≡ f) × (kind x ≡ k)

-- the rule of a board that was made of these objects
abbrev pub IsBoard : {S I F : Type 0} → (S → List I) → (S → F) → (S → ℕ) → (F → I → List ℕ)
    → (F → List (List I) → Type 0) → List S → State S (View I F) → Type 0
IsBoard hist frame kind errands fits made s =
    Kept hist (λ o. IsAs frame kind (frame_of frame made) (slice_index (map kind made) o))
    (errands_under errands (frame_of frame made)) (fits_under fits (frame_of frame made))
    (frame_of frame made) (map kind made) s

unfoldable pub numbers_from : ℕ → ℕ → List ℕ
numbers_from a zero = []
numbers_from a (suc n) = a ∷ numbers_from (suc a) n

-- every errand
unfoldable pub all_errands : List ℕ
all_errands = numbers_from 0 ERRANDS

-- the first view of a board that was made of these objects
abbrev pub first_view : {S I F : Type 0} → (S → List I) → (S → F) → (S → ℕ) → List S → View I F
first_view hist frame kind made =
    record {
      marker = record {};
      frame = frame_of frame made;
      kinds = map kind made;
      seen = map hist made;
      errands = all_errands;
      turns = map (λ _. no_turn) (map kind made);
      olds = [];
    }

-- the least errand, if there is one, and the others
abbrev pub least_errand : List ℕ → List ℕ
least_errand [] = []
least_errand (x ∷ xs) = fold min x xs ∷ []

abbrev pub other_errands : List ℕ → List ℕ
other_errands [] = []
other_errands (x ∷ xs) = filter (λ y. not (y == fold min x xs)) (x ∷ xs)

module _ {I : Type 0} where
  abbrev pub longer : List I → List I → List I
  longer xs ys = if nat_lt (length xs) (length ys) then ys else xs

  abbrev pub longer_each : List (List I) → List (List I) → List (List I)
  longer_each [] ys = []
  longer_each (x ∷ xs) [] = x ∷ xs
  longer_each (x ∷ xs) (y ∷ ys) = longer x y ∷ longer_each xs ys

module _ {I F : Type 0} where
  -- what is left of a view that is split, and what the new one gets
  abbrev pub handing : View I F → View I F
  handing v = record v { errands = other_errands v.errands; olds = [] }

  abbrev pub handed : View I F → View I F
  handed v = record v { errands = least_errand v.errands; turns = map (λ _. no_turn) v.turns; olds = [] }

  abbrev pub copied : View I F → View I F
  copied v = record v { errands = []; turns = map (λ _. no_turn) v.turns; olds = [] }

  -- what both views have seen, and the errands of both
  abbrev pub joined : View I F → View I F → View I F
  joined v w = record v {
    seen = longer_each v.seen w.seen;
    errands = v.errands ++ w.errands;
    olds = record { seen = v.seen; mine = v.errands } ∷ record { seen = w.seen; mine = w.errands } ∷ [];
  }

  abbrev pub told : View I F → View I F
  told v = record v { olds = [] }
