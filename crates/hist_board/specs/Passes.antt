-- What a pass is at rest, what work has to keep, and what a turn tells.
use Rattle.std.specs.Prelude.{◌≡◌, ℕ, ◌+◌, ◌*◌, ◌<◌, ◌≤◌, ◌⊎◌, true, false, List, [], ◌∷◌, ◌++◌, map, length, Contains, Some, slice_index, slice_set}
use mathlib.Core.Option.{some}
use lib.ListN.{get_elem?}
use Rattle.atomic_table.specs.Table.{Me}
use Rattle.hist_board.specs.Turn.{Turn, no_turn}
use Rattle.hist_board.specs.Rule.{Knows, Live, turn_at, seen_at, with_seen, errands_under, fits_under, IsAs, frame_of}
use Rattle.hist_board.specs.Plays.{Possible}
use Rattle.hist_board.specs.declared.view.View.{View}

-- between two calls a pass has no turn, and no object is out with it
pub record AtRest {S I F : Type 0} (words : ℕ) (me : Me S (View I F)) : Type 0 where
  pub words_are : words ≡ 3 * length me.0.kinds
  pub none_out : me.1 ≡ []
  pub live : Live me.0
  pub no_turns : me.0.turns ≡ map (λ _. no_turn) me.0.kinds
  pub some_object : 0 < length me.0.kinds
  pub few : length me.0.kinds ≤ 17
  pub places : length me.0.seen ≡ length me.0.kinds
  pub told : me.0.olds ≡ []

-- the lengths of what was seen
abbrev pub Counts : {I F : Type 0} → List ℕ → View I F → Type 0
Counts lengths v = (o : ℕ) → o < length v.kinds → slice_index lengths o ≡ length (seen_at v o)

module _ {I F : Type 0} where
  -- the view while it has this turn at the object o, and has seen this of it
  abbrev pub staged : ℕ → Turn → List I → View I F → View I F
  staged o t h v = record v { turns = slice_set v.turns o t; seen = slice_set v.seen o h; olds = [] }

module _ {S I F : Type 0} (hist : S → List I) (frame : S → F) (kind : S → ℕ) (errands : F → I → List ℕ)
    (fits : F → List (List I) → Type 0) (v : View I F) (o : ℕ) where
  -- the object x may be lent to a pass with the view v
  pub record Lent (x : S) : Type 0 where
    pub later : Knows (errands_under errands v.frame) v.errands (seen_at v o) (hist x)
    pub alike : IsAs frame kind v.frame (slice_index v.kinds o) x
    pub together : (hs : List (List I)) × Possible errands fits (with_seen o (hist x) v) o (hist x) hs

  -- the work left y of x, and its history is the same
  abbrev pub Stays : S → S → Type 0
  Stays x y = hist y ≡ hist x

  -- an entry was added, whose errands the pass holds, and which fits whatever the other histories are
  pub record Adds (x y : S) : Type 0 where
    pub entry : I
    pub longer : hist y ≡ hist x ++ entry ∷ []
    pub own : (e : ℕ) → Contains (errands_under errands v.frame entry) e → Contains v.errands e
    pub fit : (hs : List (List I)) → Possible errands fits (with_seen o (hist x) v) o (hist x) hs
        → fits_under fits v.frame (slice_set hs o (hist y))

  -- what the work of a turn has to keep
  abbrev pub Keeps : S → S → Type 0
  Keeps x y = IsAs frame kind v.frame (slice_index v.kinds o) y × (Stays x y ⊎ Adds x y)

  -- the work may be done on any object that may be lent, and keeps the rule
  abbrev pub MayWork : {R : Type 0} → (S → Type 0) → (S → R → S → Type 0) → Type 0
  MayWork {R} may gives = (x : S) → Lent x → may x × ((r : R) (y : S) → gives x r y → Keeps x y)

  -- the work was done on x and left y, and the view has seen the whole history
  pub record Turned {R : Type 0} (gives : S → R → S → Type 0) (r : R) (w : View I F) : Type 0 where
    pub before : S
    pub after : S
    pub lent : Lent before
    pub given : gives before r after
    pub kept : Keeps before after
    pub seen : w ≡ with_seen o (hist after) v

-- y has one entry more than the view has seen, which the view may add
pub record Grown {S I F : Type 0} (hist : S → List I) (errands : F → I → List ℕ)
    (fits : F → List (List I) → Type 0) (v : View I F) (o : ℕ) (y : S) : Type 0 where
  pub entry : I
  pub longer : hist y ≡ seen_at v o ++ entry ∷ []
  pub own : (e : ℕ) → Contains (errands_under errands v.frame entry) e → Contains v.errands e
  pub fit : (hs : List (List I)) → Possible errands fits v o (seen_at v o) hs
      → fits_under fits v.frame (slice_set hs o (hist y))

-- The board's objects are these. Their histories are all that the view has seen, and they fit
pub record AllSeen {S I F : Type 0} (hist : S → List I) (frame : S → F) (kind : S → ℕ)
    (fits : F → List (List I) → Type 0) (v : View I F) (objects : List S) : Type 0 where
  pub count : length objects ≡ length v.kinds
  pub histories : map hist objects ≡ v.seen
  pub alike : (o : ℕ) (x : S) → get_elem? objects o ≡ some x
      → IsAs frame kind v.frame (slice_index v.kinds o) x
  pub fit : fits_under fits v.frame v.seen

-- each history goes on from what was seen, with no entry of an errand that the view held
abbrev pub SeesOn : {I F : Type 0} → (F → I → List ℕ) → View I F → View I F → Type 0
SeesOn errands v w = (v.frame ≡ w.frame) × (v.kinds ≡ w.kinds)
    × ((o : ℕ) → Knows (errands_under errands v.frame) v.errands (seen_at v o) (seen_at w o))

-- the objects have one frame
abbrev pub OneFrame : {S F : Type 0} → (S → F) → List S → Type 0
OneFrame {S = S} frame objects = (o : ℕ) (x : S) → get_elem? objects o ≡ some x
    → Some (frame x) ≡ frame_of frame objects

-- the words of a new board
abbrev pub FirstWords : {S I : Type 0} → (S → List I) → List S → List ℕ → Type 0
FirstWords {S = S} hist objects words = (length words ≡ 3 * length objects)
    × ((o : ℕ) (x : S) → get_elem? objects o ≡ some x → (slice_index words (3 * o) ≡ 0)
    × (slice_index words (3 * o + 1) ≡ 0) × (slice_index words (3 * o + 2) ≡ length (hist x)))

-- the pass keeps its turn on each of the first objects, and has seen on
pub record Closing {S I F : Type 0} (errands : F → I → List ℕ) (start : Me S (View I F)) (n : ℕ)
    (me : Me S (View I F)) : Type 0 where
  pub none_out : me.1 ≡ []
  pub same : (me.0.frame ≡ start.0.frame) × (me.0.kinds ≡ start.0.kinds) × (me.0.errands ≡ start.0.errands)
  pub places : (length me.0.seen ≡ length start.0.kinds) × (length me.0.turns ≡ length start.0.kinds)
  pub kept : (o : ℕ) → o < n
      → ((turn_at me.0 o).has ≡ true) × ((turn_at me.0 o).whole ≡ true) × ((turn_at me.0 o).out ≡ false)
  pub later : (o : ℕ) → n ≤ o → (turn_at me.0 o ≡ no_turn) × (seen_at me.0 o ≡ seen_at start.0 o)
  pub seen : (o : ℕ)
      → Knows (errands_under errands start.0.frame) start.0.errands (seen_at start.0 o) (seen_at me.0 o)
