-- What each step tells.
use Rattle.std.specs.Prelude.{◌≡◌, ◌≢◌, ℕ, ◌+◌, ◌*◌, List, [], ◌∷◌, length, slice_index, slice_index_or}
use Rattle.atomic_table.specs.Table.{Me, Step, rest}
use Rattle.hist_board.specs.Turn.{no_turn, waits, served, borrows}
use Rattle.hist_board.specs.Rule.{Knows, turn_at, seen_at, with_turn, with_seen, errands_under, fits_under, IsAs, Told, told}
use Rattle.hist_board.specs.declared.view.View.{View}

-- Histories that may be at this moment for all that the view knows, with this history of the object o
pub record Possible {I F : Type 0} (errands : F → I → List ℕ) (fits : F → List (List I) → Type 0)
    (v : View I F) (o : ℕ) (h : List I) (histories : List (List I)) : Type 0 where
  pub count : length histories ≡ length v.kinds
  pub fit : fits_under fits v.frame histories
  pub here : slice_index_or histories o [] ≡ h
  pub begins : (p : ℕ)
      → Knows (errands_under errands v.frame) v.errands (seen_at v p) (slice_index_or histories p [])

abbrev pub Seated : Type 0 → Type 0 → Type 0 → Type 0
Seated S I F = Me S (View I F)

-- the history of the object that the seat took last
abbrev pub carried_history : {S I : Type 0} → (S → List I) → List (ℕ × S) → List I
carried_history hist [] = []
carried_history hist (x ∷ xs) = hist x.1

module _ {S I F : Type 0} where
  -- a ticket was drawn, or another thread was in the way
  abbrev pub drawn : Step S → Seated S I F → ℕ → Seated S I F → Type 0
  drawn st m n m' = (m'.1 ≡ m.1)
      × ((o : ℕ) × (st.word ≡ 3 * o) × (n ≡ st.first → m'.0 ≡ with_turn o (waits n) m.0))
      × (n ≢ st.first → m'.0 ≡ m.0)

  -- the ticket is served, and the whole history was seen; or it is not served yet
  abbrev pub looked : (F → I → List ℕ) → Step S → Seated S I F → ℕ → Seated S I F → Type 0
  looked errands st m n m' =
      (m'.1 ≡ m.1)
      × ((o : ℕ) × (st.word ≡ 3 * o + 1)
      × (n ≡ (turn_at m.0 o).ticket
      → (h : List I) × Knows (errands_under errands m.0.frame) m.0.errands (seen_at m.0 o) h
      × (m'.0 ≡ with_turn o (served n) (with_seen o h m.0)))
      × (n ≢ (turn_at m.0 o).ticket → m'.0 ≡ m.0))

  -- the length was read, and the object taken
  abbrev pub taken : (S → List I) → (S → F) → (S → ℕ) → (F → I → List ℕ) → (F → List (List I) → Type 0)
      → Step S → Seated S I F → ℕ → Seated S I F → Type 0
  taken hist frame kind errands fits st m n m' =
      (o : ℕ) × (st.word ≡ 3 * o + 2) × (n ≡ length (seen_at m.0 o))
      × (m'.0 ≡ with_turn o (borrows (turn_at m.0 o).ticket) m.0)
      × ((x : S) × (m'.1 ≡ (o, x) ∷ m.1) × (hist x ≡ seen_at m.0 o)
      × IsAs frame kind m.0.frame (slice_index m.0.kinds o) x)
      × ((hs : List (List I)) × Possible errands fits m.0 o (seen_at m.0 o) hs)

  -- an entry was added to the end of the history
  abbrev pub grown : (S → List I) → Step S → Seated S I F → ℕ → Seated S I F → Type 0
  grown hist st m n m' = (m'.1 ≡ m.1)
      × ((o : ℕ) × (st.word ≡ 3 * o + 2) × (m'.0 ≡ with_seen o (carried_history hist m.1) m.0))

  -- the object was given back, and the turn passed on
  abbrev pub passed : Step S → Seated S I F → ℕ → Seated S I F → Type 0
  passed st m n m' = (m'.1 ≡ rest m.1) × ((o : ℕ) × (st.word ≡ 3 * o + 1) × (m'.0 ≡ with_turn o no_turn m.0))

  -- what the view has seen goes on from what was joined in it
  abbrev pub recalled : (F → I → List ℕ) → Step S → Seated S I F → ℕ → Seated S I F → Type 0
  recalled errands st m n m' = (m'.1 ≡ m.1) × (m'.0 ≡ told m.0) × Told (errands_under errands m.0.frame) m.0
