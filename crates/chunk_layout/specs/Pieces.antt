-- A range of a file's bytes, cut at the chunks' bounds.
use Rattle.std.specs.Prelude.{◌≡◌, ℕ, ◌≤◌, ◌<◌, ◌+◌, ◌*◌, List, [], ◌∷◌, ◌⊎◌, length}
use Rattle.fs_base.specs.declared.limits.TheConstants.{FILE_BYTES, PIECES}
use Rattle.chunk_layout.specs.declared.cutting.Piece.{Piece}

-- the piece that begins at this byte of a range: it lies in one chunk, and goes on to the chunk's end or the
-- range's
pub record IsPiece (chunk end from : ℕ) (piece : Piece) : Type 0 where
  pub at : piece.index * chunk + piece.offset ≡ from
  pub some : 1 ≤ piece.len
  pub within : piece.offset + piece.len ≤ chunk
  pub whole : (piece.offset + piece.len ≡ chunk) ⊎ (from + piece.len ≡ end)

-- pieces of a range with this end that cover it from one byte up to, and without, another: each begins where
-- the one before it ends
abbrev pub ArePieces : ℕ → ℕ → ℕ → ℕ → List Piece → Type 0
ArePieces chunk end from to [] = from ≡ to
ArePieces chunk end from to (piece ∷ pieces) =
    IsPiece chunk end from piece × ArePieces chunk end (from + piece.len) to pieces

-- it passes the greatest length of a file, or takes more than 65,536 pieces
abbrev pub IsTooLong : ℕ → ℕ → ℕ → Type 0
IsTooLong chunk from to =
    (FILE_BYTES < to) ⊎ ((pieces : List Piece) → ArePieces chunk to from to pieces → PIECES < length pieces)
