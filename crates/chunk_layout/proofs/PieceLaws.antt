-- Pieces of a range: one more at the end, and that any two cuts of it are alike.
use Rattle.std.proofs.Common.{◌≡◌, ℕ, ◌+◌, ◌*◌, ◌/◌, ◌<◌, ◌≤◌, List, [], ◌∷◌, ◌++◌, ◌⊎◌, inl, inr, length, refl, sym, ap, ◌∙◌, subst, arith}
use Rattle.std.proofs.lemmas.Nat.{div-mul-add}
use Rattle.chunk_layout.specs.Pieces.{IsPiece, ArePieces}
use Rattle.chunk_layout.specs.declared.cutting.Piece.{Piece}

pub pieces_push : (chunk end from at : ℕ) (pieces : List Piece) (piece : Piece)
    → ArePieces chunk end from at pieces → IsPiece chunk end at piece → ArePieces chunk end from (at + piece.len) (pieces ++ piece ∷ [])
pieces_push chunk end from at [] piece h p = (subst (λ n. IsPiece chunk end n piece) (sym h) p, ap (λ n. n + piece.len) h)
pieces_push chunk end from at (first ∷ pieces) piece h p = (h.0, pieces_push chunk end (from + first.len) at pieces piece h.1 p)

-- pieces go forward
goes_on : (chunk end from at : ℕ) (pieces : List Piece) → ArePieces chunk end from at pieces → from ≤ at
goes_on chunk end from at [] h = omega (arith, h)
goes_on chunk end from at (piece ∷ pieces) h = let later : from + piece.len ≤ at = goes_on chunk end (from + piece.len) at pieces h.1 in omega (arith, later)

-- a place has one chunk and one offset
same_offset : (chunk from : ℕ) (p q : Piece) → p.index * chunk + p.offset ≡ from → q.index * chunk + q.offset ≡ from → p.offset < chunk → q.offset < chunk → p.offset ≡ q.offset
same_offset chunk from p q e f l m =
    let i : p.index ≡ q.index = sym (div-mul-add p.index chunk p.offset l) ∙ (ap (λ n. n / chunk) (e ∙ sym f) ∙ div-mul-add q.index chunk q.offset m) in
    let g : q.index * chunk + p.offset ≡ q.index * chunk + q.offset = ap (λ n. n * chunk + p.offset) (sym i) ∙ (e ∙ sym f) in
    omega (arith, g)

same_length : (chunk end from : ℕ) (p q : Piece) → IsPiece chunk end from p → IsPiece chunk end from q → from + p.len ≤ end → from + q.len ≤ end → p.len ≡ q.len
same_length chunk end from p q a b l m =
    cases (same_offset chunk from p q a.at b.at (omega (arith, a.some, a.within)) (omega (arith, b.some, b.within))) a.whole b.whole
  where
    cases : p.offset ≡ q.offset → (p.offset + p.len ≡ chunk) ⊎ (from + p.len ≡ end) → (q.offset + q.len ≡ chunk) ⊎ (from + q.len ≡ end) → p.len ≡ q.len
    cases o (inl h) (inl k) = omega (arith, o, h, k)
    cases o (inl h) (inr k) = omega (arith, o, h, k, l, b.within)
    cases o (inr h) (inl k) = omega (arith, o, h, k, m, a.within)
    cases o (inr h) (inr k) = omega (arith, h, k)

-- a cut that stops before the end has fewer pieces than one that goes up to it
pub fewer : (chunk end from at : ℕ) (some all : List Piece) → at < end → ArePieces chunk end from at some → ArePieces chunk end from end all → length some < length all
fewer chunk end from at [] [] before h k = absurd (omega (arith, before, h, k))
fewer chunk end from at [] (q ∷ all) before h k = omega arith
fewer chunk end from at (p ∷ some) [] before h k =
    absurd (let later : from + p.len ≤ at = goes_on chunk end (from + p.len) at some h.1 in omega (arith, before, later, k))
fewer chunk end from at (p ∷ some) (q ∷ all) before h k =
    let later : from + p.len ≤ at = goes_on chunk end (from + p.len) at some h.1 in
    let upto : from + q.len ≤ end = goes_on chunk end (from + q.len) end all k.1 in
    let e : p.len ≡ q.len = same_length chunk end from p q h.0 k.0 (omega (arith, later, before)) upto in
    let less : length some < length all = fewer chunk end (from + p.len) at some all before h.1 (subst (λ n. ArePieces chunk end (from + n) end all) (sym e) k.1) in
    omega (arith, less)
