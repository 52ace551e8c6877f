use Rattle.std.proofs.Common.{◌≡◌, ◌≤◌, ◌<◌, ◌+◌, [], ◌∷◌, ◌++◌, inr, refl, sym, ap, ◌∙◌, subst, arith, ℕ, List, length}
use Rattle.std.proofs.lemmas.List.{length_push}
use Rattle.chunk_layout.specs.Pieces.{ArePieces}
use Rattle.chunk_layout.specs.declared.cutting.Piece.{Piece}
use Rattle.chunk_layout.proofs.PieceLaws.{pieces_push, fewer}
use Rattle.chunk_layout.proofs.cutting.pieces.Goals as goal

pub returns-then-len-eq-PIECES-clause-long : goal.returns-then-len-eq-PIECES-clause-long
returns-then-len-eq-PIECES-clause-long c =
    let end : ℕ = c.args.offset + c.args.len in
    λ _. inr (λ all cover.
    let less : length c.loop-at.pieces < length all
    = fewer c.args.layout.now.chunk end c.args.offset c.loop-at.at c.loop-at.pieces all c.loop-at-test.true c.loop-at.invariant.front cover in
    omega (arith, less, c.len.ensures, c.if-len-eq-PIECES.true))

pub loop-at-preserved : goal.loop-at-preserved
loop-at-preserved c =
    let chunk : ℕ = c.args.layout.now.chunk in
    let end : ℕ = c.args.offset + c.args.len in
    let piece : Piece = c.piece_at-piece.result in
    let grown : c.push.new.self ≡ c.loop-at.pieces ++ piece ∷ [] = c.in_ok-push.ensures.ok in
    let longer : length c.push.new.self ≡ length c.loop-at.pieces + 1 = ap length grown ∙ length_push c.loop-at.pieces piece in
    record {
      end = refl;
      short = c.loop-at.invariant.short;
      before = omega (arith, c.piece_at-piece.ensures.within, c.from-at.ensures);
      few = omega (arith, longer, c.loop-at.invariant.few, c.len.ensures, c.if-len-eq-PIECES.false);
      front = subst (λ n. ArePieces chunk end c.args.offset (c.loop-at.at + n) c.push.new.self) (sym c.from-at.ensures)
          (subst (λ (pieces : List Piece). ArePieces chunk end c.args.offset (c.loop-at.at + piece.len) pieces) (sym grown)
          (pieces_push chunk end c.args.offset c.loop-at.at c.loop-at.pieces piece c.loop-at.invariant.front c.piece_at-piece.ensures.piece));
    }
