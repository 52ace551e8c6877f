-- Conflicts line by line, and how many there are.
use Rattle.std.proofs.Common.{◌≡◌, ℕ, ◌+◌, ◌<◌, ◌≤◌, List, [], ◌∷◌, ◌++◌, length, take, drop, get_or, sym, ap, ◌∙◌, append_assoc, arith}
use Rattle.key_schema.specs.declared.key.Key.{Key}
use Rattle.run_record.specs.Replies.{conflict_line, conflict_lines}
use Rattle.run_record.specs.Right.{conflicts_in}
use Rattle.run_record.specs.declared.run.Listed.{Listed}
use Rattle.std.proofs.lemmas.List.{append-nil, length-take-le, take-append-drop, take_more}
use Rattle.txn_task.specs.declared.outcome.Receipt.{Receipt}

-- one more conflict is one more line, of the next attempt
pub lines_more : (client : ℕ) (r : Receipt) (attempt : ℕ) (pairs : List (ℕ × Key)) (pair : ℕ × Key)
    → conflict_lines client r attempt (pairs ++ pair ∷ []) ≡ conflict_lines client r attempt pairs ++ conflict_line client r (attempt + length pairs) pair
lines_more client r attempt [] pair =
    let same : attempt + 0 ≡ attempt = omega arith in
    append-nil (conflict_line client r attempt pair) ∙ ap (λ n. conflict_line client r n pair) (sym same)
lines_more client r attempt (first ∷ pairs) pair =
    let next : attempt + 1 + length pairs ≡ attempt + length (first ∷ pairs) = omega arith in
    ap (λ more. conflict_line client r attempt first ++ more) (lines_more client r (attempt + 1) pairs pair)
    ∙ sym (append_assoc (conflict_line client r attempt first) (conflict_lines client r (attempt + 1) pairs) (conflict_line client r (attempt + 1 + length pairs) pair))
    ∙ ap (λ n. (conflict_line client r attempt first ++ conflict_lines client r (attempt + 1) pairs) ++ conflict_line client r n pair) next

pub conflicts-append : (xs ys : List Listed) → conflicts_in (xs ++ ys) ≡ conflicts_in xs + conflicts_in ys
conflicts-append [] ys = omega arith
conflicts-append (x ∷ xs) ys = omega (arith, conflicts-append xs ys)

counted : (i : ℕ) (pairs : List (ℕ × Key)) → i < length pairs → 1 + length (take i pairs) ≡ i + 1
counted i pairs h = omega (arith, length-take-le i pairs (omega arith))

pub lines_step : (client : ℕ) (r : Receipt) (pairs : List (ℕ × Key)) (i : ℕ) (pair : ℕ × Key) (before now after : List ℕ) → i < length pairs
    → pair ≡ get_or pairs i pair → now ≡ before ++ conflict_lines client r 1 (take i pairs) → after ≡ now ++ conflict_line client r (i + 1) pair
    → after ≡ before ++ conflict_lines client r 1 (take (i + 1) pairs)
lines_step client r pairs i pair before now after h item so_far one =
    let more : take (i + 1) pairs ≡ take i pairs ++ pair ∷ [] = take_more pairs i pair h ∙ ap (λ x. take i pairs ++ x ∷ []) (sym item) in
    let grown : conflict_lines client r 1 (take (i + 1) pairs) ≡ conflict_lines client r 1 (take i pairs) ++ conflict_line client r (i + 1) pair =
    ap (conflict_lines client r 1) more ∙ lines_more client r 1 (take i pairs) pair
    ∙ ap (λ n. conflict_lines client r 1 (take i pairs) ++ conflict_line client r n pair) (counted i pairs h) in
    one ∙ ap (λ x. x ++ conflict_line client r (i + 1) pair) so_far
    ∙ append_assoc before (conflict_lines client r 1 (take i pairs)) (conflict_line client r (i + 1) pair)
    ∙ ap (λ x. before ++ x) (sym grown)

-- one more receipt
pub conflicts_step : (receipts : List Listed) (i : ℕ) (listed : Listed) → i < length receipts → listed ≡ get_or receipts i listed
    → conflicts_in (take (i + 1) receipts) ≡ conflicts_in (take i receipts) + length listed.receipt.conflicts
conflicts_step receipts i listed h item =
    let more : take (i + 1) receipts ≡ take i receipts ++ listed ∷ [] = take_more receipts i listed h ∙ ap (λ x. take i receipts ++ x ∷ []) (sym item) in
    let sum : conflicts_in (take (i + 1) receipts) ≡ conflicts_in (take i receipts) + conflicts_in (listed ∷ []) =
    ap conflicts_in more ∙ conflicts-append (take i receipts) (listed ∷ []) in
    omega (arith, sum)

-- so far there are no more than in all
pub conflicts_within : (receipts : List Listed) (i : ℕ) → conflicts_in (take i receipts) ≤ conflicts_in receipts
conflicts_within receipts i =
    let sum : conflicts_in receipts ≡ conflicts_in (take i receipts) + conflicts_in (drop i receipts) =
    ap conflicts_in (sym (take-append-drop i receipts)) ∙ conflicts-append (take i receipts) (drop i receipts) in
    omega (arith, sum)
