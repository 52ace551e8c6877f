use Rattle.std.proofs.Common.{◌≡◌, List, ◌++◌, ℕ, false, Option, Some, ap}
use Rattle.std.specs.Fmt.{AppendsText, styled_digits_output}
use Rattle.std.proofs.lemmas.Fmt as digits
use Rattle.std.proofs.lemmas.Result.{on_ok_weaker}
use Rattle.run_record.specs.Hex.{hex_byte}
use Rattle.run_record.proofs.hex.push_byte.Goals as goal

appended : (old new bytes : List ℕ) (text : Option (List ℕ)) → text ≡ Some bytes → AppendsText old new text → new ≡ old ++ bytes
appended old new bytes text e h = rw e at h

pub returns : goal.returns
returns c =
    let text : styled_digits_output c.in_radix.result c.laid_out.result ≡ Some (hex_byte c.args.byte) = rw (c.laid_out.ensures, c.in_radix.ensures) (ap (λ (bs : List ℕ). Some bs) (digits.hex_byte false c.args.byte c.ranges.byte.fits)) in
    on_ok_weaker _ (appended _ _ _ _ text) c.write.ensures.bytes
