use Rattle.std.proofs.Common.{arith, length-drop, ◌∙◌}
use Rattle.std.proofs.lemmas.List.{take_rest}
use Rattle.fs_io.proofs.KnownBytes.{Appends-then}
use Rattle.fs_io.proofs.writing.write_all.Goals as goal

pub loop-at-preserved : goal.loop-at-preserved
loop-at-preserved g c = record {
  quiet = c.in-Ok.ensures.quiet ∙ c.loop-at.invariant.quiet;
  within = omega (arith, rw take_rest at c.in-Ok.ensures.bound, length-drop c.loop-at.at c.args.bytes.now);
  gone = Appends-then _ _ _ _ _ _ c.loop-at.invariant.gone (rw take_rest at c.in-Ok.ensures.bytes);
}
