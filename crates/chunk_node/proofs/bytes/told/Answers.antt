use Rattle.std.proofs.Common.{inl, inr, arith}
use Rattle.chunk_node.proofs.Cuts.{offset_at}
use Rattle.chunk_node.proofs.Telling.{tells_none, tells_next, tells_all}
use Rattle.chunk_node.proofs.bytes.told.Goals as goal

pub loop-i-init : goal.loop-i-init
loop-i-init c = tells_none c.args.runs.now c.args.offset c.args.end c.ended_by-i.result c.ended_by-i.ensures.within c.ended_by-i.ensures.ended c.args.out.now.items c.requires.none

pub loop-i-preserved : goal.loop-i-preserved
loop-i-preserved c =
    tells_next c.args.runs.now c.args.offset c.args.end c.loop-i.i c.loop-i.out.items c.loop-i.run c.requires.rising c.loop-i.invariant (record { offset = 0; len = 0; fill = 0 })
    c.min-len.result c.joined.new.runs.items c.in_ok-run.run' c.requires.row c.loop-i-test.true (omega (arith, c.min-len.ensures, c.saturating_sub.ensures, c.saturating_sub-in-loop-i.ensures))
    c.in_ok-run.ensures.joined c.in_ok-run.ensures.ends

pub returns-after-loop-i : goal.returns-after-loop-i
returns-after-loop-i c = tells_all c.args.runs.now c.args.offset c.args.end c.loop-i.i c.loop-i.out.items c.loop-i.run c.requires.rising c.loop-i.invariant (inl c.loop-i-test.false)

pub returns-else-runs-i : goal.returns-else-runs-i
returns-else-runs-i c =
    tells_all c.args.runs.now c.args.offset c.args.end c.loop-i.i c.loop-i.out.items c.loop-i.run c.requires.rising c.loop-i.invariant
    (inr (omega (arith, c.if-runs-i.false, offset_at c.args.runs.now c.loop-i.i (record { offset = 0; len = 0; fill = 0 }) c.requires.row c.loop-i-test.true)))
