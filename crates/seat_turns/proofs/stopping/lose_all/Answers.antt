use Rattle.std.proofs.Common.{arith, sym}
use Rattle.seat_turns.proofs.Losing.{lost_all, lost_next, next_is, scripts_next}
use Rattle.seat_turns.proofs.stopping.lose_all.Goals as goal

pub lose-requires : goal.lose-requires
lose-requires c =
    record {
      sent = λ work is.
          c.requires.sent c.loop-k.k c.index_mut.result.now work
          (next_is c.args.server c.args.stop c.args.seats.now.items c.loop-k.k c.loop-k.seats.items c.index_mut.result.now
          c.loop-k.invariant (omega arith) c.index_mut.ensures.value)
          is;
    }

pub returns-in_err-lose-clause-scripts : goal.returns-in_err-lose-clause-scripts
returns-in_err-lose-clause-scripts c =
    scripts_next c.args.server c.args.stop c.args.seats.now.items c.loop-k.k c.loop-k.seats.items c.index_mut.result.now
    c.loop-k.invariant (omega arith) c.index_mut.ensures.value c.lose.new.seat c.in_err-lose.ensures.script

pub loop-k-preserved : goal.loop-k-preserved
loop-k-preserved c =
    lost_next c.args.server c.args.stop c.args.seats.now.items c.loop-k.k c.loop-k.seats.items c.index_mut.result.now
    c.loop-k.invariant (omega arith) c.index_mut.ensures.value c.lose.new.seat c.in_ok-lose.ensures.script c.in_ok-lose.ensures.lost

pub returns-clause-lost : goal.returns-clause-lost
returns-clause-lost c = lost_all c.args.server c.args.stop c.args.seats.now.items c.loop-k.k c.loop-k.seats.items (omega arith) c.loop-k.invariant
