-- `rehearsal::run` meets its contract.
-- Assumes nothing.
use Prim.Native.Nat.{◌-◌}
use native.Mathlib.Omega.{arith}
use lib.ListN.{length}
use Rattle.rehearsal.proofs.Stepping.{turn, stopped, left_less, goes_on, stops_short, stops_done, printed_as, turn_progress, turn_line}
use Rattle.rehearsal.proofs.run.Goals as goal

pub loop-now-smaller : goal.loop-now-smaller
loop-now-smaller c =
    left_less c.args.script.now c.loop-now.now _ c.loop-now-test.true
    (turn_progress c.turn_of-turn.ensures.turn c.advance.ensures)

pub loop-now-preserved : goal.loop-now-preserved
loop-now-preserved c =
    let loop = c.loop-now in
    let turned = c.turn_of-turn.ensures.turn in
    let moved = c.advance.ensures in
    turn loop.invariant _ _ _
    (goes_on loop.now (length loop.out - loop.written) c.loop-now-test.true (omega arith))
    (turn_progress turned moved)
    (printed_as (turn_line turned moved) c.put_turn-written.ensures)

pub returns-else-out-written-ge32 : goal.returns-else-out-written-ge32
returns-else-out-written-ge32 c =
    let loop = c.loop-now in
    stopped loop.invariant (stops_short loop.now (length loop.out - loop.written) (omega arith))

pub returns-after-loop-now : goal.returns-after-loop-now
returns-after-loop-now c =
    let loop = c.loop-now in
    stopped loop.invariant (stops_done loop.now (length loop.out - loop.written) c.loop-now-test.false)
