-- `rehearsal::run` meets its contract.
-- Assumes nothing.
use Rattle.rehearsal.specs.Run.{left_of}
use Rattle.rehearsal.proofs.Stepping.{SoFar}
use Rattle.rehearsal.proofs.run.Given as goal

abbrev pub invariant-loop-now : goal.invariant-loop-now
invariant-loop-now l = SoFar l.script l.initial.now l.initial.out l.now l.written l.out

abbrev pub decreases-loop-now : goal.decreases-loop-now
decreases-loop-now l = left_of l.script l.now
