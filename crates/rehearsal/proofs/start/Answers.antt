-- `rehearsal::start` meets its contract.
-- Assumes nothing.
use Rattle.script.specs.Segment.{empty_segment}
use Rattle.rehearsal.proofs.start.Goals as goal

pub returns : goal.returns
unfolding empty_segment
returns c = rw c.no_stations.ensures
