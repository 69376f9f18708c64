-- `script::segment::no_stations` meets its contract.
-- Assumes nothing.
use Rattle.script.proofs.Stored.{no_station}
use Rattle.script.proofs.segment.no_stations.Goals as goal

pub returns : goal.returns
returns c = rw (no_station _ _ c.new_station.ensures)
