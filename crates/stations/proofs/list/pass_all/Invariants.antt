-- The first stations, as many as the index, have let the ticks pass.
use Rattle.std.proofs.Common.{◌≡◌, ◌++◌, take, drop}
use Rattle.std.specs.Prelude.{map}
use Rattle.station.specs.declared.station.Station.{Station}
use Rattle.passing.specs.Passing.{passed}
use Rattle.stations.proofs.list.pass_all.Given as goal

abbrev pub invariant-loop-station : goal.invariant-loop-station
invariant-loop-station l =
    l.stations ≡ map (λ (s : Station). passed s l.ticks) (take l.station-index l.initial.stations) ++ drop l.station-index l.initial.stations
