-- `list::pass_all` meets its contract: one station more at each turn.
use Rattle.std.proofs.Common.{◌<◌, length, arith}
use Rattle.std.proofs.lemmas.List.{get_or_default}
use Rattle.std.proofs.lemmas.List.Edits.{map_over_more}
use Rattle.station.specs.declared.station.Station.{Station}
use Rattle.passing.specs.Passing.{passed}
use Rattle.stations.proofs.list.pass_all.Goals as goal

pub loop-station-preserved : goal.loop-station-preserved
loop-station-preserved c =
    let l = c.loop-station in
    let inside : l.station-index < length l.stations = omega arith in
    rw c.pass.ensures
    (map_over_more (λ (s : Station). passed s c.args.ticks) c.args.stations.now l.stations l.station-index _ c.loop-station-test.true
    l.invariant (get_or_default l.stations l.station-index _ _ inside))
