-- `list::step_at` meets its contract: the step stands at the station's number, or there is no such station.
use Rattle.std.proofs.Common.{arith}
use Rattle.stations.proofs.Placed.{within, outside}
use Rattle.stations.proofs.list.step_at.Goals as goal

pub returns-then-at-stations : goal.returns-then-at-stations
returns-then-at-stations g c = λ by post. outside by c.args.stations.now c.args.at c.args.out.now (omega arith)

pub returns : goal.returns
returns g c =
    λ by post.
    within by c.args.stations.now c.args.at c.args.out.now (omega arith) _ c.step-stepped.result c.step-stepped.new.arg3
    (post _ _ _ _ c.step-stepped.ensures)
