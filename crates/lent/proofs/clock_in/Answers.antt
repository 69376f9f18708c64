-- `clock_in` meets its contract: what the call on the list leaves.
-- Assumes nothing.
use Rattle.std.proofs.Common.{rules, ℕ, List}
use Rattle.station.specs.declared.station.Station.{Station}
use Rattle.stations.specs.List.{clocked_at}
use Rattle.lent.proofs.clock_in.Goals as goal

pub returns : goal.returns
returns c =
    c.lend.ensures (λ (stations : List Station) (room : List ℕ). clocked_at stations c.args.at c.args.ticks room)
    (λ lent left room after answer p. search rules)
