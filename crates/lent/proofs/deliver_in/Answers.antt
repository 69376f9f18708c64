-- `deliver_in` meets its contract: what the call on the list leaves.
-- Assumes nothing.
use Rattle.std.proofs.Common.{rules, ℕ, List}
use Rattle.station.specs.declared.station.Station.{Station}
use Rattle.stations.specs.List.{delivered_at}
use Rattle.lent.proofs.deliver_in.Goals as goal

pub returns : goal.returns
returns c =
    c.lend.ensures (λ (stations : List Station) (room : List ℕ). delivered_at stations c.args.from c.args.to room)
    (λ lent left room after answer p. search rules)
