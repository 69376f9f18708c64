-- `list::pass_first` meets its contract: those that are used come first.
use Rattle.stations.proofs.Placed.{passed_first}
use Rattle.stations.proofs.list.pass_first.Goals as goal

pub returns : goal.returns
returns c = passed_first c.args.ticks c.args.used _ c.args.stations.now _ c.min-end.ensures c.pass_all.ensures
