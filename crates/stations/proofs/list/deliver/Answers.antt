-- `list::deliver` meets its contract: the delivery stands at the receiver's number, or the first refusal is answered.
use Rattle.std.proofs.Common.{rules}
use Rattle.std.proofs.lemmas.List.{get_or_default}
use Rattle.stations.specs.List.{nowhere}
use Rattle.stations.proofs.Placed.{delivered_refused, delivered_within}
use Rattle.stations.proofs.list.deliver.Goals as goal

pub returns-in_err-delivery_refusal : goal.returns-in_err-delivery_refusal
returns-in_err-delivery_refusal c =
    let e = c.in_err-delivery_refusal.ensures in
    let refused = delivered_refused c.args.stations.now c.args.from c.args.to c.args.out.now _ e.number e.room in
    search (rules, refused)

pub returns : goal.returns
returns c =
    let a = c.args in
    let e = c.in_ok-delivery_refusal.ensures in
    delivered_within a.stations.now a.from a.to a.out.now e.number e.there.1 _
    (get_or_default a.stations.now a.from _ nowhere e.there.0) _ _ _ c.deliver_from.ensures
