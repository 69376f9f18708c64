-- `steps::deliver` meets its contract: the packet is heard.
-- Assumes nothing.
use Rattle.std.proofs.Common.{rules, ◌≡◌, ℕ, List, length, ap, ◌∙◌, arith, ne_eqb}
use Rattle.station.proofs.Arrays.{part_is_packet}
use Rattle.station.proofs.Acted.{leaves_equal}
use Rattle.hearing.specs.Hearing.{heard_by}
use Rattle.steps.specs.Steps.{delivered_to}
use Rattle.steps.proofs.deliver.Goals as goal

pub returns : goal.returns
unfolding delivered_to
returns c =
    let a = c.args in
    let long : length a.from.frame ≡ 114 = search rules in
    let part = part_is_packet a.from _ _ long c.min.ensures c.min-2.ensures in
    let some = ne_eqb a.from.sent 0 (λ e. omega arith) in
    leaves_equal _ _ (ap (λ (p : List ℕ). heard_by a.to p a.out.now) part ∙ rw some) c.hear.ensures
