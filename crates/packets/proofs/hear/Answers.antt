-- `packets::hear` meets its contract: judged first.
-- Assumes nothing.
use mathlib.Core.Path.{sym}
use native.Mathlib.Omega.{arith}
use Rattle.judging.proofs.Accepted.{refused_most, list_inside}
use Rattle.events.proofs.Sought.{leaves_equal}
use Rattle.packets.proofs.Heard.{heard_unfit, heard_fit}
use Rattle.packets.proofs.hear.Goals as goal

pub invariant_of-hear_judged : goal.invariant_of-hear_judged
invariant_of-hear_judged c = record { listed = list_inside c.args.packet.now _ c.in-Ok.ensures }

pub count_refusal-requires : goal.count_refusal-requires
count_refusal-requires c =
    let most = refused_most c.args.packet.now _ c.in-Err.ensures in
    omega arith

pub returns-in-Ok : goal.returns-in-Ok
returns-in-Ok c =
    let a = c.args in
    leaves_equal _ _ _ _ _ (heard_fit a.words.now a.lists.now a.packet.now a.out.now _ (sym c.in-Ok.ensures))
    c.hear_judged.ensures

pub returns-in-Err : goal.returns-in-Err
returns-in-Err c =
    let a = c.args in
    heard_unfit a.words.now a.lists.now a.packet.now a.out.now c.in-Err.refusal _ (sym c.in-Err.ensures)
    c.count_refusal.ensures
