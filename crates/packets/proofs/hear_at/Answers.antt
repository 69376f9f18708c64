-- `packets::hear_at` meets its contract.
-- Assumes nothing.
use mathlib.Core.Path.{sym}
use native.Mathlib.Omega.{arith}
use Rattle.wire.proofs.Refusals.{nonzero}
use Rattle.events.proofs.Sought.{leaves_equal}
use Rattle.packets.proofs.Heard.{refused_range, heard_refused, heard_accepted}
use Rattle.packets.proofs.hear_at.Goals as goal

pub count_at_place-requires : goal.count_at_place-requires
count_at_place-requires c =
    let a = c.args in
    let range = refused_range a.words.now a.lists.now a.heard.packet.now a.place a.heard.fields _ c.in-Err.ensures (nonzero c.in-Err.refusal) in
    omega (arith, range)

pub returns-in-Err : goal.returns-in-Err
returns-in-Err c =
    let a = c.args in
    heard_refused a.words.now a.lists.now a.heard.packet.now a.place a.heard.fields a.out.now c.in-Err.refusal _ c.in-Err.ensures
    c.count_at_place.ensures

pub returns : goal.returns
returns c =
    let a = c.args in
    leaves_equal _ _ _ _ _
    (heard_accepted a.words.now a.lists.now a.heard.packet.now a.place a.heard.fields a.out.now (sym c.in_default.ensures))
    c.accept_at.ensures
