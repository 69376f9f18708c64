-- `packets::accept_at` meets its contract.
-- Assumes nothing.
use native.Mathlib.Omega.{arith}
use Rattle.events.proofs.Sought.{leaves_equal}
use Rattle.packets.proofs.Heard.{accepted_acts, accepted_silent}
use Rattle.packets.proofs.accept_at.Goals.{in-Nothing, in_default}
use Rattle.packets.proofs.accept_at.Goals as goal

pub returns-then-matches : goal.returns-then-matches
returns-then-matches c =
    let a = c.args in
    accepted_silent a.words.now a.lists.now a.place a.fields a.out.now _ _ c.turn_at-changes.ensures
    (elim c.match-matches.branch [ in-Nothing w ↦ w.in-Nothing.is | in_default w ↦ absurd (grind arith) ])
    c.change.ensures

pub returns : goal.returns
returns c =
    let a = c.args in
    leaves_equal _ _ _ _ _
    (accepted_acts a.words.now a.lists.now a.place a.fields a.out.now _ c.turn_at-changes.ensures)
    c.act.ensures
