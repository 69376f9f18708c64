-- `events::tick_at` meets its contract.
-- Assumes nothing.
use mathlib.Core.Path.{sym, ◌∙◌}
use native.Mathlib.Omega.{arith}
use Rattle.states.specs.declared.step.Event.TheVariants.{Timer}
use Rattle.events.proofs.Acted.{turned_step}
use Rattle.events.proofs.Sought.{leaves_equal}
use Rattle.events.proofs.Ticking.{clocked_initialize, clocked_falls, clocked_fires}
use Rattle.events.proofs.tick_at.Goals as goal

pub returns-then-in_initialize : goal.returns-then-in_initialize
returns-then-in_initialize c =
    let a = c.args in
    clocked_initialize a.words.now a.lists.now a.place a.ticks a.out.now
    (sym c.in_initialize.ensures ∙ c.if-in_initialize.true)

pub returns-then-ticks-remaining : goal.returns-then-ticks-remaining
returns-then-ticks-remaining c =
    let a = c.args in
    let timer = c.timer-remaining.ensures in
    clocked_falls a.words.now a.lists.now a.place a.ticks a.out.now _
    (sym c.in_initialize.ensures ∙ c.if-in_initialize.false) (omega arith)
    (c.store_timer.ensures ∙ rw timer)

pub returns : goal.returns
returns c =
    let a = c.args in
    let timer = c.timer-remaining.ensures in
    let not_idle = sym c.in_initialize.ensures ∙ c.if-in_initialize.false in
    leaves_equal _ _ _ _ _
    (turned_step a.words.now a.lists.now a.place Timer _ a.out.now _
    (c.turn-changes.ensures ∙ rw (c.primary.ensures, c.load.ensures.record))
    ∙ rw timer (clocked_fires a.words.now a.lists.now a.place a.ticks a.out.now not_idle (omega arith)))
    c.act.ensures
