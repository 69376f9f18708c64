-- `events::acting::act` meets its contract.
-- Assumes nothing.
use mathlib.Core.Path.{◌∙◌}
use native.Mathlib.Omega.{arith}
use Rattle.events.specs.Turned.{turned_at}
use Rattle.events.proofs.Acted.{need_is, output_is, acted_short, acted_done}
use Rattle.events.proofs.acting.act.Goals as goal

pub returns-then-out-needed : goal.returns-then-out-needed
returns-then-out-needed c =
    let a = c.args in
    let o = turned_at a.words.now a.place a.heard a.turn in
    acted_short a.words.now a.lists.now a.place o a.leftover a.out.now _
    (need_is a.words.now a.place a.heard a.turn _ _ _ c.load-own.ensures.record c.list_at-list.ensures.len c.need-needed.ensures)
    (omega arith)

pub returns : goal.returns
returns c =
    let a = c.args in
    let o = turned_at a.words.now a.place a.heard a.turn in
    acted_done a.words.now a.lists.now a.place o a.leftover a.out.now _
    (need_is a.words.now a.place a.heard a.turn _ _ _ c.load-own.ensures.record c.list_at-list.ensures.len c.need-needed.ensures)
    _ _ (omega arith) c.change.ensures
    (c.put_output.ensures
    ∙ output_is a.words.now a.lists.now a.place a.heard a.turn _ a.out.now _ _ c.load-own.ensures.record c.primary.ensures
    c.list_at-list.ensures.bytes)
