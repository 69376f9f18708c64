-- `station::acting::act` meets its contract: short of room, nothing to write, or written and kept.
-- Assumes nothing.
use Rattle.std.proofs.Common.{ℕ, ◌+◌, length, List, refl, ap, ◌∙◌, arith}
use Rattle.output.specs.Output.{need_of}
use Rattle.station.proofs.Acted.{acted_short, acted_silent, acted_written}
use Rattle.station.proofs.acting.act.Goals as goal

pub returns-then-out-needed : goal.returns-then-out-needed
returns-then-out-needed c =
    let a = c.args in
    let need_is = c.need-needed.ensures ∙ ap (λ (l : List ℕ). need_of a.outcome.writes (length l)) c.list-list.ensures in
    acted_short a.s a.outcome a.leftover a.out.now _ need_is (omega arith)

pub returns-then-needed-eq0 : goal.returns-then-needed-eq0
returns-then-needed-eq0 c =
    let a = c.args in
    let need_is = c.need-needed.ensures ∙ ap (λ (l : List ℕ). need_of a.outcome.writes (length l)) c.list-list.ensures in
    acted_silent a.s a.outcome a.leftover a.out.now _ need_is _ _ (omega arith) (rw (← c.list-list.ensures) c.put_output.ensures)
    (omega arith) refl

pub returns : goal.returns
returns c =
    let a = c.args in
    let need_is = c.need-needed.ensures ∙ ap (λ (l : List ℕ). need_of a.outcome.writes (length l)) c.list-list.ensures in
    acted_written a.s a.outcome a.leftover a.out.now _ need_is _ _ (omega arith) (rw (← c.list-list.ensures) c.put_output.ensures)
    (50 + length c.list-list.result.bytes.now)
    (ap (λ (l : List ℕ). 50 + length l) c.list-list.ensures)
    (λ e. omega arith)
    c.with_frame.ensures
