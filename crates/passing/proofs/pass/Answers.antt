-- `passing::pass` meets its contract: the frame stays, or the advertisement is written.
-- Assumes nothing.
use Rattle.std.proofs.Common.{rules, ◌≡◌, ℕ, ◌+◌, length, List, refl, ap, ◌∙◌, eq-eqb, ne_eqb}
use Rattle.writing.specs.Writing.{over}
use Rattle.writing.specs.Frame.{frame_of}
use Rattle.passing.proofs.Firing.{passed_silent, passed_due}
use Rattle.passing.proofs.pass.Goals as goal
use Rattle.passing.proofs.pass.Goals.{else-own-ne0-via-then-own-ne0+else-due, else-own-ne0-via-else-own-ne0}

pub returns-then-due : goal.returns-then-due
returns-then-due c =
    let s = c.args.s in
    let own = s.router in
    let long : length s.addresses ≡ 64 = search rules in
    let list = c.list.ensures in
    passed_due s long c.args.ticks _ _ _ c.elapsed.ensures
    (rw (ne_eqb own.vrid 0 c.if-own-ne0.true, ← c.due.ensures) c.if-due.true)
    (c.put.ensures
    ∙ ap (λ (l : List ℕ). over (frame_of own.vrid own.priority own.interval s.primary l) s.frame) list)
    (ap (λ (l : List ℕ). 50 + length l) list)

pub returns-else-own-ne0 : goal.returns-else-own-ne0
returns-else-own-ne0 c =
    let s = c.args.s in
    let long : length s.addresses ≡ 64 = search rules in
    elim c.else-own-ne0.branch [
      | else-own-ne0-via-then-own-ne0+else-due w ↦
          passed_silent s long c.args.ticks _ _ _ c.elapsed.ensures
          (rw (ne_eqb s.router.vrid 0 w.if-own-ne0.true, ← w.due.ensures) w.if-due.false) refl refl
      | else-own-ne0-via-else-own-ne0 w ↦
          passed_silent s long c.args.ticks _ _ _ c.elapsed.ensures (rw (eq-eqb s.router.vrid 0 w.if-own-ne0.false) refl) refl refl
    ]
