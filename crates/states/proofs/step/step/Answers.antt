-- `states::step::step` meets its contract: a turn, applied, is the step.
-- Assumes nothing.
use Rattle.std.proofs.Common.{ap, ◌∙◌}
use Rattle.states.specs.Turn.{applied_to}
use Rattle.states.proofs.Turning.{applied_turn}
use Rattle.states.proofs.step.step.Goals as goal

pub returns : goal.returns
returns c =
    let a = c.args in
    c.applied.ensures ∙ ap (applied_to a.r) c.turn.ensures ∙ applied_turn a.primary a.r a.event
