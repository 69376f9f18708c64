-- `hearing::refusal_of` meets its contract.
-- Assumes nothing.
use Rattle.std.proofs.Common.{◌∙◌}
use Rattle.hearing.specs.Hearing.{refusal_by}
use Rattle.hearing.proofs.refusal_of.Goals as goal

pub returns : goal.returns
unfolding refusal_by
returns c = c.router_refusal.ensures ∙ rw (c.lists_match.ensures, c.list.ensures, c.list-2.ensures)
