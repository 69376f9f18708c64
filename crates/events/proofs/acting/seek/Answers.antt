-- `events::acting::seek` meets its contract: there is no virtual router 0.
-- Assumes nothing.
use native.Mathlib.Omega.{arith}
use mathlib.Core.Path.{◌∙◌}
use borrow.Author.Tests.{eq-eqb, ne_eqb}
use Rattle.events.specs.Result.{router_place}
use Rattle.events.proofs.acting.seek.Goals as goal

pub returns-then-vrid-eq0 : goal.returns-then-vrid-eq0
unfolding router_place
returns-then-vrid-eq0 c = simp (eq-eqb c.args.vrid 0 (omega arith))

pub returns : goal.returns
unfolding router_place
returns c = c.find.ensures ∙ simp (ne_eqb c.args.vrid 0 (λ e. omega arith))
