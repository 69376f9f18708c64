-- What no clock step changes of a router.
-- Assumes nothing.
use Rattle.std.proofs.Common.{ℕ, Bool, true, false, cond, ltb}
use Rattle.states.specs.declared.record.State.{State}
use Rattle.states.specs.declared.record.State.TheVariants.{Initialize, Backup, Master}
use Rattle.states.specs.declared.record.Router.{Router}
use Rattle.states.specs.declared.step.Event.TheVariants.{Timer}
use Rattle.states.specs.Step.{stays}
use Rattle.states.specs.Turn.{turn_of}
use Rattle.states.proofs.Kept.{Unchanged, applied_unchanged, step_unchanged}
use Rattle.router.specs.Clock.{falls, fires, ticked_in, ticked_of}
pub use Rattle.states.proofs.Kept.{Kept, step_keeps}

run_unchanged : (t : Bool) (primary : ℕ) (r : Router) (d : ℕ)
    → Unchanged r (cond t (falls r d) (fires primary r d)).outcome.router
run_unchanged true primary r d = applied_unchanged r (turn_of (falls r d).outcome)
run_unchanged false primary r d = step_unchanged primary r Timer

ticked_unchanged_in : (s : State) (primary : ℕ) (r : Router) (d : ℕ) → Unchanged r (ticked_in s primary r d).outcome.router
ticked_unchanged_in Initialize primary r d = applied_unchanged r (turn_of (stays r))
ticked_unchanged_in Backup primary r d = run_unchanged (ltb d r.timer) primary r d
ticked_unchanged_in Master primary r d = run_unchanged (ltb d r.timer) primary r d

pub ticked_unchanged : (primary : ℕ) (r : Router) (d : ℕ) → Unchanged r (ticked_of primary r d).outcome.router
unfolding ticked_of
ticked_unchanged primary r d = ticked_unchanged_in r.state primary r d

pub ticked_keeps : (primary : ℕ) (r : Router) (d : ℕ) → Kept r (ticked_of primary r d).outcome.router
ticked_keeps primary r d = (ticked_unchanged primary r d).kept
