-- A clock step for one router (01, 'Time').
use Rattle.std.specs.Prelude.{ℕ, ◌-◌, cond, nat_lt}
use Rattle.states.specs.declared.record.State.{State}
use Rattle.states.specs.declared.record.State.TheVariants.{Initialize, Backup, Master}
use Rattle.states.specs.declared.record.Router.{Router}
use Rattle.states.specs.declared.step.Event.TheVariants.{Timer}
use Rattle.router.specs.declared.clock.Ticked.{Ticked}
use Rattle.states.specs.Step.{with_state, stays, step_of}

-- "if d is below the remaining time, that falls by d and the leftover is 0"
abbrev pub falls : Router → ℕ → Ticked
falls r d = record { outcome = stays (with_state r r.state (r.timer - d)); leftover = 0 }

-- "Otherwise the timer fires once, and the leftover, d minus the remaining time, is reported"
abbrev pub fires : ℕ → Router → ℕ → Ticked
fires primary r d = record { outcome = step_of primary r Timer; leftover = d - r.timer }

-- "In Initialize nothing happens and the leftover is 0"
abbrev pub ticked_in : State → ℕ → Router → ℕ → Ticked
ticked_in Initialize primary r d = record { outcome = stays r; leftover = 0 }
ticked_in Backup primary r d = cond (nat_lt d r.timer) (falls r d) (fires primary r d)
ticked_in Master primary r d = cond (nat_lt d r.timer) (falls r d) (fires primary r d)

-- a clock step of d ticks
unfoldable pub ticked_of : ℕ → Router → ℕ → Ticked
ticked_of primary r d = ticked_in r.state primary r d
