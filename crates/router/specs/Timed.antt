-- When a timer runs, and how long it can be (01, 'Time').
use Rattle.std.specs.Prelude.{◌≡◌, ℕ, ◌≤◌}
use Rattle.states.specs.declared.record.State.{State}
use Rattle.states.specs.declared.record.State.TheVariants.{Initialize, Backup, Master}
use Rattle.states.specs.declared.record.Router.{Router}
use Rattle.states.specs.Timers.{master_down_of, advertisement_interval_of}

-- "Initialize has no timer, Backup the master down timer, Master the advertisement timer, and a running timer is at least 1"
abbrev pub TimedIn : State → ℕ → ℕ → ℕ → Type 0
TimedIn Initialize timer priority interval = timer ≡ 0
TimedIn Backup timer priority interval = (1 ≤ timer) × (timer ≤ master_down_of priority interval)
TimedIn Master timer priority interval = (1 ≤ timer) × (timer ≤ advertisement_interval_of interval)

abbrev pub Timed : Router → Type 0
Timed r = TimedIn r.state r.timer r.priority r.interval
