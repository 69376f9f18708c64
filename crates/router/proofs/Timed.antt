-- A timer runs exactly in Backup and Master, is then at least 1, and at most what the formulas allow; every event keeps that.
-- Assumes nothing.
use Rattle.std.proofs.Common.{◌≡◌, ℕ, ◌-◌, ◌<◌, ◌≤◌, Bool, true, false, cond, not, ◌||◌, eqb, ltb, leb, refl, arith, ltb-true}
use Rattle.states.specs.declared.record.State.{State}
use Rattle.states.specs.declared.record.State.TheVariants.{Initialize, Backup, Master}
use Rattle.states.specs.declared.record.Router.{Router}
use Rattle.states.specs.declared.step.Event.{Event}
use Rattle.states.specs.declared.step.Event.TheVariants.{Startup, Shutdown, Timer, Packet}
use Rattle.states.specs.declared.step.Outcome.{Outcome}
use Rattle.states.specs.Timers.{skew_of, master_down_of, advertisement_interval_of}
use Rattle.states.specs.Step.{stays, waits, hurries, advertises, takes_over, beats, heard_by_backup, heard_by_master, step_in, step_of}
use Rattle.router.specs.Clock.{falls, fires, ticked_in, ticked_of}
use Rattle.router.specs.Timed.{TimedIn, Timed}

either : (t : Bool) (a b : Outcome) → Timed a.router → Timed b.router → Timed (cond t a b).router
either true a b h k = h
either false a b h k = k

module _ (r : Router) (configured : 1 ≤ r.interval) (small : r.priority ≤ 255) where
  waits_timed : Timed (waits r).router
  unfolding master_down_of
  waits_timed = omega arith

  hurries_timed : Timed (hurries r).router
  unfolding master_down_of skew_of
  hurries_timed = omega arith

  advertises_timed : Timed (advertises r).router
  unfolding advertisement_interval_of
  advertises_timed = omega arith

  takes_over_timed : Timed (takes_over r).router
  unfolding advertisement_interval_of
  takes_over_timed = omega arith

  step_timed_in : (s : State) (e : Event) (primary : ℕ) → Timed r → Timed (step_in s e primary r).router
  step_timed_in Initialize Startup primary h = either (eqb r.priority 255) (takes_over r) (waits r) takes_over_timed waits_timed
  step_timed_in Initialize Shutdown primary h = h
  step_timed_in Initialize Timer primary h = h
  step_timed_in Initialize (Packet p q) primary h = h
  step_timed_in Backup Startup primary h = h
  step_timed_in Backup Shutdown primary h = refl
  step_timed_in Backup Timer primary h = takes_over_timed
  step_timed_in Backup (Packet p q) primary h =
      either (eqb p 0) (hurries r) (heard_by_backup r p) hurries_timed
      (either (not r.preempt || leb r.priority p) (waits r) (stays r) waits_timed h)
  step_timed_in Master Startup primary h = h
  step_timed_in Master Shutdown primary h = refl
  step_timed_in Master Timer primary h = advertises_timed
  step_timed_in Master (Packet p q) primary h =
      either (eqb p 0) (advertises r) (heard_by_master primary r p q) advertises_timed
      (either (beats primary r p q) (waits r) (stays r) waits_timed h)

  pub step_timed : (primary : ℕ) (e : Event) → Timed r → Timed (step_of primary r e).router
  unfolding step_of
  step_timed primary e h = step_timed_in r.state e primary h

  falls_timed : (s : State) (d : ℕ) → d < r.timer → TimedIn s r.timer r.priority r.interval
      → TimedIn s (r.timer - d) r.priority r.interval
  falls_timed Initialize d l h = omega arith
  falls_timed Backup d l h = omega arith
  falls_timed Master d l h = omega arith

  run_timed : (t : Bool) (primary d : ℕ) → ltb d r.timer ≡ t → Timed r
      → Timed (cond t (falls r d) (fires primary r d)).outcome.router
  run_timed true primary d e h = falls_timed r.state d (ltb-true d r.timer e) h
  run_timed false primary d e h = step_timed primary Timer h

  ticked_timed_in : (s : State) (primary d : ℕ) → Timed r → Timed (ticked_in s primary r d).outcome.router
  ticked_timed_in Initialize primary d h = h
  ticked_timed_in Backup primary d h = run_timed (ltb d r.timer) primary d refl h
  ticked_timed_in Master primary d h = run_timed (ltb d r.timer) primary d refl h

  pub ticked_timed : (primary d : ℕ) → Timed r → Timed (ticked_of primary r d).outcome.router
  unfolding ticked_of
  ticked_timed primary d h = ticked_timed_in r.state primary d h
