-- What an event does to a router's counts: one more where it became Master.
-- Assumes nothing.
use mathlib.Core.Path.{◌≡◌, refl, sym, ap, ◌∙◌}
use mathlib.Core.Bool.{Bool, true, false, cond, not, ◌||◌}
use Prim.Native.Nat.{ℕ}
use lib.Dec.{eqb, leb, ltb}
use Rattle.states.specs.declared.record.State.{State}
use Rattle.states.specs.declared.record.State.TheVariants.{Initialize, Backup, Master}
use Rattle.states.specs.declared.record.Router.{Router}
use Rattle.states.specs.declared.step.Event.{Event}
use Rattle.states.specs.declared.step.Event.TheVariants.{Startup, Shutdown, Timer, Packet}
use Rattle.states.specs.declared.step.Outcome.{Outcome}
use Rattle.states.specs.Step.{became_master, stays, waits, hurries, advertises, takes_over, beats, heard_by_backup, heard_by_master}
use Rattle.states.specs.Step.{step_in, step_of}
use Rattle.router.specs.Clock.{falls, fires, ticked_in, ticked_of}
use Rattle.histories.specs.Counts.{becomes}

-- the counts of what comes after a router in a state
abbrev pub Bumped : Router → State → Router → Type 0
Bumped r s after = after.counts ≡ cond (becomes s after.state) (became_master r.counts) r.counts

pub becomes_self : (s : State) → becomes s s ≡ false
becomes_self Initialize = refl
becomes_self Backup = refl
becomes_self Master = refl

-- the same state and the same counts
pub stays_bumped : (s : State) (r after : Router) → after.state ≡ s → after.counts ≡ r.counts → Bumped r s after
stays_bumped s r after e c =
    c
    ∙ sym (ap (λ (t : Bool). cond t (became_master r.counts) r.counts) (ap (becomes s) e ∙ becomes_self s))

either : (r : Router) (s : State) (t : Bool) (a b : Outcome) → Bumped r s a.router → Bumped r s b.router
    → Bumped r s (cond t a b).router
either r s true a b h k = h
either r s false a b h k = k

step_in_lem : (s : State) (e : Event) (primary : ℕ) (r : Router) → r.state ≡ s → Bumped r s (step_in s e primary r).router
step_in_lem Initialize Startup primary r h = either r Initialize (eqb r.priority 255) (takes_over r) (waits r) refl refl
step_in_lem Initialize Shutdown primary r h = stays_bumped Initialize r r h refl
step_in_lem Initialize Timer primary r h = stays_bumped Initialize r r h refl
step_in_lem Initialize (Packet p q) primary r h = stays_bumped Initialize r r h refl
step_in_lem Backup Startup primary r h = stays_bumped Backup r r h refl
step_in_lem Backup Shutdown primary r h = refl
step_in_lem Backup Timer primary r h = refl
step_in_lem Backup (Packet p q) primary r h =
    either r Backup (eqb p 0) (hurries r) (heard_by_backup r p) refl
    (either r Backup (not r.preempt || leb r.priority p) (waits r) (stays r) refl (stays_bumped Backup r r h refl))
step_in_lem Master Startup primary r h = stays_bumped Master r r h refl
step_in_lem Master Shutdown primary r h = refl
step_in_lem Master Timer primary r h = refl
step_in_lem Master (Packet p q) primary r h =
    either r Master (eqb p 0) (advertises r) (heard_by_master primary r p q) refl
    (either r Master (beats primary r p q) (waits r) (stays r) refl (stays_bumped Master r r h refl))

pub step_bumped : (primary : ℕ) (r : Router) (e : Event) → Bumped r r.state (step_of primary r e).router
unfolding step_of
step_bumped primary r e = step_in_lem r.state e primary r refl

run_bumped : (t : Bool) (primary : ℕ) (r : Router) (d : ℕ)
    → Bumped r r.state (cond t (falls r d) (fires primary r d)).outcome.router
run_bumped true primary r d = stays_bumped r.state r (falls r d).outcome.router refl refl
run_bumped false primary r d = step_bumped primary r Timer

ticked_in_lem : (s : State) (primary : ℕ) (r : Router) (d : ℕ) → r.state ≡ s
    → Bumped r r.state (ticked_in s primary r d).outcome.router
ticked_in_lem Initialize primary r d h = stays_bumped r.state r r refl refl
ticked_in_lem Backup primary r d h = run_bumped (ltb d r.timer) primary r d
ticked_in_lem Master primary r d h = run_bumped (ltb d r.timer) primary r d

pub ticked_bumped : (primary : ℕ) (r : Router) (d : ℕ) → Bumped r r.state (ticked_of primary r d).outcome.router
unfolding ticked_of
ticked_bumped primary r d = ticked_in_lem r.state primary r d refl
