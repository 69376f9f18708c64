-- What an event of a router writes where it leaves it a Master.
-- Assumes nothing.
use mathlib.Core.Path.{◌≡◌, refl, sym, ◌∙◌}
use mathlib.Core.Bool.{Bool, true, false, cond, not, ◌||◌}
use Prim.Native.Nat.{ℕ}
use native.Mathlib.Omega.{arith}
use lib.Dec.{eqb, leb, ltb}
use Rattle.states.specs.declared.record.State.{State}
use Rattle.states.specs.declared.record.State.TheVariants.{Initialize, Backup, Master}
use Rattle.states.specs.declared.record.Router.{Router}
use Rattle.states.specs.declared.step.Event.{Event}
use Rattle.states.specs.declared.step.Event.TheVariants.{Startup, Shutdown, Timer, Packet}
use Rattle.states.specs.declared.step.Writes.{Writes}
use Rattle.states.specs.declared.step.Writes.TheVariants.{Nothing, Advertisement, Farewell, Takeover}
use Rattle.states.specs.declared.step.Outcome.{Outcome}
use Rattle.states.specs.Step.{stays, waits, hurries, advertises, takes_over, beats, heard_by_backup, heard_by_master}
use Rattle.states.specs.Step.{step_in, step_of}
use Rattle.router.specs.Clock.{falls, fires, ticked_in, ticked_of}

-- a Master has just advertised, or writes nothing and was Master before; a farewell leaves no Master
abbrev pub Leads : Writes → State → State → Type 0
Leads Nothing before after = after ≡ Master → before ≡ Master
Leads Advertisement before after = Unit
Leads Farewell before after = after ≡ Master → ⊥
Leads Takeover before after = Unit

abbrev LeadsFrom : State → Outcome → Type 0
LeadsFrom before o = Leads o.writes before o.router.state

either : (s : State) (t : Bool) (a b : Outcome) → LeadsFrom s a → LeadsFrom s b → LeadsFrom s (cond t a b)
either s true a b h k = h
either s false a b h k = k

step_leads_in : (s : State) (e : Event) (primary : ℕ) (r : Router) → r.state ≡ s → LeadsFrom s (step_in s e primary r)
step_leads_in Initialize Startup primary r is =
    either Initialize (eqb r.priority 255) (takes_over r) (waits r) tt (λ m. cc)
step_leads_in Initialize Shutdown primary r is = λ m. sym is ∙ m
step_leads_in Initialize Timer primary r is = λ m. sym is ∙ m
step_leads_in Initialize (Packet p q) primary r is = λ m. sym is ∙ m
step_leads_in Backup Startup primary r is = λ m. sym is ∙ m
step_leads_in Backup Shutdown primary r is = λ m. cc
step_leads_in Backup Timer primary r is = tt
step_leads_in Backup (Packet p q) primary r is =
    either Backup (eqb p 0) (hurries r) (heard_by_backup r p) (λ m. m)
    (either Backup (not r.preempt || leb r.priority p) (waits r) (stays r) (λ m. m) (λ m. sym is ∙ m))
step_leads_in Master Startup primary r is = λ m. refl
step_leads_in Master Shutdown primary r is = λ m. let z : ◌≡◌ {A = ℕ} 0 1 = cc in omega arith
step_leads_in Master Timer primary r is = tt
step_leads_in Master (Packet p q) primary r is =
    either Master (eqb p 0) (advertises r) (heard_by_master primary r p q) tt
    (either Master (beats primary r p q) (waits r) (stays r) (λ m. refl) (λ m. refl))

pub step_leads : (primary : ℕ) (r : Router) (e : Event) → LeadsFrom r.state (step_of primary r e)
unfolding step_of
step_leads primary r e = step_leads_in r.state e primary r refl

run_leads : (t : Bool) (primary : ℕ) (r : Router) (d : ℕ)
    → LeadsFrom r.state (cond t (falls r d) (fires primary r d)).outcome
run_leads true primary r d = λ m. m
run_leads false primary r d = step_leads primary r Timer

ticked_leads_in : (s : State) (primary : ℕ) (r : Router) (d : ℕ) → LeadsFrom r.state (ticked_in s primary r d).outcome
ticked_leads_in Initialize primary r d = λ m. m
ticked_leads_in Backup primary r d = run_leads (ltb d r.timer) primary r d
ticked_leads_in Master primary r d = run_leads (ltb d r.timer) primary r d

pub ticked_leads : (primary : ℕ) (r : Router) (d : ℕ) → LeadsFrom r.state (ticked_of primary r d).outcome
unfolding ticked_of
ticked_leads primary r d = ticked_leads_in r.state primary r d
