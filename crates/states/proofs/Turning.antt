-- What an event changes of a router, applied to the router, is the event's step.
-- Assumes nothing.
use Rattle.std.proofs.Common.{◌≡◌, ℕ, Bool, true, false, cond, not, ◌||◌, eqb, leb, refl}
use Rattle.states.specs.declared.record.State.{State}
use Rattle.states.specs.declared.record.State.TheVariants.{Initialize, Backup, Master}
use Rattle.states.specs.declared.record.Router.{Router}
use Rattle.states.specs.declared.step.Event.{Event}
use Rattle.states.specs.declared.step.Event.TheVariants.{Startup, Shutdown, Timer, Packet}
use Rattle.states.specs.declared.step.Outcome.{Outcome}
use Rattle.states.specs.Step.{stays, waits, hurries, advertises, takes_over, beats, heard_by_backup, heard_by_master}
use Rattle.states.specs.Step.{step_in, step_of}
use Rattle.states.specs.Turn.{turn_of, applied_to}

module _ (r : Router) where
  -- the outcome is the router with what the outcome itself says to have changed
  abbrev Applied : Outcome → Type 0
  Applied o = applied_to r (turn_of o) ≡ o

  either : (t : Bool) (a b : Outcome) → Applied a → Applied b → Applied (cond t a b)
  either true a b h k = h
  either false a b h k = k

  applied_in : (s : State) (e : Event) (primary : ℕ) → Applied (step_in s e primary r)
  applied_in Initialize Startup primary = either (eqb r.priority 255) (takes_over r) (waits r) refl refl
  applied_in Initialize Shutdown primary = refl
  applied_in Initialize Timer primary = refl
  applied_in Initialize (Packet p q) primary = refl
  applied_in Backup Startup primary = refl
  applied_in Backup Shutdown primary = refl
  applied_in Backup Timer primary = refl
  applied_in Backup (Packet p q) primary =
      either (eqb p 0) (hurries r) (heard_by_backup r p) refl
      (either (not r.preempt || leb r.priority p) (waits r) (stays r) refl refl)
  applied_in Master Startup primary = refl
  applied_in Master Shutdown primary = refl
  applied_in Master Timer primary = refl
  applied_in Master (Packet p q) primary =
      either (eqb p 0) (advertises r) (heard_by_master primary r p q) refl
      (either (beats primary r p q) (waits r) (stays r) refl refl)

pub applied_turn : (primary : ℕ) (r : Router) (e : Event) → applied_to r (turn_of (step_of primary r e)) ≡ step_of primary r e
unfolding step_of
applied_turn primary r e = applied_in r r.state e primary
