-- What no event changes of a router: how it was configured, and its counts of refused packets.
-- Assumes nothing.
use Rattle.std.proofs.Common.{◌≡◌, ℕ, refl, subst}
use Rattle.states.specs.declared.record.Router.{Router}
use Rattle.states.specs.declared.record.Turn.{Turn}
use Rattle.states.specs.declared.step.Event.{Event}
use Rattle.states.specs.declared.step.Outcome.{Outcome}
use Rattle.states.specs.Step.{step_of}
use Rattle.states.specs.Turn.{turn_of, applied_to}
use Rattle.states.proofs.Turning.{applied_turn}

-- how it was configured
pub record Kept (r s : Router) : Type 0 where
  pub vrid : s.vrid ≡ r.vrid
  pub priority : s.priority ≡ r.priority
  pub interval : s.interval ≡ r.interval
  pub preempt : s.preempt ≡ r.preempt
  pub count : s.count ≡ r.count

-- that, and how many packets it refused: all but state, timer, and the counts accepted and became
pub record Unchanged (r s : Router) : Type 0 where
  pub kept : Kept r s
  pub owner : s.counts.owner ≡ r.counts.owner
  pub authentication : s.counts.authentication ≡ r.counts.authentication
  pub list_count : s.counts.list ≡ r.counts.list
  pub interval_count : s.counts.interval ≡ r.counts.interval

pub applied_unchanged : (r : Router) (t : Turn) → Unchanged r (applied_to r t).router
applied_unchanged r t =
    record {
      kept = record { vrid = refl; priority = refl; interval = refl; preempt = refl; count = refl };
      owner = refl;
      authentication = refl;
      list_count = refl;
      interval_count = refl;
    }

pub step_unchanged : (primary : ℕ) (r : Router) (e : Event) → Unchanged r (step_of primary r e).router
step_unchanged primary r e =
    subst (λ (o : Outcome). Unchanged r o.router) (applied_turn primary r e)
    (applied_unchanged r (turn_of (step_of primary r e)))

pub step_keeps : (primary : ℕ) (r : Router) (e : Event) → Kept r (step_of primary r e).router
step_keeps primary r e = (step_unchanged primary r e).kept
