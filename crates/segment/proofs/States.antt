-- What an advertisement does to the state of a station that hears it.
-- Assumes nothing.
use mathlib.Core.Path.{◌≡◌, refl, sym, ◌∙◌}
use mathlib.Core.Logic.{◌⊎◌, inl, inr}
use mathlib.Core.Bool.{Bool, true, false, cond, not, ◌&&◌, ◌||◌}
use Prim.Native.Nat.{ℕ, ◌≤◌, ◌<◌}
use native.Mathlib.Omega.{arith}
use lib.Dec.{eqb, leb, ltb}
use borrow.Author.Tests.{eqb-true, ltb-true, ne_eqb, eq-eqb, lt-ltb}
use Rattle.states.specs.declared.record.State.{State}
use Rattle.states.specs.declared.record.State.TheVariants.{Initialize, Backup, Master}
use Rattle.states.specs.declared.record.Router.{Router}
use Rattle.states.specs.declared.step.Event.TheVariants.{Packet}
use Rattle.states.specs.Step.{stays, waits, hurries, beats, step_in}
use Rattle.router.specs.Accept.{accepted_of}

pub not_master : Backup ≡ Master → ⊥
not_master e = cc

-- "A packet beats us when its priority is above P, or equal to P with a source address above our primary address"
abbrev pub Beats : ℕ → ℕ → ℕ → ℕ → Type 0
Beats primary priority q source = (priority < q) ⊎ ((priority ≡ q) × (primary < source))

beats_test : (a b c : Bool) (primary priority q source : ℕ) → ltb priority q ≡ a → eqb q priority ≡ b → ltb primary source ≡ c
    → (a || (b && c)) ≡ true → Beats primary priority q source
beats_test true b c primary priority q source x y z e = inl (ltb-true priority q x)
beats_test false true true primary priority q source x y z e = inr (sym (eqb-true q priority y), ltb-true primary source z)
beats_test false true false primary priority q source x y z e = absurd cc
beats_test false false c primary priority q source x y z e = absurd cc

pub beats_is : (primary : ℕ) (r : Router) (q source : ℕ) → beats primary r q source ≡ true → Beats primary r.priority q source
beats_is primary r q source e =
    beats_test (ltb r.priority q) (eqb q r.priority) (ltb primary source) primary r.priority q source refl refl refl e

or_true : (t : Bool) → (t || true) ≡ true
or_true true = refl
or_true false = refl

pub is_beats : (primary : ℕ) (r : Router) (q source : ℕ) → Beats primary r.priority q source → beats primary r q source ≡ true
is_beats primary r q source (inl x) = rw (lt-ltb r.priority q x)
is_beats primary r q source (inr x) =
    rw (eq-eqb q r.priority (sym x.0), lt-ltb primary source x.1, or_true (ltb r.priority q))

module _ (primary : ℕ) (r : Router) (q source : ℕ) where
  abbrev next : Bool → State → State
  next t s = cond t r.state (step_in s (Packet q source) primary (accepted_of r)).router.state

  -- a Backup that hears a packet stays Backup
  backup_test : (z t : Bool) → (cond z (hurries (accepted_of r)) (cond t (waits (accepted_of r)) (stays (accepted_of r)))).router.state ≡ Master
      → r.state ≡ Master
  backup_test true t e = absurd (not_master e)
  backup_test false true e = absurd (not_master e)
  backup_test false false e = e

  -- no packet makes a Master
  pub never_made : (t : Bool) (s : State) → r.state ≡ s → next t s ≡ Master → r.state ≡ Master
  never_made true s e h = h
  never_made false Initialize e h = h
  never_made false Backup e h = backup_test (eqb q 0) (not r.preempt || leb r.priority q) h
  never_made false Master e h = e

  -- a Master that is beaten steps down
  pub steps_down : (s : State) → r.state ≡ s → s ≡ Master → 1 ≤ q → Beats primary r.priority q source → next false s ≡ Master → ⊥
  steps_down Initialize e m some b h = absurd cc
  steps_down Backup e m some b h = not_master m
  steps_down Master e m some b h =
      not_master (rw (ne_eqb q 0 (λ z. omega arith), is_beats primary (accepted_of r) q source b) at h)

  -- and one that is not stays Master
  fast_test : (t : Bool) → beats primary (accepted_of r) q source ≡ t → (Beats primary r.priority q source → ⊥) → r.state ≡ Master
      → (cond t (waits (accepted_of r)) (stays (accepted_of r))).router.state ≡ Master
  fast_test true e n m = absurd (n (beats_is primary (accepted_of r) q source e))
  fast_test false e n m = m

  pub stands_fast : (t : Bool) (s : State) → r.state ≡ s → s ≡ Master → 1 ≤ q → (Beats primary r.priority q source → ⊥)
      → next t s ≡ Master
  stands_fast true s e m some n = e ∙ m
  stands_fast false Initialize e m some n = absurd cc
  stands_fast false Backup e m some n = absurd (not_master m)
  stands_fast false Master e m some n =
      rw (ne_eqb q 0 (λ z. omega arith)) (fast_test (beats primary (accepted_of r) q source) refl n e)
