-- A clock step at a place: nothing in Initialize, a timer that falls, a timer that fires.
-- Assumes nothing.
use mathlib.Core.Path.{◌≡◌, refl, sym, ap, ◌∙◌}
use mathlib.Core.List.{List}
use mathlib.Core.Bool.{true, false, cond}
use Prim.Native.Nat.{ℕ, ◌-◌, ◌≤◌, ◌<◌}
use native.Mathlib.Omega.{arith}
use lib.Dec.{eqb, ltb}
use borrow.Author.Tests.{lt-ltb, le-ltb}
use Rattle.states.specs.declared.record.State.{State}
use Rattle.states.specs.declared.record.State.TheVariants.{Initialize, Backup, Master}
use Rattle.states.specs.declared.record.Router.{Router}
use Rattle.states.specs.declared.step.Event.TheVariants.{Timer}
use Rattle.router.specs.declared.clock.Ticked.{Ticked}
use Rattle.states.specs.Step.{state_number, with_state, stays, step_of}
use Rattle.router.specs.Clock.{falls, fires, ticked_in, ticked_of}
use Rattle.std.specs.Prelude.{Some}
use Rattle.places.specs.Place.{primary_of, record_at, set_event}
use Rattle.places.proofs.Events.{event_same}
use Rattle.std.specs.Prelude.{Ok}
use Rattle.events.specs.Result.{Leaves, acted_of}
use Rattle.events.specs.Events.{clocked_at}
use Rattle.events.proofs.Acted.{acted_silent}
use Rattle.events.proofs.Sought.{leaves_equal}

idle_in : (s : State) (primary : ℕ) (r : Router) (d : ℕ) → eqb (state_number s) 0 ≡ true
    → ticked_in s primary r d ≡ record { outcome = stays r; leftover = 0 }
idle_in Initialize primary r d e = refl
idle_in Backup primary r d e = absurd cc
idle_in Master primary r d e = absurd cc

runs_in : (s : State) (primary : ℕ) (r : Router) (d : ℕ) → eqb (state_number s) 0 ≡ false
    → ticked_in s primary r d ≡ cond (ltb d r.timer) (falls r d) (fires primary r d)
runs_in Initialize primary r d e = absurd cc
runs_in Backup primary r d e = refl
runs_in Master primary r d e = refl

module _ (words lists : List ℕ) (p d : ℕ) (room : List ℕ) where
  abbrev r : Router
  r = record_at words p

  -- what a clock step comes to at the place
  ticked : (t : Ticked) → ticked_of (primary_of words) r d ≡ t
      → acted_of words lists p t.outcome t.leftover room ≡ clocked_at (Some p) words lists d room
  ticked t e = sym (ap (λ (x : Ticked). acted_of words lists p x.outcome x.leftover room) e)

  pub clocked_initialize : eqb (state_number r.state) 0 ≡ true → Leaves (clocked_at (Some p) words lists d room) (Ok (record { written = 0; leftover = 0 })) words room
  unfolding ticked_of
  clocked_initialize e =
      leaves_equal _ _ _ _ _ (ticked _ (idle_in r.state (primary_of words) r d e))
      (acted_silent words lists p (stays r) 0 room words refl (sym (event_same words p)))

  pub clocked_falls : (after : List ℕ) → eqb (state_number r.state) 0 ≡ false → d < r.timer
      → after ≡ set_event words p (with_state r r.state (r.timer - d))
      → Leaves (clocked_at (Some p) words lists d room) (Ok (record { written = 0; leftover = 0 })) after room
  unfolding ticked_of
  clocked_falls after e l w =
      let runs : ticked_of (primary_of words) r d ≡ falls r d
      = runs_in r.state (primary_of words) r d e ∙ rw (lt-ltb d r.timer l) in
      leaves_equal _ _ _ _ _ (ticked (falls r d) runs) (acted_silent words lists p (falls r d).outcome 0 room after refl w)

  pub clocked_fires : eqb (state_number r.state) 0 ≡ false → r.timer ≤ d
      → acted_of words lists p (step_of (primary_of words) r Timer) (d - r.timer) room ≡ clocked_at (Some p) words lists d room
  unfolding ticked_of
  clocked_fires e l =
      ticked (fires (primary_of words) r d) (runs_in r.state (primary_of words) r d e ∙ rw (le-ltb d r.timer l))
