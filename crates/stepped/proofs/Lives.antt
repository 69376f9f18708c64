-- What holds of a station and the one that an event, a clock step or a packet leaves, and so of any number of steps.
-- Assumes nothing.
use mathlib.Core.Bool.{Bool, true, false, cond}
use mathlib.Core.List.{List, [], ◌∷◌}
use Prim.Native.Nat.{ℕ, zero, suc}
use lib.Dec.{eqb}
use Rattle.states.specs.declared.step.Event.{Event}
use Rattle.states.specs.declared.step.Event.TheVariants.{Startup, Shutdown}
use Rattle.station.specs.declared.station.Station.{Station}
use Rattle.hearing.specs.Hearing.{heard_by}
use Rattle.steps.specs.Steps.{happened_to, clocked_by}
use Rattle.passing.specs.Passing.{fresh_room, passed_in, passed}
use Rattle.in_tables.specs.Tables.{WellFormed}
use Rattle.in_tables.proofs.Staying.{event_stays, clock_stays, packet_stays}
use Rattle.stepped.specs.Stepped.{Step, starts, shuts, ticks, passes, hears, stepped, stepped_all}
use Rattle.stepped.proofs.Onward.{Onward, rests, joins, event_onward, clock_onward, packet_onward}

module _ (R : Station → Station → Type 0) (none : (s : Station) → R s s)
    (both : (a b c : Station) → R a b → R b c → R a c)
    (event : (s : Station) (e : Event) (room : List ℕ) → R s (happened_to s e room).station)
    (clock : (s : Station) (d : ℕ) (room : List ℕ) → R s (clocked_by s d room).station)
    (packet : (s : Station) (bytes room : List ℕ) → R s (heard_by s bytes room).station) where
  either : (t : Bool) (s a b : Station) → R s a → R s b → R s (cond t a b)
  either true s a b x y = x
  either false s a b x y = y

  passed_by : (times : ℕ) (s : Station) (d : ℕ) → R s (passed_in times s d)
  unfolding passed_in
  passed_by zero s d = none s
  passed_by (suc times) s d =
      let next = (clocked_by s d fresh_room).station in
      let left = (clocked_by s d fresh_room).answer.leftover in
      let first = clock s d fresh_room in
      either (eqb left 0) s next (passed_in times next left) first
      (both s next (passed_in times next left) first (passed_by times next left))

  step_by : (s : Station) (step : Step) → R s (stepped s step)
  unfolding passed
  step_by s (starts room) = event s Startup room
  step_by s (shuts room) = event s Shutdown room
  step_by s (ticks d room) = clock s d room
  step_by s (passes d) = passed_by (suc (suc d)) s d
  step_by s (hears bytes room) = packet s bytes room

  all_by : (s : Station) (steps : List Step) → R s (stepped_all s steps)
  all_by s [] = none s
  all_by s (step ∷ rest) =
      let next = stepped s step in
      both s next (stepped_all next rest) (step_by s step) (all_by next rest)

abbrev Stays : Station → Station → Type 0
Stays s after = WellFormed s → WellFormed after

pub step_stays : (s : Station) (step : Step) → WellFormed s → WellFormed (stepped s step)
step_stays =
    step_by Stays (λ s w. w) (λ a b c x y w. y (x w)) event_stays clock_stays packet_stays

pub all_stay : (s : Station) (steps : List Step) → WellFormed s → WellFormed (stepped_all s steps)
all_stay = all_by Stays (λ s w. w) (λ a b c x y w. y (x w)) event_stays clock_stays packet_stays

pub step_onward : (s : Station) (step : Step) → Onward s (stepped s step)
step_onward = step_by Onward rests joins event_onward clock_onward packet_onward

pub all_onward : (s : Station) (steps : List Step) → Onward s (stepped_all s steps)
all_onward = all_by Onward rests joins event_onward clock_onward packet_onward
