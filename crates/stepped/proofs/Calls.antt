-- The calls of the table that the steps of a station are.
-- Assumes nothing.
use mathlib.Core.Path.{◌≡◌, refl, ap, ◌∙◌}
use mathlib.Core.Bool.{Bool, true, false, cond}
use mathlib.Core.List.{List, [], ◌∷◌, ◌++◌}
use Prim.Native.Nat.{ℕ, zero, suc}
use lib.Dec.{eqb}
use Rattle.states.specs.declared.step.Event.{Event}
use Rattle.states.specs.declared.step.Event.TheVariants.{Startup, Shutdown}
use Rattle.events.specs.Result.{Result as TableResult}
use Rattle.events.specs.Events.{happened_of}
use Rattle.histories.specs.Histories.{Call, startup, shutdown, clock, packet, Memory, called, after, GivenAll}
use Rattle.station.specs.declared.station.Station.{Station}
use Rattle.station.specs.Station.{Result}
use Rattle.hearing.specs.Hearing.{heard_by}
use Rattle.steps.specs.Steps.{happened_to, clocked_by}
use Rattle.passing.specs.Passing.{fresh_room, passed_in, passed}
use Rattle.in_tables.specs.Tables.{words_of, lists_of, in_table, WellFormed}
use Rattle.in_tables.proofs.Theorems.{event_in_table, clock_in_table, packet_in_table}
use Rattle.in_tables.proofs.Staying.{clock_stays}
use Rattle.stepped.specs.Stepped.{Step, starts, shuts, ticks, passes, hears, stepped, stepped_all, table_of}
use Rattle.stepped.proofs.Onward.{Onward, event_onward, clock_onward, packet_onward}
use Rattle.stepped.proofs.Lives.{step_stays, step_onward}

-- time that passes is a clock call as often as it takes until nothing is left over
unfoldable pub clocks_of : ℕ → ℕ → Station → ℕ → List Call
clocks_of vrid zero s d = []
clocks_of vrid (suc times) s d =
    clock vrid d fresh_room
    ∷ cond (eqb (clocked_by s d fresh_room).answer.leftover 0) []
    (clocks_of vrid times (clocked_by s d fresh_room).station (clocked_by s d fresh_room).answer.leftover)

-- the calls of the table that a step of a station is
abbrev pub calls_of : ℕ → Station → Step → List Call
calls_of vrid s (starts room) = startup vrid room ∷ []
calls_of vrid s (shuts room) = shutdown vrid room ∷ []
calls_of vrid s (ticks d room) = clock vrid d room ∷ []
calls_of vrid s (passes d) = clocks_of vrid (suc (suc d)) s d
calls_of vrid s (hears bytes room) = packet bytes room ∷ []

-- and those of many steps
abbrev pub history_of : ℕ → Station → List Step → List Call
history_of vrid s [] = []
history_of vrid s (step ∷ rest) = calls_of vrid s step ++ history_of vrid (stepped s step) rest

-- none of them configures, so nothing is asked of what they are given
given_either : (t : Bool) (calls : List Call) → GivenAll calls → GivenAll (cond t [] calls)
given_either true calls g = tt
given_either false calls g = g

given_joined : (a b : List Call) → GivenAll a → GivenAll b → GivenAll (a ++ b)
given_joined [] b g h = h
given_joined (call ∷ a) b g h = (g.0, given_joined a b g.1 h)

given_clocks : (vrid times : ℕ) (s : Station) (d : ℕ) → GivenAll (clocks_of vrid times s d)
unfolding clocks_of
given_clocks vrid zero s d = tt
given_clocks vrid (suc times) s d =
    (tt, given_either (eqb (clocked_by s d fresh_room).answer.leftover 0) _ (given_clocks vrid times _ _))

given_calls : (vrid : ℕ) (s : Station) (step : Step) → GivenAll (calls_of vrid s step)
given_calls vrid s (starts room) = (tt, tt)
given_calls vrid s (shuts room) = (tt, tt)
given_calls vrid s (ticks d room) = (tt, tt)
given_calls vrid s (passes d) = given_clocks vrid (suc (suc d)) s d
given_calls vrid s (hears bytes room) = (tt, tt)

pub given_history : (vrid : ℕ) (s : Station) (steps : List Step) → GivenAll (history_of vrid s steps)
given_history vrid s [] = tt
given_history vrid s (step ∷ rest) =
    given_joined (calls_of vrid s step) (history_of vrid (stepped s step) rest) (given_calls vrid s step)
    (given_history vrid (stepped s step) rest)

-- calls after calls
after_joined : (m : Memory) (a b : List Call) → after m (a ++ b) ≡ after (after m a) b
after_joined m [] b = refl
after_joined m (call ∷ a) b = after_joined (called m call) a b

-- what a call of the table leaves is the table of the station that the step leaves
called_leaves : (s : Station) (r : TableResult) (result : Result) → r ≡ in_table result → Onward s result.station
    → record { words = r.words; lists = lists_of s } ≡ table_of result.station
unfolding lists_of
called_leaves s r result e o = rw (e, o.addresses_are)

either_called : (t : Bool) (s next : Station) (calls : List Call) → after (table_of s) calls ≡ table_of next
    → after (table_of s) (cond t [] calls) ≡ table_of (cond t s next)
either_called true s next calls e = refl
either_called false s next calls e = e

module _ (vrid : ℕ) where
  event_called : (s : Station) (e : Event) (room : List ℕ) → WellFormed s → s.router.vrid ≡ vrid
      → record { words = (happened_of (words_of s) (lists_of s) vrid e room).words; lists = lists_of s }
      ≡ table_of (happened_to s e room).station
  event_called s e room w v =
      rw (← v) (called_leaves s _ (happened_to s e room) (event_in_table s e room w) (event_onward s e room))

  clock_called : (s : Station) (d : ℕ) (room : List ℕ) → WellFormed s → s.router.vrid ≡ vrid
      → called (table_of s) (clock vrid d room) ≡ table_of (clocked_by s d room).station
  clock_called s d room w v =
      rw (← v) (called_leaves s _ (clocked_by s d room) (clock_in_table s d room w) (clock_onward s d room))

  clocks_called : (times : ℕ) (s : Station) (d : ℕ) → WellFormed s → s.router.vrid ≡ vrid
      → after (table_of s) (clocks_of vrid times s d) ≡ table_of (passed_in times s d)
  unfolding clocks_of passed_in
  clocks_called zero s d w v = refl
  clocks_called (suc times) s d w v =
      let next = (clocked_by s d fresh_room).station in
      let left = (clocked_by s d fresh_room).answer.leftover in
      let more = clocks_called times next left (clock_stays s d fresh_room w)
      ((clock_onward s d fresh_room).router.vrid ∙ v) in
      ap (λ (m : Memory). after m (cond (eqb left 0) [] (clocks_of vrid times next left))) (clock_called s d fresh_room w v)
      ∙ either_called (eqb left 0) next (passed_in times next left) (clocks_of vrid times next left) more

  step_called : (s : Station) (step : Step) → WellFormed s → s.router.vrid ≡ vrid
      → after (table_of s) (calls_of vrid s step) ≡ table_of (stepped s step)
  unfolding passed
  step_called s (starts room) w v = event_called s Startup room w v
  step_called s (shuts room) w v = event_called s Shutdown room w v
  step_called s (ticks d room) w v = clock_called s d room w v
  step_called s (passes d) w v = clocks_called (suc (suc d)) s d w v
  step_called s (hears bytes room) w v =
      called_leaves s _ (heard_by s bytes room) (packet_in_table s bytes room w) (packet_onward s bytes room)

  pub history_called : (s : Station) (steps : List Step) → WellFormed s → s.router.vrid ≡ vrid
      → after (table_of s) (history_of vrid s steps) ≡ table_of (stepped_all s steps)
  history_called s [] w v = refl
  history_called s (step ∷ rest) w v =
      let next = stepped s step in
      let more = history_of vrid next rest in
      after_joined (table_of s) (calls_of vrid s step) more
      ∙ ap (λ (m : Memory). after m more) (step_called s step w v)
      ∙ history_called next rest (step_stays s step w) ((step_onward s step).router.vrid ∙ v)
