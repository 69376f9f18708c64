-- Startup, shutdown, clock and questions on the router of a VRID (01, 'Time', 'State by event').
use Rattle.std.specs.Prelude.{Result as Ending, Ok, Err, ℕ, ◌≡◌, List, false, cond, ◌||◌, eqb, ltb, Some, None}
use Rattle.wire.specs.declared.refusal.Refusal.{Refusal}
use Rattle.wire.specs.Refusal.{refusal_number, room_needed}
use Rattle.states.specs.declared.record.State.{State}
use Rattle.states.specs.declared.record.State.TheVariants.{Initialize}
use Rattle.states.specs.declared.record.Counts.{Counts}
use Rattle.states.specs.declared.record.Router.{Router}
use Rattle.states.specs.declared.step.Event.{Event}
use Rattle.states.specs.Step.{step_of}
use Rattle.router.specs.Clock.{ticked_of}
use Rattle.places.specs.Place.{Found, primary_of, record_at, refusal_count}
use Rattle.events.specs.Result.{Result, refuses, router_place, acted_of}

-- an event at the place that was found: "20 VRID not in the table", then the event
abbrev pub happened_at : Found → List ℕ → List ℕ → Event → List ℕ → Result
happened_at None words lists event room = refuses 20 words room
happened_at (Some place) words lists event room =
    acted_of words lists place (step_of (primary_of words) (record_at words place) event) 0 room

-- startup or shutdown of a virtual router
unfoldable pub happened_of : List ℕ → List ℕ → ℕ → Event → List ℕ → Result
happened_of words lists vrid event room = happened_at (router_place words vrid) words lists event room

-- a clock step at the place that was found
abbrev pub clocked_at : Found → List ℕ → List ℕ → ℕ → List ℕ → Result
clocked_at None words lists ticks room = refuses 20 words room
clocked_at (Some place) words lists ticks room =
    acted_of words lists place (ticked_of (primary_of words) (record_at words place) ticks).outcome
    (ticked_of (primary_of words) (record_at words place) ticks).leftover
    room

-- a clock step of a virtual router
unfoldable pub clocked_of : List ℕ → List ℕ → ℕ → ℕ → List ℕ → Result
clocked_of words lists vrid ticks room = clocked_at (router_place words vrid) words lists ticks room

-- "A question about a VRID answers its state, its remaining timer (0 in Initialize) and its counts": 01's number, and the
-- router that has them
pub record Status : Type 0 where
  pub number : ℕ
  pub state : State
  pub timer : ℕ
  pub counts : Counts
  pub router : Router

-- these of a router
abbrev pub status_as : ℕ → Router → Status
status_as number r = record { number = number; state = r.state; timer = r.timer; counts = r.counts; router = r }

-- where there is no router
abbrev pub no_router : Router
no_router =
    record {
      vrid = 0;
      priority = 0;
      interval = 0;
      preempt = false;
      state = Initialize;
      timer = 0;
      count = 0;
      counts = record { accepted = 0; became = 0; owner = 0; authentication = 0; list = 0; interval = 0 };
    }

-- what a question is told in the code: a router, or why not
abbrev pub Told : Type 0
Told = Ending Router Refusal

-- the status that each case of it is
abbrev pub status_of : Told → Status
status_of (Ok r) = status_as 0 r
status_of (Err reason) = status_as (refusal_number reason) no_router

-- a status is one value of it: a question is refused for no want of room
abbrev pub ProperTold : Told → Type 0
ProperTold (Ok r) = Unit
ProperTold (Err reason) = room_needed reason ≡ 0

-- at the place that was found; 20 where it is not in the table
abbrev pub asked_at : Found → List ℕ → Status
asked_at None words = status_as 20 no_router
asked_at (Some place) words = status_as 0 (record_at words place)

-- a question about a virtual router
unfoldable pub asked_of : List ℕ → ℕ → Status
asked_of words vrid = asked_at (router_place words vrid) words

-- the promise of a question
pub record Tells (status : Status) (told : Told) : Type 0 where
  pub status_is : status_of told ≡ status
  pub proper : ProperTold told

-- "Per interface: 1 to 9": how often a refusal was given, 0 for a number that is not counted there
unfoldable pub interface_count : List ℕ → ℕ → ℕ
interface_count words number = cond (eqb number 0 || ltb 9 number) 0 (refusal_count words number)
