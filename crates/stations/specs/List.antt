-- The stations of a segment in a lent list (01, 'The rehearsal program': "Stations count from 0").
use Rattle.std.specs.Prelude.{ℕ, ◌≡◌, List, [], ◌∷◌, ◌++◌, map, cond, not, eqb, ltb, length, take, drop, get_or, set, replicate}
use Rattle.states.specs.declared.step.Event.TheVariants.{Startup, Shutdown}
use Rattle.wire.specs.Check.{Check, first_refusal}
use Rattle.configuring.specs.Configuring.{freed}
use Rattle.events.specs.Result.{Answer, Answered, answer_of, refusal}
use Rattle.station.specs.declared.station.Station.{Station}
use Rattle.station.specs.Station.{Result, station_of}
use Rattle.steps.specs.Steps.{happened_to, clocked_by, delivered_to}
use Rattle.passing.specs.Passing.{passed}

pub record ListResult : Type 0 where
  pub answer : Answer
  pub stations : List Station
  pub room : List ℕ

-- the promise of a call on the list: its answer, the whole list and the whole room
pub record LeavesList (result : ListResult) (answer : Answered) (stations : List Station) (room : List ℕ) : Type 0 where
  pub answer_is : answer_of answer ≡ result.answer
  pub stations_are : stations ≡ result.stations
  pub room_is : room ≡ result.room

-- what is read past the end of the list
abbrev pub nowhere : Station
nowhere = station_of 0 freed (replicate 64 0)

-- a step's station stands at its number; every other station is as it was
abbrev pub placed : List Station → ℕ → Result → ListResult
placed stations at result =
    record { answer = result.answer; stations = set stations at result.station; room = result.room }

-- a refusal changes nothing
abbrev pub refuses_list : ℕ → List Station → List ℕ → ListResult
refuses_list number stations room = record { answer = refusal number; stations = stations; room = room }

-- a step on the station of a number: "26 unused station number"
unfoldable pub stepped_at : (Station → List ℕ → Result) → List Station → ℕ → List ℕ → ListResult
stepped_at step stations at room =
    cond (ltb at (length stations)) (placed stations at (step (get_or stations at nowhere) room))
    (refuses_list 26 stations room)

-- "3 startup (station)"
abbrev pub started_at : List Station → ℕ → List ℕ → ListResult
started_at = stepped_at (λ s room. happened_to s Startup room)

-- "4 shutdown (station)"
abbrev pub shut_at : List Station → ℕ → List ℕ → ListResult
shut_at = stepped_at (λ s room. happened_to s Shutdown room)

-- "5 clock" of one station
abbrev pub clocked_at : List Station → ℕ → ℕ → List ℕ → ListResult
clocked_at stations at ticks room = stepped_at (λ s room. clocked_by s ticks room) stations at room

-- "5 clock ..: all stations in number order, each firing as often as due": those that are used, which come first
unfoldable pub all_passed : ℕ → ℕ → List Station → List Station
all_passed ticks used stations = map (λ (s : Station). passed s ticks) (take used stations) ++ drop used stations

-- "for deliver 26, 28": "26 unused station number", "28 from equals to"
abbrev pub delivery_checks : ℕ → ℕ → ℕ → List Check
delivery_checks from to count =
    (26, not (ltb from count)) ∷ ((26, not (ltb to count)) ∷ ((28, eqb from to) ∷ []))

unfoldable pub delivery_refusal : ℕ → ℕ → ℕ → ℕ
delivery_refusal from to count = first_refusal (delivery_checks from to count)

-- "the latest advertisement frame of from .. is handed to to"
unfoldable pub delivered_at : List Station → ℕ → ℕ → List ℕ → ListResult
delivered_at stations from to room =
    cond (eqb (delivery_refusal from to (length stations)) 0)
    (placed stations to (delivered_to (get_or stations from nowhere) (get_or stations to nowhere) room))
    (refuses_list (delivery_refusal from to (length stations)) stations room)
