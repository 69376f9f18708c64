-- The steps of a station (01, 'Time', 'State by event', 'The rehearsal program').
use Rattle.std.specs.Prelude.{ℕ, List, cond, eqb}
use Rattle.states.specs.declared.step.Event.{Event}
use Rattle.states.specs.declared.step.Outcome.{Outcome}
use Rattle.states.specs.Step.{step_of}
use Rattle.router.specs.Clock.{ticked_of}
use Rattle.station.specs.declared.station.Station.{Station}
use Rattle.station.specs.Station.{Result, refuses, has_router, packet_of}
use Rattle.station.specs.Acting.{acted_by}
use Rattle.hearing.specs.Hearing.{heard_by}

-- what an event comes to: "20 VRID not in the table" where no router is there, else the outcome
abbrev pub stepped_by : Station → Outcome → ℕ → List ℕ → Result
stepped_by s outcome leftover room = cond (has_router s) (acted_by s outcome leftover room) (refuses 20 s room)

-- startup or shutdown of a station's router
unfoldable pub happened_to : Station → Event → List ℕ → Result
happened_to s event room = stepped_by s (step_of s.primary s.router event) 0 room

-- a clock step of a station's router
unfoldable pub clocked_by : Station → ℕ → List ℕ → Result
clocked_by s ticks room =
    stepped_by s (ticked_of s.primary s.router ticks).outcome
    (ticked_of s.primary s.router ticks).leftover room

-- "the latest advertisement frame of from, less its 14 Ethernet bytes, is handed to to"; "28 .. from has sent nothing"
unfoldable pub delivered_to : Station → Station → List ℕ → Result
delivered_to from to room = cond (eqb from.sent 0) (refuses 28 to room) (heard_by to (packet_of from) room)
