-- A packet that is handed over to a station (01, 'Refusal numbers', 'Counts').
use Rattle.std.specs.Prelude.{ℕ, ◌-◌, cond, ◌&&◌, List, ◌==◌, slice_index, slice_set, Ok, Err}
use Rattle.judging.specs.declared.Fields.{Fields}
use Rattle.judging.specs.Judging.{Judged, judged_of}
use Rattle.states.specs.declared.step.Event.TheVariants.{Packet}
use Rattle.states.specs.declared.step.Outcome.{Outcome}
use Rattle.states.specs.Step.{counted, step_of}
use Rattle.router.specs.Accept.{router_refusal, refused_of, accepted_of}
use Rattle.events.specs.Lists.{their_list, lists_match}
use Rattle.station.specs.declared.station.Station.{Station}
use Rattle.station.specs.Station.{Result, refuses, has_router, list_of, with_router, with_refusals}
use Rattle.station.specs.Acting.{acted_by}

-- "Refusals 1 to 9 add one to that interface count"
unfoldable pub counted_by : Station → ℕ → Station
counted_by s number = with_refusals s (slice_set s.refusals (number - 1) (counted (slice_index s.refusals (number - 1))))

-- the first of refusals 10 to 13 that a station's router gives a packet, 0 where there is none
unfoldable pub refusal_by : Station → List ℕ → Fields → ℕ
refusal_by s packet fields = router_refusal s.router fields (lists_match (list_of s) (their_list packet fields))

-- what an accepted packet comes to: it counts, "any state", and the router hears it
abbrev pub accepted_outcome : Station → Fields → Outcome
accepted_outcome s fields = step_of s.primary (accepted_of s.router) (Packet fields.priority fields.source)

-- "10 to 13 [add one] to that router's count"; else the packet is accepted, unless the room is too small
abbrev pub accepted_by : Station → List ℕ → Fields → List ℕ → Result
accepted_by s packet fields room =
    cond (refusal_by s packet fields == 0) (acted_by s (accepted_outcome s fields) 0 room)
    (refuses (refusal_by s packet fields) (with_router s (refused_of s.router (refusal_by s packet fields))) room)

-- "9 VRID not in the table": one of another number, and any where there is no router
abbrev pub sought_by : Station → List ℕ → Fields → List ℕ → Result
sought_by s packet fields room =
    cond (has_router s && fields.vrid == s.router.vrid) (accepted_by s packet fields room)
    (refuses 9 (counted_by s 9) room)

-- "Packets, checked in this order": 1 to 8 first
abbrev pub judged_by : Judged → Station → List ℕ → List ℕ → Result
judged_by (Err number) s packet room = refuses number (counted_by s number) room
judged_by (Ok fields) s packet room = sought_by s packet fields room

-- a packet, of any bytes
unfoldable pub heard_by : Station → List ℕ → List ℕ → Result
heard_by s packet room = judged_by (judged_of packet) s packet room
