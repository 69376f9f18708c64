-- A packet that the host hands over (01, 'Refusal numbers', 'Counts').
use Rattle.std.specs.Prelude.{ℕ, List, cond, eqb, Some, None, Ok, Err}
use Rattle.judging.specs.declared.Fields.{Fields}
use Rattle.judging.specs.Judging.{Judged, judged_of}
use Rattle.states.specs.declared.step.Event.TheVariants.{Packet}
use Rattle.states.specs.declared.step.Outcome.{Outcome}
use Rattle.states.specs.Step.{step_of}
use Rattle.router.specs.Accept.{router_refusal, accepted_of}
use Rattle.places.specs.Place.{Found, primary_of, record_at, count_refusal, count_at_place}
use Rattle.events.specs.Lists.{list_at, their_list, lists_match}
use Rattle.events.specs.Result.{Result, refuses, router_place, acted_of}

-- the first of refusals 10 to 13 that the router at a place gives a packet, 0 where there is none
abbrev pub refusal_at : List ℕ → List ℕ → ℕ → List ℕ → Fields → ℕ
refusal_at words lists place packet fields =
    router_refusal (record_at words place) fields
    (lists_match (list_at lists place (record_at words place).count) (their_list packet fields))

-- what an accepted packet comes to for the router at a place: it counts, "any state", and the router hears it
abbrev pub accepted_at : List ℕ → ℕ → Fields → Outcome
accepted_at words place fields =
    step_of (primary_of words) (accepted_of (record_at words place)) (Packet fields.priority fields.source)

-- "10 to 13 [add one] to that router's count"; else the packet is accepted, unless the room is too small
abbrev pub heard_at : List ℕ → List ℕ → ℕ → List ℕ → Fields → List ℕ → Result
heard_at words lists place packet fields room =
    cond (eqb (refusal_at words lists place packet fields) 0)
    (acted_of words lists place (accepted_at words place fields) 0 room)
    (refuses (refusal_at words lists place packet fields)
    (count_at_place words place (refusal_at words lists place packet fields)) room)

-- "9 VRID not in the table"
abbrev pub sought_at : Found → List ℕ → List ℕ → List ℕ → Fields → List ℕ → Result
sought_at None words lists packet fields room = refuses 9 (count_refusal words 9) room
sought_at (Some place) words lists packet fields room = heard_at words lists place packet fields room

-- "Refusals 1 to 9 add one to that interface count"
abbrev pub judged_at : Judged → List ℕ → List ℕ → List ℕ → List ℕ → Result
judged_at (Err number) words lists packet room = refuses number (count_refusal words number) room
judged_at (Ok fields) words lists packet room =
    sought_at (router_place words fields.vrid) words lists packet fields room

-- a packet, of any bytes
unfoldable pub heard_of : List ℕ → List ℕ → List ℕ → List ℕ → Result
heard_of words lists packet room = judged_at (judged_of packet) words lists packet room
