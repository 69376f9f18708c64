-- The refusals of each call of the table as one list of checks, in the order of 01 ('Refusal numbers'), for any memory. What
-- stands behind a check that fails is not asked: so a packet has its fields in every row, and a router its place, 0 where it
-- has none.
use Rattle.std.specs.Prelude.{ℕ, ◌*◌, ◌≡◌, ◌⊎◌, List, [], ◌∷◌, ◌++◌, Bool, cond, not, eqb, ltb, length}
use Rattle.wire.specs.Check.{Check}
use Rattle.judging.specs.declared.Fields.{Fields}
use Rattle.judging.specs.Judging.{packet_checks as judging_checks, fields_of}
use Rattle.states.specs.declared.record.Router.{Router}
use Rattle.states.specs.declared.step.Event.{Event}
use Rattle.states.specs.declared.step.Outcome.{Outcome}
use Rattle.states.specs.Step.{step_of}
use Rattle.router.specs.declared.clock.Ticked.{Ticked}
use Rattle.router.specs.Accept.{router_checks}
use Rattle.router.specs.Clock.{ticked_of}
use Rattle.output.specs.Output.{need_of}
use Rattle.places.specs.Place.{primary_of, record_at}
use Rattle.events.specs.Lists.{list_at, their_list, lists_match}
use Rattle.events.specs.Result.{Answer, done, short, refusal, router_place}
use Rattle.events.specs.Events.{Status, status_as, no_router}
use Rattle.configuring.specs.Configuring.{is_found, place_in}
use Rattle.packets.specs.Packets.{accepted_at}

-- "VRID not in the table"
abbrev pub unknown : List ℕ → ℕ → Bool
unknown words vrid = not (is_found (router_place words vrid))

-- the place of a virtual router, and its record
abbrev pub place_for : List ℕ → ℕ → ℕ
place_for words vrid = place_in (router_place words vrid)

abbrev pub record_for : List ℕ → ℕ → Router
record_for words vrid = record_at words (place_for words vrid)

-- "the bytes this event writes"
abbrev pub needs : Outcome → ℕ
needs outcome = need_of outcome.writes (4 * outcome.router.count)

-- "22 output room smaller than the bytes this event writes"
abbrev pub room_check : List ℕ → Outcome → Check
room_check room outcome = (22, ltb (length room) (needs outcome))

-- what startup or shutdown comes to
abbrev pub event_outcome : List ℕ → ℕ → Event → Outcome
event_outcome words vrid event = step_of (primary_of words) (record_for words vrid) event

-- "others 20 then 22": startup and shutdown
abbrev pub event_checks : List ℕ → ℕ → Event → List ℕ → List Check
event_checks words vrid event room = (20, unknown words vrid) ∷ (room_check room (event_outcome words vrid event) ∷ [])

-- what a clock step comes to
abbrev pub clock_ticked : List ℕ → ℕ → ℕ → Ticked
clock_ticked words vrid ticks = ticked_of (primary_of words) (record_for words vrid) ticks

-- "others 20 then 22": a clock step
abbrev pub clock_checks : List ℕ → ℕ → ℕ → List ℕ → List Check
clock_checks words vrid ticks room =
    (20, unknown words vrid) ∷ (room_check room (clock_ticked words vrid ticks).outcome ∷ [])

-- "20 VRID not in the table": a question
abbrev pub question_checks : List ℕ → ℕ → List Check
question_checks words vrid = (20, unknown words vrid) ∷ []

-- 10 to 13, by the router at a place
abbrev pub place_checks : List ℕ → List ℕ → ℕ → List ℕ → Fields → List Check
place_checks words lists place bytes fields =
    router_checks (record_at words place) fields
    (lists_match (list_at lists place (record_at words place).count) (their_list bytes fields))

-- what an accepted packet comes to
abbrev pub packet_outcome : List ℕ → List ℕ → Outcome
packet_outcome words bytes = accepted_at words (place_for words (fields_of bytes).vrid) (fields_of bytes)

-- 9, 10 to 13, and "For a packet 22 comes after 13"
abbrev pub table_checks : List ℕ → List ℕ → List ℕ → List ℕ → List Check
table_checks words lists bytes room =
    (9, unknown words (fields_of bytes).vrid)
    ∷ (place_checks words lists (place_for words (fields_of bytes).vrid) bytes (fields_of bytes)
    ++ (room_check room (packet_outcome words bytes) ∷ []))

-- "Packets, checked in this order": 1 to 8 by the packet alone, then by the table
abbrev pub packet_checks : List ℕ → List ℕ → List ℕ → List ℕ → List Check
packet_checks words lists bytes room = judging_checks bytes ++ table_checks words lists bytes room

-- "A refusal answers its number, 22 also with the room needed"; 0 is done, with the bytes that were written and the leftover
abbrev pub answer_by : ℕ → ℕ → ℕ → Answer
answer_by number need leftover =
    cond (eqb number 0) (done need leftover) (cond (eqb number 22) (short need) (refusal number))

-- "A question about a VRID answers its state, its remaining timer (0 in Initialize) and its counts", as its record has them
abbrev pub status_by : ℕ → Router → Status
status_by number router = status_as number (cond (eqb number 0) router no_router)

-- a number is one of these
abbrev pub OneOf : List ℕ → ℕ → Type 0
OneOf [] number = ⊥
OneOf (one ∷ rest) number = (number ≡ one) ⊎ OneOf rest number
