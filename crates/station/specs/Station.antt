-- A station by value, and what a step on it leaves (01, 'The rehearsal program').
use Rattle.std.specs.Prelude.{ℕ, ◌*◌, ◌%◌, ◌≡◌, List, Bool, not, eqb, length, take, drop, replicate}
use Rattle.writing.specs.Writing.{over}
use Rattle.states.specs.declared.record.Router.{Router}
use Rattle.events.specs.Result.{Answer, answer_of, refusal}
use Rattle.station.specs.declared.station.Station.{Station}
use Rattle.station.specs.declared.station.Stepped.{Stepped}

pub record Result : Type 0 where
  pub answer : Answer
  pub station : Station
  pub room : List ℕ

-- the promise of a step: its answer, the whole station and the whole room
pub record Leaves (result : Result) (stepped : Stepped) (room : List ℕ) : Type 0 where
  pub answer_is : answer_of stepped.answer ≡ result.answer
  pub station_is : stepped.station ≡ result.station
  pub room_is : room ≡ result.room

-- "A refusal answers its number": "Output bytes stay untouched"
abbrev pub refuses : ℕ → Station → List ℕ → Result
refuses number s room = record { answer = refusal number; station = s; room = room }

-- whether the table of a station has its router: "virtual router number (VRID) 1 to 255", so where it is 0 there is none
abbrev pub has_router : Station → Bool
has_router s = not (eqb s.router.vrid 0)

-- the virtual addresses, of which there are at most 16
unfoldable pub list_of : Station → List ℕ
list_of s = take (4 * (s.router.count % 17)) s.addresses

-- "the latest advertisement frame .. less its 14 Ethernet bytes"
unfoldable pub packet_of : Station → List ℕ
packet_of s = drop 14 (take s.sent s.frame)

-- the station with another router
abbrev pub with_router : Station → Router → Station
with_router s router =
    record {
      primary = s.primary;
      router = router;
      refusals = s.refusals;
      addresses = s.addresses;
      frame = s.frame;
      sent = s.sent;
    }

-- the station with other counts of refusals 1 to 9
abbrev pub with_refusals : Station → List ℕ → Station
with_refusals s refusals =
    record {
      primary = s.primary;
      router = s.router;
      refusals = refusals;
      addresses = s.addresses;
      frame = s.frame;
      sent = s.sent;
    }

-- the station with these bytes as its latest advertisement frame
abbrev pub with_frame : Station → List ℕ → Station
with_frame s bytes =
    record {
      primary = s.primary;
      router = s.router;
      refusals = s.refusals;
      addresses = s.addresses;
      frame = over bytes s.frame;
      sent = length bytes;
    }

-- a station that has counted and sent nothing
abbrev pub station_of : ℕ → Router → List ℕ → Station
station_of primary router addresses =
    record {
      primary = primary;
      router = router;
      refusals = replicate 9 0;
      addresses = addresses;
      frame = replicate 114 0;
      sent = 0;
    }
