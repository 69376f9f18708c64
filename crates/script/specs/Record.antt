-- What a record does to the segment (01, 'The rehearsal program').
use Rattle.std.specs.Prelude.{ℕ, ◌+◌, ◌*◌, List, [], ◌∷◌, ◌++◌, true, eqb, length, get_or, set, Option, Some, None}
use Rattle.sums.specs.Number.{number_of}
use Rattle.wire.specs.Check.{first_refusal}
use Rattle.station.specs.declared.station.Station.{Station}
use Rattle.station.specs.Making.{made_of}
use Rattle.passing.specs.Passing.{fresh_room}
use Rattle.stations.specs.List.{started_at, shut_at, delivered_at, all_passed}
use Rattle.script.specs.Segment.{Segment}
use Rattle.script.specs.declared.kinds.Kind.{Kind}
use Rattle.script.specs.declared.kinds.Kind.TheVariants.{NewSegment, NewStation, Startup, Shutdown, Clock, Deliver}
use Rattle.script.specs.Checks.{record_checks, kind_checks}

-- "1 segment (VRID, A, one virtual address: 6 bytes)"
abbrev pub with_segment : Segment → List ℕ → Segment
with_segment segment body =
    record {
      stations = segment.stations;
      used = segment.used;
      vrid = get_or body 0 0;
      interval = get_or body 1 0;
      address = get_or body 2 0 ∷ (get_or body 3 0 ∷ (get_or body 4 0 ∷ (get_or body 5 0 ∷ [])));
      begun = true;
    }

-- the segment with its stations after a step
abbrev pub with_stations : Segment → List Station → Segment
with_stations segment stations =
    record {
      stations = stations;
      used = segment.used;
      vrid = segment.vrid;
      interval = segment.interval;
      address = segment.address;
      begun = segment.begun;
    }

-- "2 station (priority, preempt 0 or 1, primary address: 6)": "Each station is a table of one router"
abbrev pub station_in : Segment → List ℕ → Station
station_in segment body =
    (made_of segment.vrid (get_or body 0 0) segment.interval (eqb (get_or body 1 0) 1)
    (number_of (get_or body 2 0) (get_or body 3 0) (get_or body 4 0) (get_or body 5 0)) segment.address).station

-- "Stations count from 0"
abbrev pub with_station : Segment → List ℕ → Segment
with_station segment body =
    record {
      stations = set segment.stations segment.used (station_in segment body);
      used = segment.used + 1;
      vrid = segment.vrid;
      interval = segment.interval;
      address = segment.address;
      begun = segment.begun;
    }

-- "3 startup (station); 4 shutdown (station); 5 clock (2 bytes, high first: all stations in number order ..); 6 deliver
-- (from, to: the latest advertisement frame of from .. is handed to to)"
abbrev pub after_record : Option Kind → Segment → List ℕ → Segment
after_record None segment body = segment
after_record (Some NewSegment) segment body = with_segment segment body
after_record (Some NewStation) segment body = with_station segment body
after_record (Some Startup) segment body =
    with_stations segment (started_at segment.stations (get_or body 0 0) fresh_room).stations
after_record (Some Shutdown) segment body =
    with_stations segment (shut_at segment.stations (get_or body 0 0) fresh_room).stations
after_record (Some Clock) segment body =
    with_stations segment (all_passed (256 * get_or body 0 0 + get_or body 1 0) segment.used segment.stations)
after_record (Some Deliver) segment body =
    with_stations segment (delivered_at segment.stations (get_or body 0 0) (get_or body 1 0) fresh_room).stations

-- the first check that refuses a record of any kind, whose body begins any bytes, or 0
unfoldable pub refusal_of : Segment → Option Kind → List ℕ → ℕ
refusal_of segment kind body =
    first_refusal
    (record_checks segment.begun kind (length body) ++ kind_checks kind segment.used segment.stations body)
