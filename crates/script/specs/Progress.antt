-- How far a script was read, and that less its stations (01, 'The rehearsal program').
use Rattle.std.specs.Prelude.{ℕ, ◌+◌, Option, List, Bool, true, false, cond, ◌||◌, eqb, ltb, leb, length}
use Rattle.station.specs.declared.station.Station.{Station}
use Rattle.script.specs.declared.kinds.Kind.{Kind}
use Rattle.script.specs.declared.progress.Progress.{Progress}
use Rattle.script.specs.declared.progress.Reading.{Reading}
use Rattle.script.specs.Kinds.{body_length, kind_number}
use Rattle.script.specs.Record.{after_record}
use Rattle.script.specs.Segment.{Segment, empty_segment}

-- the segment that was read, with these stations
abbrev pub segment_of : List Station → Reading → Segment
segment_of stations reading =
    record {
      stations = stations;
      used = reading.used;
      vrid = reading.vrid;
      interval = reading.interval;
      address = reading.address;
      begun = reading.begun;
    }

-- a segment less its stations, and where the next record begins
abbrev pub read_in : Segment → ℕ → ℕ → Bool → Reading
read_in segment at number done =
    record {
      used = segment.used;
      vrid = segment.vrid;
      interval = segment.interval;
      address = segment.address;
      begun = segment.begun;
      at = at;
      number = number;
      done = done;
    }

-- the segment as far as it was read
abbrev pub segment_in : Progress → Segment
segment_in p = segment_of p.stations p.reading

-- this segment, and where the next record begins
abbrev pub progress_in : Segment → ℕ → ℕ → Bool → Progress
progress_in segment at number done =
    record { stations = segment.stations; reading = read_in segment at number done }

-- before the first record
abbrev pub started : Progress
started = progress_in empty_segment 0 1 false

-- no record of the script is left; each that was read has a byte at least, so no run comes to a number above that
abbrev pub exhausted : List ℕ → Progress → Bool
exhausted script p = leb (length script) p.reading.at || ltb (p.reading.at + 1) p.reading.number

abbrev pub ended : Progress → Progress
ended p = progress_in (segment_in p) p.reading.at p.reading.number true

-- after a record of this kind that is taken, whose body begins these bytes
abbrev pub after_taken : Progress → Option Kind → List ℕ → Progress
after_taken p kind body =
    progress_in (after_record kind (segment_in p) body) (p.reading.at + 1 + body_length kind) (p.reading.number + 1) false

-- the number of the station that a record adds, 0 where it adds none
abbrev pub new_number : Option Kind → ℕ → ℕ
new_number kind used = cond (eqb (kind_number kind) 2) used 0
