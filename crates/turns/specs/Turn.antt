-- One record of a run (01, 'The rehearsal program').
use Rattle.std.specs.Prelude.{ℕ, ◌+◌, ◌≡◌, Option, Some, None, Result, Ok, Err, List, [], cond, eqb, ltb, length, drop, get_or}
use Rattle.wire.specs.declared.refusal.Refusal.{Refusal}
use Rattle.wire.specs.Refusal.{refusal_number}
use Rattle.station.specs.declared.station.Station.{Station}
use Rattle.script.specs.declared.kinds.Kind.{Kind}
use Rattle.script.specs.declared.record.Record.{Record}
use Rattle.script.specs.declared.progress.Progress.{Progress}
use Rattle.turns.specs.declared.Turn.{Turn}
use Rattle.script.specs.Kinds.{kind_of}
use Rattle.script.specs.Segment.{Segment}
use Rattle.script.specs.Record.{after_record, refusal_of}
use Rattle.script.specs.Lines.{refused_line, printed_of}
use Rattle.script.specs.Progress.{exhausted, ended, after_taken, segment_in}

-- what one record leaves, and its line
pub record Step : Type 0 where
  pub progress : Progress
  pub line : List ℕ

abbrev pub ends : Progress → List ℕ → Step
ends p line = record { progress = ended p; line = line }

-- the record of this kind: taken, or refused
abbrev pub record_step : Progress → Option Kind → List ℕ → Step
record_step p kind body =
    cond (eqb (refusal_of (segment_in p) kind body) 0)
    (record {
      progress = after_taken p kind body;
      line = printed_of kind p.reading.number (after_record kind (segment_in p) body);
    })
    (ends p (refused_line p.reading.number (refusal_of (segment_in p) kind body)))

-- the next record, or the end
unfoldable pub step_of : List ℕ → Progress → Step
step_of script p =
    cond (ltb 65536 (length script)) (ends p (refused_line 0 30))
    (cond (exhausted script p) (ends p [])
    (record_step p (kind_of (get_or script p.reading.at 0)) (drop (p.reading.at + 1) script)))

-- the stations after what was found
abbrev pub stations_left : Result (Option Record) Refusal → Segment → List Station
stations_left (Ok (Some taken)) segment = (after_record (Some taken.kind) segment taken.body.now).stations
stations_left (Ok None) segment = segment.stations
stations_left (Err refusal) segment = segment.stations

-- the line of what was found, with this number, where the segment after it is this
abbrev pub line_left : Result (Option Record) Refusal → ℕ → Segment → List ℕ
line_left (Ok (Some taken)) number segment = printed_of (Some taken.kind) number segment
line_left (Ok None) number segment = []
line_left (Err refusal) number segment = refused_line number (refusal_number refusal)

-- the progress after a turn
abbrev pub progress_left : Turn → Progress → Progress
progress_left turn p = record { stations = stations_left turn.found (segment_in p); reading = turn.reading }

-- a turn is that step: what it leaves, and the line of what it found
pub record Turns (p : Progress) (step : Step) (turn : Turn) : Type 0 where
  pub progress_is : progress_left turn p ≡ step.progress
  pub line_is : line_left turn.found turn.number (segment_in step.progress) ≡ step.line

-- what was found, in the rules' numbers: a record's kind and the bytes after the kind, or what refuses it
abbrev pub told_of : Result (Option Record) Refusal → Result (Option (Kind × List ℕ)) ℕ
told_of (Ok (Some taken)) = Ok (Some (taken.kind, taken.body.now))
told_of (Ok None) = Ok None
told_of (Err refusal) = Err (refusal_number refusal)

-- the record of this kind, which is not refused
abbrev pub record_in : Option Kind → List ℕ → Option (Kind × List ℕ)
record_in None body = None
record_in (Some kind) body = Some (kind, body)

-- the record of this kind: found, or refused
abbrev pub record_found : Progress → Option Kind → List ℕ → Result (Option (Kind × List ℕ)) ℕ
record_found p kind body =
    cond (eqb (refusal_of (segment_in p) kind body) 0) (Ok (record_in kind body)) (Err (refusal_of (segment_in p) kind body))

-- the record that is next, none at the end, or what refuses it
unfoldable pub found_in : List ℕ → Progress → Result (Option (Kind × List ℕ)) ℕ
found_in script p =
    cond (ltb 65536 (length script)) (Err 30)
    (cond (exhausted script p) (Ok None)
    (record_found p (kind_of (get_or script p.reading.at 0)) (drop (p.reading.at + 1) script)))

-- the number that its line begins with, 0 where that is no record's
unfoldable pub number_in : List ℕ → Progress → ℕ
number_in script p = cond (ltb 65536 (length script)) 0 (cond (exhausted script p) 0 p.reading.number)
