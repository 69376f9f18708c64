-- What refuses a record, in order (01, 'The rehearsal program').
use Rattle.std.specs.Prelude.{ℕ, List, [], ◌∷◌, Bool, cond, not, eqb, ltb, get_or, Option, Some, None}
use Rattle.wire.specs.Check.{Check}
use Rattle.station.specs.declared.station.Station.{Station}
use Rattle.stations.specs.List.{nowhere}
use Rattle.script.specs.declared.kinds.Kind.{Kind}
use Rattle.script.specs.declared.kinds.Kind.TheVariants.{NewSegment, NewStation, Startup, Shutdown, Clock, Deliver}
use Rattle.script.specs.Kinds.{body_length, kind_number}

-- "23 unknown kind; 24 body cut off; 25 first record not a segment, or a second segment"
abbrev pub record_checks : Bool → Option Kind → ℕ → List Check
record_checks begun kind left =
    (23, eqb (kind_number kind) 0)
    ∷ ((24, ltb left (body_length kind))
    ∷ ((25, cond begun (eqb (kind_number kind) 1) (not (eqb (kind_number kind) 1))) ∷ []))

-- "for segment 14, 16": VRID 0, interval 0
abbrev pub segment_checks : List ℕ → List Check
segment_checks body = (14, eqb (get_or body 0 0) 0) ∷ ((16, eqb (get_or body 1 0) 0) ∷ [])

-- "for station 27, 15, 29": a seventeenth station, priority 0, preempt above 1
abbrev pub station_checks : ℕ → List ℕ → List Check
station_checks used body =
    (27, not (ltb used 16)) ∷ ((15, eqb (get_or body 0 0) 0) ∷ ((29, ltb 1 (get_or body 1 0)) ∷ []))

-- "26 unused station number"
abbrev pub number_checks : ℕ → List ℕ → List Check
number_checks used body = (26, not (ltb (get_or body 0 0) used)) ∷ []

-- "for deliver 26, 28": "28 from equals to, or from has sent nothing"
abbrev pub deliver_checks : ℕ → List Station → List ℕ → List Check
deliver_checks used stations body =
    (26, not (ltb (get_or body 0 0) used))
    ∷ ((26, not (ltb (get_or body 1 0) used))
    ∷ ((28, eqb (get_or body 0 0) (get_or body 1 0))
    ∷ ((28, eqb (get_or stations (get_or body 0 0) nowhere).sent 0) ∷ [])))

-- after those of every record, where so many stations are used
abbrev pub kind_checks : Option Kind → ℕ → List Station → List ℕ → List Check
kind_checks None used stations body = []
kind_checks (Some NewSegment) used stations body = segment_checks body
kind_checks (Some NewStation) used stations body = station_checks used body
kind_checks (Some Startup) used stations body = number_checks used body
kind_checks (Some Shutdown) used stations body = number_checks used body
kind_checks (Some Clock) used stations body = []
kind_checks (Some Deliver) used stations body = deliver_checks used stations body
