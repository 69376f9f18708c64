-- An event's outcome for a station, and the advertisement that it keeps (01, 'The rehearsal program').
use Rattle.std.specs.Prelude.{ℕ, ◌+◌, List, cond, eqb, ltb, length, take}
use Rattle.writing.specs.Writing.{over}
use Rattle.states.specs.declared.step.Outcome.{Outcome}
use Rattle.output.specs.Output.{bytes_of, need_of}
use Rattle.events.specs.Result.{done, short}
use Rattle.station.specs.declared.station.Station.{Station}
use Rattle.station.specs.Station.{Result, list_of, with_router, with_frame}

-- what an outcome has a station write, and how long that is
abbrev pub written_by : Station → Outcome → List ℕ
written_by s outcome = bytes_of outcome.writes outcome.router s.primary (list_of s)

abbrev pub needed_by : Station → Outcome → ℕ
needed_by s outcome = need_of outcome.writes (length (list_of s))

-- "the latest advertisement frame": the first 50 + 4n bytes of what is written, where anything is
abbrev pub kept_by : Station → Outcome → Station
kept_by s outcome =
    cond (eqb (needed_by s outcome) 0) (with_router s outcome.router)
    (with_frame (with_router s outcome.router) (take (50 + length (list_of s)) (written_by s outcome)))

-- "22 output room smaller than the bytes this event writes", and then nothing changes; else the router is as the
-- outcome has it, and its frames stand at the start of the room
unfoldable pub acted_by : Station → Outcome → ℕ → List ℕ → Result
acted_by s outcome leftover room =
    cond (ltb (length room) (needed_by s outcome))
    (record { answer = short (needed_by s outcome); station = s; room = room })
    (record {
      answer = done (needed_by s outcome) leftover;
      station = kept_by s outcome;
      room = over (written_by s outcome) room;
    })
