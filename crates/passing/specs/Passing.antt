-- Time for a station, firing as often as due (01, 'Time', 'The rehearsal program').
use Rattle.std.specs.Prelude.{ℕ, zero, suc, cond, List, replicate, ◌==◌}
use Rattle.station.specs.declared.station.Station.{Station}
use Rattle.steps.specs.Steps.{clocked_by}

-- 786 bytes hold what a station of 16 virtual addresses writes
abbrev pub room_bytes : ℕ
room_bytes = 786

unfoldable pub fresh_room : List ℕ
fresh_room = replicate room_bytes 0

-- "the leftover, d minus the remaining time, is reported", and "the caller may hand it in again": until it is 0, and at most so many times
unfoldable pub passed_in : ℕ → Station → ℕ → Station
passed_in zero s ticks = s
passed_in (suc times) s ticks =
    cond ((clocked_by s ticks fresh_room).answer.leftover == 0) (clocked_by s ticks fresh_room).station
    (passed_in times (clocked_by s ticks fresh_room).station (clocked_by s ticks fresh_room).answer.leftover)

-- "each firing as often as due": a running timer fires at most once a tick, and the last time the leftover is 0
unfoldable pub passed : Station → ℕ → Station
passed s ticks = passed_in (suc (suc ticks)) s ticks
