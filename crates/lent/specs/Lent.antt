-- One step on a copy of the stations (01, 'The rehearsal program').
use Rattle.std.specs.Prelude.{◌≡◌}
use Rattle.events.specs.Result.{answer_of}
use Rattle.lent.specs.declared.Moved.{Moved}
use Rattle.stations.specs.List.{ListResult}

-- the promise of a call on a copy: its answer and all stations; the room is given up
pub record Moves (result : ListResult) (moved : Moved) : Type 0 where
  pub answer_is : answer_of moved.answer ≡ result.answer
  pub stations_are : moved.stations ≡ result.stations
