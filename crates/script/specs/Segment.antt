-- The segment that a script describes (01, 'The rehearsal program').
use Rattle.std.specs.Prelude.{ℕ, List, Bool, false, replicate}
use Rattle.station.specs.declared.station.Station.{Station}
use Rattle.stations.specs.List.{nowhere}

-- "segment (VRID, A, one virtual address: 6 bytes)", and its stations
pub record Segment : Type 0 where
  -- "in number order": those from `used` on are not there yet
  pub stations : List Station
  pub used : ℕ
  pub vrid : ℕ
  pub interval : ℕ
  pub address : List ℕ
  -- whether a segment record was read
  pub begun : Bool

-- no segment was read, and no station is there
unfoldable pub empty_segment : Segment
empty_segment =
    record {
      stations = replicate 16 nowhere;
      used = 0;
      vrid = 0;
      interval = 0;
      address = replicate 4 0;
      begun = false;
    }
