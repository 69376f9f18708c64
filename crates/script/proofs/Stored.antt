-- The station that is not there: what `no_stations` cites.
-- Assumes nothing.
use mathlib.Core.Path.{◌≡◌}
use mathlib.Core.Bool.{false}
use mathlib.Core.List.{List}
use Prim.Native.Nat.{ℕ}
use Rattle.station.specs.declared.station.Stepped.{Stepped}
use Rattle.station.specs.Making.{Makes, made_of, station_refusal}
use Rattle.stations.specs.List.{nowhere}

-- the stations that are not there
pub no_station : (made : Stepped) (address : List ℕ) → Makes (made_of 0 0 0 false 0 address) made
    → made.station ≡ nowhere
unfolding made_of station_refusal
no_station made address makes = makes.station_is
