-- The theorems of the lent list, as statements: each is proved under the same name in proofs/Theorems.antt.
use Rattle.std.specs.Prelude.{ℕ, ◌≡◌, List, length, get_or}
use Rattle.events.specs.Result.{Answered}
use Rattle.station.specs.declared.station.Station.{Station}
use Rattle.station.specs.Station.{Result}
use Rattle.stations.specs.List.{ListResult, LeavesList, nowhere, stepped_at, delivered_at}

-- two outcomes that the promise of a call allows are equal
abbrev pub OneCall : Type 0
OneCall =
    (result : ListResult) (a b : Answered) (stations others : List Station) (room other : List ℕ)
    → LeavesList result a stations room → LeavesList result b others other
    → (a ≡ b) × (stations ≡ others) × (room ≡ other)

-- as many stations as before, and each but one is as it was
pub record OnlyAt (at : ℕ) (before after : List Station) : Type 0 where
  pub as_many : length after ≡ length before
  pub others : (other : ℕ) → ¬ (other ≡ at) → get_or after other nowhere ≡ get_or before other nowhere

-- a step changes the station of its number alone
abbrev pub StepOnlyAt : Type 0
StepOnlyAt =
    (step : Station → List ℕ → Result) (stations : List Station) (at : ℕ) (room : List ℕ)
    → OnlyAt at stations (stepped_at step stations at room).stations

-- a delivery changes the station that it is handed to alone
abbrev pub DeliveryOnlyAt : Type 0
DeliveryOnlyAt =
    (stations : List Station) (from to : ℕ) (room : List ℕ)
    → OnlyAt to stations (delivered_at stations from to room).stations
