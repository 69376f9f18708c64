-- A station just configured (01, 'The table', 'Refusal numbers').
use Rattle.std.specs.Prelude.{ℕ, ◌≡◌, ◌/◌, List, Bool, cond, eqb, length, replicate}
use Rattle.writing.specs.Writing.{over}
use Rattle.events.specs.Result.{Answer, answer_of, done, refusal}
use Rattle.configuring.specs.Configuring.{new_router, freed}
use Rattle.station.specs.declared.station.Station.{Station}
use Rattle.station.specs.declared.station.Stepped.{Stepped}
use Rattle.station.specs.Station.{station_of}
-- refusals 14 to 17: a station has no router yet, so 18 and 19 are never due
pub use Rattle.configuring.specs.Configuring.{settings_checks as station_checks}
unfoldable pub use Rattle.configuring.specs.Configuring.{settings_refusal as station_refusal}

-- the virtual addresses in a station's 64 bytes
abbrev pub addresses_in : List ℕ → List ℕ
addresses_in addresses = over addresses (replicate 64 0)

pub record Made : Type 0 where
  pub answer : Answer
  pub station : Station

-- the promise of making a station: its answer, and the whole station
pub record Makes (made : Made) (stepped : Stepped) : Type 0 where
  pub answer_is : answer_of stepped.answer ≡ made.answer
  pub station_is : stepped.station ≡ made.station

-- "starts in Initialize with counts at 0"; where it is refused, no router is there
unfoldable pub made_of : ℕ → ℕ → ℕ → Bool → ℕ → List ℕ → Made
made_of vrid priority interval preempt primary addresses =
    cond (eqb (station_refusal vrid priority interval addresses) 0)
    (record {
      station =
          station_of primary (new_router vrid priority interval preempt (length addresses / 4)) (addresses_in addresses);
      answer = done 0 0;
    })
    (record {
      station = station_of primary freed (replicate 64 0);
      answer = refusal (station_refusal vrid priority interval addresses);
    })
