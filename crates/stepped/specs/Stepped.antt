-- A station's life: it is made and stepped, and its table then (01, 'The rehearsal program', 'The table').
use Rattle.std.specs.Prelude.{ℕ, ◌^◌, ◌<◌, ◌≡◌, List, [], ◌∷◌, Bool}
use Rattle.sums.specs.Sum.{Bytes}
use Rattle.states.specs.declared.step.Event.TheVariants.{Startup, Shutdown}
use Rattle.histories.specs.Histories.{Memory}
use Rattle.station.specs.declared.station.Station.{Station}
use Rattle.station.specs.Making.{station_refusal, made_of}
use Rattle.hearing.specs.Hearing.{heard_by}
use Rattle.steps.specs.Steps.{happened_to, clocked_by}
use Rattle.passing.specs.Passing.{passed}
use Rattle.in_tables.specs.Tables.{words_of, lists_of}

-- a step of a station, as its functions take it; a delivery is a packet that it hears
pub data Step : Type 0 where
  starts : (room : List ℕ) → Step
  shuts : (room : List ℕ) → Step
  ticks : (d : ℕ) (room : List ℕ) → Step
  passes : (d : ℕ) → Step
  hears : (packet room : List ℕ) → Step

-- the station that a step leaves
abbrev pub stepped : Station → Step → Station
stepped s (starts room) = (happened_to s Startup room).station
stepped s (shuts room) = (happened_to s Shutdown room).station
stepped s (ticks d room) = (clocked_by s d room).station
stepped s (passes d) = passed s d
stepped s (hears packet room) = (heard_by s packet room).station

-- and many steps, the first one first
abbrev pub stepped_all : Station → List Step → Station
stepped_all s [] = s
stepped_all s (step ∷ rest) = stepped_all (stepped s step) rest

-- "Each station is a table of one router": that table
abbrev pub table_of : Station → Memory
table_of s = record { words = words_of s; lists = lists_of s }

-- a station of a segment: made, and stepped any number of times
pub record Lived (vrid interval : ℕ) (addresses : List ℕ) (s : Station) : Type 0 where
  pub priority : ℕ
  pub preempt : Bool
  pub primary : ℕ
  -- "VRID, priority and interval come as bytes"
  pub vrid_byte : vrid < 256
  pub priority_byte : priority < 256
  pub interval_byte : interval < 256
  -- "Addresses are 32-bit numbers"
  pub fits : primary < 2 ^ 32
  pub bytes : Bytes addresses
  -- it was not refused
  pub taken : station_refusal vrid priority interval addresses ≡ 0
  pub steps : List Step
  pub lived : s ≡ stepped_all (made_of vrid priority interval preempt primary addresses).station steps
