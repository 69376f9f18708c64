-- Stations on one segment: what each is, what a Master advertises, and handing advertisements over (01, demand 3).
use Rattle.std.specs.Prelude.{ℕ, ◌^◌, ◌≤◌, ◌<◌, ◌≡◌, ◌⊎◌, List, [], ◌∷◌, true, length, get_or, set, drop}
use Rattle.sums.specs.Sum.{Bytes}
use Rattle.states.specs.declared.record.Router.{Router}
use Rattle.states.specs.declared.record.State.TheVariants.{Master}
use Rattle.states.specs.declared.step.Writes.TheVariants.{Advertisement}
use Rattle.output.specs.Output.{bytes_of}
use Rattle.places.specs.Place.{primary_of}
use Rattle.events.specs.Lists.{list_at}
use Rattle.events.specs.Result.{router_place}
use Rattle.configuring.specs.Configuring.{is_found}
use Rattle.histories.specs.Histories.{Call, packet, Memory, called, after, begun, GivenAll}
use Rattle.histories.specs.Rows.{place_for, record_for}

-- a station is the memory of its table; of the segment's virtual router it has the record and the address list
abbrev pub router_of : ℕ → Memory → Router
router_of vrid m = record_for m.words vrid

abbrev pub addresses_of : ℕ → Memory → List ℕ
addresses_of vrid m = list_at m.lists (place_for m.words vrid) (router_of vrid m).count

abbrev pub primary_address : Memory → ℕ
primary_address m = primary_of m.words

abbrev pub IsMaster : ℕ → Memory → Type 0
IsMaster vrid m = (router_of vrid m).state ≡ Master

-- "after any history": a table that calls have led to from an empty one
pub record Reached (m : Memory) : Type 0 where
  pub primary : ℕ
  -- "Addresses are 32-bit numbers"
  pub fits : primary < 2 ^ 32
  pub lists : List ℕ
  -- the lent bytes for the lists, 64 for each of 255 places
  pub bytes : Bytes lists
  pub long : length lists ≡ 16320
  pub history : List Call
  -- "VRID, priority and interval come as bytes", and so do addresses
  pub given : GivenAll history
  pub reached : m ≡ after (begun primary lists) history

-- "with the same virtual router number, interval and address list"
pub record Stands (vrid interval : ℕ) (addresses : List ℕ) (m : Memory) : Type 0 where
  pub history : Reached m
  pub named : is_found (router_place m.words vrid) ≡ true
  pub interval_is : (router_of vrid m).interval ≡ interval
  pub addresses_are : addresses_of vrid m ≡ addresses

-- the stations are numbered from 0; past the last there is an empty table
abbrev pub station_at : List Memory → ℕ → Memory
station_at stations i = get_or stations i (begun 0 [])

-- "1 to 16 stations on one segment .. no two with the same primary address, at most one with priority 255, and at least one
-- Master"
pub record Segment (vrid interval : ℕ) (addresses : List ℕ) (stations : List Memory) : Type 0 where
  pub some : 1 ≤ length stations
  pub few : length stations ≤ 16
  pub each : (i : ℕ) → i < length stations → Stands vrid interval addresses (station_at stations i)
  pub apart : (i j : ℕ) → i < length stations → j < length stations
      → primary_address (station_at stations i) ≡ primary_address (station_at stations j) → i ≡ j
  pub owner : (i j : ℕ) → i < length stations → j < length stations → (router_of vrid (station_at stations i)).priority ≡ 255
      → (router_of vrid (station_at stations j)).priority ≡ 255 → i ≡ j
  pub master : ℕ
  pub below : master < length stations
  pub masters : IsMaster vrid (station_at stations master)

-- "the greatest priority, then the numerically greatest address"
abbrev pub Outranks : ℕ → Memory → Memory → Type 0
Outranks vrid a b =
    ((router_of vrid b).priority < (router_of vrid a).priority)
    ⊎ (((router_of vrid b).priority ≡ (router_of vrid a).priority) × (primary_address b < primary_address a))

-- a Master's advertisement: the frame that it writes, less the 14 Ethernet bytes
abbrev pub advertisement_of : ℕ → Memory → List ℕ
advertisement_of vrid m = drop 14 (bytes_of Advertisement (router_of vrid m) (primary_address m) (addresses_of vrid m))

-- an advertisement of one station is handed to another, which has this output room
pub record Delivery : Type 0 where
  pub from : ℕ
  pub to : ℕ
  pub room : List ℕ

-- "Hand the .. advertisement of each Master of that moment": by the packet call, as it was written at that moment
abbrev pub handed_over : ℕ → List Memory → List Memory → Delivery → List Memory
handed_over vrid then stations d =
    set stations d.to
    (called (station_at stations d.to) (packet (advertisement_of vrid (station_at then d.from)) d.room))

-- and so with every delivery of a list, the first one first, "with no clock step and no other event between"
abbrev pub after_all : ℕ → List Memory → List Memory → List Delivery → List Memory
after_all vrid then stations [] = stations
after_all vrid then stations (d ∷ rest) = after_all vrid then (handed_over vrid then stations d) rest

-- every delivery is from a Master of that moment to another station
abbrev pub FromMasters : ℕ → List Memory → List Delivery → Type 0
FromMasters vrid stations [] = Unit
FromMasters vrid stations (d ∷ rest) =
    ((d.from < length stations) × (d.to < length stations) × (d.to ≡ d.from → ⊥)
    × IsMaster vrid (station_at stations d.from))
    × FromMasters vrid stations rest

-- a list of deliveries has one from a station to another
abbrev pub Has : List Delivery → ℕ → ℕ → Type 0
Has [] from to = ⊥
Has (d ∷ rest) from to = ((d.from ≡ from) × (d.to ≡ to)) ⊎ Has rest from to

-- "to every other station, at least once, in any order, repeats allowed"
abbrev pub EachPair : ℕ → List Memory → List Delivery → Type 0
EachPair vrid stations deliveries =
    (from to : ℕ) → from < length stations → to < length stations → (to ≡ from → ⊥)
    → IsMaster vrid (station_at stations from) → Has deliveries from to
