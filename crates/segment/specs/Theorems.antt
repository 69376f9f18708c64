-- One Master remains (01, demand 3), and what a bench asks next. Each statement is proved in proofs/Theorems.antt or,
-- from what a Master writes on, in proofs/Writing.antt.
use Rattle.std.specs.Prelude.{ℕ, ◌+◌, ◌≤◌, ◌<◌, ◌≡◌, List, true, length, take, drop, Ok}
use Rattle.judging.specs.declared.Fields.{Fields}
use Rattle.judging.specs.Judging.{judged_of}
use Rattle.events.specs.Result.{router_place}
use Rattle.events.specs.Events.{clocked_of}
use Rattle.configuring.specs.Configuring.{is_found}
use Rattle.histories.specs.Histories.{Memory}
use Rattle.segment.specs.Segment.{router_of, IsMaster, Stands, station_at, Segment, Outranks, advertisement_of}
use Rattle.segment.specs.Segment.{Delivery, after_all, FromMasters, Has, EachPair}

-- "exactly one Master remains: of those that were Masters, the one with the greatest priority and, among equals, the
-- numerically greatest primary address. No other station has become Master."
pub record OneMaster (vrid : ℕ) (then now : List Memory) : Type 0 where
  pub stations : length now ≡ length then
  -- the virtual router is still found at every station
  pub found : (i : ℕ) → i < length then → is_found (router_place (station_at now i).words vrid) ≡ true
  pub station : ℕ
  pub below : station < length then
  pub was : IsMaster vrid (station_at then station)
  pub greatest : (i : ℕ) → i < length then → (i ≡ station → ⊥) → IsMaster vrid (station_at then i)
      → Outranks vrid (station_at then station) (station_at then i)
  pub remains : IsMaster vrid (station_at now station)
  pub alone : (i : ℕ) → i < length then → IsMaster vrid (station_at now i) → i ≡ station

-- demand 3
abbrev pub OneMasterRemains : Type 0
OneMasterRemains =
    (vrid interval : ℕ) (addresses : List ℕ) (stations : List Memory) (deliveries : List Delivery)
    → Segment vrid interval addresses stations → FromMasters vrid stations deliveries → EachPair vrid stations deliveries
    → OneMaster vrid stations (after_all vrid stations stations deliveries)

-- a delivery never makes a Master
abbrev pub MakesNoMaster : Type 0
MakesNoMaster =
    (vrid interval : ℕ) (addresses : List ℕ) (stations : List Memory) (deliveries : List Delivery)
    → Segment vrid interval addresses stations → FromMasters vrid stations deliveries → (i : ℕ)
    → IsMaster vrid (station_at (after_all vrid stations stations deliveries) i) → IsMaster vrid (station_at stations i)

-- who beat a station: a Master of that moment that outranks it, and whose advertisement was handed to it
pub record BeatenBy (vrid : ℕ) (stations : List Memory) (deliveries : List Delivery) (i : ℕ) : Type 0 where
  pub station : ℕ
  pub below : station < length stations
  pub master : IsMaster vrid (station_at stations station)
  pub delivered : Has deliveries station i
  pub outranks : Outranks vrid (station_at stations station) (station_at stations i)

-- a Master that steps down names who beat it
abbrev pub NamesWhoBeatIt : Type 0
NamesWhoBeatIt =
    (vrid interval : ℕ) (addresses : List ℕ) (stations : List Memory) (deliveries : List Delivery)
    → Segment vrid interval addresses stations → FromMasters vrid stations deliveries → (i : ℕ)
    → IsMaster vrid (station_at stations i) → (IsMaster vrid (station_at (after_all vrid stations stations deliveries) i) → ⊥)
    → BeatenBy vrid stations deliveries i

-- if only one Master was there, nothing changes its state, nor anything else of it
abbrev pub LoneMaster : Type 0
LoneMaster =
    (vrid : ℕ) (stations : List Memory) (deliveries : List Delivery) → FromMasters vrid stations deliveries → (k : ℕ)
    → ((i : ℕ) → i < length stations → IsMaster vrid (station_at stations i) → i ≡ k)
    → station_at (after_all vrid stations stations deliveries) k ≡ station_at stations k

-- the advertisement is what the Master's own writing produces: its timer fires, and the frame stands in the room that
-- holds it
abbrev pub OwnWriting : Type 0
OwnWriting =
    (vrid interval : ℕ) (addresses : List ℕ) (m : Memory) (ticks : ℕ) (room : List ℕ) → Stands vrid interval addresses m
    → IsMaster vrid m → (router_of vrid m).timer ≤ ticks → 50 + length addresses ≤ length room
    → drop 14 (take (50 + length addresses) (clocked_of m.words m.lists vrid ticks room).room) ≡ advertisement_of vrid m

-- the advertisement reads back with the router's priority, which is not 0: it is no farewell
pub record ReadsBack (vrid : ℕ) (m : Memory) : Type 0 where
  pub fields : Fields
  pub accepted : judged_of (advertisement_of vrid m) ≡ Ok fields
  pub priority_is : fields.priority ≡ (router_of vrid m).priority
  pub some : 1 ≤ fields.priority

abbrev pub AdvertisedPriority : Type 0
AdvertisedPriority =
    (vrid interval : ℕ) (addresses : List ℕ) (m : Memory) → Stands vrid interval addresses m → ReadsBack vrid m
