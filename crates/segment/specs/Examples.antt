-- Segments written out: sixteen stations that meet every premise of demand 3, and what happens where one is missing.
-- The stations' virtual router has number 1, an interval of one second and the address 192.168.1.254.
use Rattle.std.specs.Prelude.{ℕ, zero, suc, ◌+◌, ◌<◌, ◌≡◌, List, [], ◌∷◌, ◌++◌, map, true, cond, eqb, ltb, replicate}
use Rattle.states.specs.declared.record.State.{State}
use Rattle.states.specs.declared.record.State.TheVariants.{Master}
use Rattle.histories.specs.Histories.{Call, configure, startup, clock, Memory, after, begun}
use Rattle.segment.specs.Segment.{router_of, IsMaster, station_at, Segment, Delivery, after_all, FromMasters, EachPair}

abbrev pub virtual_address : List ℕ
virtual_address = 192 ∷ (168 ∷ (1 ∷ (254 ∷ [])))

-- output room enough for a takeover
abbrev pub room : List ℕ
room = replicate 96 0

-- a table whose only router was configured, and the calls that followed
abbrev pub configured : ℕ → ℕ → ℕ → List ℕ → List Call → Memory
configured primary priority interval addresses calls =
    after (begun primary (replicate 16320 0)) (configure 1 priority interval true addresses ∷ calls)

-- a router that was started up and whose Master is long down
abbrev pub taken_over : List Call
taken_over = startup 1 room ∷ (clock 1 2000 room ∷ [])

-- how far a station has come
pub data Kind : Type 0 where
  idle : Kind
  waiting : Kind
  leading : Kind

abbrev pub calls_of : Kind → List Call
calls_of idle = []
calls_of waiting = startup 1 room ∷ []
calls_of leading = taken_over

-- a station with priority 100: in Initialize, in Backup, or Master
abbrev pub station_of : Kind → ℕ → Memory
station_of kind primary = configured primary 100 1 virtual_address (calls_of kind)

-- four in Initialize, four in Backup, and then Masters
abbrev pub kind_of : ℕ → Kind
kind_of i = cond (ltb i 4) idle (cond (ltb i 8) waiting leading)

-- so many stations from a number on, each with the next primary address from 192.168.1.1 on
abbrev pub row_from : ℕ → ℕ → List Memory
row_from i zero = []
row_from i (suc more) = station_of (kind_of i) (0xC0A80101 + i) ∷ row_from (suc i) more

-- 192.168.1.1 to .16: those from .9 on are Masters
abbrev pub sixteen : List Memory
sixteen = row_from 0 16

abbrev pub deliver : ℕ → ℕ → Delivery
deliver from to = record { from = from; to = to; room = [] }

-- the advertisement of one station to so many stations, except itself
abbrev pub from_one : ℕ → ℕ → List Delivery
from_one from zero = []
from_one from (suc to) = cond (eqb to from) (from_one from to) (deliver from to ∷ from_one from to)

-- and of so many stations in a row
abbrev pub from_some : ℕ → ℕ → ℕ → List Delivery
from_some first zero stations = []
from_some first (suc more) stations = from_one (first + more) stations ++ from_some first more stations

-- each of the eight Masters to every other station
abbrev pub deliveries : List Delivery
deliveries = from_some 8 8 16

-- the premises can be met, and then .16 remains, not .9
pub record Met : Type 0 where
  pub segment : Segment 1 1 virtual_address sixteen
  pub masters : FromMasters 1 sixteen deliveries
  pub pairs : EachPair 1 sixteen deliveries
  pub remains : IsMaster 1 (station_at (after_all 1 sixteen sixteen deliveries) 15)
  pub others : (i : ℕ) → i < 15 → IsMaster 1 (station_at (after_all 1 sixteen sixteen deliveries) i) → ⊥

-- the states of two stations when each has heard the other
abbrev pub states_of : List Memory → List State
states_of stations = map (λ (m : Memory). (router_of 1 m).state) stations

abbrev pub exchanged : Memory → Memory → List State
exchanged a b = states_of (after_all 1 (a ∷ (b ∷ [])) (a ∷ (b ∷ [])) (deliver 0 1 ∷ (deliver 1 0 ∷ [])))

abbrev pub two_masters : List State
two_masters = Master ∷ (Master ∷ [])

-- a Master at 192.168.1.9, and another at .10
abbrev pub nine : Memory
nine = station_of leading 0xC0A80109

abbrev pub ten : Memory
ten = station_of leading 0xC0A8010A

-- without a premise two Masters can remain
pub record Needed : Type 0 where
  -- two with priority 255: each refuses by 10
  pub owners : exchanged (configured 0xC0A80109 255 1 virtual_address (startup 1 room ∷ []))
      (configured 0xC0A8010A 255 1 virtual_address (startup 1 room ∷ []))
      ≡ two_masters
  -- the same primary address: it does not beat us
  pub primary : exchanged nine nine ≡ two_masters
  -- another interval: each refuses by 13
  pub interval : exchanged nine (configured 0xC0A8010A 100 2 virtual_address taken_over) ≡ two_masters
  -- another address list: each refuses by 12
  pub list : exchanged nine (configured 0xC0A8010A 100 1 (192 ∷ (168 ∷ (1 ∷ (253 ∷ [])))) taken_over) ≡ two_masters
  -- a delivery that is missing: .9 has not heard .10
  pub missing : states_of (after_all 1 (nine ∷ (ten ∷ [])) (nine ∷ (ten ∷ [])) (deliver 0 1 ∷ [])) ≡ two_masters
