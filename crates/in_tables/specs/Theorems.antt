-- The theorems of this crate, as statements: each is proved under the same name in proofs/, those of the table in
-- Theorems.antt, of making a station in Begun.antt, of what steps keep in Keeping.antt and Staying.antt,
-- of reading back in ReadBack.antt.
use Rattle.std.specs.Prelude.{ℕ, ◌^◌, ◌<◌, ◌≡◌, List, Bool, eqb, replicate, None, Ok}
use Rattle.sums.specs.Sum.{Bytes}
use Rattle.judging.specs.Judging.{judged_of}
use Rattle.states.specs.declared.step.Event.{Event}
use Rattle.states.specs.declared.step.Outcome.{Outcome}
use Rattle.events.specs.Lists.{their_list}
use Rattle.events.specs.Result.{router_place}
use Rattle.configuring.specs.Configuring.{empty_of, configure_refusal, configured_words, configured_lists}
use Rattle.events.specs.Events.{happened_of, clocked_of}
use Rattle.packets.specs.Packets.{heard_of}
use Rattle.station.specs.declared.station.Station.{Station}
use Rattle.station.specs.declared.station.Stepped.{Stepped}
use Rattle.station.specs.Station.{Result, Leaves, has_router, list_of, packet_of}
use Rattle.station.specs.Making.{Made, Makes, station_refusal, made_of}
use Rattle.station.specs.Acting.{needed_by, kept_by}
use Rattle.hearing.specs.Hearing.{heard_by}
use Rattle.steps.specs.Steps.{happened_to, clocked_by, delivered_to}
use Rattle.in_tables.specs.Latest.{Keeps, advertised}
use Rattle.in_tables.specs.Tables.{words_of, lists_of, in_table, WellFormed}

-- two outcomes that the promise of a step allows are equal
abbrev pub OneStep : Type 0
OneStep =
    (result : Result) (a b : Stepped) (room other : List ℕ) → Leaves result a room → Leaves result b other
    → (a ≡ b) × (room ≡ other)

-- the same of making a station
abbrev pub OneMaking : Type 0
OneMaking = (made : Made) (a b : Stepped) → Makes made a → Makes made b → a ≡ b

-- "Each station is a table of one router": startup and shutdown leave what the table's call leaves
abbrev pub EventInTable : Type 0
EventInTable =
    (s : Station) (event : Event) (room : List ℕ) → WellFormed s
    → happened_of (words_of s) (lists_of s) s.router.vrid event room ≡ in_table (happened_to s event room)

-- and a clock step
abbrev pub ClockInTable : Type 0
ClockInTable =
    (s : Station) (ticks : ℕ) (room : List ℕ) → WellFormed s
    → clocked_of (words_of s) (lists_of s) s.router.vrid ticks room ≡ in_table (clocked_by s ticks room)

-- and a packet
abbrev pub PacketInTable : Type 0
PacketInTable =
    (s : Station) (packet room : List ℕ) → WellFormed s
    → heard_of (words_of s) (lists_of s) packet room ≡ in_table (heard_by s packet room)

-- and a delivery, where anything was sent
abbrev pub DeliveryInTable : Type 0
DeliveryInTable =
    (from to : Station) (room : List ℕ) → WellFormed to → ¬ (from.sent ≡ 0)
    → heard_of (words_of to) (lists_of to) (packet_of from) room ≡ in_table (delivered_to from to room)

-- "a table of one router", or of none: where the number is 0, no virtual router is found in it
abbrev pub NoneInTable : Type 0
NoneInTable =
    (s : Station) (vrid : ℕ) → WellFormed s → s.router.vrid ≡ 0 → router_place (words_of s) vrid ≡ None

-- a station just configured is the empty table with that router configured, and is refused by the same number
abbrev pub MadeInTable : Type 0
MadeInTable =
    (vrid priority interval : ℕ) (preempt : Bool) (primary : ℕ) (addresses : List ℕ)
    → ((made_of vrid priority interval preempt primary addresses).answer.number
    ≡ configure_refusal (empty_of primary) vrid priority interval addresses)
    × (words_of (made_of vrid priority interval preempt primary addresses).station
    ≡ configured_words (empty_of primary) vrid priority interval preempt addresses)
    × (lists_of (made_of vrid priority interval preempt primary addresses).station
    ≡ configured_lists (empty_of primary) (replicate 16320 0) vrid priority interval addresses)

-- it has a router exactly where it was not refused; where it was, it is the empty table
abbrev pub RefusedStation : Type 0
RefusedStation =
    (vrid priority interval : ℕ) (preempt : Bool) (primary : ℕ) (addresses : List ℕ)
    → (has_router (made_of vrid priority interval preempt primary addresses).station
    ≡ eqb (station_refusal vrid priority interval addresses) 0)
    × (¬ (station_refusal vrid priority interval addresses ≡ 0)
    → (words_of (made_of vrid priority interval preempt primary addresses).station ≡ empty_of primary)
    × (lists_of (made_of vrid priority interval preempt primary addresses).station ≡ replicate 16320 0))

-- "the latest advertisement frame of from": startup and shutdown
abbrev pub EventKeeps : Type 0
EventKeeps = (s : Station) (event : Event) (room : List ℕ) → Keeps s (happened_to s event room)

-- and a clock step
abbrev pub ClockKeeps : Type 0
ClockKeeps = (s : Station) (ticks : ℕ) (room : List ℕ) → Keeps s (clocked_by s ticks room)

-- and a packet, delivered ones among them
abbrev pub PacketKeeps : Type 0
PacketKeeps = (s : Station) (packet room : List ℕ) → Keeps s (heard_by s packet room)

-- "each advertisement we write reads back": the packet that is delivered after an outcome that writes, and that leaves
-- the router configured as it was
abbrev pub LatestReadsBack : Type 0
LatestReadsBack =
    (s : Station) (o : Outcome) → WellFormed s → s.primary < 2 ^ 32 → Bytes (list_of s)
    → o.router.vrid ≡ s.router.vrid → o.router.priority ≡ s.router.priority
    → o.router.interval ≡ s.router.interval → ¬ (needed_by s o ≡ 0)
    → (judged_of (packet_of (kept_by s o)) ≡ Ok (advertised s o.writes))
    × (their_list (packet_of (kept_by s o)) (advertised s o.writes) ≡ list_of s)

-- a well formed station stays so: startup and shutdown
abbrev pub EventStays : Type 0
EventStays =
    (s : Station) (event : Event) (room : List ℕ) → WellFormed s → WellFormed (happened_to s event room).station

-- and a clock step
abbrev pub ClockStays : Type 0
ClockStays = (s : Station) (ticks : ℕ) (room : List ℕ) → WellFormed s → WellFormed (clocked_by s ticks room).station

-- and a packet
abbrev pub PacketStays : Type 0
PacketStays = (s : Station) (packet room : List ℕ) → WellFormed s → WellFormed (heard_by s packet room).station

-- and is well formed from the start, refused or not: "VRID, priority and interval come as bytes"
abbrev pub MadeWellFormed : Type 0
MadeWellFormed =
    (vrid priority interval : ℕ) (preempt : Bool) (primary : ℕ) (addresses : List ℕ) → vrid < 256 → priority < 256
    → interval < 256 → WellFormed (made_of vrid priority interval preempt primary addresses).station
