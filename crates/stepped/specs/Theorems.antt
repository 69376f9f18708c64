-- The theorems of this crate, as statements: each is proved under the same name in proofs/Theorems.antt.
use Rattle.std.specs.Prelude.{ℕ, ◌≡◌, List}
use Rattle.states.specs.declared.record.State.TheVariants.{Master}
use Rattle.station.specs.declared.station.Station.{Station}
use Rattle.station.specs.Station.{list_of, packet_of}
use Rattle.in_tables.specs.Tables.{WellFormed}
use Rattle.segment.specs.Segment.{router_of, addresses_of, primary_address, Reached, Stands, advertisement_of}
use Rattle.stepped.specs.Stepped.{table_of, Lived}

-- a station that was made and stepped is well formed
abbrev pub LivedWellFormed : Type 0
LivedWellFormed = (vrid interval : ℕ) (addresses : List ℕ) (s : Station) → Lived vrid interval addresses s → WellFormed s

-- what was configured stays: virtual router number, interval and addresses, the primary address, the priority, and preempt
abbrev pub LivedConfigured : Type 0
LivedConfigured =
    (vrid interval : ℕ) (addresses : List ℕ) (s : Station) (c : Lived vrid interval addresses s)
    → (s.router.vrid ≡ vrid) × (s.router.interval ≡ interval) × (list_of s ≡ addresses)
    × (s.primary ≡ c.primary) × (s.router.priority ≡ c.priority) × (s.router.preempt ≡ c.preempt)

-- "after any history": its table is one that calls have led to from an empty one
abbrev pub LivedReached : Type 0
LivedReached =
    (vrid interval : ℕ) (addresses : List ℕ) (s : Station) → Lived vrid interval addresses s → Reached (table_of s)

-- "with the same virtual router number, interval and address list": its table stands on the segment
abbrev pub LivedStands : Type 0
LivedStands =
    (vrid interval : ℕ) (addresses : List ℕ) (s : Station) → Lived vrid interval addresses s
    → Stands vrid interval addresses (table_of s)

-- what the table has of the segment's virtual router is the station's
abbrev pub LivedRouter : Type 0
LivedRouter =
    (vrid interval : ℕ) (addresses : List ℕ) (s : Station) → Lived vrid interval addresses s
    → (router_of vrid (table_of s) ≡ s.router) × (primary_address (table_of s) ≡ s.primary)
    × (addresses_of vrid (table_of s) ≡ addresses)

-- "the latest advertisement frame of from, less its 14 Ethernet bytes": a Master's is its advertisement
abbrev pub LastSent : Type 0
LastSent =
    (vrid interval : ℕ) (addresses : List ℕ) (s : Station) → Lived vrid interval addresses s → s.router.state ≡ Master
    → ¬ (s.sent ≡ 0) × (packet_of s ≡ advertisement_of vrid (table_of s))
