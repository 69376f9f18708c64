-- The latest advertisement frame of a station: when it is kept, and what it says (01, 'The rehearsal program').
use Rattle.std.specs.Prelude.{ℕ, ◌+◌, ◌≡◌, length, take}
use Rattle.judging.specs.declared.Fields.{Fields}
use Rattle.states.specs.declared.step.Writes.{Writes}
use Rattle.states.specs.declared.step.Writes.TheVariants.{Nothing, Advertisement, Farewell, Takeover}
use Rattle.station.specs.declared.station.Station.{Station}
use Rattle.station.specs.Station.{Result, list_of}

-- what a step leaves of a station's addresses, and so of the table's lists, and of its latest advertisement frame
pub record Keeps (s : Station) (r : Result) : Type 0 where
  pub addresses : r.station.addresses ≡ s.addresses
  -- where anything is written, the frame is what stands at the start of the room
  pub written : ¬ (r.answer.written ≡ 0)
      → (r.station.sent ≡ 50 + length (list_of s))
      × (take r.station.sent r.station.frame ≡ take r.station.sent r.room)
  -- and else it stays
  pub silent : r.answer.written ≡ 0
      → (r.station.sent ≡ s.sent) × (r.station.frame ≡ s.frame)

-- the priority of an advertisement: "advertise with priority 0" where a Master shuts down
abbrev pub advertised_priority : Writes → ℕ → ℕ
advertised_priority Nothing priority = priority
advertised_priority Advertisement priority = priority
advertised_priority Farewell priority = 0
advertised_priority Takeover priority = priority

-- what an advertisement of a station says
abbrev pub advertised : Station → Writes → Fields
advertised s writes =
    record {
      source = s.primary;
      vrid = s.router.vrid;
      priority = advertised_priority writes s.router.priority;
      count = s.router.count;
      authentication = 0;
      interval = s.router.interval;
      list = 28;
    }
