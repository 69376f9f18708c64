-- The state-by-event table (01, 'State by event').
use Rattle.std.specs.Prelude.{ℕ, ◌+◌, ◌%◌, ◌^◌, Bool, cond, not, ◌&&◌, ◌||◌, ◌==◌, nat_le, nat_lt}
use Rattle.states.specs.declared.record.State.{State}
use Rattle.states.specs.declared.record.State.TheVariants.{Initialize, Backup, Master}
use Rattle.states.specs.declared.record.Counts.{Counts}
use Rattle.states.specs.declared.record.Router.{Router}
use Rattle.states.specs.declared.step.Event.{Event}
use Rattle.states.specs.declared.step.Event.TheVariants.{Startup, Shutdown, Timer, Packet}
use Rattle.states.specs.declared.step.Writes.{Writes}
use Rattle.states.specs.declared.step.Writes.TheVariants.{Nothing, Advertisement, Farewell, Takeover}
use Rattle.states.specs.declared.step.Outcome.{Outcome}
use Rattle.states.specs.Timers.{skew_of, master_down_of, advertisement_interval_of}

-- the numbers by which the code's one match goes
abbrev pub state_number : State → ℕ
state_number Initialize = 0
state_number Backup = 1
state_number Master = 2

abbrev pub event_number : Event → ℕ
event_number Startup = 0
event_number Shutdown = 1
event_number Timer = 2
event_number (Packet priority source) = 3

-- the priority that an event turns on: a packet's own, else the router's
abbrev pub event_priority : Event → ℕ → ℕ
event_priority Startup ours = ours
event_priority Shutdown ours = ours
event_priority Timer ours = ours
event_priority (Packet priority source) ours = priority

abbrev pub event_source : Event → ℕ
event_source Startup = 0
event_source Shutdown = 0
event_source Timer = 0
event_source (Packet priority source) = source

-- "32-bit counters that go from 4,294,967,295 to 0"
abbrev pub counted : ℕ → ℕ
counted count = (count + 1) % 2 ^ 32

-- the record with another state and timer
abbrev pub with_state : Router → State → ℕ → Router
with_state r state timer =
    record {
      vrid = r.vrid;
      priority = r.priority;
      interval = r.interval;
      preempt = r.preempt;
      state = state;
      timer = timer;
      count = r.count;
      counts = r.counts;
    }

-- the record with other counts
abbrev pub with_counts : Router → Counts → Router
with_counts r counts =
    record {
      vrid = r.vrid;
      priority = r.priority;
      interval = r.interval;
      preempt = r.preempt;
      state = r.state;
      timer = r.timer;
      count = r.count;
      counts = counts;
    }

-- one more time that it became Master
abbrev pub became_master : Counts → Counts
became_master c =
    record {
      accepted = c.accepted;
      became = counted c.became;
      owner = c.owner;
      authentication = c.authentication;
      list = c.list;
      interval = c.interval;
    }

-- "change no state or timer": nothing happens
abbrev pub stays : Router → Outcome
stays r = record { router = r; writes = Nothing }

-- another state and timer, and what is written
abbrev pub enters : Router → State → ℕ → Writes → Outcome
enters r state timer writes = record { router = with_state r state timer; writes = writes }

-- "timer = master down interval, Backup"
abbrev pub waits : Router → Outcome
waits r = enters r Backup (master_down_of r.priority r.interval) Nothing

-- "timer = skew", in Backup
abbrev pub hurries : Router → Outcome
hurries r = enters r Backup (skew_of r.priority) Nothing

-- "no timer, Initialize"
abbrev pub stops : Router → Writes → Outcome
stops r writes = enters r Initialize 0 writes

-- "advertise, timer 256A", in Master
abbrev pub advertises : Router → Outcome
advertises r = enters r Master (advertisement_interval_of r.interval) Advertisement

-- "advertise, ARP for each address, timer 256A, Master", which counts
abbrev pub takes_over : Router → Outcome
takes_over r = enters (with_counts r (became_master r.counts)) Master (advertisement_interval_of r.interval) Takeover

-- "A packet beats us when its priority is above P, or equal to P with a source address above our primary address"
abbrev pub beats : ℕ → Router → ℕ → ℕ → Bool
beats primary r priority source = nat_lt r.priority priority || (priority == r.priority && nat_lt primary source)

-- Backup: "if preempt is no or packet priority >= P, timer = master down interval; else nothing"
abbrev pub heard_by_backup : Router → ℕ → Outcome
heard_by_backup r priority = cond (not r.preempt || nat_le r.priority priority) (waits r) (stays r)

-- Master: "packet beats us: timer = master down interval, Backup; other packet: nothing"
abbrev pub heard_by_master : ℕ → Router → ℕ → ℕ → Outcome
heard_by_master primary r priority source = cond (beats primary r priority source) (waits r) (stays r)

-- the table, row by row in 01's order; what is in no row changes nothing
abbrev pub step_in : State → Event → ℕ → Router → Outcome
step_in Initialize Startup primary r = cond (r.priority == 255) (takes_over r) (waits r)
step_in Initialize Shutdown primary r = stays r
step_in Initialize Timer primary r = stays r
step_in Initialize (Packet priority source) primary r = stays r
step_in Backup Startup primary r = stays r
step_in Backup Shutdown primary r = stops r Nothing
step_in Backup Timer primary r = takes_over r
step_in Backup (Packet priority source) primary r = cond (priority == 0) (hurries r) (heard_by_backup r priority)
step_in Master Startup primary r = stays r
step_in Master Shutdown primary r = stops r Farewell
step_in Master Timer primary r = advertises r
step_in Master (Packet priority source) primary r = cond (priority == 0) (advertises r) (heard_by_master primary r priority source)

-- one event on one router
unfoldable pub step_of : ℕ → Router → Event → Outcome
step_of primary r event = step_in r.state event primary r
