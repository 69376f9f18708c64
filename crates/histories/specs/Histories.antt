-- Histories of calls from an empty table, and what holds after every one of them.
use Rattle.std.specs.Prelude.{ℕ, ◌+◌, ◌≤◌, ◌<◌, ◌≡◌, List, [], ◌∷◌, Bool, cond, eqb, get_or}
use Rattle.sums.specs.Sum.{Bytes}
use Rattle.states.specs.declared.step.Event.TheVariants.{Startup, Shutdown}
use Rattle.router.specs.Timed.{Timed}
use Rattle.places.specs.Place.{base_of, record_at}
use Rattle.configuring.specs.Configuring.{empty_of, configured_words, configured_lists, removed_words}
use Rattle.events.specs.Events.{happened_of, clocked_of}
use Rattle.packets.specs.Packets.{heard_of}

-- a call as a host makes it: rooms are bytes, and so are packets
pub data Call : Type 0 where
  configure : (vrid priority interval : ℕ) (preempt : Bool) (addresses : List ℕ) → Call
  remove : (vrid : ℕ) → Call
  startup : (vrid : ℕ) (room : List ℕ) → Call
  shutdown : (vrid : ℕ) (room : List ℕ) → Call
  clock : (vrid ticks : ℕ) (room : List ℕ) → Call
  packet : (bytes room : List ℕ) → Call

-- "VRID, priority and interval come as bytes", and so do addresses
abbrev pub Given : Call → Type 0
Given (configure vrid priority interval preempt addresses) =
    (vrid < 256) × (priority < 256) × (interval < 256) × Bytes addresses
Given (remove vrid) = Unit
Given (startup vrid room) = Unit
Given (shutdown vrid room) = Unit
Given (clock vrid ticks room) = Unit
Given (packet bytes room) = Unit

-- the words of a table and its address lists
pub record Memory : Type 0 where
  pub words : List ℕ
  pub lists : List ℕ

-- what one call leaves
abbrev pub called : Memory → Call → Memory
called m (configure vrid priority interval preempt addresses) =
    record {
      words = configured_words m.words vrid priority interval preempt addresses;
      lists = configured_lists m.words m.lists vrid priority interval addresses;
    }
called m (remove vrid) = record { words = removed_words m.words vrid; lists = m.lists }
called m (startup vrid room) =
    record { words = (happened_of m.words m.lists vrid Startup room).words; lists = m.lists }
called m (shutdown vrid room) =
    record { words = (happened_of m.words m.lists vrid Shutdown room).words; lists = m.lists }
called m (clock vrid ticks room) = record { words = (clocked_of m.words m.lists vrid ticks room).words; lists = m.lists }
called m (packet bytes room) = record { words = (heard_of m.words m.lists bytes room).words; lists = m.lists }

-- what a history leaves, the first call first
abbrev pub after : Memory → List Call → Memory
after m [] = m
after m (call ∷ rest) = after (called m call) rest

-- an empty table, with whatever stands in the lists
abbrev pub begun : ℕ → List ℕ → Memory
begun primary lists = record { words = empty_of primary; lists = lists }

-- every call of a history is given bytes
abbrev pub GivenAll : List Call → Type 0
GivenAll [] = Unit
GivenAll (call ∷ rest) = Given call × GivenAll rest

-- "VRID 1 to 255, unique in the table": two places with one first word are free
abbrev pub Unique : List ℕ → Type 0
Unique words =
    (p q : ℕ) → p < 255 → q < 255 → (p ≡ q → ⊥) → get_or words (base_of p) 0 ≡ get_or words (base_of q) 0
    → get_or words (base_of p) 0 ≡ 0

-- what holds of a place's record and its first word
pub record Sound (words : List ℕ) (p : ℕ) : Type 0 where
  -- the first word is the VRID
  pub named : get_or words (base_of p) 0 ≡ (record_at words p).vrid
  -- a timer runs exactly in Backup and Master, is then at least 1, and at most what the formulas allow
  pub timed : Timed (record_at words p)
  -- a router in use has an interval and a priority of at least 1, and "1 to 16 virtual addresses"
  pub configured : (get_or words (base_of p) 0 ≡ 0 → ⊥) → (1 ≤ (record_at words p).interval) × (1 ≤ (record_at words p).priority)
      × (1 ≤ (record_at words p).count) × ((record_at words p).count ≤ 16)
  -- a free place holds nothing
  pub free : get_or words (base_of p) 0 ≡ 0 → (k : ℕ) → k < 16 → get_or words (base_of p + k) 0 ≡ 0

-- 1 where a call is a packet that is answered by this number, else 0
abbrev pub answered_by : ℕ → Memory → Call → ℕ
answered_by number m (configure vrid priority interval preempt addresses) = 0
answered_by number m (remove vrid) = 0
answered_by number m (startup vrid room) = 0
answered_by number m (shutdown vrid room) = 0
answered_by number m (clock vrid ticks room) = 0
answered_by number m (packet bytes room) =
    cond (eqb (heard_of m.words m.lists bytes room).answer.number number) 1 0

-- how many packets of a history are answered by a number
abbrev pub refusals_in : ℕ → Memory → List Call → ℕ
refusals_in number m [] = 0
refusals_in number m (call ∷ rest) = answered_by number m call + refusals_in number (called m call) rest
