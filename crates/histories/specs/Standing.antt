-- What was configured, and which calls remove it (01, 'The table').
use Rattle.std.specs.Prelude.{ℕ, ◌/◌, ◌≡◌, List, [], ◌∷◌, Bool, false, ◌&&◌, eqb, length, Some}
use Rattle.places.specs.Place.{record_at}
use Rattle.events.specs.Lists.{list_at}
use Rattle.events.specs.Result.{router_place}
use Rattle.configuring.specs.Configuring.{remove_refusal}
use Rattle.histories.specs.Histories.{Call, configure, remove, startup, shutdown, clock, packet, Memory, called}

-- a virtual router stands in the table as it was configured
pub record Standing (m : Memory) (vrid priority interval : ℕ) (preempt : Bool) (addresses : List ℕ) : Type 0 where
  pub place : ℕ
  pub found : router_place m.words vrid ≡ Some place
  pub priority_is : (record_at m.words place).priority ≡ priority
  pub interval_is : (record_at m.words place).interval ≡ interval
  pub preempt_is : (record_at m.words place).preempt ≡ preempt
  pub count_is : (record_at m.words place).count ≡ length addresses / 4
  pub addresses_are : list_at m.lists place (record_at m.words place).count ≡ addresses

-- whether a call removes a virtual router: "Removing frees the place"
abbrev pub removes : ℕ → Memory → Call → Bool
removes vrid m (configure v priority interval preempt addresses) = false
removes vrid m (remove v) = eqb v vrid && eqb (remove_refusal m.words v) 0
removes vrid m (startup v room) = false
removes vrid m (shutdown v room) = false
removes vrid m (clock v ticks room) = false
removes vrid m (packet bytes room) = false

-- no call of a history does
abbrev pub NotRemoved : ℕ → Memory → List Call → Type 0
NotRemoved vrid m [] = Unit
NotRemoved vrid m (call ∷ rest) = (removes vrid m call ≡ false) × NotRemoved vrid (called m call) rest
