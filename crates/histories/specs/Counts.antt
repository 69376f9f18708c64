-- The counts of a virtual router over a history (01, 'Counts').
use Rattle.std.specs.Prelude.{ℕ, ◌+◌, ◌%◌, ◌^◌, List, [], ◌∷◌, Bool, true, false, cond, not, ◌&&◌, eqb, Some, None, Ok, Err}
use Rattle.judging.specs.Judging.{Judged, judged_of}
use Rattle.states.specs.declared.record.State.{State}
use Rattle.states.specs.declared.record.State.TheVariants.{Initialize, Backup, Master}
use Rattle.states.specs.declared.record.Counts.{Counts}
use Rattle.places.specs.Place.{Found, record_at, place_of}
use Rattle.events.specs.Result.{router_place}
use Rattle.events.specs.Events.{asked_of}
use Rattle.configuring.specs.Configuring.{no_counts, configure_refusal, remove_refusal}
use Rattle.packets.specs.Packets.{heard_of}
use Rattle.histories.specs.Histories.{Call, configure, remove, startup, shutdown, clock, packet, Memory, called}

-- "times it became Master": it was not, and is
abbrev pub is_master : State → Bool
is_master Initialize = false
is_master Backup = false
is_master Master = true

abbrev pub becomes : State → State → Bool
becomes before after = not (is_master before) && is_master after

-- whether what was found is this place
abbrev pub is_at : Found → ℕ → Bool
is_at None place = false
is_at (Some found) place = eqb found place

-- the place of the router that a packet is for
abbrev pub addressee : List ℕ → Judged → Found
addressee words (Err number) = None
addressee words (Ok fields) = router_place words fields.vrid

-- whether a call is a packet for the router at a place, answered by this number; 0 is "accepted"
abbrev pub hears : ℕ → Memory → Call → ℕ → Bool
hears place m (configure vrid priority interval preempt addresses) number = false
hears place m (remove vrid) number = false
hears place m (startup vrid room) number = false
hears place m (shutdown vrid room) number = false
hears place m (clock vrid ticks room) number = false
hears place m (packet bytes room) number =
    is_at (addressee m.words (judged_of bytes)) place
    && eqb (heard_of m.words m.lists bytes room).answer.number number

-- whether the router at a place becomes Master by a call
abbrev pub becomes_master : ℕ → Memory → Call → Bool
becomes_master place m call = becomes (record_at m.words place).state (record_at (called m call).words place).state

-- "starts .. with counts at 0": whether a call configures a router at a place, or frees the place
abbrev pub begins : ℕ → Memory → Call → Bool
begins place m (configure vrid priority interval preempt addresses) =
    eqb (configure_refusal m.words vrid priority interval addresses) 0 && is_at (place_of m.words 0) place
begins place m (remove vrid) = eqb (remove_refusal m.words vrid) 0 && is_at (router_place m.words vrid) place
begins place m (startup vrid room) = false
begins place m (shutdown vrid room) = false
begins place m (clock vrid ticks room) = false
begins place m (packet bytes room) = false

-- one more where an event happened
abbrev pub more : Bool → ℕ → ℕ
more event n = n + cond event 1 0

-- the numbers of events after one more call
abbrev pub tallied : ℕ → Memory → Call → Counts → Counts
tallied place m call n =
    cond (begins place m call) no_counts
    (record {
      accepted = more (hears place m call 0) n.accepted;
      became = more (becomes_master place m call) n.became;
      owner = more (hears place m call 10) n.owner;
      authentication = more (hears place m call 11) n.authentication;
      list = more (hears place m call 12) n.list;
      interval = more (hears place m call 13) n.interval;
    })

-- and after a history
abbrev pub tally_of : ℕ → Memory → List Call → Counts → Counts
tally_of place m [] n = n
tally_of place m (call ∷ rest) n = tally_of place (called m call) rest (tallied place m call n)

-- "32-bit counters that go from 4,294,967,295 to 0"
abbrev pub modulo : Counts → Counts
modulo n =
    record {
      accepted = n.accepted % 2 ^ 32;
      became = n.became % 2 ^ 32;
      owner = n.owner % 2 ^ 32;
      authentication = n.authentication % 2 ^ 32;
      list = n.list % 2 ^ 32;
      interval = n.interval % 2 ^ 32;
    }

-- The same by VRID, as a question tells the counts.

-- whether a judged packet is for a virtual router
abbrev pub is_for : ℕ → Judged → Bool
is_for vrid (Err number) = false
is_for vrid (Ok fields) = eqb fields.vrid vrid

-- whether a call is a packet for a virtual router, answered by this number; 0 is "accepted"
abbrev pub hears_by : ℕ → Memory → Call → ℕ → Bool
hears_by vrid m (configure v priority interval preempt addresses) number = false
hears_by vrid m (remove v) number = false
hears_by vrid m (startup v room) number = false
hears_by vrid m (shutdown v room) number = false
hears_by vrid m (clock v ticks room) number = false
hears_by vrid m (packet bytes room) number =
    is_for vrid (judged_of bytes) && eqb (heard_of m.words m.lists bytes room).answer.number number

-- whether a virtual router becomes Master by a call
abbrev pub becomes_master_by : ℕ → Memory → Call → Bool
becomes_master_by vrid m call =
    becomes (asked_of m.words vrid).router.state (asked_of (called m call).words vrid).router.state

-- whether a call configures or removes a virtual router
abbrev pub begins_by : ℕ → Memory → Call → Bool
begins_by vrid m (configure v priority interval preempt addresses) =
    eqb v vrid && eqb (configure_refusal m.words v priority interval addresses) 0
begins_by vrid m (remove v) = eqb v vrid && eqb (remove_refusal m.words v) 0
begins_by vrid m (startup v room) = false
begins_by vrid m (shutdown v room) = false
begins_by vrid m (clock v ticks room) = false
begins_by vrid m (packet bytes room) = false

-- the numbers of events after one more call
abbrev pub tallied_by : ℕ → Memory → Call → Counts → Counts
tallied_by vrid m call n =
    cond (begins_by vrid m call) no_counts
    (record {
      accepted = more (hears_by vrid m call 0) n.accepted;
      became = more (becomes_master_by vrid m call) n.became;
      owner = more (hears_by vrid m call 10) n.owner;
      authentication = more (hears_by vrid m call 11) n.authentication;
      list = more (hears_by vrid m call 12) n.list;
      interval = more (hears_by vrid m call 13) n.interval;
    })

-- and after a history
abbrev pub tally_by : ℕ → Memory → List Call → Counts → Counts
tally_by vrid m [] n = n
tally_by vrid m (call ∷ rest) n = tally_by vrid (called m call) rest (tallied_by vrid m call n)
