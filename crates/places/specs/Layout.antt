-- How a router's record lies in 16 words. Every word decodes, so any memory is a table.
use Rattle.std.specs.Prelude.{ℕ, ◌%◌, ◌<◌, Bool, cond, List, [], ◌∷◌, ◌==◌, slice_index}
use Rattle.states.specs.declared.record.State.{State}
use Rattle.states.specs.declared.record.State.TheVariants.{Initialize, Backup, Master}
use Rattle.states.specs.declared.record.Counts.{Counts}
use Rattle.states.specs.declared.record.Router.{Router}
use Rattle.states.specs.Step.{state_number}

-- yes is 1; every word but 1 is no
abbrev pub flag_of : Bool → ℕ
flag_of b = cond b 1 0

-- Initialize, Backup and Master are 0, 1 and 2; every word past 1 is Master
abbrev pub state_of : ℕ → State
state_of word = cond (word == 0) Initialize (cond (word == 1) Backup Master)

-- the counts in words 7 to 12
abbrev pub counts_in : List ℕ → Counts
counts_in s =
    record {
      accepted = slice_index s 7;
      became = slice_index s 8;
      owner = slice_index s 9;
      authentication = slice_index s 10;
      list = slice_index s 11;
      interval = slice_index s 12;
    }

-- the record that 16 words hold
unfoldable pub decode_of : List ℕ → Router
decode_of s =
    record {
      vrid = slice_index s 0 % 256;
      priority = slice_index s 1 % 256;
      interval = slice_index s 2 % 256;
      preempt = (slice_index s 3 == 1);
      state = state_of (slice_index s 4);
      timer = slice_index s 5;
      count = slice_index s 6 % 17;
      counts = counts_in s;
    }

-- the 16 words of a record
unfoldable pub encode_of : Router → List ℕ
encode_of r =
    r.vrid
    ∷ (r.priority
    ∷ (r.interval
    ∷ (flag_of r.preempt
    ∷ (state_number r.state
    ∷ (r.timer
    ∷ (r.count
    ∷ (r.counts.accepted
    ∷ (r.counts.became
    ∷ (r.counts.owner
    ∷ (r.counts.authentication
    ∷ (r.counts.list ∷ (r.counts.interval ∷ (0 ∷ (0 ∷ (0 ∷ [])))))))))))))))

-- a record whose bytes are bytes, with at most 16 addresses: "VRID, priority and interval come as bytes"
pub record InRange (r : Router) : Type 0 where
  pub vrid : r.vrid < 256
  pub priority : r.priority < 256
  pub interval : r.interval < 256
  pub count : r.count < 17
