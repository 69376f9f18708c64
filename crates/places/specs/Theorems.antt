-- The theorems of this crate, as statements: each is proved under the same name in proofs/Theorems.antt.
use Rattle.std.specs.Prelude.{◌≡◌, ℕ, ◌<◌, List, length, ◌≢◌}
use Rattle.states.specs.declared.record.Router.{Router}
use Rattle.places.specs.Layout.{decode_of, encode_of, InRange}
use Rattle.places.specs.Place.{record_at, set_record, set_event}

-- what was encoded decodes to the record
abbrev pub EncodedDecodes : Type 0
EncodedDecodes = (r : Router) → InRange r → decode_of (encode_of r) ≡ r

-- whatever the words, a decoded record is in range
abbrev pub DecodedInRange : Type 0
DecodedInRange = (s : List ℕ) → InRange (decode_of s)

-- the record that is stored at a place is read back there
abbrev pub StoredReadsBack : Type 0
StoredReadsBack =
    (words : List ℕ) (place : ℕ) (r : Router) → length words ≡ 4096 → place < 255 → InRange r
    → record_at (set_record words place r) place ≡ r

-- every other place keeps its own
abbrev pub OthersKeepTheirs : Type 0
OthersKeepTheirs =
    (words : List ℕ) (place other : ℕ) (r : Router) → length words ≡ 4096 → place < 255 → (other ≢ place)
    → record_at (set_record words place r) other ≡ record_at words other

-- what an event stores is read back: its state, its timer and the counts accepted and became; all else is the old record's
abbrev pub with_event : Router → Router → Router
with_event old r =
    record {
      vrid = old.vrid;
      priority = old.priority;
      interval = old.interval;
      preempt = old.preempt;
      state = r.state;
      timer = r.timer;
      count = old.count;
      counts =
          record {
            accepted = r.counts.accepted;
            became = r.counts.became;
            owner = old.counts.owner;
            authentication = old.counts.authentication;
            list = old.counts.list;
            interval = old.counts.interval;
          };
    }

abbrev pub EventReadsBack : Type 0
EventReadsBack =
    (words : List ℕ) (place : ℕ) (r : Router) → length words ≡ 4096 → place < 255
    → record_at (set_event words place r) place ≡ with_event (record_at words place) r

-- and every other place keeps its own
abbrev pub EventLeavesOthers : Type 0
EventLeavesOthers =
    (words : List ℕ) (place other : ℕ) (r : Router) → (other ≢ place)
    → record_at (set_event words place r) other ≡ record_at words other
