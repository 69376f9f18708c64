-- The theorems that specs/Theorems.antt states.
-- Assumes nothing.
use Rattle.places.specs.Theorems.{EncodedDecodes, DecodedInRange, StoredReadsBack, OthersKeepTheirs}
use Rattle.places.specs.Theorems.{EventReadsBack, EventLeavesOthers}
use Rattle.places.proofs.Beside.{beside_record}
use Rattle.places.proofs.Events.{event_beside, event_back}
use Rattle.places.proofs.Records.{decode_encode, decode_in_range, record_same, record_other}

pub encoded_decodes : EncodedDecodes
encoded_decodes = decode_encode

pub decoded_in_range : DecodedInRange
decoded_in_range = decode_in_range

pub stored_reads_back : StoredReadsBack
stored_reads_back words place r long below = record_same words place r below long

pub others_keep_theirs : OthersKeepTheirs
others_keep_theirs words place other r long below = record_other words place r below long other

pub event_reads_back : EventReadsBack
event_reads_back words place r long below = event_back words place r below long

pub event_leaves_others : EventLeavesOthers
event_leaves_others words place other r = beside_record place words _ (event_beside words place r) other
