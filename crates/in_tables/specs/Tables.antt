-- "Each station is a table of one router": that table (01, 'The rehearsal program', 'The table').
use Rattle.std.specs.Prelude.{ℕ, ◌<◌, ◌≡◌, List, ◌∷◌, ◌++◌, length, replicate}
use Rattle.places.specs.Layout.{encode_of}
use Rattle.events.specs.Result.{Result as TableResult}
use Rattle.station.specs.declared.station.Station.{Station}
use Rattle.station.specs.Station.{Result}

-- the interface's 16 words: the primary address, and a count of each of refusals 1 to 9
abbrev pub interface_of : Station → List ℕ
interface_of s = s.primary ∷ (s.refusals ++ replicate 6 0)

-- the words of the table: the router has the first place, and the other 254 are free
unfoldable pub words_of : Station → List ℕ
words_of s = interface_of s ++ (encode_of s.router ++ replicate 4064 0)

-- and its address lists: 64 bytes for each place
unfoldable pub lists_of : Station → List ℕ
lists_of s = s.addresses ++ replicate 16256 0

-- what a step leaves, as a call of the table leaves it
abbrev pub in_table : Result → TableResult
in_table r = record { answer = r.answer; words = words_of r.station; room = r.room }

-- a station whose table holds it: its bytes are bytes ("VRID, priority and interval come as bytes"), it has at most 16
-- virtual addresses in 64 bytes, and 9 counts of refusals. Where its VRID is 0 it has no router
pub record WellFormed (s : Station) : Type 0 where
  pub vrid : s.router.vrid < 256
  pub priority : s.router.priority < 256
  pub interval : s.router.interval < 256
  pub count : s.router.count < 17
  pub refusals : length s.refusals ≡ 9
  pub addresses : length s.addresses ≡ 64
