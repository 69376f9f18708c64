-- The advertisement that a station keeps reads back as what the station is.
-- Assumes nothing.
use mathlib.Core.Path.{◌≡◌, refl, ◌∙◌}
use mathlib.Core.List.{List}
use Prim.Native.Nat.{ℕ, ◌+◌, ◌*◌, ◌/◌, ◌<◌}
use native.Mathlib.Omega.{arith}
use lib.ListN.{length, take, drop}
use lib.Seq.{take_all, take_at}
use borrow.Author.Tests.{ne_eqb}
use Rattle.writing.specs.Frame.{message_of, frame_of}
use Rattle.writing.specs.Writing.{over}
use Rattle.writing.proofs.Writes.{Writable}
use Rattle.round_trip.proofs.RoundTrip.{reads_back}
use Rattle.states.specs.declared.record.Router.{Router}
use Rattle.states.specs.declared.step.Writes.{Writes}
use Rattle.states.specs.declared.step.Writes.TheVariants.{Nothing, Advertisement, Farewell, Takeover}
use Rattle.states.specs.declared.step.Outcome.{Outcome}
use Rattle.output.specs.Output.{arps_of, bytes_of, need_of}
use Rattle.output.proofs.Lengths.{frame_length}
use Rattle.events.specs.Lists.{their_list}
use Rattle.station.specs.declared.station.Station.{Station}
use Rattle.station.specs.Station.{list_of, packet_of}
use Rattle.station.specs.Acting.{written_by, needed_by, kept_by}
use Rattle.in_tables.specs.Latest.{advertised_priority}
use Rattle.in_tables.specs.Theorems.{LatestReadsBack}
use Rattle.station.proofs.Arrays.{list_length}
use Rattle.in_tables.proofs.Tables.{few}

-- the first 50 + 4n bytes of what is written are an advertisement frame
module _ (r : Router) (primary : ℕ) (list : List ℕ) where
  frame_first : (priority : ℕ)
      → take (50 + length list) (frame_of r.vrid priority r.interval primary list)
      ≡ frame_of r.vrid priority r.interval primary list
  frame_first priority =
      let frame = frame_of r.vrid priority r.interval primary list in
      take_all (50 + length list) frame (omega (arith, frame_length r.vrid priority r.interval primary list))

  pub advertisement_first : (writes : Writes) → ¬ (need_of writes (length list) ≡ 0)
      → take (50 + length list) (bytes_of writes r primary list)
      ≡ frame_of r.vrid (advertised_priority writes r.priority) r.interval primary list
  advertisement_first Nothing some = absurd (some refl)
  advertisement_first Advertisement some = frame_first r.priority
  advertisement_first Farewell some = frame_first 0
  advertisement_first Takeover some =
      take_at (frame_of r.vrid r.priority r.interval primary list) (arps_of r.vrid list) (50 + length list)
      (frame_length r.vrid r.priority r.interval primary list)

-- no priority is advertised that is not a byte
priority_byte : (writes : Writes) (priority : ℕ) → priority < 256 → advertised_priority writes priority < 256
priority_byte Nothing priority h = h
priority_byte Advertisement priority h = h
priority_byte Farewell priority h = omega arith
priority_byte Takeover priority h = h

-- what is delivered then is that frame less its 14 Ethernet bytes
kept_packet : (s : Station) (o : Outcome) (frame : List ℕ) → ¬ (needed_by s o ≡ 0)
    → take (50 + length (list_of s)) (written_by s o) ≡ frame
    → packet_of (kept_by s o) ≡ drop 14 (take (length frame) (over frame s.frame))
unfolding packet_of
kept_packet s o frame some first = rw (ne_eqb (needed_by s o) 0 some, first)

pub latest_reads_back : LatestReadsBack
unfolding their_list message_of
latest_reads_back s o w primary bytes v p i some =
    let list = list_of s in
    let r = s.router in
    let priority = advertised_priority o.writes r.priority in
    let frame = frame_of r.vrid priority r.interval s.primary list in
    let first : take (50 + length list) (written_by s o) ≡ frame =
    advertisement_first o.router s.primary list o.writes some ∙ rw (v, p, i) in
    let long = list_length s w.addresses in
    let writable : Writable list 114 = omega (arith, long, few s w, w.count) in
    let byte = priority_byte o.writes r.priority w.priority in
    let read = reads_back r.vrid priority r.interval s.primary 114 list w.vrid byte w.interval primary
    bytes writable (length frame) s.frame (over frame s.frame)
    (frame_length r.vrid priority r.interval s.primary list) refl in
    let count : length list / 4 ≡ r.count = omega (arith, long, few s w) in
    let fours : 4 * r.count ≡ length list = omega (arith, long, few s w) in
    rw (kept_packet s o frame some first, fours) (rw count at read.0, read.1)
