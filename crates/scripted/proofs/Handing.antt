-- Deliveries from the Masters of a moment: none is refused, and the stations' tables are what the tables' calls leave.
-- Assumes nothing.
use mathlib.Core.Path.{◌≡◌, refl, sym, ap, ◌∙◌}
use mathlib.Core.Logic.{◌⊎◌, inl, inr}
use mathlib.Core.Bool.{true}
use mathlib.Core.List.{List, [], ◌∷◌, map}
use Prim.Native.Nat.{ℕ, ◌≤◌, ◌<◌}
use native.Mathlib.Omega.{arith}
use lib.ListN.{length, get_or, set, take, drop, length-set}
use lib.Seq.{get_or-set_same, get_or-set_other}
use borrow.Author.Tests.{lt-ltb, le-ltb, ne_eqb}
use Rattle.std.proofs.lemmas.Bool.{cases_eq}
use Rattle.writing.specs.Frame.{frame_of}
use Rattle.states.specs.declared.record.State.TheVariants.{Master}
use Rattle.events.specs.Result.{Result as TableResult}
use Rattle.histories.specs.Histories.{packet, Memory, called, begun}
use Rattle.segment.specs.Segment.{advertisement_of, after_all, handed_over}
use Rattle.segment.specs.Segment.{Delivery as TableDelivery}
use Rattle.station.specs.declared.station.Station.{Station}
use Rattle.station.specs.Station.{packet_of}
use Rattle.hearing.specs.Hearing.{heard_by}
use Rattle.in_tables.specs.Tables.{lists_of}
use Rattle.in_tables.proofs.Theorems.{packet_in_table}
use Rattle.passing.specs.Passing.{fresh_room}
use Rattle.stations.specs.List.{nowhere, delivered_at}
use Rattle.stepped.specs.Stepped.{hears, table_of, Lived}
use Rattle.stepped.proofs.Onward.{packet_onward}
use Rattle.stepped.proofs.Theorems.{lived_well_formed, lived_configured, lived_router, last_sent}
use Rattle.script.specs.Segment.{Segment}
use Rattle.script.specs.declared.kinds.Kind.TheVariants.{Deliver}
use Rattle.std.specs.Prelude.{Some}
use Rattle.script.specs.Kinds.{kind_of}
use Rattle.script.specs.Record.{with_stations, refusal_of}
use Rattle.scripted.specs.Scripted.{segment_after, NoneRefused, station_at, Delivery, delivery_bytes, FromMasters}
use Rattle.scripted.proofs.Listed.{first_mapped, mapped_set, delivered_is}
use Rattle.scripted.proofs.Letters.{shown}
use Rattle.scripted.proofs.Running.{LivedIn, Running, steps_on}
use Rattle.scripted.proofs.Heard.{KeptOrMaster, heard}

-- a delivery as the tables take it: the room is fresh
abbrev pub in_tables : Delivery → TableDelivery
in_tables d = record { from = d.from; to = d.to; room = fresh_room }

-- a packet that is handed to a station is that call of its table
heard_called : (vrid interval : ℕ) (addresses : List ℕ) (s : Station) (bytes : List ℕ) → Lived vrid interval addresses s
    → table_of (heard_by s bytes fresh_room).station ≡ called (table_of s) (packet bytes fresh_room)
unfolding lists_of
heard_called vrid interval addresses s bytes c =
    let words = ap (λ (r : TableResult). r.words)
    (packet_in_table s bytes fresh_room (lived_well_formed vrid interval addresses s c)) in
    let lists = (packet_onward s bytes fresh_room).addresses_are in
    rw (words, lists)

-- what a station advertises is the segment's, with its own priority and primary address
advertises : (vrid interval : ℕ) (addresses : List ℕ) (s : Station) → Lived vrid interval addresses s
    → advertisement_of vrid (table_of s)
    ≡ drop 14 (frame_of vrid s.router.priority interval s.primary addresses)
advertises vrid interval addresses s c =
    let table = lived_router vrid interval addresses s c in
    let on = lived_configured vrid interval addresses s c in
    rw (table.2, table.0, table.1, on.0, on.1)

-- the segment of that moment
module _ (segment : Segment) (running : Running segment) (some : segment.begun ≡ true) where
  abbrev MasterAt : ℕ → Type 0
  MasterAt i = (station_at segment i).router.state ≡ Master

  abbrev pub tables_of : List Station → List Memory
  tables_of l = map table_of (take segment.used l)

  abbrev advertised : ℕ → List ℕ
  advertised i = advertisement_of segment.vrid (table_of (station_at segment i))

  -- the station of a number after some deliveries: configured as it was, and a Master's latest advertisement is still
  -- that of the moment
  pub record Same (i : ℕ) (s : Station) : Type 0 where
    pub lived : LivedIn segment s
    pub primary : s.primary ≡ (station_at segment i).primary
    pub priority : s.router.priority ≡ (station_at segment i).router.priority
    pub latest : MasterAt i → ¬ (s.sent ≡ 0) × (packet_of s ≡ advertised i)

  pub record Stands (l : List Station) : Type 0 where
    pub long : length l ≡ 16
    pub each : (i : ℕ) → i < segment.used → Same i (get_or l i nowhere)

  pub begins : Stands segment.stations
  begins =
      record {
        long = running.long;
        each =
            λ i h.
            let c = running.each i h in
            record {
              lived = c;
              primary = refl;
              priority = refl;
              latest = last_sent segment.vrid segment.interval segment.address (station_at segment i) c;
            };
      }

  -- a station that hears a packet
  latest_test : (i : ℕ) (s after : Station) → Same i s → LivedIn segment after → after.primary ≡ (station_at segment i).primary
      → after.router.priority ≡ (station_at segment i).router.priority → i < segment.used → KeptOrMaster s after
      → MasterAt i → ¬ (after.sent ≡ 0) × (packet_of after ≡ advertised i)
  unfolding packet_of
  latest_test i s after same c p q h (inl kept) m = rw (kept.0, kept.1) (same.latest m)
  latest_test i s after same c p q h (inr master) m =
      let sent = last_sent segment.vrid segment.interval segment.address after c master in
      let now = advertises segment.vrid segment.interval segment.address after c in
      let was = advertises segment.vrid segment.interval segment.address (station_at segment i) (running.each i h) in
      (sent.0, sent.1 ∙ now ∙ rw (p, q) (sym was))

  hears_same : (i : ℕ) (s : Station) (bytes : List ℕ) → i < segment.used → Same i s
      → Same i (heard_by s bytes fresh_room).station
  hears_same i s bytes h same =
      let onward = packet_onward s bytes fresh_room in
      let c = steps_on (hears bytes fresh_room) same.lived in
      let p = onward.primary_is ∙ same.primary in
      let q = onward.router.priority ∙ same.priority in
      record {
        lived = c;
        primary = p;
        priority = q;
        latest = latest_test i s _ same c p q h (heard s bytes fresh_room);
      }

  -- one delivery from a Master of that moment to another station
  module _ (l : List Station) (stands : Stands l) (from to : ℕ) (sender : from < segment.used) (receiver : to < segment.used)
      (two : ¬ (to ≡ from)) (master : MasterAt from) where
    abbrev after : Station
    after = (heard_by (get_or l to nowhere) (packet_of (get_or l from nowhere)) fresh_room).station

    abbrev pub next : List Station
    next = set l to after

    few : segment.used ≤ length l
    few = omega (arith, stands.long, running.few)

    each_test : (i : ℕ) → i < segment.used → (i ≡ to) ⊎ (i ≡ to → ⊥) → Same i (get_or next i nowhere)
    each_test i h (inl e) =
        rw (e, get_or-set_same l to after nowhere (omega (arith, few)))
        (hears_same to (get_or l to nowhere) (packet_of (get_or l from nowhere)) receiver (stands.each to receiver))
    each_test i h (inr n) = rw (get_or-set_other l to i after nowhere n) (stands.each i h)

    pub next_stands : Stands next
    next_stands =
        record { long = length-set l to after ∙ stands.long; each = λ i h. each_test i h (cases_eq i to) }

    sent : ¬ ((get_or l from nowhere).sent ≡ 0) × (packet_of (get_or l from nowhere) ≡ advertised from)
    sent = (stands.each from sender).latest master

    pub next_refused : (rest : List ℕ) → refusal_of (with_stations segment l) (Some Deliver) (from ∷ (to ∷ rest)) ≡ 0
    unfolding refusal_of
    next_refused rest =
        rw (
          le-ltb (length (from ∷ (to ∷ rest))) 2 (omega arith),
          some,
          lt-ltb from segment.used sender,
          lt-ltb to segment.used receiver,
          ne_eqb from to (λ e. two (sym e)),
          ne_eqb (get_or l from nowhere).sent 0 sent.0,
        )

    pub next_is : (delivered_at l from to fresh_room).stations ≡ next
    next_is =
        delivered_is l from to fresh_room (omega (arith, few)) (omega (arith, few)) (λ e. two (sym e)) sent.0

    pub next_tables : tables_of next
        ≡ handed_over segment.vrid (tables_of segment.stations) (tables_of l) (in_tables (record { from = from; to = to }))
    next_tables =
        let used = segment.used in
        let all : used ≤ length segment.stations = omega (arith, running.few, running.long) in
        let there = first_mapped table_of l used to (begun 0 []) receiver few in
        let then = first_mapped table_of segment.stations used from (begun 0 []) sender all in
        let hands = heard_called segment.vrid segment.interval segment.address (get_or l to nowhere)
        (packet_of (get_or l from nowhere)) (stands.each to receiver).lived in
        mapped_set table_of l used to after receiver
        ∙ rw (there, then, ← sent.1) (ap (set (tables_of l) to) hands)

  -- all of them
  pub record Handed (l : List Station) (deliveries : List Delivery) : Type 0 where
    pub last : List Station
    pub stands : Stands last
    pub none_refused : NoneRefused (with_stations segment l) (delivery_bytes deliveries) 0
    pub end_is : segment_after (with_stations segment l) (delivery_bytes deliveries) 0 ≡ with_stations segment last
    pub tables_are : after_all segment.vrid (tables_of segment.stations) (tables_of l) (map in_tables deliveries)
        ≡ tables_of last

  pub hands_all : (l : List Station) → Stands l → (deliveries : List Delivery) → FromMasters segment deliveries
      → Handed l deliveries
  unfolding kind_of
  hands_all l stands [] v = record { last = l; stands = stands; none_refused = tt; end_is = refl; tables_are = refl }
  hands_all l stands (d ∷ rest) v =
      let m = shown segment (omega (arith, running.few, running.long)) d.from v.0.0 in
      let to = d.to in
      let there = next_is l stands d.from to m.0 v.0.1 v.0.2 m.1 in
      let then = hands_all (next l stands d.from to m.0 v.0.1 v.0.2 m.1)
      (next_stands l stands d.from to m.0 v.0.1 v.0.2 m.1) rest v.1 in
      let tables = next_tables l stands d.from to m.0 v.0.1 v.0.2 m.1 in
      record {
        last = then.last;
        stands = then.stands;
        none_refused = (
          next_refused l stands d.from to m.0 v.0.1 v.0.2 m.1 (delivery_bytes rest),
          rw there then.none_refused,
        );
        end_is =
            ap (λ (x : List Station). segment_after (with_stations segment x) (delivery_bytes rest) 0) there
            ∙ then.end_is;
        tables_are =
            ap (λ (x : List Memory). after_all segment.vrid (tables_of segment.stations) x (map in_tables rest))
            (sym tables)
            ∙ then.tables_are;
      }
