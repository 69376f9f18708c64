-- The theorems that specs/Theorems.antt states of deliveries that follow a script.
-- Assumes nothing.
use mathlib.Core.Path.{◌≡◌, refl, sym, ap, subst, ◌∙◌}
use mathlib.Core.Logic.{inl, inr}
use mathlib.Core.Bool.{true}
use mathlib.Core.List.{List, [], ◌∷◌, ◌++◌, map, append_assoc}
use Prim.Native.Nat.{ℕ, ◌≤◌, ◌<◌}
use native.Mathlib.Omega.{arith}
use lib.ListN.{length, get_or, length-append}
use Rattle.sums.specs.Sum.{Bytes}
use Rattle.states.specs.declared.record.Router.{Router}
use Rattle.histories.specs.Histories.{Memory, begun}
use Rattle.segment.specs.Segment.{router_of, primary_address, IsMaster}
use Rattle.segment.specs.Segment.{Segment as Tables, Outranks as TablesRank, station_at as table_at}
use Rattle.segment.specs.Segment.{FromMasters as TablesFrom, EachPair as TablesPair, Has as TablesHave}
use Rattle.segment.specs.Theorems.{OneMaster as OneOfTables}
use Rattle.segment.proofs.Theorems.{one_master_remains}
use Rattle.station.specs.declared.station.Station.{Station}
use Rattle.stations.specs.List.{nowhere}
use Rattle.stepped.specs.Stepped.{table_of}
use Rattle.stepped.proofs.Theorems.{lived_stands, lived_router}
use Rattle.script.specs.Segment.{Segment}
use Rattle.script.specs.Kinds.{kind_of}
use Rattle.script.specs.Record.{with_stations}
use Rattle.script.specs.Segment.{empty_segment}
use Rattle.scripted.specs.Scripted.{segment_after, NoneRefused, Taken, end_of, station_at, ShowsM}
use Rattle.scripted.specs.Scripted.{Outranks, Delivery, delivery_bytes, FromMasters, Has, EachPair}
use Rattle.scripted.specs.Theorems.{DeliveriesTaken, LastLine, OneMaster, OneMasterInScript}
use Rattle.scripted.proofs.Joined.{joined_after, joined_passes}
use Rattle.scripted.proofs.Printed.{prints_on}
use Rattle.scripted.proofs.Listed.{first_mapped, mapped_length}
use Rattle.scripted.proofs.Letters.{shown, shows}
use Rattle.scripted.proofs.Running.{Running, is_begun, runs_all, empty_runs}
use Rattle.scripted.proofs.Handing.{in_tables, tables_of, Stands, begins, hands_all}

script_runs : (script : List ℕ) → Bytes script → Taken script → Running (end_of script)
script_runs script bytes taken = runs_all empty_segment script 0 bytes taken.none_refused empty_runs

-- deliveries from the Masters of that moment
deliveries_pass : (segment : Segment) → Running segment → (deliveries : List Delivery) → FromMasters segment deliveries
    → NoneRefused segment (delivery_bytes deliveries) 0
deliveries_pass segment running [] v = tt
deliveries_pass segment running (d ∷ rest) v =
    let m = shown segment (omega (arith, running.few, running.long)) d.from v.0.0 in
    let some = is_begun segment running (λ z. omega (arith, m.0)) in
    (hands_all segment running some segment.stations (begins segment running some) (d ∷ rest) v).none_refused

pub deliveries_taken : DeliveriesTaken
deliveries_taken script deliveries bytes taken v short =
    record {
      short = short;
      none_refused =
          joined_passes (delivery_bytes deliveries) empty_segment script 0 (omega arith) taken.none_refused
          (deliveries_pass (end_of script) (script_runs script bytes taken) deliveries v);
    }

-- the last of them
bytes_behind : (deliveries : List Delivery) (last : Delivery)
    → delivery_bytes (deliveries ++ (last ∷ []))
    ≡ delivery_bytes deliveries ++ (6 ∷ (last.from ∷ (last.to ∷ [])))
bytes_behind [] last = refl
bytes_behind (d ∷ rest) last =
    ap (λ (l : List ℕ). 6 ∷ (d.from ∷ (d.to ∷ l))) (bytes_behind rest last)

masters_before : (segment : Segment) (deliveries : List Delivery) (last : Delivery)
    → FromMasters segment (deliveries ++ (last ∷ [])) → FromMasters segment deliveries
masters_before segment [] last v = tt
masters_before segment (d ∷ rest) last v = (v.0, masters_before segment rest last v.1)

pub last_line : LastLine
unfolding kind_of
last_line script deliveries last bytes taken v short =
    let end : List ℕ = 6 ∷ (last.from ∷ (last.to ∷ [])) in
    let before = script ++ delivery_bytes deliveries in
    let whole : script ++ delivery_bytes (deliveries ++ (last ∷ [])) ≡ before ++ end =
    ap (λ (l : List ℕ). script ++ l) (bytes_behind deliveries last) ∙ sym (append_assoc script _ end) in
    let all = deliveries_taken script (deliveries ++ (last ∷ [])) bytes taken v short in
    let long : length before ≤ 65536 = omega (arith, ap length whole, length-append before end) in
    let first = deliveries_taken script deliveries bytes taken (masters_before (end_of script) deliveries last v) long in
    rw whole (prints_on before 6 (last.from ∷ (last.to ∷ [])) first (subst Taken whole all) refl)

-- the tables of the stations
module _ (segment : Segment) (running : Running segment) (some : segment.begun ≡ true) where
  abbrev vrid : ℕ
  vrid = segment.vrid

  abbrev now : List Station → List Memory
  now l = tables_of segment running some l

  abbrev then : List Memory
  then = now segment.stations

  module _ (l : List Station) (stands : Stands segment running some l) where
    few : segment.used ≤ length l
    few = omega (arith, running.few, stands.long)

    many : length (now l) ≡ segment.used
    many = mapped_length table_of l segment.used few

    module _ (i : ℕ) (h : i < segment.used) where
      table_is : table_at (now l) i ≡ table_of (get_or l i nowhere)
      table_is = first_mapped table_of l segment.used i (begun 0 []) h few

      router_is : router_of vrid (table_at (now l) i) ≡ (get_or l i nowhere).router
      router_is =
          ap (router_of vrid) table_is
          ∙ (lived_router vrid segment.interval segment.address (get_or l i nowhere) (stands.each i h).lived).0

      primary_is : primary_address (table_at (now l) i) ≡ (get_or l i nowhere).primary
      primary_is =
          ap primary_address table_is
          ∙ (lived_router vrid segment.interval segment.address (get_or l i nowhere) (stands.each i h).lived).1

      master_shows : IsMaster vrid (table_at (now l) i) → ShowsM (with_stations segment l) i
      master_shows m = shows (with_stations segment l) few i h (ap (λ (r : Router). r.state) (sym router_is) ∙ m)

    shows_master : (i : ℕ) → ShowsM (with_stations segment l) i
        → (i < segment.used) × IsMaster vrid (table_at (now l) i)
    shows_master i s =
        let m = shown (with_stations segment l) few i s in
        (m.0, ap (λ (r : Router). r.state) (router_is i m.0) ∙ m.1)

  abbrev begin : Stands segment running some segment.stations
  begin = begins segment running some

  abbrev count : length then ≡ segment.used
  count = many segment.stations begin

  from_masters : (deliveries : List Delivery) → FromMasters segment deliveries
      → TablesFrom vrid then (map in_tables deliveries)
  from_masters [] v = tt
  from_masters (d ∷ rest) v =
      let m = shows_master segment.stations begin d.from v.0.0 in (
        (omega (arith, count, m.0), omega (arith, count, v.0.1), v.0.2, m.1),
        from_masters rest v.1,
      )

  have : (deliveries : List Delivery) (from to : ℕ) → Has deliveries from to → TablesHave (map in_tables deliveries) from to
  have [] from to h = h
  have (d ∷ rest) from to (inl e) = inl e
  have (d ∷ rest) from to (inr h) = inr (have rest from to h)

  module _
      (apart : (i j : ℕ) → i < segment.used → j < segment.used
      → (station_at segment i).primary ≡ (station_at segment j).primary → i ≡ j)
      (owner : (i j : ℕ) → i < segment.used → j < segment.used → (station_at segment i).router.priority ≡ 255
      → (station_at segment j).router.priority ≡ 255 → i ≡ j) (master : ℕ) (masters : ShowsM segment master) where
    within : (i : ℕ) → i < length then → i < segment.used
    within i h = omega (arith, count)

    stand : Tables vrid segment.interval segment.address then
    stand =
        let m = shows_master segment.stations begin master masters in
        let l = segment.stations in
        record {
          some = omega (arith, count, m.0);
          few = omega (arith, count, running.few);
          each =
              λ i h.
              rw (table_is l begin i (within i h))
              (lived_stands vrid segment.interval segment.address (station_at segment i) (running.each i (within i h)));
          apart =
              λ i j h k e.
              apart i j (within i h) (within j k)
              (sym (primary_is l begin i (within i h)) ∙ e ∙ primary_is l begin j (within j k));
          owner =
              λ i j h k e f.
              owner i j (within i h) (within j k) (rw (router_is l begin i (within i h)) at e)
              (rw (router_is l begin j (within j k)) at f);
          master = master;
          below = omega (arith, count, m.0);
          masters = m.1;
        }

    -- of two stations, as of their tables
    rank_is : (i j : ℕ) → i < segment.used → j < segment.used → TablesRank vrid (table_at then i) (table_at then j)
        → Outranks (station_at segment i) (station_at segment j)
    rank_is i j h k o =
        let l = segment.stations in
        rw (router_is l begin i h, router_is l begin j k, primary_is l begin i h, primary_is l begin j k) at o

    module _ (l : List Station) (stands : Stands segment running some l) (one : OneOfTables vrid then (now l)) where
      one_of_stations : OneMaster segment (with_stations segment l)
      one_of_stations =
          let first = segment.stations in
          let below = within one.station one.below in
          record {
            station = one.station;
            was = master_shows first begin one.station below one.was;
            greatest =
                λ i n s.
                let m = shows_master first begin i s in
                rank_is one.station i below m.0 (one.greatest i (omega (arith, count, m.0)) n m.1);
            remains = master_shows l stands one.station below one.remains;
            alone =
                λ i s.
                let m = shows_master l stands i s in
                one.alone i (omega (arith, count, m.0)) m.1;
          }

    one_after : (deliveries : List Delivery) → FromMasters segment deliveries → EachPair segment deliveries
        → OneMaster segment (segment_after segment (delivery_bytes deliveries) 0)
    one_after deliveries v pairs =
        let handed = hands_all segment running some segment.stations begin deliveries v in
        let each : TablesPair vrid then (map in_tables deliveries) =
        λ from to h k n m.
        have deliveries from to
        (pairs from to (master_shows segment.stations begin from (within from h) m) (within to k) n) in
        let one = one_master_remains vrid segment.interval segment.address then (map in_tables deliveries) stand
        (from_masters deliveries v) each in
        rw handed.end_is
        (one_of_stations handed.last handed.stands (subst (OneOfTables vrid then) handed.tables_are one))

pub one_master_in_script : OneMasterInScript
one_master_in_script script deliveries x =
    let segment = end_of script in
    let running = script_runs script x.bytes x.taken in
    let m = shown segment (omega (arith, running.few, running.long)) x.master x.masters in
    let some = is_begun segment running (λ z. omega (arith, m.0)) in
    let end = joined_after (delivery_bytes deliveries) empty_segment script 0 (omega arith) x.taken.none_refused in
    let one = one_after segment running some x.apart x.owner x.master x.masters deliveries x.from_masters
    x.each_pair in
    (deliveries_taken script deliveries x.bytes x.taken x.from_masters x.short, rw end one)
