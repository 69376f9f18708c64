-- The theorems that specs/Theorems.antt states.
-- Assumes nothing.
use mathlib.Core.Path.{◌≡◌, sym, ap, subst, ◌∙◌}
use mathlib.Core.Bool.{Bool, false}
use mathlib.Core.List.{List, ◌∷◌}
use Prim.Native.Nat.{ℕ, ◌*◌, ◌/◌, ◌%◌}
use native.Mathlib.Omega.{arith}
use lib.ListN.{length, drop, replicate}
use lib.Seq.{take_at}
use Rattle.wire.proofs.Checks.{passed}
use Rattle.writing.specs.Writing.{address_bytes_wrong}
use Rattle.writing.proofs.Writes.{frame_fits}
use Rattle.states.specs.declared.record.Router.{Router}
use Rattle.states.specs.declared.record.State.TheVariants.{Master}
use Rattle.std.specs.Prelude.{Some}
use Rattle.events.specs.Result.{router_place}
use Rattle.configuring.specs.Configuring.{is_found, new_router}
use Rattle.histories.specs.Histories.{configure, Memory, called, after, begun}
use Rattle.station.specs.declared.station.Station.{Station}
use Rattle.station.specs.Station.{list_of, packet_of, station_of}
use Rattle.station.specs.Making.{Made, station_checks, station_refusal, addresses_in, made_of}
use Rattle.station.proofs.Made.{made_named, made_done}
use Rattle.in_tables.specs.Tables.{words_of, WellFormed}
use Rattle.in_tables.proofs.Tables.{first_record, primary_is, found_first, first_list}
use Rattle.in_tables.proofs.Begun.{made_in_table, made_well_formed}
use Rattle.segment.specs.Segment.{router_of, addresses_of, Reached, Stands, advertisement_of}
use Rattle.histories.proofs.Lists.{zeros_listed}
use Rattle.stepped.specs.Stepped.{table_of, Lived}
use Rattle.stepped.specs.Theorems.{LivedWellFormed, LivedConfigured, LivedReached, LivedStands, LivedRouter, LastSent}
use Rattle.stepped.proofs.Onward.{Latest, Onward, list_same}
use Rattle.stepped.proofs.Lives.{all_stay, all_onward}
use Rattle.stepped.proofs.Calls.{history_of, given_history, history_called}

-- a station just made
module _ (vrid priority interval : ℕ) (preempt : Bool) (primary : ℕ) (addresses : List ℕ)
    (taken : station_refusal vrid priority interval addresses ≡ 0) where
  abbrev made : Station
  made = (made_of vrid priority interval preempt primary addresses).station

  abbrev fresh : Station
  fresh = station_of primary (new_router vrid priority interval preempt (length addresses / 4)) (addresses_in addresses)

  made_fresh : made ≡ fresh
  made_fresh = ap (λ (x : Made). x.station) (made_done vrid priority interval addresses preempt primary taken)

  addresses_right : address_bytes_wrong addresses ≡ false
  unfolding station_refusal
  addresses_right = (passed (station_checks vrid priority interval addresses) (omega arith) taken).1.1.1.0

  fresh_list : list_of fresh ≡ addresses
  unfolding list_of
  fresh_list =
      let n = length addresses in
      let fits = frame_fits addresses addresses_right in
      let fours : n ≡ 4 * (n / 4 % 17) = omega (arith, fits.fours, fits.most) in
      take_at addresses (drop n (replicate 64 0)) (4 * (n / 4 % 17)) fours

  -- it has sent nothing, and is no Master
  fresh_latest : Latest fresh
  fresh_latest m = absurd (let z : ◌≡◌ {A = ℕ} 0 1 = cc in omega arith)

  begun_made : called (begun primary (replicate 16320 0)) (configure vrid priority interval preempt addresses) ≡ table_of made
  begun_made =
      let m = made_in_table vrid priority interval preempt primary addresses in
      rw (m.1, m.2)

-- and one that steps have made of it
module _ (vrid interval : ℕ) (addresses : List ℕ) (s : Station) (c : Lived vrid interval addresses s) where
  abbrev before : Station
  before = (made_of vrid c.priority interval c.preempt c.primary addresses).station

  before_fresh : before ≡ fresh vrid c.priority interval c.preempt c.primary addresses c.taken
  before_fresh = made_fresh vrid c.priority interval c.preempt c.primary addresses c.taken

  before_formed : WellFormed before
  before_formed =
      made_well_formed vrid c.priority interval c.preempt c.primary addresses c.vrid_byte c.priority_byte
      c.interval_byte

  onward : Onward before s
  onward = subst (λ (x : Station). Onward before x) (sym c.lived) (all_onward before c.steps)

  formed : WellFormed s
  formed = subst WellFormed (sym c.lived) (all_stay before c.steps before_formed)

  on : (s.router.vrid ≡ vrid) × (s.router.interval ≡ interval) × (list_of s ≡ addresses)
      × (s.primary ≡ c.primary) × (s.router.priority ≡ c.priority) × (s.router.preempt ≡ c.preempt)
  on = (
    onward.router.vrid ∙ ap (λ (x : Station). x.router.vrid) before_fresh,
    onward.router.interval ∙ ap (λ (x : Station). x.router.interval) before_fresh,
    list_same onward
        ∙ ap list_of before_fresh
        ∙ fresh_list vrid c.priority interval c.preempt c.primary addresses c.taken,
    onward.primary_is ∙ ap (λ (x : Station). x.primary) before_fresh,
    onward.router.priority ∙ ap (λ (x : Station). x.router.priority) before_fresh,
    onward.router.preempt ∙ ap (λ (x : Station). x.router.preempt) before_fresh,
  )

  latest : Latest s
  latest =
      onward.latest
      (subst Latest (sym before_fresh) (fresh_latest vrid c.priority interval c.preempt c.primary addresses c.taken))

  -- the table's router is the station's
  place_is : router_place (words_of s) vrid ≡ Some 0
  place_is =
      let named = made_named vrid c.priority interval addresses c.taken in
      ap (router_place (words_of s)) (sym on.0) ∙ found_first s formed (λ z. named (sym on.0 ∙ z))

  router_is : router_of vrid (table_of s) ≡ s.router
  router_is = rw place_is (first_record s formed)

  list_is : addresses_of vrid (table_of s) ≡ list_of s
  list_is = rw (place_is, first_record s formed) (first_list s formed)

  reached : Reached (table_of s)
  reached =
      let begins = configure vrid c.priority interval c.preempt addresses in
      let history = history_of vrid before c.steps in
      let first = begun_made vrid c.priority interval c.preempt c.primary addresses c.taken in
      let named = ap (λ (x : Station). x.router.vrid) before_fresh in
      record {
        primary = c.primary;
        lists = replicate 16320 0;
        history = begins ∷ history;
        fits = c.fits;
        bytes = zeros_listed.bytes;
        long = zeros_listed.long;
        given = ((c.vrid_byte, c.priority_byte, c.interval_byte, c.bytes), given_history vrid before c.steps);
        reached =
            ap table_of c.lived
            ∙ sym (history_called vrid before c.steps before_formed named)
            ∙ ap (λ (m : Memory). after m history) (sym first);
      }

  stands : Stands vrid interval addresses (table_of s)
  stands =
      record {
        history = reached;
        named = ap is_found place_is;
        interval_is = ap (λ (r : Router). r.interval) router_is ∙ on.1;
        addresses_are = list_is ∙ on.2;
      }

  last : s.router.state ≡ Master → ¬ (s.sent ≡ 0) × (packet_of s ≡ advertisement_of vrid (table_of s))
  last master = rw (list_is, router_is, primary_is s formed) (latest master)

pub lived_well_formed : LivedWellFormed
lived_well_formed = formed

pub lived_configured : LivedConfigured
lived_configured = on

pub lived_reached : LivedReached
lived_reached = reached

pub lived_stands : LivedStands
lived_stands = stands

pub lived_router : LivedRouter
lived_router vrid interval addresses s c = (
  router_is vrid interval addresses s c,
  primary_is s (formed vrid interval addresses s c),
  (stands vrid interval addresses s c).addresses_are,
)

pub last_sent : LastSent
last_sent = last
