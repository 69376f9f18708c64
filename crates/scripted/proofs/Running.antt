-- What holds of the segment while a script that is not refused is read: its stations were made, and stepped.
-- Assumes nothing.
use mathlib.Core.Path.{◌≡◌, refl, ap, ◌∙◌}
use mathlib.Core.Logic.{◌⊎◌, inl, inr}
use mathlib.Core.Bool.{Bool, true, false, cond}
use mathlib.Core.List.{List, [], ◌∷◌, ◌++◌}
use Prim.Native.Nat.{ℕ, zero, suc, ◌+◌, ◌*◌, ◌^◌, ◌≤◌, ◌<◌}
use native.Mathlib.Omega.{arith}
use lib.ListN.{length, get_or, set, length-set, length-replicate}
use lib.Seq.{get_or-set_same, get_or-set_other}
use borrow.Author.Tests.{ltb-true, eqb-false, ne_eqb, not-false}
use Rattle.std.proofs.lemmas.Bool.{cases_eq}
use Rattle.sums.specs.Sum.{Bytes}
use Rattle.sums.proofs.Bytes.{bytes_each}
use Rattle.writing.specs.Writing.{address_bytes_wrong}
use Rattle.states.specs.declared.step.Event.TheVariants.{Startup as StartupEvent, Shutdown as ShutdownEvent}
use Rattle.station.specs.declared.station.Station.{Station}
use Rattle.station.specs.Station.{packet_of}
use Rattle.station.specs.Making.{station_refusal, made_of}
use Rattle.steps.specs.Steps.{happened_to}
use Rattle.passing.specs.Passing.{fresh_room}
use Rattle.stations.specs.List.{nowhere, all_passed}
use Rattle.stepped.specs.Stepped.{Step, starts, shuts, passes, hears, stepped, stepped_all, Lived}
use Rattle.script.specs.Segment.{Segment}
use Rattle.script.specs.declared.kinds.Kind.{Kind}
use Rattle.script.specs.declared.kinds.Kind.TheVariants.{NewSegment, NewStation, Startup, Shutdown, Clock, Deliver}
use Rattle.std.specs.Prelude.{Some, None, Option}
use Rattle.script.specs.Kinds.{kind_of, body_length}
use Rattle.script.specs.Record.{with_segment, with_stations, with_station, station_in, after_record, refusal_of}
use Rattle.script.specs.Segment.{empty_segment}
use Rattle.scripted.specs.Scripted.{segment_after, NoneRefused, station_at}
use Rattle.scripted.proofs.Joined.{checked}
use Rattle.scripted.proofs.Listed.{passed_length, passed_each, stepped_is, delivered_is}

-- what a segment record that is not refused has given
pub record Named (vrid interval : ℕ) (address : List ℕ) : Type 0 where
  pub vrid_byte : vrid < 256
  pub vrid_some : ¬ (vrid ≡ 0)
  pub interval_byte : interval < 256
  pub interval_some : ¬ (interval ≡ 0)
  pub bytes : Bytes address
  pub listed : address_bytes_wrong address ≡ false

abbrev pub LivedIn : Segment → Station → Type 0
LivedIn segment s = Lived segment.vrid segment.interval segment.address s

pub record Running (segment : Segment) : Type 0 where
  pub few : segment.used ≤ 16
  pub long : length segment.stations ≡ 16
  -- before a segment record no station is there
  pub none : segment.begun ≡ false → segment.used ≡ 0
  pub named : segment.begun ≡ true → Named segment.vrid segment.interval segment.address
  pub each : (i : ℕ) → i < segment.used → LivedIn segment (station_at segment i)

-- one more step
more_steps : (s : Station) (steps : List Step) (step : Step)
    → stepped (stepped_all s steps) step ≡ stepped_all s (steps ++ (step ∷ []))
more_steps s [] step = refl
more_steps s (first ∷ steps) step = more_steps (stepped s first) steps step

pub steps_on : {vrid interval : ℕ} {addresses : List ℕ} {s : Station} (step : Step) → Lived vrid interval addresses s
    → Lived vrid interval addresses (stepped s step)
steps_on step c =
    record {
      priority = c.priority;
      preempt = c.preempt;
      primary = c.primary;
      vrid_byte = c.vrid_byte;
      priority_byte = c.priority_byte;
      interval_byte = c.interval_byte;
      fits = c.fits;
      bytes = c.bytes;
      taken = c.taken;
      steps = c.steps ++ (step ∷ []);
      lived = ap (λ (x : Station). stepped x step) c.lived ∙ more_steps _ c.steps step;
    }

module _ (segment : Segment) (running : Running segment) where
  -- other stations, as many as before
  moved : (stations : List Station) → length stations ≡ 16
      → ((i : ℕ) → i < segment.used → LivedIn segment (get_or stations i nowhere)) → Running (with_stations segment stations)
  moved stations long each =
      record { few = running.few; long = long; none = running.none; named = running.named; each = each }

  -- a station is put at a number
  set_test : (at : ℕ) (s : Station) → LivedIn segment s → at < 16 → (i : ℕ) → (i ≡ at) ⊎ (i ≡ at → ⊥)
      → (¬ (i ≡ at) → LivedIn segment (station_at segment i)) → LivedIn segment (get_or (set segment.stations at s) i nowhere)
  set_test at s c h i (inl e) old =
      let within : at < length segment.stations = omega (arith, running.long) in
      rw (e, get_or-set_same segment.stations at s nowhere within) c
  set_test at s c h i (inr n) old = rw (get_or-set_other segment.stations at i s nowhere n) (old n)

  -- one station takes a step
  pub one_steps : (at : ℕ) → at < segment.used → (step : Step)
      → Running (with_stations segment (set segment.stations at (stepped (station_at segment at) step)))
  one_steps at h step =
      let s = stepped (station_at segment at) step in
      moved (set segment.stations at s) (length-set segment.stations at s ∙ running.long)
      (λ i k.
      set_test at s (steps_on step (running.each at h)) (omega (arith, running.few)) i (cases_eq i at)
      (λ n. running.each i k))

  pub is_begun : ¬ (segment.used ≡ 0) → segment.begun ≡ true
  is_begun some = begun_test segment.begun refl
    where
      begun_test : (t : Bool) → segment.begun ≡ t → segment.begun ≡ true
      begun_test true e = e
      begun_test false e = absurd (some (running.none e))

-- a record that begins or does not begin the segment: 25
begins : (begun : Bool) → cond begun true false ≡ false → begun ≡ false
begins true e = absurd (let z : ◌≡◌ {A = ℕ} 0 1 = cc in omega arith)
begins false e = refl

goes_on : (begun : Bool) → cond begun false true ≡ false → begun ≡ true
goes_on true e = refl
goes_on false e = absurd (let z : ◌≡◌ {A = ℕ} 0 1 = cc in omega arith)

four_listed : (a b c d : ℕ) → address_bytes_wrong (a ∷ (b ∷ (c ∷ (d ∷ [])))) ≡ false
unfolding address_bytes_wrong
four_listed a b c d = refl

-- a station that is made on a segment
module _ (vrid priority interval : ℕ) (addresses : List ℕ) (named : Named vrid interval addresses)
    (priority_byte : priority < 256) (some : ¬ (priority ≡ 0)) where
  not_refused : station_refusal vrid priority interval addresses ≡ 0
  unfolding station_refusal
  not_refused =
      rw (
        ne_eqb vrid 0 named.vrid_some,
        ne_eqb priority 0 some,
        ne_eqb interval 0 named.interval_some,
        named.listed,
      )

  made_comes : (preempt : Bool) (primary : ℕ) → primary < 2 ^ 32
      → Lived vrid interval addresses (made_of vrid priority interval preempt primary addresses).station
  made_comes preempt primary fits =
      record {
        priority = priority;
        preempt = preempt;
        primary = primary;
        vrid_byte = named.vrid_byte;
        priority_byte = priority_byte;
        interval_byte = named.interval_byte;
        fits = fits;
        bytes = named.bytes;
        taken = not_refused;
        steps = [];
        lived = refl;
      }

-- one record
module _ (segment : Segment) (running : Running segment) (body : List ℕ) (bytes : Bytes body) where
  begun_by : refusal_of segment (Some NewSegment) body ≡ 0 → Running (with_segment segment body)
  begun_by taken =
      let checks = checked segment (Some NewSegment) body taken in
      let empty = running.none (begins segment.begun checks.1.1.0) in
      record {
        few = running.few;
        long = running.long;
        none = λ e. absurd (let z : ◌≡◌ {A = ℕ} 0 1 = cc in omega arith);
        named =
            λ e.
            record {
              vrid_byte = bytes 0;
              vrid_some = eqb-false (get_or body 0 0) 0 checks.1.1.1.0;
              interval_byte = bytes 1;
              interval_some = eqb-false (get_or body 1 0) 0 checks.1.1.1.1.0;
              bytes = bytes_each (with_segment segment body).address (bytes 2, (bytes 3, (bytes 4, (bytes 5, tt))));
              listed = four_listed (get_or body 2 0) (get_or body 3 0) (get_or body 4 0) (get_or body 5 0);
            };
        each = λ i h. absurd (omega (arith, empty));
      }

  added_by : refusal_of segment (Some NewStation) body ≡ 0 → Running (with_station segment body)
  added_by taken =
      let checks = checked segment (Some NewStation) body taken in
      let begun = goes_on segment.begun checks.1.1.0 in
      let named = running.named begun in
      let free : segment.used < 16 = ltb-true segment.used 16 (not-false _ checks.1.1.1.0) in
      let s = station_in segment body in
      let new : LivedIn segment s =
      made_comes segment.vrid (get_or body 0 0) segment.interval segment.address named (bytes 0)
      (eqb-false (get_or body 0 0) 0 checks.1.1.1.1.0) _ _ (omega (arith, bytes 2, bytes 3, bytes 4, bytes 5)) in
      record {
        few = omega arith;
        long = length-set segment.stations segment.used s ∙ running.long;
        none = λ e. absurd (let z : ◌≡◌ {A = ℕ} 0 1 = cc in omega arith);
        named = λ e. named;
        each =
            λ i h.
            set_test segment running segment.used s new free i (cases_eq i segment.used)
            (λ n. running.each i (omega arith));
      }

  pub runs_on : (kind : Option Kind) → refusal_of segment kind body ≡ 0 → Running (after_record kind segment body)
  runs_on None taken = running
  runs_on (Some NewSegment) taken = begun_by taken
  runs_on (Some NewStation) taken = added_by taken
  runs_on (Some Startup) taken =
      let at = get_or body 0 0 in
      let checks = checked segment (Some Startup) body taken in
      let used : at < segment.used = ltb-true at segment.used (not-false _ checks.1.1.1.0) in
      let within : at < length segment.stations = omega (arith, running.few, running.long) in
      rw (stepped_is (λ s room. happened_to s StartupEvent room) segment.stations at fresh_room within)
      (one_steps segment running at used (starts fresh_room))
  runs_on (Some Shutdown) taken =
      let at = get_or body 0 0 in
      let checks = checked segment (Some Shutdown) body taken in
      let used : at < segment.used = ltb-true at segment.used (not-false _ checks.1.1.1.0) in
      let within : at < length segment.stations = omega (arith, running.few, running.long) in
      rw (stepped_is (λ s room. happened_to s ShutdownEvent room) segment.stations at fresh_room within)
      (one_steps segment running at used (shuts fresh_room))
  runs_on (Some Clock) taken =
      let ticks = 256 * get_or body 0 0 + get_or body 1 0 in
      let few : segment.used ≤ length segment.stations = omega (arith, running.few, running.long) in
      moved segment running (all_passed ticks segment.used segment.stations)
      (passed_length ticks segment.used segment.stations few ∙ running.long)
      (λ i h. rw (passed_each ticks segment.used segment.stations few i h) (steps_on (passes ticks) (running.each i h)))
  runs_on (Some Deliver) taken =
      let from = get_or body 0 0 in
      let to = get_or body 1 0 in
      let checks = checked segment (Some Deliver) body taken in
      let sender : from < segment.used = ltb-true from segment.used (not-false _ checks.1.1.1.0) in
      let receiver : to < segment.used = ltb-true to segment.used (not-false _ checks.1.1.1.1.0) in
      let few : segment.used ≤ length segment.stations = omega (arith, running.few, running.long) in
      rw
      (delivered_is segment.stations from to fresh_room (omega arith) (omega arith)
      (eqb-false from to checks.1.1.1.1.1.0) (eqb-false _ 0 checks.1.1.1.1.1.1.0))
      (one_steps segment running to receiver (hears (packet_of (station_at segment from)) fresh_room))

-- a whole script
pub runs_all : (segment : Segment) (bytes : List ℕ) (skip : ℕ) → Bytes bytes → NoneRefused segment bytes skip
    → Running segment → Running (segment_after segment bytes skip)
runs_all segment [] skip b n r = r
runs_all segment (byte ∷ bytes) (suc skip) b n r = runs_all segment bytes skip (λ i. b (suc i)) n r
runs_all segment (byte ∷ bytes) zero b n r =
    let kind = kind_of byte in
    runs_all (after_record kind segment bytes) bytes (body_length kind) (λ i. b (suc i)) n.1
    (runs_on segment r bytes (λ i. b (suc i)) kind n.0)

pub empty_runs : Running empty_segment
unfolding empty_segment
empty_runs =
    record {
      few = omega arith;
      long = length-replicate 16 nowhere;
      none = λ e. refl;
      named = λ e. absurd (let z : ◌≡◌ {A = ℕ} 0 1 = cc in omega arith);
      each = λ i h. absurd (omega arith);
    }
