-- An advertisement that is handed to a station of the same segment: the record that it stores, and the state.
-- Assumes nothing.
use mathlib.Core.Path.{◌≡◌, refl, sym, ap, subst, ◌∙◌}
use mathlib.Core.List.{List, [], ◌∷◌}
use mathlib.Core.Bool.{Bool, true, false, cond, not, ◌||◌}
use Prim.Native.Nat.{ℕ, ◌+◌, ◌*◌, ◌/◌, ◌^◌, ◌≤◌, ◌<◌}
use native.Mathlib.Omega.{arith}
use lib.Dec.{eqb, leb}
use lib.ListN.{length, take, drop}
use borrow.Author.Tests.{eq-eqb, ne_eqb, le-ltb}
use Rattle.std.proofs.lemmas.Bool.{and_right}
use Rattle.sums.specs.Sum.{Bytes}
use Rattle.judging.specs.declared.Fields.{Fields}
use Rattle.std.specs.Prelude.{Ok}
use Rattle.writing.specs.Frame.{message_of, packet_of}
use Rattle.judging.specs.Judging.{judged_of}
use Rattle.writing.specs.Writing.{address_bytes_wrong}
use Rattle.round_trip.proofs.RoundTrip.{accepted, list_stands}
use Rattle.writing.proofs.Writes.{Writable, frame_fits}
use Rattle.states.specs.declared.record.State.{State}
use Rattle.states.specs.declared.record.State.TheVariants.{Initialize, Backup, Master}
use Rattle.states.specs.declared.record.Router.{Router}
use Rattle.states.specs.declared.step.Event.TheVariants.{Packet}
use Rattle.states.specs.declared.step.Writes.TheVariants.{Nothing}
use Rattle.states.specs.declared.step.Outcome.{Outcome}
use Rattle.states.specs.Step.{stays, waits, beats, step_in, step_of}
use Rattle.router.specs.Accept.{router_refusal, refused_of, accepted_of}
use Rattle.router.specs.Timed.{Timed}
use Rattle.router.proofs.Timed.{step_timed}
use Rattle.places.specs.Place.{primary_of, set_event, count_at_place}
use Rattle.places.proofs.Records.{read_in_range}
use Rattle.events.specs.Lists.{their_list, lists_match}
use Rattle.events.specs.Result.{acted_of}
use Rattle.packets.specs.Packets.{refusal_at, accepted_at, heard_at, heard_of}
use Rattle.histories.specs.Histories.{packet, Memory, called}
use Rattle.histories.proofs.Changed.{Changed, event_changed, count_changed}
use Rattle.histories.proofs.Histories.{accepted_unchanged}
use Rattle.histories.specs.Rows.{place_for}
use Rattle.segment.specs.Segment.{router_of}
use Rattle.segment.proofs.Standing.{On, word, on_sound, on_configured, changed_router, changed_on}

-- an address list matches itself
match_self : (a : List ℕ) → lists_match a a ≡ true
unfolding lists_match
match_self [] = refl
match_self (x ∷ a) = rw (eq-eqb x x refl, match_self a)

-- an advertisement that says no farewell has a router write nothing
quiet_either : (t : Bool) (a b : Outcome) → a.writes ≡ Nothing → b.writes ≡ Nothing → (cond t a b).writes ≡ Nothing
quiet_either true a b h k = h
quiet_either false a b h k = k

quiet_in : (s : State) (primary : ℕ) (r : Router) (q source : ℕ) → eqb q 0 ≡ false
    → (step_in s (Packet q source) primary r).writes ≡ Nothing
quiet_in Initialize primary r q source e = refl
quiet_in Backup primary r q source e =
    rw e (quiet_either (not r.preempt || leb r.priority q) (waits r) (stays r) refl refl)
quiet_in Master primary r q source e = rw e (quiet_either (beats primary r q source) (waits r) (stays r) refl refl)

quiet : (primary : ℕ) (r : Router) (q source : ℕ) → 1 ≤ q → (step_of primary r (Packet q source)).writes ≡ Nothing
unfolding step_of
quiet primary r q source some = quiet_in r.state primary r q source (ne_eqb q 0 (λ z. omega arith))

module _ (vrid interval : ℕ) (addresses : List ℕ) (q source : ℕ) where
  -- what an advertisement of the segment says
  abbrev pub said : Fields
  said =
      record {
        source = source;
        vrid = vrid;
        priority = q;
        count = length addresses / 4;
        authentication = 0;
        interval = interval;
        list = 28;
      }

  abbrev pub told : List ℕ
  told = packet_of vrid q interval source addresses

  module _ (bytes : Bytes addresses) (listed : address_bytes_wrong addresses ≡ false) (v : vrid < 256) (i : interval < 256)
      (p : q < 256) (s : source < 2 ^ 32) where
    fit : Writable addresses (50 + length addresses)
    fit = frame_fits addresses listed

    pub judged : judged_of told ≡ Ok said
    unfolding message_of
    judged = accepted vrid q interval source (50 + length addresses) addresses v p i s bytes fit

    listed_told : their_list told said ≡ addresses
    unfolding their_list
    listed_told =
        let e : 4 * (length addresses / 4) ≡ length addresses = omega (arith, fit.fours) in
        ap (λ (n : ℕ). take n (drop 28 told)) e
        ∙ list_stands vrid q interval source (50 + length addresses) addresses v p i s bytes fit

    -- a station that stands on the segment hears it
    module _ (some : 1 ≤ q) (primary priority : ℕ) (m : Memory) (on : On vrid interval addresses primary priority m)
        (room : List ℕ) where
      abbrev words : List ℕ
      words = m.words

      abbrev place : ℕ
      place = place_for words vrid

      abbrev r : Router
      r = router_of vrid m

      -- the segment's address list and interval are its own: 10 alone can refuse it
      refusal : refusal_at words m.lists place told said ≡ cond (eqb priority 255) 10 0
      unfolding router_refusal
      refusal =
          rw (
            on.addresses_are,
            listed_told,
            match_self addresses,
            on.priority_is,
            on.interval_is,
            eq-eqb interval interval refl,
            and_right (not (eqb q 255)) false refl,
          )

      -- what it comes to: the owner counts 10, any other router takes the event
      outcome : Outcome
      outcome = accepted_at words place said

      abbrev after : Bool → Router
      after t = cond t (refused_of r 10) outcome.router

      abbrev left : Bool → List ℕ
      left t = cond t (count_at_place words place 10) (set_event words place outcome.router)

      acted : (acted_of words m.lists place outcome 0 room).words ≡ set_event words place outcome.router
      unfolding acted_of outcome
      acted = rw (quiet (primary_of words) (accepted_of r) q source some, le-ltb (length room) 0 (omega arith))

      heard_test : (t : Bool) → eqb priority 255 ≡ t → (heard_at words m.lists place told said room).words ≡ left t
      unfolding outcome
      heard_test true e = rw (refusal, e)
      heard_test false e = rw (refusal, e) acted

      heard : (called m (packet told room)).words ≡ left (eqb priority 255)
      unfolding heard_of
      heard = rw (judged, on.found) (heard_test (eqb priority 255) refl)

      below : place < 255
      below = (word vrid interval addresses primary priority m on).0

      changed : (t : Bool) → Changed place words (left t) (after t)
      unfolding outcome
      changed true = count_changed words place 10 below on.held.long (omega arith) (omega arith)
      changed false = event_changed words place outcome.router below on.held.long (accepted_unchanged words place said)

      in_time : Timed r
      in_time = (on_sound vrid interval addresses primary priority m on).timed

      timed : (t : Bool) → Timed (after t)
      unfolding outcome
      timed true = in_time
      timed false =
          step_timed (accepted_of r) (on_configured vrid interval addresses primary priority m on).0
          (omega (arith, (read_in_range words place).priority))
          (primary_of words) (Packet q source) in_time

      abbrev heard_by_lem : Memory
      heard_by_lem = record { words = left (eqb priority 255); lists = m.lists }

      same : called m (packet told room) ≡ heard_by_lem
      same = ap (λ (w : List ℕ). record { words = w; lists = m.lists }) heard

      handed_on : On vrid interval addresses primary priority (called m (packet told room))
      handed_on =
          subst (On vrid interval addresses primary priority) (sym same)
          (changed_on vrid interval addresses primary priority m on (left (eqb priority 255)) (after (eqb priority 255))
          (changed (eqb priority 255)) (timed (eqb priority 255)))

      state_test : (t : Bool) → (after t).state
          ≡ cond t r.state (step_in r.state (Packet q source) primary (accepted_of r)).router.state
      unfolding outcome step_of
      state_test true = refl
      state_test false = rw on.primary_is

      handed_state : (router_of vrid (called m (packet told room))).state
          ≡ cond (eqb priority 255) r.state (step_in r.state (Packet q source) primary (accepted_of r)).router.state
      handed_state =
          ap (λ (x : Memory). (router_of vrid x).state) same
          ∙ ap (λ (x : Router). x.state)
          (changed_router vrid interval addresses primary priority m on (left (eqb priority 255)) (after (eqb priority 255))
          (changed (eqb priority 255)))
          ∙ state_test (eqb priority 255)

      -- the station stands as it did, in the state that the event leads to; an owner's stays
      pub handed : On vrid interval addresses primary priority (called m (packet told room))
          × ((router_of vrid (called m (packet told room))).state
          ≡ cond (eqb priority 255) r.state (step_in r.state (Packet q source) primary (accepted_of r)).router.state)
      handed = (handed_on, handed_state)
