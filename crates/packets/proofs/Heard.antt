-- The ends of handing over a packet.
-- Assumes nothing.
use mathlib.Core.Path.{◌≡◌, sym, ap, ◌∙◌}
use mathlib.Core.List.{List}
use mathlib.Core.Bool.{Bool, true, false, cond, not}
use Prim.Native.Nat.{ℕ, ◌≤◌}
use native.Mathlib.Omega.{arith}
use lib.Dec.{eqb}
use borrow.Author.Tests.{ne_eqb}
use Rattle.judging.specs.declared.Fields.{Fields}
use Rattle.std.specs.Prelude.{Ok, Err}
use Rattle.judging.specs.Judging.{judged_of}
use Rattle.judging.proofs.Accepted.{refused_most}
use Rattle.states.specs.declared.record.Turn.{Turn}
use Rattle.states.specs.declared.step.Event.TheVariants.{Packet}
use Rattle.states.specs.declared.step.Outcome.{Outcome}
use Rattle.states.specs.declared.step.Writes.TheVariants.{Nothing}
use Rattle.states.specs.Turn.{turn_of}
use Rattle.states.proofs.Turning.{applied_turn}
use Rattle.router.specs.Accept.{list_differs, router_refusal, accepted_of}
use Rattle.places.specs.Place.{primary_of, record_at, set_event, count_refusal, count_at_place}
use Rattle.wire.specs.declared.refusal.Refusal.{Refusal}
use Rattle.wire.specs.Refusal.{refusal_number}
use Rattle.wire.proofs.Refusals.{nonzero, no_room}
use Rattle.events.specs.Lists.{list_at, their_list, lists_match}
use Rattle.events.specs.Result.{Leaves, router_place, acted_of}
use Rattle.events.specs.Turned.{turned_at}
use Rattle.events.proofs.Acted.{acted_silent}
use Rattle.events.proofs.Sought.{leaves_equal}
use Rattle.packets.specs.Packets.{refusal_at, accepted_at, heard_at, sought_at, heard_of}

range_test : (a b c d : Bool) (n : ℕ) → n ≡ cond a 10 (cond b 11 (cond c 12 (cond d 13 0))) → ¬ (n ≡ 0) → (10 ≤ n) × (n ≤ 13)
range_test true b c d n e z = omega arith
range_test false true c d n e z = omega arith
range_test false false true d n e z = omega arith
range_test false false false true n e z = omega arith
range_test false false false false n e z = absurd (z e)

-- a router refuses by 10 to 13
pub refused_range : (words lists packet : List ℕ) (p : ℕ) (f : Fields) (number : ℕ) → number ≡ refusal_at words lists p packet f
    → ¬ (number ≡ 0) → (10 ≤ number) × (number ≤ 13)
unfolding router_refusal
refused_range words lists packet p f number e n =
    let r = record_at words p in
    let same = lists_match (list_at lists p r.count) (their_list packet f) in
    range_test (eqb r.priority 255) (not (eqb f.authentication 0)) (list_differs f.priority same)
    (not (eqb f.interval r.interval))
    number e n

module _ (words lists : List ℕ) (p : ℕ) (f : Fields) (room : List ℕ) where
  -- what the code does with an accepted packet is what the table of states has it do
  accepted_turn : (t : Turn) → t ≡ turn_of (accepted_at words p f) → turned_at words p true t ≡ accepted_at words p f
  accepted_turn t h =
      ap (turned_at words p true) h
      ∙ applied_turn (primary_of words) (accepted_of (record_at words p)) (Packet f.priority f.source)

  pub accepted_acts : (t : Turn) → t ≡ turn_of (accepted_at words p f)
      → acted_of words lists p (turned_at words p true t) 0 room ≡ acted_of words lists p (accepted_at words p f) 0 room
  accepted_acts t h = ap (λ (o : Outcome). acted_of words lists p o 0 room) (accepted_turn t h)

  pub accepted_silent : (t : Turn) (after : List ℕ) → t ≡ turn_of (accepted_at words p f) → t.writes ≡ Nothing
      → after ≡ set_event words p (turned_at words p true t).router
      → Leaves (acted_of words lists p (accepted_at words p f) 0 room) (Ok (record { written = 0; leftover = 0 })) after room
  accepted_silent t after h s w =
      leaves_equal _ _ _ _ _ (accepted_acts t h)
      (acted_silent words lists p (turned_at words p true t) 0 room after s w)

module _ (words lists packet : List ℕ) (p : ℕ) (f : Fields) (room : List ℕ) where
  pub heard_refused : (reason : Refusal) (after : List ℕ) → refusal_number reason ≡ refusal_at words lists p packet f
      → after ≡ count_at_place words p (refusal_number reason)
      → Leaves (heard_at words lists p packet f room) (Err reason) after room
  heard_refused reason after e w =
      let t = ne_eqb (refusal_number reason) 0 (nonzero reason) in
      let range = refused_range words lists packet p f (refusal_number reason) e (nonzero reason) in
      let none = no_room reason (λ z. omega (arith, range)) in
      record {
        answer_is = rw (← e, t, none);
        words_are = rw (← e, t, w);
        room_is = rw (← e, t);
      }

  pub heard_accepted : refusal_at words lists p packet f ≡ 0
      → acted_of words lists p (accepted_at words p f) 0 room ≡ heard_at words lists p packet f room
  heard_accepted e = rw e

module _ (words lists packet room : List ℕ) where
  pub heard_unfit : (reason : Refusal) (after : List ℕ) → judged_of packet ≡ Err (refusal_number reason)
      → after ≡ count_refusal words (refusal_number reason)
      → Leaves (heard_of words lists packet room) (Err reason) after room
  unfolding heard_of
  heard_unfit reason after e w =
      let none = no_room reason (λ z. omega (arith, refused_most packet (refusal_number reason) (sym e))) in
      record {
        answer_is = rw (e, none);
        words_are = rw (e, w);
        room_is = rw e;
      }

  pub heard_fit : (f : Fields) → judged_of packet ≡ Ok f
      → sought_at (router_place words f.vrid) words lists packet f room ≡ heard_of words lists packet room
  unfolding heard_of
  heard_fit f e = rw e
