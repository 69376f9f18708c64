-- What steps leave of a station's addresses and of its latest advertisement frame.
-- Assumes nothing.
use mathlib.Core.Path.{◌≡◌, refl, sym, ap, ◌∙◌}
use mathlib.Core.List.{List}
use mathlib.Core.Bool.{Bool, true, false, cond, ◌&&◌}
use Prim.Native.Nat.{ℕ, ◌+◌, ◌≤◌}
use native.Mathlib.Omega.{arith}
use lib.Dec.{eqb, ltb}
use lib.ListN.{length, take, drop}
use lib.Seq.{length-take-le, take-append_seam, take-append-le}
use borrow.Author.Tests.{eqb-true, eqb-false}
use Rattle.judging.specs.Judging.{Judged, judged_of}
use Rattle.std.specs.Prelude.{Ok, Err}
use Rattle.writing.specs.Writing.{over}
use Rattle.states.specs.declared.step.Outcome.{Outcome}
use Rattle.states.specs.Step.{step_of}
use Rattle.router.specs.Clock.{ticked_of}
use Rattle.router.specs.Accept.{refused_of}
use Rattle.output.proofs.Lengths.{bytes_length}
use Rattle.events.specs.Result.{done, short}
use Rattle.station.specs.declared.station.Station.{Station}
use Rattle.station.specs.Station.{Result, refuses, has_router, list_of, with_router, with_frame}
use Rattle.station.specs.Acting.{written_by, needed_by, acted_by}
use Rattle.hearing.specs.Hearing.{counted_by, refusal_by, accepted_outcome, accepted_by, judged_by, heard_by}
use Rattle.steps.specs.Steps.{stepped_by, happened_to, clocked_by}
use Rattle.in_tables.specs.Latest.{Keeps}
use Rattle.in_tables.specs.Theorems.{EventKeeps, ClockKeeps, PacketKeeps}
use Rattle.station.proofs.Acted.{advertisement_fits}

-- a refusal that leaves addresses and frame
refused_keeps : (s after : Station) (number : ℕ) (room : List ℕ) → after.addresses ≡ s.addresses
    → after.sent ≡ s.sent
    → after.frame ≡ s.frame → Keeps s (refuses number after room)
refused_keeps s after number room a b c =
    record {
      addresses = a;
      written = λ n. absurd (n refl);
      silent = λ n. (b, c);
    }

either_keeps : (s : Station) (t : Bool) (a b : Result) → Keeps s a → Keeps s b → Keeps s (cond t a b)
either_keeps s true a b x y = x
either_keeps s false a b x y = y

module _ (s : Station) (o : Outcome) (leftover : ℕ) (room : List ℕ) where
  -- something is written
  frame_keeps : ¬ (needed_by s o ≡ 0)
      → Keeps s
      (record {
        answer = done (needed_by s o) leftover;
        station = with_frame (with_router s o.router) (take (50 + length (list_of s)) (written_by s o));
        room = over (written_by s o) room;
      })
  frame_keeps some =
      let n = 50 + length (list_of s) in
      let written = written_by s o in
      let least = advertisement_fits o.writes (length (list_of s)) some in
      let fits : n ≤ length written = omega (arith, bytes_length o.writes o.router s.primary (list_of s)) in
      let long : length (take n written) ≡ n = length-take-le n written fits in
      let kept = take-append_seam (take n written) (drop (length (take n written)) s.frame) in
      let first = take-append-le n written (drop (length written) room) fits in
      let stands = ap (λ (k : ℕ). take k (over written room)) long ∙ first in
      record {
        addresses = refl;
        written = λ m. (long, kept ∙ sym stands);
        silent = λ h. absurd (some h);
      }

  acted_test : (t u : Bool) → eqb (needed_by s o) 0 ≡ u
      → Keeps s
      (cond t (record { answer = short (needed_by s o); station = s; room = room })
      (record {
        answer = done (needed_by s o) leftover;
        station =
            cond u (with_router s o.router)
            (with_frame (with_router s o.router) (take (50 + length (list_of s)) (written_by s o)));
        room = over (written_by s o) room;
      }))
  acted_test true u e =
      record {
        addresses = refl;
        written = λ n. absurd (n refl);
        silent = λ n. (refl, refl);
      }
  acted_test false true e =
      record {
        addresses = refl;
        written = λ n. absurd (n (eqb-true (needed_by s o) 0 e));
        silent = λ n. (refl, refl);
      }
  acted_test false false e = frame_keeps (eqb-false (needed_by s o) 0 e)

  acted_keeps : Keeps s (acted_by s o leftover room)
  unfolding acted_by
  acted_keeps = acted_test (ltb (length room) (needed_by s o)) (eqb (needed_by s o) 0) refl

  stepped_keeps : Keeps s (stepped_by s o leftover room)
  stepped_keeps = either_keeps s (has_router s) _ _ acted_keeps (refused_keeps s s 20 room refl refl refl)

pub event_keeps : EventKeeps
unfolding happened_to
event_keeps s event room = stepped_keeps s (step_of s.primary s.router event) 0 room

pub clock_keeps : ClockKeeps
unfolding clocked_by
clock_keeps s ticks room =
    let ticked = ticked_of s.primary s.router ticks in
    stepped_keeps s ticked.outcome ticked.leftover room

counted_keeps : (s : Station) (number : ℕ) (room : List ℕ) → Keeps s (refuses number (counted_by s number) room)
unfolding counted_by
counted_keeps s number room = refused_keeps s (counted_by s number) number room refl refl refl

judged_keeps : (j : Judged) (s : Station) (packet room : List ℕ) → Keeps s (judged_by j s packet room)
judged_keeps (Err number) s packet room = counted_keeps s number room
judged_keeps (Ok f) s packet room =
    let number = refusal_by s packet f in
    either_keeps s (has_router s && eqb f.vrid s.router.vrid) (accepted_by s packet f room) _
    (either_keeps s (eqb number 0) _ _ (acted_keeps s (accepted_outcome s f) 0 room)
    (refused_keeps s (with_router s (refused_of s.router number)) number room refl refl refl))
    (counted_keeps s 9 room)

pub packet_keeps : PacketKeeps
unfolding heard_by
packet_keeps s packet room = judged_keeps (judged_of packet) s packet room
