-- The ends of an event's outcome for a station.
-- Assumes nothing.
use mathlib.Core.Path.{◌≡◌, refl, ap, subst, ◌∙◌}
use mathlib.Core.List.{List}
use Prim.Native.Nat.{ℕ, ◌+◌, ◌≤◌, ◌<◌}
use native.Mathlib.Omega.{arith}
use lib.ListN.{length, take, drop}
use lib.Seq.{take-append-le}
use borrow.Author.Tests.{lt-ltb, le-ltb, eq-eqb, ne_eqb}
use Rattle.writing.specs.Writing.{over}
use Rattle.states.specs.declared.step.Writes.{Writes}
use Rattle.states.specs.declared.step.Writes.TheVariants.{Nothing, Advertisement, Farewell, Takeover}
use Rattle.states.specs.declared.step.Outcome.{Outcome}
use Rattle.output.specs.Output.{need_of}
use Rattle.output.proofs.Lengths.{bytes_length}
use Rattle.std.specs.Prelude.{Ok, Err}
use Rattle.wire.specs.declared.refusal.Refusal.TheVariants.{Room}
use Rattle.station.specs.declared.station.Station.{Station}
use Rattle.station.specs.declared.station.Stepped.{Stepped}
use Rattle.station.specs.Station.{Result, Leaves, list_of, with_router, with_frame}
use Rattle.station.specs.Acting.{written_by, needed_by, acted_by}

-- a promise of one result is one of an equal result
pub leaves_equal : {a b : Result} (stepped : Stepped) (room : List ℕ) → a ≡ b → Leaves a stepped room
    → Leaves b stepped room
leaves_equal stepped room e h = subst (λ (x : Result). Leaves x stepped room) e h

-- where anything is written, an advertisement is
pub advertisement_fits : (w : Writes) (n : ℕ) → ¬ (need_of w n ≡ 0) → 50 + n ≤ need_of w n
advertisement_fits Nothing n h = absurd (h refl)
advertisement_fits Advertisement n h = omega arith
advertisement_fits Farewell n h = omega arith
advertisement_fits Takeover n h = omega arith

module _ (s : Station) (o : Outcome) (leftover : ℕ) (room : List ℕ) (need : ℕ) (is_need : need ≡ needed_by s o) where
  pub acted_short : length room < need
      → Leaves (acted_by s o leftover room) (record { station = s; answer = Err (Room need) }) room
  unfolding acted_by
  acted_short h =
      let t = lt-ltb (length room) need h in
      record { answer_is = rw (← is_need, t); station_is = rw (← is_need, t); room_is = rw (← is_need, t) }

  module _ (station : Station) (after : List ℕ) (fits : need ≤ length room)
      (wrote : after ≡ over (written_by s o) room) where
    pub acted_silent : need ≡ 0 → station ≡ with_router s o.router
        → Leaves (acted_by s o leftover room) (record { station = station; answer = Ok (record { written = need; leftover = leftover }) }) after
    unfolding acted_by
    acted_silent z e =
        let t = le-ltb (length room) need fits in
        record {
          answer_is = rw (← is_need, t);
          station_is = rw (← is_need, t, eq-eqb need 0 z, e);
          room_is = rw (← is_need, t, wrote);
        }

    -- the first bytes of the room are the first that were written
    first_written : (n : ℕ) → n ≤ length (written_by s o) → take n after ≡ take n (written_by s o)
    first_written n h =
        ap (take n) wrote ∙ take-append-le n (written_by s o) (drop (length (written_by s o)) room) h

    pub acted_written : (n : ℕ) → n ≡ 50 + length (list_of s) → ¬ (need ≡ 0)
        → station ≡ with_frame (with_router s o.router) (take n after)
        → Leaves (acted_by s o leftover room) (record { station = station; answer = Ok (record { written = need; leftover = leftover }) }) after
    unfolding acted_by
    acted_written n is_n some e =
        let t = le-ltb (length room) need fits in
        let least = advertisement_fits o.writes (length (list_of s)) (λ z. some (is_need ∙ z)) in
        let long = bytes_length o.writes o.router s.primary (list_of s) in
        let kept = first_written n (omega arith) in
        record {
          answer_is = rw (← is_need, t);
          station_is = rw (← is_need, t, ne_eqb need 0 some, e, kept, is_n);
          room_is = rw (← is_need, t, wrote);
        }
