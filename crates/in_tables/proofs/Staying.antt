-- A well formed station stays so.
-- Assumes nothing.
use mathlib.Core.Path.{◌≡◌, refl, ap, ◌∙◌}
use mathlib.Core.List.{List}
use mathlib.Core.Bool.{Bool, true, false, cond, ◌&&◌}
use Prim.Native.Nat.{ℕ, ◌+◌, ◌-◌}
use native.Mathlib.Omega.{arith}
use lib.Dec.{eqb, ltb}
use lib.ListN.{length, take, length-set}
use Rattle.judging.specs.Judging.{Judged, judged_of}
use Rattle.std.specs.Prelude.{Ok, Err}
use Rattle.states.specs.declared.record.Router.{Router}
use Rattle.states.specs.declared.step.Event.TheVariants.{Packet}
use Rattle.states.specs.declared.step.Outcome.{Outcome}
use Rattle.states.specs.Step.{step_of}
use Rattle.router.specs.Clock.{ticked_of}
use Rattle.router.specs.Accept.{accepted_of, refused_of}
use Rattle.router.proofs.Kept.{Kept, step_keeps, ticked_keeps}
use Rattle.station.specs.declared.station.Station.{Station}
use Rattle.station.specs.Station.{Result, has_router, list_of, with_router, with_frame}
use Rattle.station.specs.Acting.{written_by, needed_by, acted_by}
use Rattle.hearing.specs.Hearing.{counted_by, refusal_by, accepted_outcome, accepted_by, judged_by, heard_by}
use Rattle.steps.specs.Steps.{stepped_by, happened_to, clocked_by}
use Rattle.in_tables.specs.Tables.{WellFormed}
use Rattle.in_tables.specs.Theorems.{EventStays, ClockStays, PacketStays}

either_stays : (t : Bool) (a b : Result) → WellFormed a.station → WellFormed b.station
    → WellFormed (cond t a b).station
either_stays true a b x y = x
either_stays false a b x y = y

pub same_kept : (r after : Router) → after.vrid ≡ r.vrid → after.priority ≡ r.priority → after.interval ≡ r.interval
    → after.preempt ≡ r.preempt → after.count ≡ r.count → Kept r after
same_kept r after a b c d e = record { vrid = a; priority = b; interval = c; preempt = d; count = e }

-- what is configured the same, with as many counts and the same addresses, is as well formed
module _ (s : Station) (w : WellFormed s) where
  well_kept : (after : Station) → Kept s.router after.router → length after.refusals ≡ length s.refusals
      → after.addresses ≡ s.addresses → WellFormed after
  well_kept after k n a =
      record {
        vrid = omega (arith, k.vrid, w.vrid);
        priority = omega (arith, k.priority, w.priority);
        interval = omega (arith, k.interval, w.interval);
        count = omega (arith, k.count, w.count);
        refusals = n ∙ w.refusals;
        addresses = ap length a ∙ w.addresses;
      }

  kept_stays : (t : Bool) (o : Outcome) (bytes : List ℕ) → Kept s.router o.router
      → WellFormed (cond t (with_router s o.router) (with_frame (with_router s o.router) bytes))
  kept_stays true o bytes k = well_kept (with_router s o.router) k refl refl
  kept_stays false o bytes k = well_kept (with_frame (with_router s o.router) bytes) k refl refl

  acted_stays : (o : Outcome) (leftover : ℕ) (room : List ℕ) → Kept s.router o.router
      → WellFormed (acted_by s o leftover room).station
  unfolding acted_by
  acted_stays o leftover room k =
      either_stays (ltb (length room) (needed_by s o)) _ _ w
      (kept_stays (eqb (needed_by s o) 0) o (take (50 + length (list_of s)) (written_by s o)) k)

  stepped_stays : (o : Outcome) (leftover : ℕ) (room : List ℕ) → Kept s.router o.router
      → WellFormed (stepped_by s o leftover room).station
  stepped_stays o leftover room k = either_stays (has_router s) _ _ (acted_stays o leftover room k) w

  counted_stays : (number : ℕ) → WellFormed (counted_by s number)
  unfolding counted_by
  counted_stays number =
      well_kept (counted_by s number) (same_kept s.router s.router refl refl refl refl refl)
      (length-set s.refusals (number - 1) _) refl

  judged_stays : (j : Judged) (packet room : List ℕ) → WellFormed (judged_by j s packet room).station
  judged_stays (Err number) packet room = counted_stays number
  judged_stays (Ok f) packet room =
      let number = refusal_by s packet f in
      let refused = refused_of s.router number in
      let k = step_keeps s.primary (accepted_of s.router) (Packet f.priority f.source) in
      either_stays (has_router s && eqb f.vrid s.router.vrid) (accepted_by s packet f room) _
      (either_stays (eqb number 0) _ _
      (acted_stays (accepted_outcome s f) 0 room
      (same_kept s.router _ k.vrid k.priority k.interval k.preempt k.count))
      (well_kept (with_router s refused) (same_kept s.router refused refl refl refl refl refl) refl refl))
      (counted_stays 9)

pub event_stays : EventStays
unfolding happened_to
event_stays s event room w =
    stepped_stays s w (step_of s.primary s.router event) 0 room (step_keeps s.primary s.router event)

pub clock_stays : ClockStays
unfolding clocked_by
clock_stays s ticks room w =
    let ticked = ticked_of s.primary s.router ticks in
    stepped_stays s w ticked.outcome ticked.leftover room (ticked_keeps s.primary s.router ticks)

pub packet_stays : PacketStays
unfolding heard_by
packet_stays s packet room w = judged_stays s w (judged_of packet) packet room
