-- A Master's advertisement is what its own timer has it write, and reads back with its own priority.
-- Assumes nothing.
use mathlib.Core.Path.{◌≡◌, refl, sym, ap, ◌∙◌}
use mathlib.Core.List.{List}
use Prim.Native.Nat.{ℕ, ◌+◌, ◌*◌, ◌≤◌}
use native.Mathlib.Omega.{arith}
use lib.ListN.{length, take, drop}
use lib.Seq.{take_at}
use borrow.Author.Tests.{le-ltb}
use Rattle.judging.specs.Judging.{judged_of}
use Rattle.writing.specs.Writing.{over}
use Rattle.states.specs.declared.record.Router.{Router}
use Rattle.states.specs.declared.record.State.{State}
use Rattle.states.specs.declared.record.State.TheVariants.{Initialize, Backup, Master}
use Rattle.states.specs.Step.{advertises, step_of}
use Rattle.router.specs.Clock.{ticked_in, ticked_of}
use Rattle.places.specs.Place.{primary_of, record_at}
use Rattle.output.specs.Output.{bytes_of}
use Rattle.output.proofs.Lengths.{frame_length}
use Rattle.std.specs.Prelude.{Some}
use Rattle.states.specs.declared.step.Writes.TheVariants.{Advertisement}
use Rattle.events.specs.Lists.{list_at}
use Rattle.events.specs.Result.{Result, router_place, acted_of}
use Rattle.events.proofs.Sought.{clocked}
use Rattle.events.specs.Events.{clocked_of}
use Rattle.histories.specs.Rows.{place_for}
use Rattle.segment.specs.Segment.{router_of, addresses_of, primary_address}
use Rattle.segment.specs.Theorems.{OwnWriting, AdvertisedPriority}
use Rattle.segment.proofs.States.{not_master}
use Rattle.segment.proofs.Reached.{stands_on, list_long, list_small, list_right}
use Rattle.segment.proofs.Reached.{vrid_small, interval_small, priority_small, priority_some, primary_small, advertised}
use Rattle.segment.proofs.Handing.{said, judged}

-- a Master whose time has come advertises
fires_in_lem : (s : State) (primary : ℕ) (r : Router) (ticks : ℕ) → r.state ≡ s → s ≡ Master → r.timer ≤ ticks
    → (ticked_in s primary r ticks).outcome ≡ advertises r
unfolding step_of
fires_in_lem Initialize primary r ticks e m h = absurd cc
fires_in_lem Backup primary r ticks e m h = absurd (not_master m)
fires_in_lem Master primary r ticks e m h = rw (le-ltb ticks r.timer h, e)

fires : (primary : ℕ) (r : Router) (ticks : ℕ) → r.state ≡ Master → r.timer ≤ ticks
    → (ticked_of primary r ticks).outcome ≡ advertises r
unfolding ticked_of
fires primary r ticks m h = fires_in_lem r.state primary r ticks refl m h

-- the room after the clock step that fires
fired_room : (words lists : List ℕ) (v p ticks : ℕ) (room : List ℕ) → router_place words v ≡ Some p
    → (record_at words p).state ≡ Master → (record_at words p).timer ≤ ticks → 50 + 4 * (record_at words p).count ≤ length room
    → (clocked_of words lists v ticks room).room
    ≡ over (bytes_of Advertisement (record_at words p) (primary_of words) (list_at lists p (record_at words p).count)) room
unfolding acted_of
fired_room words lists v p ticks room found master late large =
    let r = record_at words p in
    ap (λ (x : Result). x.room) (sym (clocked words lists v p ticks room found))
    ∙ rw (fires (primary_of words) r ticks master late, le-ltb (length room) (50 + 4 * r.count) large)

pub own_writing : OwnWriting
own_writing vrid interval addresses m ticks room stands master late large =
    let r = router_of vrid m in
    let list = addresses_of vrid m in
    let frame = bytes_of Advertisement r (primary_of m.words) list in
    let long = frame_length r.vrid r.priority r.interval (primary_of m.words) list in
    ap (λ (x : List ℕ). drop 14 (take (50 + length addresses) x))
    (fired_room m.words m.lists vrid (place_for m.words vrid) ticks room
    (stands_on vrid interval addresses m stands).found master late
    (omega (arith, list_long vrid interval addresses m stands)))
    ∙ ap (drop 14)
    (take_at frame (drop (length frame) room) (50 + length addresses)
    (long ∙ ap (λ (x : List ℕ). 50 + length x) stands.addresses_are))

pub advertised_priority_lem : AdvertisedPriority
advertised_priority_lem vrid interval addresses m stands =
    let q = (router_of vrid m).priority in
    record {
      fields = said vrid interval addresses q (primary_address m);
      accepted =
          ap judged_of (advertised vrid interval addresses m stands)
          ∙ judged vrid interval addresses q (primary_address m) (list_small vrid interval addresses m stands)
          (list_right vrid interval addresses m stands) (vrid_small vrid interval addresses m stands)
          (interval_small vrid interval addresses m stands) (priority_small vrid interval addresses m stands)
          (primary_small vrid interval addresses m stands);
      priority_is = refl;
      some = priority_some vrid interval addresses m stands;
    }
