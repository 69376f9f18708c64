-- What no step of a station changes: how it was configured, and that what a Master last sent is its advertisement.
-- Assumes nothing.
use mathlib.Core.Path.{◌≡◌, refl, ap, ◌∙◌}
use mathlib.Core.Bool.{Bool, true, false, cond, ◌&&◌}
use mathlib.Core.List.{List}
use Prim.Native.Nat.{ℕ}
use native.Mathlib.Omega.{arith}
use lib.Dec.{eqb, ltb}
use lib.ListN.{length, drop}
use lib.Seq.{take-append_seam}
use borrow.Author.Tests.{ne_eqb}
use Rattle.judging.specs.Judging.{Judged, judged_of}
use Rattle.std.specs.Prelude.{Ok, Err}
use Rattle.writing.specs.Frame.{frame_of}
use Rattle.states.specs.declared.record.State.TheVariants.{Master}
use Rattle.states.specs.declared.record.Router.{Router}
use Rattle.states.specs.declared.step.Event.{Event}
use Rattle.states.specs.declared.step.Event.TheVariants.{Packet}
use Rattle.states.specs.declared.step.Writes.{Writes}
use Rattle.states.specs.declared.step.Writes.TheVariants.{Nothing, Advertisement, Farewell, Takeover}
use Rattle.states.specs.declared.step.Outcome.{Outcome}
use Rattle.states.specs.Step.{step_of}
use Rattle.router.specs.Clock.{ticked_of}
use Rattle.router.specs.Accept.{accepted_of, refused_of}
use Rattle.router.proofs.Kept.{Kept, step_keeps, ticked_keeps}
use Rattle.output.specs.Output.{bytes_of, need_of}
use Rattle.output.proofs.Lengths.{frame_length}
use Rattle.station.specs.declared.station.Station.{Station}
use Rattle.station.specs.Station.{Result, has_router, list_of, packet_of, with_router, with_frame}
use Rattle.station.specs.Acting.{needed_by, kept_by, acted_by}
use Rattle.hearing.specs.Hearing.{counted_by, refusal_by, accepted_outcome, accepted_by, judged_by, heard_by}
use Rattle.steps.specs.Steps.{stepped_by, happened_to, clocked_by}
use Rattle.in_tables.specs.Latest.{advertised_priority}
use Rattle.in_tables.proofs.ReadBack.{advertisement_first}
use Rattle.in_tables.proofs.Staying.{same_kept}
use Rattle.stepped.proofs.Leading.{Leads, step_leads, ticked_leads}

-- the advertisement of a station, less its 14 Ethernet bytes
abbrev pub own_packet : Station → List ℕ
own_packet s = drop 14 (bytes_of Advertisement s.router s.primary (list_of s))

-- what a Master last sent is its advertisement
abbrev pub Latest : Station → Type 0
Latest s = s.router.state ≡ Master → ¬ (s.sent ≡ 0) × (packet_of s ≡ own_packet s)

-- what is the same of a station and of one that steps have made of it
pub record Onward (s after : Station) : Type 0 where
  pub router : Kept s.router after.router
  pub primary_is : after.primary ≡ s.primary
  pub addresses_are : after.addresses ≡ s.addresses
  pub latest : Latest s → Latest after

pub list_same : {s after : Station} → Onward s after → list_of after ≡ list_of s
unfolding list_of
list_same {s} {after} o = rw (o.router.count, o.addresses_are)

pub rests : (s : Station) → Onward s s
rests s =
    record {
      router = same_kept s.router s.router refl refl refl refl refl;
      primary_is = refl;
      addresses_are = refl;
      latest = λ h. h;
    }

pub joins : (a b c : Station) → Onward a b → Onward b c → Onward a c
joins a b c x y =
    let r = x.router in
    let next = y.router in
    record {
      router =
          same_kept a.router c.router (next.vrid ∙ r.vrid) (next.priority ∙ r.priority)
          (next.interval ∙ r.interval) (next.preempt ∙ r.preempt) (next.count ∙ r.count);
      primary_is = y.primary_is ∙ x.primary_is;
      addresses_are = y.addresses_are ∙ x.addresses_are;
      latest = λ h. y.latest (x.latest h);
    }

either_onward : (s : Station) (t : Bool) (a b : Result) → Onward s a.station → Onward s b.station
    → Onward s (cond t a b).station
either_onward s true a b x y = x
either_onward s false a b x y = y

module _ (s : Station) where
  -- nothing is sent
  silent_onward : (r : Router) → Kept s.router r → (r.state ≡ Master → s.router.state ≡ Master)
      → Onward s (with_router s r)
  unfolding list_of packet_of
  silent_onward r k was =
      record {
        router = k;
        primary_is = refl;
        addresses_are = refl;
        latest = λ h m. rw (k.vrid, k.priority, k.interval, k.count) (h (was m));
      }

  -- an advertisement is sent
  sends_onward : (r : Router) (bytes : List ℕ) → Kept s.router r
      → (r.state ≡ Master → bytes ≡ bytes_of Advertisement r s.primary (list_of s))
      → Onward s (with_frame (with_router s r) bytes)
  unfolding list_of packet_of
  sends_onward r bytes k own =
      record {
        router = k;
        primary_is = refl;
        addresses_are = refl;
        latest = λ h m.
            let list = list_of s in
            let long = ap length (own m) ∙ frame_length r.vrid r.priority r.interval s.primary list in
            let whole = take-append_seam bytes (drop (length bytes) s.frame) in
            (λ z. omega arith, ap (drop 14) (whole ∙ own m) ∙ rw k.count);
      }

  -- anything is written: its first bytes are an advertisement, and a Master's own
  writes_onward : (w : Writes) (r : Router) → Kept s.router r → ¬ (need_of w (length (list_of s)) ≡ 0)
      → (r.state ≡ Master → advertised_priority w r.priority ≡ r.priority)
      → Onward s (kept_by s (record { router = r; writes = w }))
  writes_onward w r k some own =
      let list = list_of s in
      let first = advertisement_first r s.primary list w some in
      let frame : ℕ → List ℕ = λ p. frame_of r.vrid p r.interval s.primary list in
      rw (ne_eqb (need_of w (length list)) 0 some) (sends_onward r _ k (λ m. first ∙ ap frame (own m)))

  kept_onward : (w : Writes) (r : Router) → Kept s.router r → Leads w s.router.state r.state
      → Onward s (kept_by s (record { router = r; writes = w }))
  kept_onward Nothing r k leads = silent_onward r k leads
  kept_onward Advertisement r k leads = writes_onward Advertisement r k (λ z. omega arith) (λ m. refl)
  kept_onward Farewell r k leads = writes_onward Farewell r k (λ z. omega arith) (λ m. absurd (leads m))
  kept_onward Takeover r k leads = writes_onward Takeover r k (λ z. omega arith) (λ m. refl)

  -- an outcome, by whether the room holds what it writes
  acted_onward : (o : Outcome) (leftover : ℕ) (room : List ℕ) → Kept s.router o.router
      → Leads o.writes s.router.state o.router.state → Onward s (acted_by s o leftover room).station
  unfolding acted_by
  acted_onward o leftover room k leads =
      either_onward s (ltb (length room) (needed_by s o)) _ _ (rests s) (kept_onward o.writes o.router k leads)

  stepped_onward : (o : Outcome) (leftover : ℕ) (room : List ℕ) → Kept s.router o.router
      → Leads o.writes s.router.state o.router.state → Onward s (stepped_by s o leftover room).station
  stepped_onward o leftover room k leads =
      either_onward s (has_router s) _ _ (acted_onward o leftover room k leads) (rests s)

  counted_onward : (number : ℕ) → Onward s (counted_by s number)
  unfolding counted_by list_of packet_of
  counted_onward number =
      record { router = (rests s).router; primary_is = refl; addresses_are = refl; latest = λ h. h }

  judged_onward : (j : Judged) (packet room : List ℕ) → Onward s (judged_by j s packet room).station
  judged_onward (Err number) packet room = counted_onward number
  judged_onward (Ok f) packet room =
      let number = refusal_by s packet f in
      let refused = refused_of s.router number in
      let r = accepted_of s.router in
      let k = step_keeps s.primary r (Packet f.priority f.source) in
      let leads = step_leads s.primary r (Packet f.priority f.source) in
      either_onward s (has_router s && eqb f.vrid s.router.vrid) (accepted_by s packet f room) _
      (either_onward s (eqb number 0) _ _
      (acted_onward (accepted_outcome s f) 0 room
      (same_kept s.router _ k.vrid k.priority k.interval k.preempt k.count) leads)
      (silent_onward refused (same_kept s.router refused refl refl refl refl refl) (λ m. m)))
      (counted_onward 9)

pub event_onward : (s : Station) (event : Event) (room : List ℕ) → Onward s (happened_to s event room).station
unfolding happened_to
event_onward s event room =
    stepped_onward s (step_of s.primary s.router event) 0 room (step_keeps s.primary s.router event)
    (step_leads s.primary s.router event)

pub clock_onward : (s : Station) (d : ℕ) (room : List ℕ) → Onward s (clocked_by s d room).station
unfolding clocked_by
clock_onward s d room =
    let ticked = ticked_of s.primary s.router d in
    stepped_onward s ticked.outcome ticked.leftover room (ticked_keeps s.primary s.router d)
    (ticked_leads s.primary s.router d)

pub packet_onward : (s : Station) (packet room : List ℕ) → Onward s (heard_by s packet room).station
unfolding heard_by
packet_onward s packet room = judged_onward s (judged_of packet) packet room
