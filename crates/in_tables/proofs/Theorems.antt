-- The theorems that specs/Theorems.antt states.
-- Assumes nothing.
use mathlib.Core.Path.{◌≡◌, refl, sym, ap, ◌∙◌}
use mathlib.Core.List.{List}
use mathlib.Core.Bool.{Bool, true, false, cond, not, ◌&&◌}
use Prim.Native.Nat.{ℕ, ◌+◌, ◌*◌}
use native.Mathlib.Omega.{arith}
use lib.Dec.{eqb, ltb}
use lib.ListN.{length, take}
use borrow.Author.Tests.{ne_eqb, eqb-true, eqb-false}
use Rattle.judging.specs.declared.Fields.{Fields}
use Rattle.judging.specs.Judging.{Judged, judged_of}
use Rattle.std.specs.Prelude.{Ok, Err, Some, None}
use Rattle.judging.proofs.Accepted.{refused_most, refused_least}
use Rattle.states.specs.declared.step.Outcome.{Outcome}
use Rattle.states.specs.Step.{step_of}
use Rattle.states.proofs.Kept.{Unchanged, step_unchanged}
use Rattle.router.specs.Clock.{ticked_of}
use Rattle.router.specs.Accept.{refused_of}
use Rattle.router.proofs.Kept.{ticked_unchanged}
use Rattle.places.specs.Place.{Found, count_at_place}
use Rattle.events.specs.Lists.{list_at}
use Rattle.events.specs.Result.{Result as TableResult, refuses as table_refuses, router_place, acted_of}
use Rattle.events.proofs.Answers.{one_answer}
use Rattle.events.specs.Events.{happened_at, happened_of, clocked_at, clocked_of}
use Rattle.packets.specs.Packets.{refusal_at, accepted_at, heard_at, sought_at, judged_at, heard_of}
use Rattle.packets.proofs.Heard.{refused_range}
use Rattle.histories.proofs.Histories.{accepted_unchanged}
use Rattle.station.specs.declared.station.Station.{Station}
use Rattle.station.specs.Station.{Result, refuses, list_of, packet_of, with_router, with_frame}
use Rattle.station.specs.Acting.{written_by, needed_by, kept_by, acted_by}
use Rattle.hearing.specs.Hearing.{counted_by, refusal_by, accepted_outcome, accepted_by, judged_by, heard_by}
use Rattle.steps.specs.Steps.{happened_to, clocked_by, delivered_to}
use Rattle.in_tables.specs.Tables.{words_of, lists_of, in_table, WellFormed}
use Rattle.in_tables.specs.Theorems.{OneStep, OneMaking, EventInTable, ClockInTable, PacketInTable, DeliveryInTable}
use Rattle.in_tables.specs.Theorems.{NoneInTable}
use Rattle.station.proofs.Arrays.{list_length}
use Rattle.in_tables.proofs.Tables.{event_first, refused_first, first_record, primary_is, found_first, nothing_else}
use Rattle.in_tables.proofs.Tables.{few, first_list, count_first}

pub one_step : OneStep
one_step result a b room other x y =
    let answers = one_answer a.answer b.answer (x.answer_is ∙ sym y.answer_is) in
    let stations = x.station_is ∙ sym y.station_is in
    (λ i. record { station = stations i; answer = answers i }, x.room_is ∙ sym y.room_is)

pub one_making : OneMaking
one_making made a b x y =
    let answers = one_answer a.answer b.answer (x.answer_is ∙ sym y.answer_is) in
    let stations = x.station_is ∙ sym y.station_is in
    λ i. record { station = stations i; answer = answers i }

pub none_in_table : NoneInTable
none_in_table s v w z = nothing_else s w (router_place (words_of s) v) v (λ same. same ∙ z) refl

-- whichever of two results is taken, where both are the same in the table
either_in_table : (t : Bool) (a b : TableResult) (c d : Result) → a ≡ in_table c → b ≡ in_table d
    → cond t a b ≡ in_table (cond t c d)
either_in_table true a b c d x y = x
either_in_table false a b c d x y = y

-- the words of a table say nothing of frames
kept_test : (t : Bool) (s : Station) (bytes : List ℕ) → words_of (cond t s (with_frame s bytes)) ≡ words_of s
unfolding words_of
kept_test true s bytes = refl
kept_test false s bytes = refl

kept_words : (s : Station) (o : Outcome) → words_of (kept_by s o) ≡ words_of (with_router s o.router)
kept_words s o =
    kept_test (eqb (needed_by s o) 0) (with_router s o.router) (take (50 + length (list_of s)) (written_by s o))

module _ (s : Station) (w : WellFormed s) where
  -- an outcome at the first place, and the same for the station
  acted_in_table : (o : Outcome) (leftover : ℕ) (room : List ℕ) → Unchanged s.router o.router
      → acted_of (words_of s) (lists_of s) 0 o leftover room ≡ in_table (acted_by s o leftover room)
  unfolding acted_of acted_by
  acted_in_table o leftover room same =
      let count = same.kept.count in
      let long : 4 * o.router.count ≡ length (list_of s) = omega (arith, list_length s w.addresses, few s w) in
      let list = ap (list_at (lists_of s) 0) count ∙ first_list s w in
      rw (long, list, event_first s w.refusals o.router same, primary_is s w, ← kept_words s o)
      (either_in_table (ltb (length room) (needed_by s o)) _ _ _ _ refl refl)

  refusal_same : (packet : List ℕ) (f : Fields) → refusal_at (words_of s) (lists_of s) 0 packet f ≡ refusal_by s packet f
  unfolding refusal_by
  refusal_same packet f = rw (first_record s w, first_list s w)

  accepted_same : (f : Fields) → accepted_at (words_of s) 0 f ≡ accepted_outcome s f
  accepted_same f = rw (first_record s w, primary_is s w)

  -- a packet is accepted, or refused by 10 to 13
  heard_test : (t : Bool) (packet : List ℕ) (f : Fields) (room : List ℕ) → eqb (refusal_by s packet f) 0 ≡ t
      → cond t (acted_of (words_of s) (lists_of s) 0 (accepted_outcome s f) 0 room)
      (table_refuses (refusal_by s packet f) (count_at_place (words_of s) 0 (refusal_by s packet f)) room)
      ≡ in_table
      (cond t (acted_by s (accepted_outcome s f) 0 room)
      (refuses (refusal_by s packet f) (with_router s (refused_of s.router (refusal_by s packet f))) room))
  heard_test true packet f room e =
      let same = rw (first_record s w, primary_is s w) at (accepted_unchanged (words_of s) 0 f) in
      acted_in_table (accepted_outcome s f) 0 room same
  heard_test false packet f room e =
      let number = refusal_by s packet f in
      let range = refused_range (words_of s) (lists_of s) packet 0 f number (sym (refusal_same packet f)) (eqb-false number 0 e) in
      rw (refused_first s w.refusals number range.0 range.1)

  heard_in_table : (packet : List ℕ) (f : Fields) (room : List ℕ)
      → heard_at (words_of s) (lists_of s) 0 packet f room ≡ in_table (accepted_by s packet f room)
  heard_in_table packet f room =
      rw (refusal_same packet f, accepted_same f) (heard_test (eqb (refusal_by s packet f) 0) packet f room refl)

  other_in_table : (packet : List ℕ) (f : Fields) (room : List ℕ) → (f.vrid ≡ s.router.vrid → f.vrid ≡ 0)
      → sought_at (router_place (words_of s) f.vrid) (words_of s) (lists_of s) packet f room
      ≡ in_table (refuses 9 (counted_by s 9) room)
  other_in_table packet f room other =
      let place = nothing_else s w (router_place (words_of s) f.vrid) f.vrid other refl in
      rw (place, count_first s w 9 (omega arith) (omega arith))

  sought_in_table : (n t : Bool) (packet : List ℕ) (f : Fields) (room : List ℕ) → eqb s.router.vrid 0 ≡ n
      → eqb f.vrid s.router.vrid ≡ t
      → sought_at (router_place (words_of s) f.vrid) (words_of s) (lists_of s) packet f room
      ≡ in_table (cond (not n && t) (accepted_by s packet f room) (refuses 9 (counted_by s 9) room))
  sought_in_table true t packet f room d e = other_in_table packet f room (λ same. same ∙ eqb-true s.router.vrid 0 d)
  sought_in_table false true packet f room d e =
      let named = eqb-false s.router.vrid 0 d in
      let place = ap (router_place (words_of s)) (eqb-true f.vrid s.router.vrid e) ∙ found_first s w named in
      rw place (heard_in_table packet f room)
  sought_in_table false false packet f room d e =
      other_in_table packet f room (λ same. absurd (eqb-false f.vrid s.router.vrid e same))

  judged_in_table : (j : Judged) (packet room : List ℕ) → judged_of packet ≡ j
      → judged_at j (words_of s) (lists_of s) packet room ≡ in_table (judged_by j s packet room)
  judged_in_table (Err number) packet room e =
      let least = refused_least packet number (sym e) in
      let most = refused_most packet number (sym e) in
      rw (count_first s w number (omega arith) (omega arith))
  judged_in_table (Ok f) packet room e =
      sought_in_table (eqb s.router.vrid 0) (eqb f.vrid s.router.vrid) packet f room refl refl

  -- a call for the station's router: at the first place, or refused
  called_in_table : (t : Bool) (call : Found → TableResult) (a b : Result) → eqb s.router.vrid 0 ≡ t
      → call (Some 0) ≡ in_table a → call None ≡ in_table b
      → call (router_place (words_of s) s.router.vrid) ≡ in_table (cond (not t) a b)
  called_in_table true call a b e x y =
      ap call (none_in_table s s.router.vrid w (eqb-true s.router.vrid 0 e)) ∙ y
  called_in_table false call a b e x y = ap call (found_first s w (eqb-false s.router.vrid 0 e)) ∙ x

pub event_in_table : EventInTable
unfolding happened_of happened_to
event_in_table s event room w =
    let same = step_unchanged s.primary s.router event in
    called_in_table s w (eqb s.router.vrid 0) (λ f. happened_at f (words_of s) (lists_of s) event room) _ _ refl
    (rw (first_record s w, primary_is s w)
    (acted_in_table s w (step_of s.primary s.router event) 0 room same))
    refl

pub clock_in_table : ClockInTable
unfolding clocked_of clocked_by
clock_in_table s ticks room w =
    let ticked = ticked_of s.primary s.router ticks in
    let same = ticked_unchanged s.primary s.router ticks in
    called_in_table s w (eqb s.router.vrid 0) (λ f. clocked_at f (words_of s) (lists_of s) ticks room) _ _ refl
    (rw (first_record s w, primary_is s w)
    (acted_in_table s w ticked.outcome ticked.leftover room same))
    refl

pub packet_in_table : PacketInTable
unfolding heard_of heard_by
packet_in_table s packet room w = judged_in_table s w (judged_of packet) packet room refl

pub delivery_in_table : DeliveryInTable
unfolding delivered_to
delivery_in_table from to room w some =
    rw (ne_eqb from.sent 0 some) (packet_in_table to (packet_of from) room w)
