-- What a refusal changes of the table, in any memory.
-- Assumes nothing.
use mathlib.Core.Path.{◌≡◌, refl, sym, ap, ◌∙◌}
use mathlib.Core.Logic.{◌⊎◌, inl, inr}
use mathlib.Core.List.{List}
use mathlib.Core.Bool.{Bool, true, false, cond}
use Prim.Native.Nat.{ℕ, ◌*◌, ◌≤◌, ◌<◌}
use native.Mathlib.Omega.{arith}
use lib.Dec.{eqb, ltb}
use lib.ListN.{length, length-set}
use lib.Seq.{get_or-set_same, get_or-set_other}
use borrow.Author.Tests.{eqb-false, ne_eqb, le-leb, lt-leb}
use Rattle.judging.specs.Judging.{Judged, judged_of, fields_of}
use Rattle.std.specs.Prelude.{Ok, Err, Some, None}
use Rattle.judging.proofs.Accepted.{refused_most, refused_least, accepted_is}
use Rattle.states.specs.declared.record.State.{State}
use Rattle.states.specs.declared.step.Event.{Event}
use Rattle.states.specs.declared.step.Outcome.{Outcome}
use Rattle.states.specs.Step.{stays, step_of}
use Rattle.router.specs.Clock.{ticked_in, ticked_of}
use Rattle.output.specs.Output.{need_of}
use Rattle.places.specs.Place.{Found, primary_of, record_at, set_event, count_word, count_refusal, router_word, count_at_place}
use Rattle.places.proofs.Events.{event_same}
use Rattle.events.specs.Result.{Result, refuses, router_place, acted_of}
use Rattle.events.specs.Events.{happened_at, happened_of, clocked_at, clocked_of}
use Rattle.events.proofs.Sought.{sought_below}
use Rattle.configuring.specs.Configuring.{configure_refusal, remove_refusal}
use Rattle.packets.specs.Packets.{refusal_at, accepted_at, sought_at, judged_at, heard_of}
use Rattle.packets.proofs.Heard.{refused_range}
use Rattle.histories.specs.Rows.{packet_outcome}
use Rattle.histories.specs.Kept.{OneCount, packet_place, counted_word, Keeps}
use Rattle.histories.specs.Theorems.{RefusedPacket, ShortPacket, RefusedEvent, RefusedClock, RefusedConfigure}
use Rattle.histories.specs.Theorems.{RefusedRemove, NothingHappens, ClockInInitialize}

-- an outcome at a place is done, and the words are those, or it is refused by 22, which changes nothing
abbrev pub Ends : List ℕ → List ℕ → List ℕ → Result → Type 0
Ends words after room r =
    ((r.answer.number ≡ 0) × (r.words ≡ after)) ⊎ ((r.answer.number ≡ 22) × Keeps words room r)

acted_test : (t : Bool) (words after room : List ℕ) (a b : Result) → Ends words after room a → Ends words after room b
    → Ends words after room (cond t a b)
acted_test true words after room a b x y = x
acted_test false words after room a b x y = y

acted_ends : (words lists : List ℕ) (p : ℕ) (o : Outcome) (leftover : ℕ) (room : List ℕ)
    → Ends words (set_event words p o.router) room (acted_of words lists p o leftover room)
unfolding acted_of
acted_ends words lists p o leftover room =
    acted_test (ltb (length room) (need_of o.writes (4 * o.router.count))) words _ room _ _
    (inr (refl, record { words_stay = refl; room_stays = refl })) (inl (refl, refl))

module _ (words after room : List ℕ) (r : Result) where
  ends_keep : Ends words after room r → ¬ (r.answer.number ≡ 0) → Keeps words room r
  ends_keep (inl e) n = absurd (n e.0)
  ends_keep (inr e) n = e.1

  pub ends_done : Ends words after room r → r.answer.number ≡ 0 → r.words ≡ after
  ends_done (inl e) z = e.1
  ends_done (inr e) z = absurd (omega (arith, e.0))

  ends_apart : Ends words after room r → 1 ≤ r.answer.number → r.answer.number ≤ 13 → ⊥
  ends_apart (inl e) a b = omega (arith, e.0)
  ends_apart (inr e) a b = omega (arith, e.0)

happened_keeps : (f : Found) (words lists : List ℕ) (e : Event) (room : List ℕ)
    → ¬ ((happened_at f words lists e room).answer.number ≡ 0) → Keeps words room (happened_at f words lists e room)
happened_keeps None words lists e room = λ n. record { words_stay = refl; room_stays = refl }
happened_keeps (Some p) words lists e room =
    ends_keep words _ room _ (acted_ends words lists p (step_of (primary_of words) (record_at words p) e) 0 room)

pub refused_event : RefusedEvent
unfolding happened_of
refused_event words lists v e room = happened_keeps (router_place words v) words lists e room

clocked_keeps : (f : Found) (words lists : List ℕ) (d : ℕ) (room : List ℕ)
    → ¬ ((clocked_at f words lists d room).answer.number ≡ 0) → Keeps words room (clocked_at f words lists d room)
clocked_keeps None words lists d room = λ n. record { words_stay = refl; room_stays = refl }
clocked_keeps (Some p) words lists d room =
    let t = ticked_of (primary_of words) (record_at words p) d in
    ends_keep words _ room _ (acted_ends words lists p t.outcome t.leftover room)

pub refused_clock : RefusedClock
unfolding clocked_of
refused_clock words lists v d room = clocked_keeps (router_place words v) words lists d room

pub refused_configure : RefusedConfigure
refused_configure words lists v priority interval preempt addresses n =
    let t = ne_eqb (configure_refusal words v priority interval addresses) 0 n in
    (rw t, rw t)

pub refused_remove : RefusedRemove
refused_remove words v n = rw (ne_eqb (remove_refusal words v) 0 n)

-- the two ends of a packet: it is refused by 1 to 13, which is counted, or its router takes it
pub data Heard (words lists bytes room : List ℕ) (r : Result) : Type 0 where
  refused : (n : ℕ) → 1 ≤ n → n ≤ 13 → counted_word words bytes n < 4096
      → r ≡ refuses n (count_word words (counted_word words bytes n)) room → Heard words lists bytes room r
  taken : packet_place words bytes < 255
      → r ≡ acted_of words lists (packet_place words bytes) (packet_outcome words bytes) 0 room
      → Heard words lists bytes room r

module _ (words lists bytes room : List ℕ) where
  abbrev Ending : Result → Type 0
  Ending r = Heard words lists bytes room r

  -- "1 to 9": the word of that number
  interface_word : (n : ℕ) → n ≤ 9 → counted_word words bytes n ≡ n
  interface_word n h = rw (le-leb n 9 h)

  interface_refused : (n : ℕ) → 1 ≤ n → n ≤ 9 → Ending (refuses n (count_refusal words n) room)
  unfolding count_refusal
  interface_refused n least most =
      let w = interface_word n most in
      refused n least (omega arith) (omega arith) (rw w)

  heard_test : (t : Bool) (p : ℕ) → router_place words (fields_of bytes).vrid ≡ Some p
      → eqb (refusal_at words lists p bytes (fields_of bytes)) 0 ≡ t
      → Ending
      (cond t (acted_of words lists p (accepted_at words p (fields_of bytes)) 0 room)
      (refuses (refusal_at words lists p bytes (fields_of bytes))
      (count_at_place words p (refusal_at words lists p bytes (fields_of bytes))) room))
  unfolding count_at_place
  heard_test true p e s = taken (rw e (sought_below words (fields_of bytes).vrid p e)) (rw e)
  heard_test false p e s =
      let n = refusal_at words lists p bytes (fields_of bytes) in
      let range = refused_range words lists bytes p (fields_of bytes) n refl (eqb-false n 0 s) in
      let below = sought_below words (fields_of bytes).vrid p e in
      let w : counted_word words bytes n ≡ router_word p n = rw (lt-leb n 9 (omega arith), e) in
      refused n (omega arith) (omega arith) (omega arith) (rw w)

  sought_ends : (f : Found) → router_place words (fields_of bytes).vrid ≡ f
      → Ending (sought_at f words lists bytes (fields_of bytes) room)
  sought_ends None e = interface_refused 9 (omega arith) (omega arith)
  sought_ends (Some p) e = heard_test (eqb (refusal_at words lists p bytes (fields_of bytes)) 0) p e refl

  judged_ends : (j : Judged) → judged_of bytes ≡ j → Ending (judged_at j words lists bytes room)
  judged_ends (Err n) e =
      let least = refused_least bytes n (sym e) in
      interface_refused n (omega arith) (omega (arith, refused_most bytes n (sym e)))
  judged_ends (Ok fields) e =
      rw (accepted_is bytes fields (sym e)).1 (sought_ends (router_place words (fields_of bytes).vrid) refl)

  pub heard_ends : Ending (heard_of words lists bytes room)
  unfolding heard_of
  heard_ends = judged_ends (judged_of bytes) refl

pub taken_ends : (words lists bytes room : List ℕ) (r : Result)
    → r ≡ acted_of words lists (packet_place words bytes) (packet_outcome words bytes) 0 room
    → Ends words (set_event words (packet_place words bytes) (packet_outcome words bytes).router) room r
taken_ends words lists bytes room r e =
    rw e (acted_ends words lists (packet_place words bytes) (packet_outcome words bytes) 0 room)

-- one word is counted up
count_one : (words : List ℕ) (at : ℕ) → at < length words → OneCount words (count_word words at) at
count_one words at h =
    record {
      long = length-set words at _;
      count = get_or-set_same words at _ 0 h;
      others = λ i n. get_or-set_other words at i _ 0 n;
    }

refused_test : (words lists bytes room : List ℕ) (r : Result) → Heard words lists bytes room r → (number : ℕ)
    → length words ≡ 4096 → r.answer.number ≡ number → 1 ≤ number → number ≤ 13
    → OneCount words r.words (counted_word words bytes number) × (r.room ≡ room)
refused_test words lists bytes room r (refused n least most h e) number long s a b =
    let z : n ≡ number = sym (ap (λ (x : Result). x.answer.number) e) ∙ s in
    rw (e, ← z) (count_one words (counted_word words bytes n) (omega arith), refl)
refused_test words lists bytes room r (taken h e) number long s a b =
    absurd (ends_apart words _ room r (taken_ends words lists bytes room r e) (omega arith) (omega arith))

pub refused_packet : RefusedPacket
refused_packet words lists bytes room = refused_test words lists bytes room _ (heard_ends words lists bytes room)

short_test : (words lists bytes room : List ℕ) (r : Result) → Heard words lists bytes room r → r.answer.number ≡ 22
    → Keeps words room r
short_test words lists bytes room r (refused n least most h e) s =
    absurd (let z : n ≡ 22 = sym (ap (λ (x : Result). x.answer.number) e) ∙ s in omega arith)
short_test words lists bytes room r (taken h e) s =
    ends_keep words _ room r (taken_ends words lists bytes room r e) (λ z. omega arith)

pub short_packet : ShortPacket
short_packet words lists bytes room = short_test words lists bytes room _ (heard_ends words lists bytes room)

-- an outcome that changes nothing leaves every word
same_test : (t : Bool) (a b : Result) (words : List ℕ) → a.words ≡ words → b.words ≡ words → (cond t a b).words ≡ words
same_test true a b words x y = x
same_test false a b words x y = y

acted_same : (words lists : List ℕ) (p : ℕ) (o : Outcome) (leftover : ℕ) (room : List ℕ) → o ≡ stays (record_at words p)
    → (acted_of words lists p o leftover room).words ≡ words
unfolding acted_of
acted_same words lists p o leftover room e =
    same_test (ltb (length room) (need_of o.writes (4 * o.router.count))) _ _ words refl
    (ap (λ (x : Outcome). set_event words p x.router) e ∙ event_same words p)

pub nothing_happens : NothingHappens
unfolding happened_of
nothing_happens words lists v p e room s h =
    ap (λ (f : Found). (happened_at f words lists e room).words) s ∙ acted_same words lists p _ 0 room h

pub clock_in_initialize : ClockInInitialize
unfolding clocked_of ticked_of
clock_in_initialize words lists v p d room s h =
    ap (λ (f : Found). (clocked_at f words lists d room).words) s
    ∙ acted_same words lists p _ _ room
    (ap (λ (x : State). (ticked_in x (primary_of words) (record_at words p) d).outcome) h)
