-- The interface's counts over a history: each call adds one to the count that names its refusal, and nothing to the others.
-- Assumes nothing.
use mathlib.Core.Path.{◌≡◌, refl, sym, ap, ◌∙◌}
use mathlib.Core.List.{List, [], ◌∷◌}
use mathlib.Core.Bool.{Bool, true, false, cond}
use Prim.Native.Nat.{ℕ, ◌+◌, ◌*◌, ◌/◌, ◌%◌, ◌^◌, ◌≤◌, ◌<◌}
use native.Mathlib.Nat.{zero-add}
use native.Mathlib.Omega.{arith}
use lib.Dec.{eqb, ltb}
use lib.ListN.{length}
use borrow.Author.Tests.{eqb-true, eqb-false, ne_eqb, le-ltb}
use Rattle.std.proofs.lemmas.Bool.{cond_both}
use Rattle.judging.specs.declared.Fields.{Fields}
use Rattle.judging.specs.Judging.{Judged, judged_of}
use Rattle.std.specs.Prelude.{Ok, Err, Some, None}
use Rattle.judging.proofs.Accepted.{refused_most}
use Rattle.states.specs.declared.record.Router.{Router}
use Rattle.states.specs.declared.step.Event.{Event}
use Rattle.states.specs.declared.step.Event.TheVariants.{Startup, Shutdown}
use Rattle.states.specs.declared.step.Outcome.{Outcome}
use Rattle.states.specs.Step.{step_of}
use Rattle.output.specs.Output.{need_of}
use Rattle.places.specs.Place.{Found, primary_of, record_at, set_record, place_of, refusal_count, count_refusal, count_at_place}
use Rattle.places.proofs.Finding.{found}
use Rattle.places.proofs.Beside.{beside_count}
use Rattle.places.proofs.Events.{event_beside, count_beside}
use Rattle.places.proofs.Words.{store_count, count_same, count_other}
use Rattle.events.specs.Result.{Result, refuses, router_place, acted_of}
use Rattle.configuring.specs.Configuring.{place_in, new_router, freed, configure_refusal, remove_refusal}
use Rattle.events.specs.Events.{happened_at, happened_of, clocked_at, clocked_of, interface_count}
use Rattle.packets.specs.Packets.{refusal_at, accepted_at, sought_at, judged_at, heard_of}
use Rattle.packets.proofs.Heard.{refused_range}
use Rattle.histories.specs.Histories.{Call, configure, remove, startup, shutdown, clock, packet, Memory, called, after}
use Rattle.histories.specs.Histories.{begun, GivenAll, answered_by, refusals_in}
use Rattle.histories.specs.Theorems.{InterfaceCounts}
use Rattle.configuring.proofs.Configures.{never_full, never_unknown}
use Rattle.events.proofs.Sought.{sought_below}
use Rattle.histories.proofs.Begun.{empty_held, empty_count}
use Rattle.histories.proofs.Held.{Held}
use Rattle.histories.proofs.Histories.{call_held}

module _ (number : ℕ) (least : 1 ≤ number) (most : number ≤ 9) where
  abbrev of : List ℕ → ℕ
  of words = refusal_count words number

  -- 1 where an answer is this number
  abbrev one : ℕ → ℕ
  one n = cond (eqb n number) 1 0

  -- a call adds one to the count where its answer is the number
  abbrev Adds : List ℕ → Result → Type 0
  Adds words result = of result.words ≡ (of words + one result.answer.number) % 2 ^ 32

  same_adds : (words after : List ℕ) → of words < 2 ^ 32 → of after ≡ of words → of after ≡ (of words + 0) % 2 ^ 32
  same_adds words after small e = omega arith

  other_adds : (words after : List ℕ) → of words < 2 ^ 32 → of after ≡ of words → (n : ℕ) → (n ≡ number → ⊥)
      → of after ≡ (of words + one n) % 2 ^ 32
  other_adds words after small e n other =
      same_adds words after small e ∙ ap (λ (t : Bool). (of words + cond t 1 0) % 2 ^ 32) (sym (ne_eqb n number other))

  -- a refusal of 1 to 9 is counted
  count_test : (t : Bool) (words : List ℕ) (n : ℕ) → length words ≡ 4096 → of words < 2 ^ 32 → n ≤ 9 → eqb n number ≡ t
      → of (count_refusal words n) ≡ (of words + cond t 1 0) % 2 ^ 32
  count_test true words n long small h e =
      let same = eqb-true n number e in
      ap (λ (k : ℕ). of (count_refusal words k)) same ∙ count_same words number most long
  count_test false words n long small h e =
      same_adds words (count_refusal words n) small (count_other words n h number (λ z. eqb-false n number e (sym z)))

  count_adds : (words : List ℕ) (n : ℕ) → length words ≡ 4096 → of words < 2 ^ 32 → n ≤ 9
      → of (count_refusal words n) ≡ (of words + one n) % 2 ^ 32
  count_adds words n long small h = count_test (eqb n number) words n long small h refl

  -- an event's outcome is stored, or the room is too small
  acted_same_test : (t : Bool) (a b : Result) (words : List ℕ) → of a.words ≡ of words → of b.words ≡ of words
      → of (cond t a b).words ≡ of words
  acted_same_test true a b words x y = x
  acted_same_test false a b words x y = y

  acted_same : (words lists : List ℕ) (p : ℕ) (o : Outcome) (leftover : ℕ) (room : List ℕ)
      → of (acted_of words lists p o leftover room).words ≡ of words
  unfolding acted_of
  acted_same words lists p o leftover room =
      acted_same_test (ltb (length room) (need_of o.writes (4 * o.router.count))) _ _ words refl
      (beside_count p words _ (event_beside words p o.router) number most)

  acted_adds : (words lists : List ℕ) (p : ℕ) (o : Outcome) (leftover : ℕ) (room : List ℕ) → of words < 2 ^ 32
      → Adds words (acted_of words lists p o leftover room)
  unfolding acted_of
  acted_adds words lists p o leftover room small =
      cond_both (ltb (length room) (need_of o.writes (4 * o.router.count))) _ _ (Adds words)
      (λ t. other_adds words words small refl 22 (λ z. omega arith))
      (λ t. other_adds words _ small (beside_count p words _ (event_beside words p o.router) number most) 0 (λ z. omega arith))

  -- the refusals of a router are others
  heard_adds : (t : Bool) (words lists : List ℕ) (p : ℕ) (bytes : List ℕ) (f : Fields) (room : List ℕ)
      → eqb (refusal_at words lists p bytes f) 0 ≡ t → of words < 2 ^ 32
      → Adds words
      (cond t (acted_of words lists p (accepted_at words p f) 0 room)
      (refuses (refusal_at words lists p bytes f) (count_at_place words p (refusal_at words lists p bytes f)) room))
  heard_adds true words lists p bytes f room e small = acted_adds words lists p (accepted_at words p f) 0 room small
  heard_adds false words lists p bytes f room e small =
      let n = refusal_at words lists p bytes f in
      let range = refused_range words lists bytes p f n refl (eqb-false n 0 e) in
      other_adds words _ small (beside_count p words _ (count_beside words p n range.0 range.1) number most) n
      (λ z. omega (arith, range))

  sought_adds : (f : Found) (words lists bytes : List ℕ) (fields : Fields) (room : List ℕ) → router_place words fields.vrid ≡ f
      → length words ≡ 4096 → of words < 2 ^ 32 → Adds words (sought_at f words lists bytes fields room)
  sought_adds None words lists bytes fields room s long small = count_adds words 9 long small (omega arith)
  sought_adds (Some p) words lists bytes fields room s long small =
      heard_adds (eqb (refusal_at words lists p bytes fields) 0) words lists p bytes fields room refl small

  judged_adds : (j : Judged) (words lists bytes room : List ℕ) → judged_of bytes ≡ j → length words ≡ 4096 → of words < 2 ^ 32
      → Adds words (judged_at j words lists bytes room)
  judged_adds (Err n) words lists bytes room e long small =
      count_adds words n long small (omega (arith, refused_most bytes n (sym e)))
  judged_adds (Ok fields) words lists bytes room e long small =
      sought_adds (router_place words fields.vrid) words lists bytes fields room refl long small

  -- configuring and removing store a record where nothing is refused
  put_same : (t : Bool) (f : Found) (words : List ℕ) (r : Router) → ((p : ℕ) → f ≡ Some p → p < 255) → (t ≡ true → f ≡ None → ⊥)
      → length words ≡ 4096 → of (cond t (set_record words (place_in f) r) words) ≡ of words
  put_same false f words r below there long = refl
  put_same true None words r below there long = absurd (there refl refl)
  put_same true (Some p) words r below there long = store_count words p r (below p refl) long number most

  happened_same : (f : Found) (words lists : List ℕ) (e : Event) (room : List ℕ)
      → of (happened_at f words lists e room).words ≡ of words
  happened_same None words lists e room = refl
  happened_same (Some p) words lists e room =
      acted_same words lists p (step_of (primary_of words) (record_at words p) e) 0 room

  clocked_same : (f : Found) (words lists : List ℕ) (d : ℕ) (room : List ℕ)
      → of (clocked_at f words lists d room).words ≡ of words
  clocked_same None words lists d room = refl
  clocked_same (Some p) words lists d room = acted_same words lists p _ _ room

  call_adds : (m : Memory) (call : Call) → length m.words ≡ 4096 → of m.words < 2 ^ 32
      → of (called m call).words ≡ (of m.words + answered_by number m call) % 2 ^ 32
  unfolding happened_of clocked_of heard_of
  call_adds m (configure v priority interval preempt addresses) long small =
      let w = m.words in
      let none = eqb-true (configure_refusal w v priority interval addresses) 0 in
      same_adds w _ small
      (put_same (eqb (configure_refusal w v priority interval addresses) 0) (place_of w 0) w
      (new_router v priority interval preempt (length addresses / 4))
      (λ p e. (found w 0 p e).below) (λ e f. never_full w v priority interval addresses (none e) f) long)
  call_adds m (remove v) long small =
      let w = m.words in
      same_adds w _ small
      (put_same (eqb (remove_refusal w v) 0) (router_place w v) w freed (sought_below w v)
      (λ e f. never_unknown w v (eqb-true (remove_refusal w v) 0 e) f) long)
  call_adds m (startup v room) long small =
      same_adds m.words _ small (happened_same (router_place m.words v) m.words m.lists Startup room)
  call_adds m (shutdown v room) long small =
      same_adds m.words _ small (happened_same (router_place m.words v) m.words m.lists Shutdown room)
  call_adds m (clock v d room) long small =
      same_adds m.words _ small (clocked_same (router_place m.words v) m.words m.lists d room)
  call_adds m (packet bytes room) long small = judged_adds (judged_of bytes) m.words m.lists bytes room refl long small

  history_adds : (m : Memory) (history : List Call) → GivenAll history → Held m.words → of m.words < 2 ^ 32
      → of (after m history).words ≡ (of m.words + refusals_in number m history) % 2 ^ 32
  history_adds m [] g held small = same_adds m.words m.words small refl
  history_adds m (call ∷ rest) g held small =
      let here = call_adds m call held.long small in
      let rest_adds = history_adds (called m call) rest g.1 (call_held m call g.0 held) (omega arith) in
      omega arith

  counted_interface : (words : List ℕ) → interface_count words number ≡ of words
  unfolding interface_count
  counted_interface words = rw (ne_eqb number 0 (λ z. omega arith), le-ltb 9 number most)

pub interface_counts : InterfaceCounts
interface_counts primary lists history g number least most =
    let start = empty_count primary number least most in
    let all = history_adds number least most (begun primary lists) history g (empty_held primary) (omega arith) in
    counted_interface number least most (after (begun primary lists) history).words
    ∙ all
    ∙ ap (λ (n : ℕ). (n + refusals_in number (begun primary lists) history) % 2 ^ 32) start
    ∙ ap (λ (n : ℕ). n % 2 ^ 32) (zero-add (refusals_in number (begun primary lists) history))
