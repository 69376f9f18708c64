-- Every call keeps what holds of a table, so it holds after every history from an empty one.
-- Assumes nothing.
use mathlib.Core.Path.{◌≡◌, refl, sym, ◌∙◌}
use mathlib.Core.List.{List, [], ◌∷◌}
use mathlib.Core.Bool.{Bool, true, false, cond, not, ◌||◌}
use Prim.Native.Nat.{ℕ, ◌*◌, ◌/◌, ◌%◌, ◌≤◌, ◌<◌}
use native.Mathlib.Omega.{arith}
use lib.Dec.{eqb, ltb}
use lib.ListN.{length, get_or}
use borrow.Author.Tests.{eqb-true, eqb-false, ltb-false, not-false}
use Rattle.std.proofs.lemmas.Bool.{cond_both}
use Rattle.judging.specs.declared.Fields.{Fields}
use Rattle.judging.specs.Judging.{Judged, judged_of}
use Rattle.std.specs.Prelude.{Ok, Err, Some, None}
use Rattle.judging.proofs.Accepted.{refused_most}
use Rattle.writing.specs.Writing.{address_bytes_wrong}
use Rattle.wire.proofs.Checks.{passed}
use Rattle.wire.proofs.Tested.{two_passed}
use Rattle.states.specs.declared.step.Event.{Event}
use Rattle.states.specs.declared.step.Event.TheVariants.{Startup, Shutdown, Packet}
use Rattle.states.specs.declared.step.Outcome.{Outcome}
use Rattle.router.specs.Accept.{accepted_of}
use Rattle.router.specs.Timed.{Timed}
use Rattle.states.proofs.Kept.{Unchanged, step_unchanged}
use Rattle.router.proofs.Kept.{ticked_unchanged}
use Rattle.router.proofs.Timed.{step_timed, ticked_timed}
use Rattle.output.specs.Output.{need_of}
use Rattle.places.specs.Place.{Found, base_of, primary_of, record_at, set_record, count_at_place, place_of}
use Rattle.places.proofs.Finding.{found, missing}
use Rattle.places.specs.Layout.{InRange}
use Rattle.places.proofs.Records.{read_in_range}
use Rattle.events.specs.Result.{Result, refuses, router_place, acted_of}
use Rattle.configuring.specs.Configuring.{is_found, place_in, new_router, freed, configure_checks, configure_refusal, remove_checks, remove_refusal}
use Rattle.events.specs.Events.{happened_at, happened_of, clocked_at, clocked_of}
use Rattle.packets.specs.Packets.{refusal_at, accepted_at, sought_at, judged_at, heard_of}
use Rattle.packets.proofs.Heard.{refused_range}
use Rattle.histories.specs.Histories.{Call, configure, remove, startup, shutdown, clock, packet, Given, Memory, called, after}
use Rattle.histories.specs.Histories.{begun, GivenAll}
use Rattle.histories.specs.Theorems.{AfterEveryHistory}
use Rattle.events.proofs.Sought.{sought_word}
use Rattle.histories.proofs.Changed.{event_changed, count_changed}
use Rattle.histories.proofs.Held.{Held, store_held, changed_held, count_held}
use Rattle.configuring.proofs.Configures.{configure_most}
use Rattle.histories.proofs.Begun.{empty_held}

-- a router that was found is in use, and so it has an interval
in_use : (words : List ℕ) → Held words → (v p : ℕ) → router_place words v ≡ Some p
    → (p < 255) × ¬ (get_or words (base_of p) 0 ≡ 0) × (1 ≤ (record_at words p).interval)
in_use words held v p e =
    let w = sought_word words v p e in
    let used : ¬ (get_or words (base_of p) 0 ≡ 0) = λ z. w.2 (sym w.1 ∙ z) in
    (w.0, used, ((held.sound p w.0).configured used).0)

acted_held : (words lists : List ℕ) → Held words → (p : ℕ) → p < 255 → ¬ (get_or words (base_of p) 0 ≡ 0)
    → (o : Outcome) (leftover : ℕ)
    (room : List ℕ) → Unchanged (record_at words p) o.router → Timed o.router
    → Held (acted_of words lists p o leftover room).words
unfolding acted_of
acted_held words lists held p below used o leftover room same timed =
    cond_both (ltb (length room) (need_of o.writes (4 * o.router.count))) _ _ (λ (x : Result). Held x.words) (λ t. held)
    (λ t. changed_held words _ held p below used o.router (event_changed words p o.router below held.long same) timed)

priority_most : (words : List ℕ) (p : ℕ) → (record_at words p).priority ≤ 255
priority_most words p = omega (arith, (read_in_range words p).priority)

happened_held : (f : Found) (words lists : List ℕ) → Held words → (v : ℕ) (e : Event) (room : List ℕ) → router_place words v ≡ f
    → Held (happened_at f words lists e room).words
happened_held None words lists held v e room s = held
happened_held (Some p) words lists held v e room s =
    let u = in_use words held v p s in
    acted_held words lists held p u.0 u.1 _ 0 room (step_unchanged (primary_of words) (record_at words p) e)
    (step_timed (record_at words p) u.2 (priority_most words p) (primary_of words) e (held.sound p u.0).timed)

clocked_held : (f : Found) (words lists : List ℕ) → Held words → (v d : ℕ) (room : List ℕ) → router_place words v ≡ f
    → Held (clocked_at f words lists d room).words
clocked_held None words lists held v d room s = held
clocked_held (Some p) words lists held v d room s =
    let u = in_use words held v p s in
    acted_held words lists held p u.0 u.1 _ _ room (ticked_unchanged (primary_of words) (record_at words p) d)
    (ticked_timed (record_at words p) u.2 (priority_most words p) (primary_of words) d (held.sound p u.0).timed)

-- counting an accepted packet changes neither the configuration nor what was refused
pub accepted_unchanged : (words : List ℕ) (p : ℕ) (f : Fields) → Unchanged (record_at words p) (accepted_at words p f).router
accepted_unchanged words p f =
    let s = step_unchanged (primary_of words) (accepted_of (record_at words p)) (Packet f.priority f.source) in
    let k = s.kept in
    record {
      kept = record { vrid = k.vrid; priority = k.priority; interval = k.interval; preempt = k.preempt; count = k.count };
      owner = s.owner;
      authentication = s.authentication;
      list_count = s.list_count;
      interval_count = s.interval_count;
    }

heard_test : (t : Bool) (words lists : List ℕ) → Held words → (p : ℕ) → p < 255 → ¬ (get_or words (base_of p) 0 ≡ 0)
    → 1 ≤ (record_at words p).interval → (bytes : List ℕ) (f : Fields) (room : List ℕ) → eqb (refusal_at words lists p bytes f) 0 ≡ t
    → Held
    (cond t (acted_of words lists p (accepted_at words p f) 0 room)
    (refuses (refusal_at words lists p bytes f) (count_at_place words p (refusal_at words lists p bytes f)) room)).words
heard_test true words lists held p below used interval bytes f room e =
    acted_held words lists held p below used _ 0 room (accepted_unchanged words p f)
    (step_timed (accepted_of (record_at words p)) interval (priority_most words p) (primary_of words)
    (Packet f.priority f.source) (held.sound p below).timed)
heard_test false words lists held p below used interval bytes f room e =
    let range = refused_range words lists bytes p f _ refl (eqb-false (refusal_at words lists p bytes f) 0 e) in
    changed_held words _ held p below used _ (count_changed words p _ below held.long range.0 range.1)
    (held.sound p below).timed

sought_held : (f : Found) (words lists : List ℕ) → Held words → (bytes : List ℕ) (fields : Fields) (room : List ℕ)
    → router_place words fields.vrid ≡ f → Held (sought_at f words lists bytes fields room).words
sought_held None words lists held bytes fields room s = count_held words held 9 (omega arith)
sought_held (Some p) words lists held bytes fields room s =
    let u = in_use words held fields.vrid p s in
    heard_test (eqb (refusal_at words lists p bytes fields) 0) words lists held p u.0 u.1 u.2 bytes fields room refl

judged_held : (j : Judged) (words lists : List ℕ) → Held words → (bytes room : List ℕ) → judged_of bytes ≡ j
    → Held (judged_at j words lists bytes room).words
judged_held (Err number) words lists held bytes room e =
    count_held words held number (omega (arith, refused_most bytes number (sym e)))
judged_held (Ok fields) words lists held bytes room e =
    sought_held (router_place words fields.vrid) words lists held bytes fields room refl

-- "17 address bytes not a multiple of 4, none, or above 64": the others are 1 to 16 addresses
address_count : (addresses : List ℕ) → address_bytes_wrong addresses ≡ false
    → (1 ≤ length addresses / 4) × (length addresses / 4 ≤ 16)
unfolding address_bytes_wrong
address_count addresses e =
    let n = length addresses in
    let most = two_passed (not (eqb (n % 4) 0) || eqb n 0) (ltb 64 n) e in
    let some = two_passed (not (eqb (n % 4) 0)) (eqb n 0) most.0 in
    omega (arith, eqb-true (n % 4) 0 (not-false (eqb (n % 4) 0) some.0), eqb-false n 0 some.1, ltb-false 64 n most.1)

-- configuring: the free place gets a VRID that stands nowhere yet
fresh_held : (f g : Found) (words : List ℕ) → Held words → (v priority interval : ℕ) (preempt : Bool) (n : ℕ) → place_of words 0 ≡ f
    → place_of words v ≡ g → is_found f ≡ true → is_found g ≡ false → InRange (new_router v priority interval preempt n)
    → (1 ≤ interval) × (1 ≤ priority) × (1 ≤ n) × (n ≤ 16) → ¬ (v ≡ 0)
    → Held (set_record words (place_in f) (new_router v priority interval preempt n))
fresh_held None g words held v priority interval preempt n a b c d range i some = absurd cc
fresh_held (Some q) (Some k) words held v priority interval preempt n a b c d range i some =
    absurd cc
fresh_held (Some q) None words held v priority interval preempt n a b c d range i some =
    let l = found words 0 q a in
    store_held words held q (omega (arith, l.below)) (new_router v priority interval preempt n) range refl (λ z. i)
    (λ z. absurd (some z))
    (λ k u y e. absurd (missing words v b k u e))

configure_test : (t : Bool) (words : List ℕ) → Held words → (v priority interval : ℕ) (preempt : Bool) (addresses : List ℕ)
    → v < 256 → priority < 256 → interval < 256 → eqb (configure_refusal words v priority interval addresses) 0 ≡ t
    → Held (cond t (set_record words (place_in (place_of words 0)) (new_router v priority interval preempt (length addresses / 4))) words)
unfolding configure_refusal
configure_test false words held v priority interval preempt addresses a b c e = held
configure_test true words held v priority interval preempt addresses a b c e =
    let none = eqb-true (configure_refusal words v priority interval addresses) 0 e in
    let p = passed (configure_checks words v priority interval addresses) (omega arith) none in
    let most = configure_most words v priority interval addresses none in
    let count = address_count addresses p.1.1.1.0 in
    fresh_held (place_of words 0) (place_of words v) words held v priority interval preempt (length addresses / 4) refl refl
    (not-false (is_found (place_of words 0)) p.1.1.1.1.1.0)
    p.1.1.1.1.0
    (record { vrid = a; priority = b; interval = c; count = omega arith })
    (omega (arith, eqb-false interval 0 p.1.1.0, eqb-false priority 0 p.1.0, count))
    (eqb-false v 0 p.0)

-- removing: the place gets no VRID
free_held : (f : Found) (words : List ℕ) → Held words → (v : ℕ) → router_place words v ≡ f → is_found f ≡ true
    → Held (set_record words (place_in f) freed)
free_held None words held v s e = absurd cc
free_held (Some p) words held v s e =
    store_held words held p (sought_word words v p s).0 freed
    (record { vrid = omega arith; priority = omega arith; interval = omega arith; count = omega arith })
    refl (λ z. absurd (z refl)) (λ z. refl) (λ q u n y. refl)

remove_test : (t : Bool) (words : List ℕ) → Held words → (v : ℕ) → eqb (remove_refusal words v) 0 ≡ t
    → Held (cond t (set_record words (place_in (router_place words v)) freed) words)
unfolding remove_refusal
remove_test false words held v e = held
remove_test true words held v e =
    let none = eqb-true (remove_refusal words v) 0 e in
    let p = passed (remove_checks words v) (omega arith) none in
    free_held (router_place words v) words held v refl (not-false (is_found (router_place words v)) p.0)

pub call_held : (m : Memory) (call : Call) → Given call → Held m.words → Held (called m call).words
unfolding happened_of clocked_of heard_of
call_held m (configure v priority interval preempt addresses) g held =
    configure_test (eqb (configure_refusal m.words v priority interval addresses) 0) m.words held v priority interval preempt
    addresses g.0 g.1 g.2 refl
call_held m (remove v) g held = remove_test (eqb (remove_refusal m.words v) 0) m.words held v refl
call_held m (startup v room) g held = happened_held (router_place m.words v) m.words m.lists held v Startup room refl
call_held m (shutdown v room) g held = happened_held (router_place m.words v) m.words m.lists held v Shutdown room refl
call_held m (clock v d room) g held = clocked_held (router_place m.words v) m.words m.lists held v d room refl
call_held m (packet bytes room) g held = judged_held (judged_of bytes) m.words m.lists held bytes room refl

pub history_held : (m : Memory) (history : List Call) → GivenAll history → Held m.words → Held (after m history).words
history_held m [] g held = held
history_held m (call ∷ rest) g held = history_held (called m call) rest g.1 (call_held m call g.0 held)

pub after_every_history : AfterEveryHistory
after_every_history primary lists history g =
    let held = history_held (begun primary lists) history g (empty_held primary) in
    (held.unique, held.sound)
