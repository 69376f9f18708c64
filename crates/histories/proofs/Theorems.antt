-- The theorems that specs/Theorems.antt states.
-- Assumes nothing.
use mathlib.Core.Path.{◌≡◌, refl, sym, ap, ◌∙◌}
use mathlib.Core.Logic.{inl, inr, ⊎_elim}
use mathlib.Core.List.{List}
use mathlib.Core.Bool.{Bool, true, false, cond}
use Prim.Native.Nat.{ℕ, ◌*◌, ◌/◌, ◌≤◌, ◌<◌}
use native.Mathlib.Omega.{arith}
use lib.Dec.{eqb, ltb}
use lib.ListN.{length}
use borrow.Author.Tests.{eqb-true, eqb-false}
use Rattle.std.proofs.lemmas.Bool.{cond_both}
use Rattle.judging.specs.declared.Fields.{Fields}
use Rattle.judging.specs.Judging.{Judged, judged_of}
use Rattle.wire.specs.declared.refusal.Refusal.{Refusal}
use Rattle.wire.specs.Refusal.{number_answered}
use Rattle.std.specs.Prelude.{Result as Ending, Ok, Err, Some, None}
use Rattle.judging.proofs.Accepted.{refusal_most, refused_most}
use Rattle.states.specs.declared.record.Router.{Router}
use Rattle.states.specs.declared.step.Event.{Event}
use Rattle.states.specs.declared.step.Outcome.{Outcome}
use Rattle.states.specs.Step.{step_of}
use Rattle.router.specs.Clock.{ticked_of}
use Rattle.output.specs.Output.{need_of}
use Rattle.places.specs.Place.{Found, primary_of, record_at, set_record, count_at_place, place_of}
use Rattle.places.proofs.Beside.{beside_record}
use Rattle.places.proofs.Events.{event_beside, count_beside}
use Rattle.places.proofs.Finding.{found, missing}
use Rattle.places.proofs.Parts.{part_other, apart}
use Rattle.places.proofs.Records.{record_other}
use Rattle.places.proofs.Words.{count_record}
use Rattle.events.specs.Lists.{list_at, set_list}
use Rattle.wire.proofs.Refusals.{nonzero, no_room, same_refusal}
use Rattle.events.specs.Result.{Answered, Answer, answer_of, Result, refuses, router_place, acted_of}
use Rattle.configuring.specs.Configuring.{configure_checks, remove_checks, place_in, new_router, freed, configure_refusal, remove_refusal}
use Rattle.events.specs.Events.{happened_at, happened_of, clocked_at, clocked_of, Status, Told, status_of, ProperTold}
use Rattle.packets.specs.Packets.{refusal_at, accepted_at, sought_at, judged_at, heard_of}
use Rattle.packets.proofs.Heard.{refused_range}
use Rattle.histories.specs.Theorems.{OneResult, OneStatus, OneConfiguring, OneRemoving, OneConfigureAnswer, OneRemoveAnswer}
use Rattle.histories.specs.Theorems.{EventElsewhere, ClockElsewhere}
use Rattle.histories.specs.Theorems.{PacketElsewhere, ConfigureElsewhere, ListElsewhere, RemoveElsewhere}
use Rattle.histories.specs.Theorems.{LowestFreePlace, NoFreePlace}
use Rattle.configuring.proofs.Configures.{configure_most, never_full, never_unknown}
use Rattle.events.proofs.Sought.{sought_below}

-- an answer is one value of its type
one_answer : (a b : Answered) → answer_of a ≡ answer_of b → a ≡ b
one_answer (Ok d) (Ok o) e = rw (ap (λ (c : Answer). c.written) e, ap (λ (c : Answer). c.leftover) e)
one_answer (Ok d) (Err r) e = absurd (nonzero r (sym (ap (λ (c : Answer). c.number) e)))
one_answer (Err r) (Ok d) e = absurd (nonzero r (ap (λ (c : Answer). c.number) e))
one_answer (Err r) (Err q) e = ap Err (same_refusal r q (ap (λ (c : Answer). c.number) e) (ap (λ (c : Answer). c.need) e))

pub one_result : OneResult
one_result result a b words other room other_room x y = (
  one_answer a b (x.answer_is ∙ sym y.answer_is),
  x.words_are ∙ sym y.words_are,
  x.room_is ∙ sym y.room_is,
)

-- and so is a status
told_test : (a b : Told) → ProperTold a → ProperTold b → status_of a ≡ status_of b → a ≡ b
told_test (Ok r) (Ok s) p q e = ap Ok (ap (λ (x : Status). x.router) e)
told_test (Ok r) (Err n) p q e = absurd (nonzero n (sym (ap (λ (x : Status). x.number) e)))
told_test (Err n) (Ok s) p q e = absurd (nonzero n (ap (λ (x : Status). x.number) e))
told_test (Err n) (Err m) p q e = ap Err (same_refusal n m (ap (λ (x : Status). x.number) e) (p ∙ sym q))

pub one_status : OneStatus
one_status status a b x y = told_test a b x.proper y.proper (x.status_is ∙ sym y.status_is)

pub one_configuring : OneConfiguring
one_configuring words lists vrid priority interval preempt addresses a b after other lists_after lists_other x y =
    (x.answer_is ∙ sym y.answer_is, x.words_are ∙ sym y.words_are, x.lists_are ∙ sym y.lists_are)

pub one_removing : OneRemoving
one_removing words vrid a b after other x y = (x.answer_is ∙ sym y.answer_is, x.words_are ∙ sym y.words_are)

-- an answer that asks for no room is told by its number
answer_told : (a b : Ending Unit Refusal) → number_answered a ≡ number_answered b → number_answered a ≤ 21 → a ≡ b
answer_told (Ok u) (Ok v) e m = refl
answer_told (Ok u) (Err r) e m = absurd (nonzero r (sym e))
answer_told (Err r) (Ok v) e m = absurd (nonzero r e)
answer_told (Err r) (Err q) e m =
    ap Err (same_refusal r q e (no_room r (λ z. omega arith) ∙ sym (no_room q (λ z. omega arith))))

configure_at_most : (words : List ℕ) (v priority interval : ℕ) (addresses : List ℕ)
    → configure_refusal words v priority interval addresses ≤ 21
unfolding configure_refusal
configure_at_most words v priority interval addresses =
    refusal_most 21 (configure_checks words v priority interval addresses) (omega arith)

remove_at_most : (words : List ℕ) (v : ℕ) → remove_refusal words v ≤ 21
unfolding remove_refusal
remove_at_most words v = refusal_most 21 (remove_checks words v) (omega arith)

pub one_configure_answer : OneConfigureAnswer
one_configure_answer words lists vrid priority interval preempt addresses a b after other lists_after lists_other x y =
    answer_told a b (x.answer_is ∙ sym y.answer_is)
    (rw x.answer_is (configure_at_most words vrid priority interval addresses))

pub one_remove_answer : OneRemoveAnswer
one_remove_answer words vrid a b after other x y =
    answer_told a b (x.answer_is ∙ sym y.answer_is) (rw x.answer_is (remove_at_most words vrid))

-- what acts at a place leaves every other place as it was
acted_elsewhere : (words lists : List ℕ) (p : ℕ) (o : Outcome) (leftover : ℕ) (room : List ℕ) (q : ℕ) → (q ≡ p → ⊥)
    → record_at (acted_of words lists p o leftover room).words q ≡ record_at words q
unfolding acted_of
acted_elsewhere words lists p o leftover room q n =
    cond_both (ltb (length room) (need_of o.writes (4 * o.router.count))) _ _
    (λ (x : Result). record_at x.words q ≡ record_at words q) (λ t. refl)
    (λ t. beside_record p words _ (event_beside words p o.router) q n)

happened_elsewhere : (f : Found) (words lists : List ℕ) (q : ℕ) (e : Event) (room : List ℕ) → (f ≡ Some q → ⊥)
    → record_at (happened_at f words lists e room).words q ≡ record_at words q
happened_elsewhere None words lists q e room n = refl
happened_elsewhere (Some p) words lists q e room n =
    acted_elsewhere words lists p (step_of (primary_of words) (record_at words p) e) 0 room q (λ z. n (ap Some (sym z)))

pub event_elsewhere : EventElsewhere
unfolding happened_of
event_elsewhere words lists v q e room n = happened_elsewhere (router_place words v) words lists q e room n

clocked_elsewhere : (f : Found) (words lists : List ℕ) (q d : ℕ) (room : List ℕ) → (f ≡ Some q → ⊥)
    → record_at (clocked_at f words lists d room).words q ≡ record_at words q
clocked_elsewhere None words lists q d room n = refl
clocked_elsewhere (Some p) words lists q d room n =
    acted_elsewhere words lists p (ticked_of (primary_of words) (record_at words p) d).outcome
    (ticked_of (primary_of words) (record_at words p) d).leftover
    room q (λ z. n (ap Some (sym z)))

pub clock_elsewhere : ClockElsewhere
unfolding clocked_of
clock_elsewhere words lists v q d room n = clocked_elsewhere (router_place words v) words lists q d room n

-- a refusal of 10 to 13 is counted at its place
counted_elsewhere : (t : Bool) (words lists bytes : List ℕ) (p : ℕ) (f : Fields) (room : List ℕ) (q : ℕ) → (q ≡ p → ⊥)
    → eqb (refusal_at words lists p bytes f) 0 ≡ t
    → record_at
    (cond t (acted_of words lists p (accepted_at words p f) 0 room)
    (refuses (refusal_at words lists p bytes f) (count_at_place words p (refusal_at words lists p bytes f)) room)).words q
    ≡ record_at words q
counted_elsewhere true words lists bytes p f room q n e = acted_elsewhere words lists p (accepted_at words p f) 0 room q n
counted_elsewhere false words lists bytes p f room q n e =
    let number = refusal_at words lists p bytes f in
    let range = refused_range words lists bytes p f number refl (eqb-false number 0 e) in
    beside_record p words _ (count_beside words p number range.0 range.1) q n

pub heard_elsewhere : (f : Found) (words lists bytes : List ℕ) (fields : Fields) (room : List ℕ) (q : ℕ) → (f ≡ Some q → ⊥)
    → record_at (sought_at f words lists bytes fields room).words q ≡ record_at words q
heard_elsewhere None words lists bytes fields room q n = count_record words 9 (omega arith) q
heard_elsewhere (Some p) words lists bytes fields room q n =
    counted_elsewhere (eqb (refusal_at words lists p bytes fields) 0) words lists bytes p fields room q
    (λ z. n (ap Some (sym z))) refl

judged_elsewhere : (j : Judged) (words lists bytes room : List ℕ) (q : ℕ) → judged_of bytes ≡ j
    → ((fields : Fields) → j ≡ Ok fields → router_place words fields.vrid ≡ Some q → ⊥)
    → record_at (judged_at j words lists bytes room).words q ≡ record_at words q
judged_elsewhere (Err number) words lists bytes room q e n =
    count_record words number (omega (arith, refused_most bytes number (sym e))) q
judged_elsewhere (Ok fields) words lists bytes room q e n =
    heard_elsewhere (router_place words fields.vrid) words lists bytes fields room q (n fields refl)

pub packet_elsewhere : PacketElsewhere
unfolding heard_of
packet_elsewhere words lists bytes room q n = judged_elsewhere (judged_of bytes) words lists bytes room q refl n

-- a record put at a place that was found, where nothing is refused
put_elsewhere : (t : Bool) (f : Found) (words : List ℕ) (r : Router) (q : ℕ) → ((p : ℕ) → f ≡ Some p → p < 255)
    → (t ≡ true → f ≡ None → ⊥) → length words ≡ 4096 → (f ≡ Some q → ⊥)
    → record_at (cond t (set_record words (place_in f) r) words) q ≡ record_at words q
put_elsewhere false f words r q below there long n = refl
put_elsewhere true None words r q below there long n = absurd (there refl refl)
put_elsewhere true (Some p) words r q below there long n =
    record_other words p r (below p refl) long q (λ z. n (ap Some (sym z)))

pub configure_elsewhere : ConfigureElsewhere
configure_elsewhere words v priority interval preempt addresses q long n =
    let none = eqb-true (configure_refusal words v priority interval addresses) 0 in
    put_elsewhere (eqb (configure_refusal words v priority interval addresses) 0) (place_of words 0) words
    (new_router v priority interval preempt (length addresses / 4))
    q (λ p e. (found words 0 p e).below) (λ e f. never_full words v priority interval addresses (none e) f)
    long n

-- address lists stand side by side, 64 bytes each
pub list_other : (lists addresses : List ℕ) (p q n : ℕ) → length lists ≡ 16320 → p < 255 → length addresses ≤ 64 → n ≤ 16
    → (q ≡ p → ⊥) → list_at (set_list lists p addresses) q n ≡ list_at lists q n
unfolding list_at set_list
list_other lists addresses p q n long below most few e =
    part_other lists addresses (64 * p) (length addresses) (64 * q) (4 * n) (omega arith) refl
    (⊎_elim (λ x. inl (omega arith)) (λ x. inr (omega arith)) (apart q p e))

put_list_elsewhere : (t : Bool) (f : Found) (lists addresses : List ℕ) (q n : ℕ) → ((p : ℕ) → f ≡ Some p → p < 255)
    → (t ≡ true → (f ≡ None → ⊥) × (length addresses ≤ 64)) → length lists ≡ 16320 → n ≤ 16 → (f ≡ Some q → ⊥)
    → list_at (cond t (set_list lists (place_in f) addresses) lists) q n ≡ list_at lists q n
put_list_elsewhere false f lists addresses q n below good long few e = refl
put_list_elsewhere true None lists addresses q n below good long few e = absurd ((good refl).0 refl)
put_list_elsewhere true (Some p) lists addresses q n below good long few e =
    list_other lists addresses p q n long (below p refl) (good refl).1 few (λ z. e (ap Some (sym z)))

pub list_elsewhere : ListElsewhere
list_elsewhere words lists v priority interval addresses q n long few e =
    let none = eqb-true (configure_refusal words v priority interval addresses) 0 in
    put_list_elsewhere (eqb (configure_refusal words v priority interval addresses) 0) (place_of words 0) lists addresses q n
    (λ p f. (found words 0 p f).below)
    (λ t. (never_full words v priority interval addresses (none t), configure_most words v priority interval addresses (none t)))
    long few e

pub remove_elsewhere : RemoveElsewhere
remove_elsewhere words v q long n =
    put_elsewhere (eqb (remove_refusal words v) 0) (router_place words v) words freed q (sought_below words v)
    (λ e f. never_unknown words v (eqb-true (remove_refusal words v) 0 e) f)
    long n

pub lowest_free_place : LowestFreePlace
lowest_free_place words p e =
    let l = found words 0 p e in
    (omega (arith, l.below), l.word, λ q b z. l.lowest q (omega arith) b z)

pub no_free_place : NoFreePlace
no_free_place words e p h free = missing words 0 e p h free
