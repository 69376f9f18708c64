-- The answers of the table's calls by their lists of checks: the number, exactly when it is 0, the values beside it, and the
-- numbers that there can be. Whole answers come first; the rest is read off them.
-- Assumes nothing.
use mathlib.Core.Path.{◌≡◌, refl, sym, ap, subst, ◌∙◌}
use mathlib.Core.Logic.{◌↔◌, inl, inr, ⊎_elim}
use mathlib.Core.List.{List, [], ◌∷◌, ◌++◌}
use mathlib.Core.Bool.{Bool, true, false, cond}
use Prim.Native.Nat.{ℕ, ◌≤◌}
use native.Mathlib.Omega.{arith}
use lib.Dec.{eqb, ltb}
use lib.ListN.{length}
use borrow.Author.Tests.{eqb-true, eqb-false, ne_eqb}
use Rattle.wire.specs.Check.{Check, first_refusal, Passes}
use Rattle.wire.proofs.Checks.{Numbered, passed, all_pass, refusal_after, refusal_before}
use Rattle.judging.specs.declared.Fields.{Fields}
use Rattle.std.specs.Prelude.{Ok, Err, Some, None}
use Rattle.judging.specs.Judging.{packet_checks as judging_checks, refusal_of, fields_of, judged_of}
use Rattle.judging.proofs.Accepted.{refusal_most}
use Rattle.states.specs.declared.step.Event.{Event}
use Rattle.states.specs.declared.step.Outcome.{Outcome}
use Rattle.router.specs.Accept.{router_refusal}
use Rattle.places.specs.Place.{Found, count_at_place}
use Rattle.events.specs.Result.{Answer, Result, refusal, refuses, router_place, acted_of}
use Rattle.events.specs.Events.{happened_of, clocked_of, Status, asked_of}
use Rattle.configuring.specs.Configuring.{configure_checks, configure_refusal, remove_checks, remove_refusal}
use Rattle.packets.specs.Packets.{accepted_at, heard_at, sought_at, judged_at, heard_of}
use Rattle.histories.specs.Rows.{record_for, needs, room_check, event_outcome, event_checks, clock_ticked, clock_checks}
use Rattle.histories.specs.Rows.{question_checks, place_checks, packet_outcome, table_checks, packet_checks, answer_by}
use Rattle.histories.specs.Rows.{status_by, OneOf}
use Rattle.histories.specs.Theorems.{ConfigureAnswers, RemoveAnswers, EventAnswers, ClockAnswers, PacketAnswers}
use Rattle.histories.specs.Theorems.{ConfigureExactly, RemoveExactly, EventExactly, ClockExactly, PacketExactly}
use Rattle.histories.specs.Theorems.{QuestionAnswers, QuestionExactly, EventValues, ClockValues, PacketValues}
use Rattle.histories.specs.Theorems.{QuestionValues, ConfigureNumbers, RemoveNumbers, EventNumbers, ClockNumbers}
use Rattle.histories.specs.Theorems.{PacketNumbers, QuestionNumbers}

-- checks after checks, by one test
then_test : (t : Bool) (a b : List Check) → Numbered a → eqb (first_refusal a) 0 ≡ t
    → first_refusal (a ++ b) ≡ cond t (first_refusal b) (first_refusal a)
then_test true a b h e = refusal_after a b h (eqb-true (first_refusal a) 0 e)
then_test false a b h e = refusal_before a b (eqb-false (first_refusal a) 0 e)

refusal_then : (a b : List Check) → Numbered a
    → first_refusal (a ++ b) ≡ cond (eqb (first_refusal a) 0) (first_refusal b) (first_refusal a)
refusal_then a b h = then_test (eqb (first_refusal a) 0) a b h refl

-- a first refusal is 0 or a number of the list
abbrev numbers_of : List Check → List ℕ
numbers_of [] = []
numbers_of (check ∷ rest) = check.0 ∷ numbers_of rest

among_test : (t : Bool) (k rest : ℕ) (numbers : List ℕ) → OneOf (0 ∷ numbers) rest → OneOf (0 ∷ (k ∷ numbers)) (cond t k rest)
among_test true k rest numbers h = inr (inl refl)
among_test false k rest numbers h = ⊎_elim inl (λ x. inr (inr x)) h

among : (checks : List Check) → OneOf (0 ∷ numbers_of checks) (first_refusal checks)
among [] = inl refl
among (check ∷ rest) = among_test check.1 check.0 (first_refusal rest) (numbers_of rest) (among rest)

-- what a number that is a list's first refusal is
module _ (checks : List Check) (number : ℕ) (e : number ≡ first_refusal checks) where
  exactly : Numbered checks → (number ≡ 0) ↔ Passes checks
  exactly h = (λ z. passed checks h (sym e ∙ z), λ p. e ∙ all_pass checks p)

  one_of : OneOf (0 ∷ numbers_of checks) number
  one_of = subst (OneOf (0 ∷ numbers_of checks)) (sym e) (among checks)

-- an answer by its number: a refusal without values, and the number itself
refused_by_lem : (number need leftover : ℕ) → ¬ (number ≡ 0) → ¬ (number ≡ 22) → refusal number ≡ answer_by number need leftover
refused_by_lem number need leftover n m = rw (ne_eqb number 0 n, ne_eqb number 22 m)

number_test : (s t : Bool) (number need leftover : ℕ) → eqb number 0 ≡ s → eqb number 22 ≡ t
    → (answer_by number need leftover).number ≡ number
number_test true t number need leftover e f = rw e (sym (eqb-true number 0 e))
number_test false true number need leftover e f = rw (e, f) (sym (eqb-true number 22 f))
number_test false false number need leftover e f = rw (e, f)

number_by : (number need leftover : ℕ) (answer : Answer) → answer ≡ answer_by number need leftover → answer.number ≡ number
number_by number need leftover answer e =
    ap (λ (a : Answer). a.number) e ∙ number_test (eqb number 0) (eqb number 22) number need leftover refl refl

-- where checks come after checks, an answer that turns on whether the first pass
both_test : (t : Bool) (number next need leftover : ℕ) (answer : Bool → Answer) → eqb number 0 ≡ t → ¬ (number ≡ 22)
    → answer true ≡ answer_by next need leftover → answer false ≡ refusal number
    → answer t ≡ answer_by (cond t next number) need leftover
both_test true number next need leftover answer e n x y = x
both_test false number next need leftover answer e n x y = y ∙ refused_by_lem number need leftover (eqb-false number 0 e) n

both_by : (a b : List Check) (need leftover : ℕ) (answer : Bool → Answer) → Numbered a → first_refusal a ≤ 21
    → answer true ≡ answer_by (first_refusal b) need leftover → answer false ≡ refusal (first_refusal a)
    → answer (eqb (first_refusal a) 0) ≡ answer_by (first_refusal (a ++ b)) need leftover
both_by a b need leftover answer h most x y =
    both_test (eqb (first_refusal a) 0) (first_refusal a) (first_refusal b) need leftover answer refl (λ z. omega arith) x y
    ∙ ap (λ (n : ℕ). answer_by n need leftover) (sym (refusal_then a b h))

-- an event's outcome at a place is done, or refused by 22
acted_test : (t : Bool) (a b : Result) (need leftover : ℕ) → a.answer ≡ answer_by 22 need leftover
    → b.answer ≡ answer_by 0 need leftover → (cond t a b).answer ≡ answer_by (cond t 22 0) need leftover
acted_test true a b need leftover x y = x
acted_test false a b need leftover x y = y

acted_by_lem : (words lists : List ℕ) (p : ℕ) (o : Outcome) (leftover : ℕ) (room : List ℕ)
    → (acted_of words lists p o leftover room).answer ≡ answer_by (first_refusal (room_check room o ∷ [])) (needs o) leftover
unfolding acted_of
acted_by_lem words lists p o leftover room = acted_test (ltb (length room) (needs o)) _ _ (needs o) leftover refl refl

event_at : (f : Found) (words lists : List ℕ) (v : ℕ) (e : Event) (room : List ℕ) → router_place words v ≡ f
    → (happened_of words lists v e room).answer
    ≡ answer_by (first_refusal (event_checks words v e room)) (needs (event_outcome words v e)) 0
unfolding happened_of
event_at None words lists v e room s = rw s
event_at (Some p) words lists v e room s = rw s (acted_by_lem words lists p _ 0 room)

pub event_values : EventValues
event_values words lists v e room = event_at (router_place words v) words lists v e room refl

clock_at : (f : Found) (words lists : List ℕ) (v d : ℕ) (room : List ℕ) → router_place words v ≡ f
    → (clocked_of words lists v d room).answer
    ≡ answer_by (first_refusal (clock_checks words v d room)) (needs (clock_ticked words v d).outcome)
    (clock_ticked words v d).leftover
unfolding clocked_of
clock_at None words lists v d room s = rw s
clock_at (Some p) words lists v d room s = rw s (acted_by_lem words lists p _ _ room)

pub clock_values : ClockValues
clock_values words lists v d room = clock_at (router_place words v) words lists v d room refl

-- a packet, by the router at a place, by the table and from its bytes
heard_by_lem : (words lists : List ℕ) (p : ℕ) (bytes : List ℕ) (f : Fields) (room : List ℕ)
    → (heard_at words lists p bytes f room).answer
    ≡ answer_by (first_refusal (place_checks words lists p bytes f ++ (room_check room (accepted_at words p f) ∷ [])))
    (needs (accepted_at words p f)) 0
unfolding router_refusal
heard_by_lem words lists p bytes f room =
    let checks = place_checks words lists p bytes f in
    let number = first_refusal checks in
    let refused = refuses number (count_at_place words p number) room in
    let accepted = acted_of words lists p (accepted_at words p f) 0 room in
    both_by checks (room_check room (accepted_at words p f) ∷ []) (needs (accepted_at words p f)) 0
    (λ (t : Bool). (cond t accepted refused).answer) (omega arith) (omega (arith, refusal_most 13 checks (omega arith)))
    (acted_by_lem words lists p (accepted_at words p f) 0 room) refl

sought_by_lem : (f : Found) (words lists bytes room : List ℕ) → router_place words (fields_of bytes).vrid ≡ f
    → (sought_at (router_place words (fields_of bytes).vrid) words lists bytes (fields_of bytes) room).answer
    ≡ answer_by (first_refusal (table_checks words lists bytes room)) (needs (packet_outcome words bytes)) 0
sought_by_lem None words lists bytes room s = rw s
sought_by_lem (Some p) words lists bytes room s = rw s (heard_by_lem words lists p bytes (fields_of bytes) room)

pub packet_values : PacketValues
unfolding heard_of judged_of refusal_of
packet_values words lists bytes room =
    let number = first_refusal (judging_checks bytes) in
    both_by (judging_checks bytes) (table_checks words lists bytes room) (needs (packet_outcome words bytes)) 0
    (λ (t : Bool). (judged_at (cond t (Ok (fields_of bytes)) (Err number)) words lists bytes room).answer)
    (omega arith) (omega (arith, refusal_most 8 (judging_checks bytes) (omega arith)))
    (sought_by_lem (router_place words (fields_of bytes).vrid) words lists bytes room refl) refl

-- a question
told_at : (f : Found) (words : List ℕ) (v : ℕ) → router_place words v ≡ f
    → asked_of words v ≡ status_by (first_refusal (question_checks words v)) (record_for words v)
unfolding asked_of
told_at None words v s = rw s
told_at (Some p) words v s = rw s

pub question_values : QuestionValues
question_values words v = told_at (router_place words v) words v refl

-- the numbers
pub configure_answers : ConfigureAnswers
unfolding configure_refusal
configure_answers words v priority interval addresses = refl

pub remove_answers : RemoveAnswers
unfolding remove_refusal
remove_answers words v = refl

pub event_answers : EventAnswers
event_answers words lists v e room = number_by _ _ _ _ (event_values words lists v e room)

pub clock_answers : ClockAnswers
clock_answers words lists v d room = number_by _ _ _ _ (clock_values words lists v d room)

pub packet_answers : PacketAnswers
packet_answers words lists bytes room = number_by _ _ _ _ (packet_values words lists bytes room)

pub question_answers : QuestionAnswers
question_answers words v = ap (λ (x : Status). x.number) (question_values words v)

-- exactly when a call is done
pub configure_exactly : ConfigureExactly
configure_exactly words v priority interval addresses =
    exactly (configure_checks words v priority interval addresses) _ (configure_answers words v priority interval addresses)
    (omega arith)

pub remove_exactly : RemoveExactly
remove_exactly words v = exactly (remove_checks words v) _ (remove_answers words v) (omega arith)

pub event_exactly : EventExactly
event_exactly words lists v e room =
    exactly (event_checks words v e room) _ (event_answers words lists v e room) (omega arith)

pub clock_exactly : ClockExactly
clock_exactly words lists v d room =
    exactly (clock_checks words v d room) _ (clock_answers words lists v d room) (omega arith)

pub packet_exactly : PacketExactly
packet_exactly words lists bytes room =
    exactly (packet_checks words lists bytes room) _ (packet_answers words lists bytes room) (omega arith)

pub question_exactly : QuestionExactly
question_exactly words v = exactly (question_checks words v) _ (question_answers words v) (omega arith)

-- the numbers that there can be
pub configure_numbers : ConfigureNumbers
configure_numbers words v priority interval addresses =
    one_of (configure_checks words v priority interval addresses) _ (configure_answers words v priority interval addresses)

pub remove_numbers : RemoveNumbers
remove_numbers words v = one_of (remove_checks words v) _ (remove_answers words v)

pub event_numbers : EventNumbers
event_numbers words lists v e room = one_of (event_checks words v e room) _ (event_answers words lists v e room)

pub clock_numbers : ClockNumbers
clock_numbers words lists v d room = one_of (clock_checks words v d room) _ (clock_answers words lists v d room)

pub packet_numbers : PacketNumbers
packet_numbers words lists bytes room =
    one_of (packet_checks words lists bytes room) _ (packet_answers words lists bytes room)

pub question_numbers : QuestionNumbers
question_numbers words v = one_of (question_checks words v) _ (question_answers words v)
