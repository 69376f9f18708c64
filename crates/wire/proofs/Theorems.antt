-- The theorems that specs/Theorems.antt states.
-- Assumes nothing.
use mathlib.Core.Path.{◌≡◌, refl, sym, ap, ◌∙◌}
use Rattle.std.specs.Prelude.{Result, Ok, Err}
use Rattle.wire.specs.declared.refusal.Refusal.{Refusal}
use Rattle.wire.specs.Refusal.{number_answered, room_answered}
use Rattle.wire.specs.Theorems.{OneValue, OneRefusal, OneTaken}
use Rattle.wire.proofs.Refusals.{no_room, nonzero, same_refusal, same_answer}

pub one_value : OneValue
one_value A value a b x y = x ∙ sym y

no_room_answered : (answer : Result Unit Refusal) → ¬ (number_answered answer ≡ 22) → room_answered answer ≡ 0
no_room_answered (Ok value) n = refl
no_room_answered (Err refusal) n = no_room refusal n

pub one_refusal : OneRefusal
one_refusal number a b n x y =
    same_answer a b (x ∙ sym y)
    (no_room_answered a (λ e. n (sym x ∙ e)) ∙ sym (no_room_answered b (λ e. n (sym y ∙ e))))
    (λ p q e f. refl)

pub one_taken : OneTaken
one_taken T A told value number (Ok x) (Ok y) n p q v w = ap Ok (v ∙ sym w)
one_taken T A told value number (Ok x) (Err f) n p q v w = absurd (nonzero f (q ∙ sym p))
one_taken T A told value number (Err e) (Ok y) n p q v w = absurd (nonzero e (p ∙ sym q))
one_taken T A told value number (Err e) (Err f) n p q v w =
    ap Err (same_refusal e f (p ∙ sym q) (no_room e (λ r. n (sym p ∙ r)) ∙ sym (no_room f (λ r. n (sym q ∙ r)))))
