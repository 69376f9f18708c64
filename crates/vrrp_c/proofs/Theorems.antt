-- The theorems that specs/Theorems.antt states.
-- Assumes nothing.
use mathlib.Core.Path.{sym, ◌∙◌}
use Rattle.vrrp_c.specs.Theorems.{OneNumber, OneAnswer}

pub one_number : OneNumber
one_number packet a b x y = x ∙ sym y

pub one_answer : OneAnswer
one_answer refusal frame before a b after other x y =
    (x.answer_is ∙ sym y.answer_is, x.room_is ∙ sym y.room_is)
