-- The theorem that specs/Theorems.antt states.
-- Assumes nothing.
use mathlib.Core.Path.{sym, ◌∙◌}
use Rattle.events.proofs.Answers.{one_answer}
use Rattle.lent.specs.Theorems.{OneMove}

pub one_move : OneMove
one_move result a b x y =
    let answers = one_answer a.answer b.answer (x.answer_is ∙ sym y.answer_is) in
    let stations = x.stations_are ∙ sym y.stations_are in
    λ i. record { stations = stations i; answer = answers i }
