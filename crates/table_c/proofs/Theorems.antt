-- The theorems that specs/Theorems.antt states.
-- Assumes nothing.
use mathlib.Core.Path.{sym, ◌∙◌}
use Rattle.table_c.specs.Theorems.{OneNumbered}

pub one_numbered : OneNumbered
one_numbered result a b words other room other_room x y =
    (x.answer_is ∙ sym y.answer_is, x.words_are ∙ sym y.words_are, x.room_is ∙ sym y.room_is)
