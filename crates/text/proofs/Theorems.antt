-- The theorem that specs/Theorems.antt states.
-- Assumes nothing.
use mathlib.Core.Path.{sym, ◌∙◌}
use Rattle.text.specs.Theorems.{OneAppended}

pub one_appended : OneAppended
one_appended before at bytes after other a b x y = (x.holds ∙ sym y.holds, x.place ∙ sym y.place)
