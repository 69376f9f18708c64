-- Checks in an order, and the first that fails (01, 'Refusal numbers').
use Rattle.std.specs.Prelude.{ℕ, List, [], ◌∷◌, Bool, false, cond, ◌≡◌}

-- a row of 01's table of refusals: its number, and whether the input fails it
abbrev pub Check : Type 0
Check = ℕ × Bool

-- "checked in this order": the number of the first check that fails, 0 where none does
abbrev pub first_refusal : List Check → ℕ
first_refusal [] = 0
first_refusal (check ∷ rest) = cond check.1 check.0 (first_refusal rest)

-- every check of a list passes
abbrev pub Passes : List Check → Type 0
Passes [] = Unit
Passes (check ∷ rest) = (check.1 ≡ false) × Passes rest
