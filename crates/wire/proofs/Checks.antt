-- The laws of checks in an order.
--     passed, all_pass                 an answer of 0 is given exactly where every check passes
--     first                            any answer from the values of the checks up to the first that fails
--     refusal-after, refusal-before    checks that follow checks
-- Assumes nothing.
use mathlib.Core.Path.{◌≡◌, refl}
use mathlib.Core.List.{List, [], ◌∷◌, ◌++◌}
use mathlib.Core.Bool.{Bool, true, false, cond}
use Prim.Native.Nat.{ℕ, ◌<◌}
use native.Mathlib.Omega.{arith}
use lib.Dec.{eqb}
use borrow.Author.Tests.{eqb-true}
use Rattle.wire.specs.Check.{Check, first_refusal, Passes}

-- every number of a list of checks is above 0
abbrev pub Numbered : List Check → Type 0
Numbered [] = Unit
Numbered (check ∷ rest) = (0 < check.0) × Numbered rest

test_passed : (t : Bool) (k rest : ℕ) → 0 < k → cond t k rest ≡ 0 → (t ≡ false) × (rest ≡ 0)
test_passed true k rest h e = absurd (omega arith)
test_passed false k rest h e = (refl, e)

pub passed : (checks : List Check) → Numbered checks → first_refusal checks ≡ 0 → Passes checks
passed [] h e = tt
passed (check ∷ rest) h e =
    let f = test_passed check.1 check.0 (first_refusal rest) h.0 e in
    (f.0, passed rest h.1 f.1)

pub all_pass : (checks : List Check) → Passes checks → first_refusal checks ≡ 0
all_pass [] h = refl
all_pass (check ∷ rest) h = rw h.0 (all_pass rest h.1)

-- what makes r the first refusal: the checks before r's pass and r's fails; of 0, that all pass
abbrev pub First : ℕ → List Check → Type 0
First r [] = r ≡ 0
First r (check ∷ rest) = cond (eqb r check.0) (check.1 ≡ true) ((check.1 ≡ false) × First r rest)

first_test : (t : Bool) (r : ℕ) (check : Check) (rest : List Check) → eqb r check.0 ≡ t
    → (First r rest → r ≡ first_refusal rest) → cond t (check.1 ≡ true) ((check.1 ≡ false) × First r rest)
    → r ≡ first_refusal (check ∷ rest)
first_test true r check rest e f h = rw h (eqb-true r check.0 e)
first_test false r check rest e f h = rw h.0 (f h.1)

pub first : (r : ℕ) (checks : List Check) → First r checks → r ≡ first_refusal checks
first r [] h = h
first r (check ∷ rest) h = first_test (eqb r check.0) r check rest refl (first r rest) h

-- checks after checks: the first list decides, or the second where the first passes
pub refusal_after : (a b : List Check) → Numbered a → first_refusal a ≡ 0 → first_refusal (a ++ b) ≡ first_refusal b
refusal_after [] b h e = refl
refusal_after (check ∷ a) b h e =
    let f = test_passed check.1 check.0 (first_refusal a) h.0 e in
    rw f.0 (refusal_after a b h.1 f.1)

test_first : (t : Bool) (k a b : ℕ) → (¬ (a ≡ 0) → b ≡ a) → ¬ (cond t k a ≡ 0) → cond t k b ≡ cond t k a
test_first true k a b f e = refl
test_first false k a b f e = f e

pub refusal_before : (a b : List Check) → ¬ (first_refusal a ≡ 0) → first_refusal (a ++ b) ≡ first_refusal a
refusal_before [] b e = absurd (e refl)
refusal_before (check ∷ a) b e =
    test_first check.1 check.0 (first_refusal a) (first_refusal (a ++ b)) (refusal_before a b) e
