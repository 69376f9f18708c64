-- The values of tests from facts on numbers, and the facts from the values: the rules by which `omega` reads tests.
--     tests    what `omega` is handed where a goal or a fact is the value of a test: `omega tests`
-- Where several rules fit a goal, `omega` takes the one that its list names first.
-- Assumes nothing.
use mathlib.Core.Path.{◌≡◌, refl, ap}
use mathlib.Core.Bool.{Bool, true, false, cond, not, ◌||◌}
use Prim.Native.Nat.{ℕ, zero, suc, ◌<◌}
use native.Mathlib.Omega.{arith}
use lib.Dec.{eqb}
use borrow.Author.Tests.{lt-ltb, le-ltb, eq-eqb, ne_eqb, ltb-false, eqb-true, eqb-false, not-false}

-- a test's value from the fact
pub equal_passes : (a b : ℕ) → a ≡ b → not (eqb a b) ≡ false
equal_passes a b e = ap not (eq-eqb a b e)

pub unequal_fails : (a b : ℕ) → (a ≡ b → ⊥) → not (eqb a b) ≡ true
unequal_fails a b n = ap not (ne_eqb a b n)

pub ruleset values = (lt-ltb, le-ltb, eq-eqb, ne_eqb, equal_passes, unequal_fails)

-- the fact from a test's value
pub equal_passed : (a b : ℕ) → not (eqb a b) ≡ false → a ≡ b
equal_passed a b e = eqb-true a b (not-false (eqb a b) e)

pub nonzero_passed : (a : ℕ) → eqb a 0 ≡ false → 0 < a
nonzero_passed zero e = absurd (eqb-false 0 0 e refl)
nonzero_passed (suc a) e = omega arith

pub ruleset facts = (ltb-false, equal_passed, nonzero_passed)

-- one test's value from another's, by way of a number
abbrev pub worth : Bool → ℕ
worth t = cond t 1 0

pub worth_of : (s t : Bool) → s ≡ t → worth s ≡ worth t
worth_of s t e = ap worth e

pub one_fails : (t : Bool) → worth t ≡ 1 → t ≡ true
one_fails true e = refl
one_fails false e = absurd (omega arith)

pub none_passes : (t : Bool) → worth t ≡ 0 → t ≡ false
none_passes true e = absurd (omega arith)
none_passes false e = refl

pub ruleset tests = (values, facts, worth_of, one_fails, none_passes, arith)

-- tests that are made of several
pub second_fails : (s t : Bool) → t ≡ true → (s || t) ≡ true
second_fails true t e = refl
second_fails false t e = e

pub two_passed : (s t : Bool) → (s || t) ≡ false → (s ≡ false) × (t ≡ false)
two_passed true t e = (e, cc)
two_passed false t e = (refl, e)
