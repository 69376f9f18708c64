-- What folding is worth: one's complement addition to a folded sum folds the longer sum, and 65536 counts as 1.
-- Assumes nothing.
use mathlib.Core.Path.{◌≡◌, refl, sym, ap, ◌∙◌}
use mathlib.Core.Bool.{Bool, true, false, cond}
use Prim.Native.Nat.{ℕ, zero, suc, ◌+◌, ◌-◌, ◌*◌, ◌%◌, ◌≤◌, ◌<◌}
use native.Mathlib.Nat.{add-mul-mod_self_left}
use native.Mathlib.Omega.{arith}
use lib.Dec.{ltb}
use borrow.Author.Tests.{ltb-true, ltb-false}
use Rattle.sums.specs.Sum.{plus}
use Rattle.sums.specs.Total.{folded}

pub folded_zero : folded 0 ≡ 0
unfolding folded
folded_zero = refl

pub folded_positive : (x : ℕ) → 0 < x → folded x ≡ (x - 1) % 65535 + 1
unfolding folded
folded_positive zero h = omega arith
folded_positive (suc x) h = ap (λ (k : ℕ). k % 65535 + 1) (omega arith)

pub folded_most : (x : ℕ) → folded x ≤ 65535
unfolding folded
folded_most zero = omega arith
folded_most (suc x) = omega arith

-- a 16-bit number is its own folding
pub folded_small : (x : ℕ) → x ≤ 65535 → folded x ≡ x
unfolding folded
folded_small zero h = refl
folded_small (suc x) h = omega arith

-- the sum of two 16-bit numbers, whether it carries or not
plus_test : (t : Bool) (a b : ℕ) → ltb (a + b) 65536 ≡ t → a ≤ 65535 → 1 ≤ b → b ≤ 65535
    → cond t (a + b) (a + b - 65535) ≡ (a + (b - 1)) % 65535 + 1
plus_test true a b e h k l = let f : a + b < 65536 = ltb-true (a + b) 65536 e in omega arith
plus_test false a b e h k l = let f : 65536 ≤ a + b = ltb-false (a + b) 65536 e in omega arith

plus_zero_test : (t : Bool) (a : ℕ) → ltb (a + 0) 65536 ≡ t → a ≤ 65535 → cond t (a + 0) (a + 0 - 65535) ≡ a
plus_zero_test true a e h = omega arith
plus_zero_test false a e h = let f : 65536 ≤ a + 0 = ltb-false (a + 0) 65536 e in omega arith

pub plus_zero : (a : ℕ) → a ≤ 65535 → plus a 0 ≡ a
unfolding plus
plus_zero a h = plus_zero_test (ltb (a + 0) 65536) a refl h

pub plus_folded : (w t : ℕ) → w ≤ 65535 → plus w (folded t) ≡ folded (w + t)
unfolding plus folded
plus_folded w zero h =
    let e : w + 0 ≡ w = omega arith in
    plus_zero_test (ltb (w + 0) 65536) w refl h ∙ sym (ap folded e ∙ folded_small w h)
plus_folded w (suc x) h =
    plus_test (ltb (w + (x % 65535 + 1)) 65536) w (x % 65535 + 1) refl h (omega arith) (omega arith)
    ∙ sym (folded_positive (w + suc x) (omega arith) ∙ omega arith)

-- 65536 counts as 1: a number 65535 times over changes nothing, if there was something
pub folded_more : (x y : ℕ) → y ≤ x → folded (x + 65535 * y) ≡ folded x
unfolding folded
folded_more zero y h =
    let e : 0 + 65535 * y ≡ 0 = omega arith in
    ap folded e
folded_more (suc x) y h =
    let e : suc x + 65535 * y - 1 ≡ x + 65535 * y = omega arith in
    folded_positive (suc x + 65535 * y) (omega arith)
    ∙ ap (λ (k : ℕ). k % 65535 + 1) e
    ∙ ap (λ (k : ℕ). k + 1) (add-mul-mod_self_left x 65535 y)
