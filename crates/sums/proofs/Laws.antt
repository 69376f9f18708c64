-- The laws of the one's complement sum, once over the length; every proof above cites these and never the definitions.
-- Assumes nothing.
use mathlib.Core.Path.{◌≡◌, sym, ap, ◌∙◌}
use mathlib.Core.List.{List, [], ◌∷◌, ◌++◌}
use Prim.Native.Nat.{ℕ, zero, suc, ◌+◌, ◌*◌, ◌≤◌}
use native.Mathlib.Omega.{arith}
use lib.ListN.{length}
use Rattle.sums.specs.Sum.{plus, sum_of, Bytes}
use Rattle.sums.specs.Number.{number_of}
use Rattle.sums.specs.Total.{total, folded}
use Rattle.sums.proofs.Folding.{folded_zero, folded_small, plus_zero, plus_folded, folded_more}

-- two 16-bit numbers before a folded sum are one 32-bit number
pair_folded : (h l t : ℕ) → h ≤ 65535 → l ≤ 65535 → plus h (plus l (folded t)) ≡ folded (65536 * h + l + t)
pair_folded h l t a b =
    let e : 65536 * h + l + t ≡ h + (l + t) + 65535 * h = omega arith in
    ap (plus h) (plus_folded l t b)
    ∙ plus_folded h (l + t) a
    ∙ sym (ap folded e ∙ folded_more (h + (l + t)) h (omega arith))

-- a 16-bit number is the folding of itself in the upper half
high_folded : (h : ℕ) → h ≤ 65535 → h ≡ folded (65536 * h)
high_folded h a =
    let e : 65536 * h ≡ h + 65535 * h = omega arith in
    sym (ap folded e ∙ folded_more h h (omega arith) ∙ folded_small h a)

pub tail_bytes : {a b c d : ℕ} (r : List ℕ) → Bytes (a ∷ (b ∷ (c ∷ (d ∷ r)))) → Bytes r
tail_bytes r k i = k (suc (suc (suc (suc i))))

-- the one's complement sum is the plain sum, folded
pub sum_folded : (s : List ℕ) → Bytes s → sum_of s ≡ folded (total s)
unfolding sum_of total
sum_folded [] k = sym folded_zero
sum_folded (a ∷ []) k =
    let e : 65536 * (256 * a) ≡ number_of a 0 0 0 = omega arith in
    high_folded (256 * a) (omega (arith, k 0)) ∙ ap folded e
sum_folded (a ∷ (b ∷ [])) k =
    let e : 65536 * (256 * a + b) ≡ number_of a b 0 0 = omega arith in
    let f : 256 * a + b ≤ 65535 = omega (arith, k 0, k 1) in
    plus_zero (256 * a + b) f ∙ high_folded (256 * a + b) f ∙ ap folded e
sum_folded (a ∷ (b ∷ (c ∷ []))) k =
    let e : 65536 * (256 * a + b) + 256 * c + 0 ≡ number_of a b c 0 = omega arith in
    let f : 256 * c ≤ 65535 = omega (arith, k 2) in
    ap (plus (256 * a + b)) (sym (plus_zero (256 * c) f) ∙ ap (plus (256 * c)) (sym folded_zero))
    ∙ pair_folded (256 * a + b) (256 * c) 0 (omega (arith, k 0, k 1)) f
    ∙ ap folded e
sum_folded (a ∷ (b ∷ (c ∷ (d ∷ r)))) k =
    let e : 65536 * (256 * a + b) + (256 * c + d) + total r ≡ number_of a b c d + total r = omega arith in
    ap (λ (x : ℕ). plus (256 * a + b) (plus (256 * c + d) x)) (sum_folded r (tail_bytes r k))
    ∙ pair_folded (256 * a + b) (256 * c + d) (total r) (omega (arith, k 0, k 1)) (omega (arith, k 2, k 3))
    ∙ ap folded e

-- the total of a concatenation, where the first list fills its last number
pub total_append : (k : ℕ) (s t : List ℕ) → length s ≡ 4 * k → total (s ++ t) ≡ total s + total t
unfolding total
total_append zero [] t h = omega arith
total_append (suc k) [] t h = omega arith
total_append zero (a ∷ s) t h = absurd (omega arith)
total_append (suc k) (a ∷ []) t h = absurd (omega arith)
total_append (suc k) (a ∷ (b ∷ [])) t h = absurd (omega arith)
total_append (suc k) (a ∷ (b ∷ (c ∷ []))) t h = absurd (omega arith)
total_append (suc k) (a ∷ (b ∷ (c ∷ (d ∷ s)))) t h = omega (arith, total_append k s t (omega arith))
