-- The bytes four by four as arrays of four, and the sum of their numbers.
-- Assumes nothing.
use mathlib.Core.Path.{◌≡◌, refl}
use mathlib.Core.List.{List, [], ◌∷◌}
use Prim.Native.Nat.{ℕ, zero, suc, ◌*◌, ◌/◌, ◌%◌, ◌≤◌}
use native.Mathlib.Omega.{arith}
use lib.ListN.{length}
use Rattle.std.specs.Prelude.{sum_by}
use Rattle.std.specs.Int.{from_be_bytes, w32}
use Rattle.std.specs.Simd.{first_chunks}
use Rattle.std.proofs.lemmas.List.Sums.{sum_by-cons}
use Rattle.sums.specs.Sum.{Bytes}
use Rattle.sums.specs.Total.{total}
use Rattle.sums.proofs.Laws.{tail_bytes}

-- their sum is the plain total
numbers_total : (k : ℕ) (s : List ℕ) → length s ≡ 4 * k → sum_by (from_be_bytes w32) (first_chunks 4 k s) ≡ total s
unfolding total
numbers_total zero [] h = refl
numbers_total zero (a ∷ s) h = absurd (omega arith)
numbers_total (suc k) [] h = absurd (omega arith)
numbers_total (suc k) (a ∷ []) h = absurd (omega arith)
numbers_total (suc k) (a ∷ (b ∷ [])) h = absurd (omega arith)
numbers_total (suc k) (a ∷ (b ∷ (c ∷ []))) h = absurd (omega arith)
numbers_total (suc k) (a ∷ (b ∷ (c ∷ (d ∷ s)))) h =
    let more = sum_by-cons (from_be_bytes w32) (a ∷ (b ∷ (c ∷ (d ∷ [])))) (first_chunks 4 k s) in
    omega (arith, more, numbers_total k s (omega arith))

total_most : (k : ℕ) (s : List ℕ) → length s ≡ 4 * k → Bytes s → total s ≤ 4294967295 * k
unfolding total
total_most zero [] h b = omega arith
total_most zero (a ∷ s) h b = absurd (omega arith)
total_most (suc k) [] h b = absurd (omega arith)
total_most (suc k) (a ∷ []) h b = absurd (omega arith)
total_most (suc k) (a ∷ (b ∷ [])) h y = absurd (omega arith)
total_most (suc k) (a ∷ (b ∷ (c ∷ []))) h y = absurd (omega arith)
total_most (suc k) (a ∷ (b ∷ (c ∷ (d ∷ s)))) h y =
    omega (arith, y 0, y 1, y 2, y 3, total_most k s (omega arith) (tail_bytes s y))

pub total_numbers : (s : List ℕ) → length s % 4 ≡ 0
    → sum_by (from_be_bytes w32) (first_chunks 4 (length s / 4) s) ≡ total s
total_numbers s h = numbers_total (length s / 4) s (omega arith)

pub total_bound : (s : List ℕ) → length s % 4 ≡ 0 → Bytes s → total s ≤ 4294967295 * (length s / 4)
total_bound s h b = total_most (length s / 4) s (omega arith) b
