-- A field in two bytes among others, and what it adds to the sum. The facts that follow are in Theorems.antt.
-- Assumes nothing.
use mathlib.Core.Path.{◌≡◌, sym, ap, ◌∙◌}
use mathlib.Core.List.{List, [], ◌∷◌, ◌++◌}
use Prim.Native.Nat.{ℕ, zero, suc, ◌+◌, ◌-◌, ◌*◌, ◌/◌, ◌%◌, ◌≤◌}
use native.Mathlib.Omega.{arith}
use lib.ListN.{length}
use Rattle.sums.specs.Sum.{plus, sum_of, checksum_of, Bytes, with_field}
use Rattle.sums.specs.Total.{folded}
use Rattle.sums.proofs.Bytes.{bytes_cons, bytes_append}
use Rattle.sums.proofs.Folding.{folded_zero, folded_most, folded_small, plus_folded}

-- the bytes two by two, summed with all their carries
pairs : List ℕ → ℕ
pairs [] = 0
pairs (a ∷ []) = 256 * a
pairs (a ∷ (b ∷ rest)) = 256 * a + b + pairs rest

sum_pairs : (s : List ℕ) → Bytes s → sum_of s ≡ folded (pairs s)
unfolding sum_of pairs
sum_pairs [] k = sym folded_zero
sum_pairs (a ∷ []) k = sym (folded_small (256 * a) (omega (arith, k 0)))
sum_pairs (a ∷ (b ∷ rest)) k =
    ap (plus (256 * a + b)) (sum_pairs rest (λ i. k (suc (suc i))))
    ∙ plus_folded (256 * a + b) (pairs rest) (omega (arith, k 0, k 1))

pairs_field : (j : ℕ) (before after : List ℕ) (h l : ℕ) → length before ≡ 2 * j
    → pairs (before ++ (h ∷ (l ∷ after))) ≡ 256 * h + l + pairs (before ++ (0 ∷ (0 ∷ after)))
unfolding pairs
pairs_field zero [] after h l e = omega arith
pairs_field (suc j) [] after h l e = absurd (omega arith)
pairs_field zero (a ∷ before) after h l e = absurd (omega arith)
pairs_field (suc j) (a ∷ []) after h l e = absurd (omega arith)
pairs_field (suc j) (a ∷ (b ∷ before)) after h l e = omega (arith, pairs_field j before after h l (omega arith))

bytes_field : (before after : List ℕ) (field : ℕ) → Bytes before → Bytes after → field ≤ 65535
    → Bytes (with_field before field after)
bytes_field before after field h k l =
    bytes_append before (field / 256 ∷ (field % 256 ∷ after)) h
    (bytes_cons (field / 256) (field % 256 ∷ after) (omega arith) (bytes_cons (field % 256) after (omega arith) k))

plus_complement : (x : ℕ) → x ≤ 65535 → plus (65535 - x) x ≡ 65535
unfolding plus
plus_complement x h =
    let e : 65535 - x + x ≡ 65535 = omega arith in
    rw e

module _ (j : ℕ) (before after : List ℕ) (even : length before ≡ 2 * j) (h : Bytes before) (k : Bytes after) where
  abbrev zeroed : List ℕ
  zeroed = with_field before 0 after

  -- with the field taken as zero
  zeroed_pairs : sum_of zeroed ≡ folded (pairs zeroed)
  zeroed_pairs = sum_pairs zeroed (bytes_field before after 0 h k (omega arith))

  -- a field adds its own number
  sum_field : (field : ℕ) → field ≤ 65535 → sum_of (with_field before field after) ≡ plus field (sum_of zeroed)
  sum_field field l =
      let e : pairs (with_field before field after) ≡ field + pairs zeroed =
      omega (arith, pairs_field j before after (field / 256) (field % 256) even) in
      sum_pairs (with_field before field after) (bytes_field before after field h k l)
      ∙ rw (e, zeroed_pairs, plus_folded field (pairs zeroed) l)

  sum_zeroed : sum_of zeroed ≤ 65535
  sum_zeroed = omega (arith, zeroed_pairs, folded_most (pairs zeroed))

  -- what is written sums to 0xFFFF
  pub field_sums : sum_of (with_field before (checksum_of zeroed) after) ≡ 0xFFFF
  field_sums = sum_field (checksum_of zeroed) (omega arith) ∙ plus_complement (sum_of zeroed) sum_zeroed

  -- a field of 0xFFFF where 0x0000 is due passes
  pub field_of_ones_sums : checksum_of zeroed ≡ 0 → sum_of (with_field before 0xFFFF after) ≡ 0xFFFF
  unfolding plus
  field_of_ones_sums e =
      let z : sum_of zeroed ≡ 65535 = omega (arith, sum_zeroed) in
      sum_field 0xFFFF (omega arith) ∙ ap (plus 0xFFFF) z
