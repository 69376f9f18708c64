-- The plain sum that the code makes first, and its folding.
-- Nothing of 01 is here: that the two give the one's complement sum is a law.
use Rattle.std.specs.Prelude.{ℕ, zero, suc, ◌+◌, ◌%◌, List, [], ◌∷◌}
use Rattle.sums.specs.Number.{number_of}

-- the bytes four by four as 32-bit numbers, zeros after the last, summed with all their carries
unfoldable pub total : List ℕ → ℕ
total [] = 0
total (a ∷ []) = number_of a 0 0 0
total (a ∷ (b ∷ [])) = number_of a b 0 0
total (a ∷ (b ∷ (c ∷ []))) = number_of a b c 0
total (a ∷ (b ∷ (c ∷ (d ∷ rest)))) = number_of a b c d + total rest

-- the carries back in at the bottom, all at once:
-- the remainder by 65535, but 65535 itself where that is 0 and the sum is not
unfoldable pub folded : ℕ → ℕ
folded zero = 0
folded (suc x) = x % 65535 + 1
