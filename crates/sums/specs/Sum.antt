-- The one's complement sum and the checksum (01, 'Bytes').
use Rattle.std.specs.Prelude.{ℕ, ◌+◌, ◌-◌, ◌*◌, ◌/◌, ◌%◌, ◌<◌, List, [], ◌∷◌, ◌++◌, cond, ltb, get_or}

-- a list of bytes
abbrev pub Bytes : List ℕ → Type 0
Bytes s = (i : ℕ) → get_or s i 0 < 256

-- one's complement addition of two 16-bit numbers: what is carried out at the top comes in again at the bottom
unfoldable pub plus : ℕ → ℕ → ℕ
plus a b = cond (ltb (a + b) 65536) (a + b) (a + b - 65535)

-- "the one's complement sum": the bytes two by two as 16-bit numbers, first byte greatest;
-- an odd last byte has a zero after it
unfoldable pub sum_of : List ℕ → ℕ
sum_of [] = 0
sum_of (a ∷ []) = 256 * a
sum_of (a ∷ (b ∷ rest)) = plus (256 * a + b) (sum_of rest)

-- "Checksum: the 16-bit one's complement of the one's complement sum", of bytes in which the field stands as zero
abbrev pub checksum_of : List ℕ → ℕ
checksum_of bytes = 0xFFFF - sum_of bytes

-- "checksum in two bytes": bytes with a 16-bit field among them
abbrev pub with_field : List ℕ → ℕ → List ℕ → List ℕ
with_field before field after = before ++ (field / 256 ∷ (field % 256 ∷ after))
