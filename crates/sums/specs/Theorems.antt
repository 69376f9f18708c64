-- The checksum facts, once over the length: the field stands at any even place, with any bytes before and behind it.
-- Each is proved under the same name in proofs/Theorems.antt.
use Rattle.std.specs.Prelude.{ℕ, ◌*◌, ◌≡◌, List, length}
use Rattle.sums.specs.Sum.{sum_of, checksum_of, with_field, Bytes}

-- what is written sums to 0xFFFF
abbrev pub ChecksumSums : Type 0
ChecksumSums =
    (j : ℕ) (before after : List ℕ) → length before ≡ 2 * j → Bytes before → Bytes after
    → sum_of (with_field before (checksum_of (with_field before 0 after)) after) ≡ 0xFFFF

-- "A checksum field of 0xFFFF where 0x0000 is due passes"
abbrev pub DueZeroPasses : Type 0
DueZeroPasses =
    (j : ℕ) (before after : List ℕ) → length before ≡ 2 * j → Bytes before → Bytes after
    → checksum_of (with_field before 0 after) ≡ 0x0000 → sum_of (with_field before 0xFFFF after) ≡ 0xFFFF

-- "we write 0x0000": where a field of 0x0000 passes, it is the checksum that is written
abbrev pub ZeroIsWritten : Type 0
ZeroIsWritten =
    (before after : List ℕ) → sum_of (with_field before 0 after) ≡ 0xFFFF → checksum_of (with_field before 0 after) ≡ 0x0000
