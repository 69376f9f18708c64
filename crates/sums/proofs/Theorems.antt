-- The theorems that specs/Theorems.antt states.
-- Assumes nothing.
use native.Mathlib.Omega.{arith}
use Rattle.sums.specs.Theorems.{ChecksumSums, DueZeroPasses, ZeroIsWritten}
use Rattle.sums.proofs.Checksum.{field_sums, field_of_ones_sums}

pub checksum_sums : ChecksumSums
checksum_sums j before after even h k = field_sums j before after even h k

pub due_zero_passes : DueZeroPasses
due_zero_passes j before after even h k e = field_of_ones_sums j before after even h k e

pub zero_is_written : ZeroIsWritten
zero_is_written before after e = omega arith
