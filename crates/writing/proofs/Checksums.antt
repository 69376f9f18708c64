-- What the code sums for a checksum is the plain total of the header or the message with the field taken as zero.
-- Assumes nothing.
use mathlib.Core.Path.{◌≡◌}
use mathlib.Core.List.{List, [], ◌∷◌}
use Prim.Native.Nat.{ℕ, ◌+◌, ◌-◌, ◌/◌, ◌%◌, ◌≤◌, ◌<◌}
use native.Mathlib.Omega.{arith}
use lib.ListN.{length, replicate}
use Rattle.sums.specs.Sum.{Bytes, with_field}
use Rattle.sums.specs.Number.{number_of}
use Rattle.sums.specs.Total.{total, folded}
use Rattle.sums.proofs.Bytes.{bytes_each, bytes_append}
use Rattle.sums.proofs.Laws.{sum_folded, total_append}
use Rattle.writing.specs.Frame.{message_start, message_end, message_checksum, header_start, header_end, header_checksum}

-- four bytes of a number are the number
pub number_of_bytes : (x : ℕ) → number_of (x / 16777216) (x / 65536 % 256) (x / 256 % 256) (x % 256) ≡ x
number_of_bytes x = omega arith

pub end_bytes : (addresses : List ℕ) → Bytes addresses → Bytes (message_end addresses)
end_bytes addresses h = bytes_append addresses (replicate 8 0) h (bytes_each (replicate 8 0) (omega arith))

module _ (vrid priority interval : ℕ) (addresses : List ℕ) where
  message_total : length addresses % 4 ≡ 0
      → total (with_field (message_start vrid priority interval addresses) 0 (message_end addresses))
      ≡ number_of 0x21 vrid priority (length addresses / 4) + (number_of 0 interval 0 0 + total addresses)
  unfolding total
  message_total h = omega (arith, total_append (length addresses / 4) addresses (replicate 8 0) (omega arith))

  pub message_sum : (plain : ℕ)
      → length addresses % 4 ≡ 0 → length addresses ≤ 1020 → vrid < 256 → priority < 256 → interval < 256 → Bytes addresses
      → plain ≡ number_of 0x21 vrid priority (length addresses / 4) + number_of 0 interval 0 0 + total addresses
      → 65535 - folded plain ≡ message_checksum vrid priority interval addresses
  unfolding message_checksum
  message_sum plain h l v p i s e =
      let list = with_field (message_start vrid priority interval addresses) 0 (message_end addresses) in
      let t : plain ≡ total list = omega (arith, message_total h) in
      let start : List ℕ = 0x21 ∷ (vrid ∷ (priority ∷ (length addresses / 4 ∷ (0 ∷ (interval ∷ (0 ∷ (0 ∷ []))))))) in
      let bytes = bytes_append start (message_end addresses) (bytes_each start (omega arith)) (end_bytes addresses s) in
      rw (t, sum_folded list bytes)

module _ (primary : ℕ) (addresses : List ℕ) (p : primary < 4294967296) (l : length addresses ≤ 65499) where
  header_total : total (with_field (header_start addresses) 0 (header_end primary))
      ≡ 0x45000000 + 0x00004000 + 0xFF700000 + 0xE0000012 + 36 + length addresses + primary
  unfolding total
  header_total = omega (arith, number_of_bytes primary)

  pub header_sum : (plain : ℕ)
      → plain ≡ 0x45000000 + 0x00004000 + 0xFF700000 + 0xE0000012 + 36 + length addresses + primary
      → 65535 - folded plain ≡ header_checksum primary addresses
  unfolding header_checksum
  header_sum plain e =
      let list = with_field (header_start addresses) 0 (header_end primary) in
      rw (e, ← header_total, sum_folded list (bytes_each list (omega arith)))
