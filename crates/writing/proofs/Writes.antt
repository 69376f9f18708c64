-- What is known of a call that writes a frame and is not refused.
-- Assumes nothing.
use mathlib.Core.Path.{◌≡◌}
use mathlib.Core.List.{List}
use mathlib.Core.Bool.{false}
use Prim.Native.Nat.{ℕ, ◌+◌, ◌%◌, ◌≤◌, ◌<◌}
use native.Mathlib.Omega.{arith}
use lib.ListN.{length}
use Rattle.writing.specs.Writing.{address_bytes_wrong, advertisement_refusal, arp_refusal}

-- address bytes that are not wrong
pub bytes_right : (addresses : List ℕ) → address_bytes_wrong addresses ≡ false
    → (length addresses % 4 ≡ 0) × (0 < length addresses) × (length addresses ≤ 64)
unfolding address_bytes_wrong
bytes_right addresses e = grind arith

-- what an advertisement that is not refused has
pub record Writable (addresses : List ℕ) (room : ℕ) : Type 0 where
  pub fours : length addresses % 4 ≡ 0
  pub most : length addresses ≤ 64
  pub holds : 50 + length addresses ≤ room

-- good address bytes need no more room than the frame's
pub frame_fits : (addresses : List ℕ) → address_bytes_wrong addresses ≡ false → Writable addresses (50 + length addresses)
frame_fits addresses e = omega (arith, bytes_right addresses e)

pub advertisement_passed : (vrid interval : ℕ) (addresses : List ℕ) (room : ℕ)
    → advertisement_refusal vrid interval addresses room ≡ 0 → Writable addresses room
unfolding advertisement_refusal address_bytes_wrong
advertisement_passed vrid interval addresses room e = grind arith

pub arp_passed : (vrid room : ℕ) → arp_refusal vrid room ≡ 0 → 42 ≤ room
unfolding arp_refusal
arp_passed vrid room e = grind arith
