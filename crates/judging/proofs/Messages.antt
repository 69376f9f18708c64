-- The tests of a message from facts on its numbers, as rules for `omega`, and what a message that passes has.
-- Assumes nothing.
use mathlib.Core.Path.{◌≡◌}
use mathlib.Core.List.{List}
use mathlib.Core.Bool.{false}
use Prim.Native.Nat.{ℕ, ◌/◌, ◌≤◌}
use native.Mathlib.Omega.{arith}
use lib.ListN.{length, take}
use Rattle.sums.specs.Sum.{sum_of}
use Rattle.wire.specs.Reading.{byte_at}
use Rattle.wire.specs.Check.{first_refusal}
use Rattle.judging.specs.Message.{message_length, version_wrong, too_short, message_sum_wrong, message_checks}
use Rattle.wire.proofs.Tested.{tests}
use Rattle.wire.proofs.Checks.{passed}

module _ (payload : List ℕ) where
  pub version_right : byte_at payload 0 / 16 ≡ 2 → version_wrong payload ≡ false
  unfolding version_wrong
  version_right e = grind arith

  pub long_enough : message_length payload ≤ length payload → too_short payload ≡ false
  unfolding too_short
  long_enough h = grind arith

  pub enough_long : too_short payload ≡ false → message_length payload ≤ length payload
  unfolding too_short
  enough_long e = grind arith

  pub sum_right : sum_of (take (message_length payload) payload) ≡ 0xFFFF → message_sum_wrong payload ≡ false
  unfolding message_sum_wrong
  sum_right e = grind arith

pub ruleset message_tests = (version_right, long_enough, enough_long, sum_right, tests)

pub message_passed : (payload : List ℕ) → first_refusal (message_checks payload) ≡ 0
    → message_length payload ≤ length payload
message_passed payload e = let p = passed (message_checks payload) (omega arith) e in omega message_tests

pub message_holds : (payload : List ℕ) → first_refusal (message_checks payload) ≡ 0 → 8 ≤ length payload
message_holds payload e = omega (arith, message_passed payload e)
