-- Bytes put into a lent buffer, as many as fit: what each contract of `text` cites. Assumes nothing.
use Rattle.std.specs.Prelude.{ℕ, ◌+◌, ◌≤◌, min, ◌≡◌, List, [], ◌∷◌, length, set}

-- the buffer after the bytes were put one by one from `at` on: one past the end is left out, as `set` leaves it
unfoldable pub puts : List ℕ → ℕ → List ℕ → List ℕ
puts out at [] = out
puts out at (b ∷ bytes) = puts (set out at b) (at + 1) bytes

-- `bytes` were put into the buffer from `at` on, as many as fit, and `next` is the place after them.
-- The last part follows from the others: it is what lending the buffer up to `next` asks.
pub record Appended (before : List ℕ) (at : ℕ) (bytes : List ℕ) (after : List ℕ) (next : ℕ) : Type 0 where
  pub holds : after ≡ puts before at bytes
  pub place : next ≡ min (at + length bytes) (length before)
  pub within : next ≤ length after
