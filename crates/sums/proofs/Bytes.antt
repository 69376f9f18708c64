-- Lists of bytes, put together.
-- Assumes nothing.
use mathlib.Core.List.{List, [], ◌∷◌, ◌++◌}
use Prim.Native.Nat.{ℕ, zero, suc, ◌<◌}
use native.Mathlib.Omega.{arith}
use Rattle.sums.specs.Sum.{Bytes}

-- the same one by one, for a list that is written out
abbrev pub EachByte : List ℕ → Type 0
EachByte [] = Unit
EachByte (a ∷ s) = (a < 256) × EachByte s

pub bytes_cons : (a : ℕ) (s : List ℕ) → a < 256 → Bytes s → Bytes (a ∷ s)
bytes_cons a s h k zero = h
bytes_cons a s h k (suc i) = k i

pub bytes_each : (s : List ℕ) → EachByte s → Bytes s
bytes_each [] h = λ i. omega arith
bytes_each (a ∷ s) h = bytes_cons a s h.0 (bytes_each s h.1)

pub bytes_append : (s t : List ℕ) → Bytes s → Bytes t → Bytes (s ++ t)
bytes_append [] t h k = k
bytes_append (a ∷ s) t h k = bytes_cons a (s ++ t) (h 0) (bytes_append s t (λ i. h (suc i)) k)
