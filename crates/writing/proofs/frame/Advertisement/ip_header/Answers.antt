-- `writing::frame::Advertisement::ip_header` meets its contract: each byte is the header's.
-- Assumes nothing.
use mathlib.Core.Path.{◌≡◌, refl}
use mathlib.Core.List.{List, [], ◌∷◌}
use Prim.Native.Nat.{ℕ}
use native.Mathlib.Omega.{arith}
use Rattle.writing.specs.Frame.{header_of}
use Rattle.writing.proofs.frame.Advertisement.ip_header.Goals as goal

-- lists that are written out, byte by byte
abbrev SameBytes : List ℕ → List ℕ → Type 0
SameBytes [] [] = Unit
SameBytes [] (b ∷ t) = ⊥
SameBytes (a ∷ s) [] = ⊥
SameBytes (a ∷ s) (b ∷ t) = (a ≡ b) × SameBytes s t

same_bytes : (s t : List ℕ) → SameBytes s t → s ≡ t
same_bytes [] [] h = refl
same_bytes [] (b ∷ t) h = absurd h
same_bytes (a ∷ s) [] h = absurd h
same_bytes (a ∷ s) (b ∷ t) h = rw (h.0, same_bytes s t h.1)

pub returns-clause-bytes : goal.returns-clause-bytes
unfolding header_of
returns-clause-bytes c =
    rw (c.to_be_bytes.ensures, c.to_be_bytes-2.ensures, c.to_be_bytes-3.ensures, c.header_checksum.ensures)
    (same_bytes _ _ (omega arith))
