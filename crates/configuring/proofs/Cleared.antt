-- A list of zeros with another first number.
-- Assumes nothing.
use mathlib.Core.Path.{◌≡◌, ap, ◌∙◌}
use mathlib.Core.List.{List, ◌∷◌}
use Prim.Native.Nat.{ℕ, suc}
use lib.ListN.{set, replicate}

pub cleared : (n v k : ℕ) (words : List ℕ) → k ≡ suc n → words ≡ replicate k 0 → set words 0 v ≡ v ∷ replicate n 0
cleared n v k words e w = ap (λ (x : List ℕ). set x 0 v) (w ∙ ap (λ (i : ℕ). replicate i 0) e)
