-- Two address lists, address by address.
-- Assumes nothing.
use mathlib.Core.Path.{◌≡◌, refl, ap}
use mathlib.Core.List.{List, [], ◌∷◌}
use mathlib.Core.Bool.{Bool, true, false, ◌&&◌}
use Prim.Native.Nat.{ℕ}
use lib.Dec.{eqb}
use Rattle.std.specs.Cmp.Lexicographic.{pointwise}
use Rattle.events.specs.Lists.{lists_match}

-- `==` of slices is what the rules ask of two lists
pub compared : (a b : List ℕ) → pointwise eqb a b ≡ lists_match a b
unfolding lists_match
compared [] [] = refl
compared [] (y ∷ b) = refl
compared (x ∷ a) [] = refl
compared (x ∷ a) (y ∷ b) = ap (λ (t : Bool). eqb x y && t) (compared a b)
