-- A virtual router that was looked for, and what a call then comes to.
-- Assumes nothing.
use mathlib.Core.Path.{◌≡◌, refl, subst}
use mathlib.Core.List.{List}
use mathlib.Core.Bool.{Bool, true, false, cond}
use Prim.Native.Nat.{ℕ, ◌<◌}
use native.Mathlib.Omega.{arith}
use lib.Dec.{eqb}
use lib.ListN.{get_or}
use borrow.Author.Tests.{eqb-false}
use Rattle.std.specs.Prelude.{Some, None}
use Rattle.places.specs.Place.{base_of, place_of}
use Rattle.places.proofs.Finding.{found}
use Rattle.events.specs.Result.{Answered, Result, Leaves, router_place}
use Rattle.events.specs.Events.{clocked_at, clocked_of}

sought_test : (t : Bool) (words : List ℕ) (v p : ℕ) → cond t None (place_of words v) ≡ Some p → place_of words v ≡ Some p
sought_test true words v p e = absurd cc
sought_test false words v p e = e

-- a virtual router's place is one of the 255
pub sought_below : (words : List ℕ) (v p : ℕ) → router_place words v ≡ Some p → p < 255
unfolding router_place
sought_below words v p e = (found words v p (sought_test (eqb v 0) words v p e)).below

-- its first word is its number, which is not 0
sought_zero_test : (t : Bool) (words : List ℕ) (v p : ℕ) → eqb v 0 ≡ t → cond t None (place_of words v) ≡ Some p → v ≡ 0 → ⊥
sought_zero_test true words v p s e z = cc
sought_zero_test false words v p s e z = eqb-false v 0 s z

pub sought_word : (words : List ℕ) (v p : ℕ) → router_place words v ≡ Some p → (p < 255) × (get_or words (base_of p) 0 ≡ v) × (v ≡ 0 → ⊥)
unfolding router_place
sought_word words v p e =
    let l = found words v p (sought_test (eqb v 0) words v p e) in
    (omega (arith, l.below), l.word, sought_zero_test (eqb v 0) words v p refl e)

-- a promise of one result is one of an equal result
pub leaves_equal : (a b : Result) (answer : Answered) (words room : List ℕ) → a ≡ b → Leaves a answer words room → Leaves b answer words room
leaves_equal a b answer words room e h = subst (λ (x : Result). Leaves x answer words room) e h

pub clocked : (words lists : List ℕ) (v p d : ℕ) (room : List ℕ) → router_place words v ≡ Some p
    → clocked_at (Some p) words lists d room ≡ clocked_of words lists v d room
unfolding clocked_of
clocked words lists v p d room s = rw s
