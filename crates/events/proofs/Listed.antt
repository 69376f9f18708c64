-- The part of the lists that a place has.
-- Assumes nothing.
use mathlib.Core.Path.{◌≡◌}
use mathlib.Core.List.{List}
use Prim.Native.Nat.{ℕ, ◌*◌, ◌≤◌, ◌<◌}
use native.Mathlib.Omega.{arith}
use lib.ListN.{length, drop, length-drop}
use lib.Seq.{length-take-le}
use Rattle.events.specs.Lists.{list_at}

pub list_length : (lists : List ℕ) (place n : ℕ) → place < 255 → n ≤ 16 → length lists ≡ 16320 → length (list_at lists place n) ≡ 4 * n
unfolding list_at
list_length lists place n p m l =
    length-take-le (4 * n) (drop (64 * place) lists) (omega (arith, length-drop (64 * place) lists))
