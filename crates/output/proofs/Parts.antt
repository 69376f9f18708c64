-- Bytes written over a part of a room, lent from a place on to the room's end. Both functions that write go by it.
-- Assumes nothing.
use mathlib.Core.Path.{◌≡◌, ap, ◌∙◌}
use mathlib.Core.List.{List, ◌++◌, append_assoc, append-nil}
use Prim.Native.Nat.{ℕ, ◌-◌, ◌≤◌}
use native.Mathlib.Omega.{arith}
use lib.ListN.{length, take, drop, length-append, length-drop, drop_of_length-le}
use lib.Seq.{take_all, take-append_seam, drop-append_seam, drop-drop}
use borrow.Rule.Slice.PartMut.{mid_of, post_of, put_mid}
use Rattle.writing.specs.Writing.{over}

-- such a part is all that follows the place
module _ (room : List ℕ) (at : ℕ) where
  all_follows : length (drop at room) ≤ length room - at
  all_follows = omega (arith, length-drop at room)

  part_follows : mid_of at (length room - at) room ≡ drop at room
  part_follows = take_all (length room - at) (drop at room) all_follows

  none_behind : (part : List ℕ) → part ++ post_of at (length room - at) room ≡ part
  none_behind part = ap (λ (x : List ℕ). part ++ x) (drop_of_length-le (drop at room) all_follows) ∙ append-nil part

-- where w has been written, and s is written over the part right behind it, both stand
pub part_behind : (w s room before part : List ℕ) (at : ℕ) → before ≡ over w room → at ≡ length w
    → part ≡ over s (mid_of at (length before - at) before)
    → put_mid at (length before - at) before part ≡ over (w ++ s) room
part_behind w s room before part at b l p =
    let rest = drop (length w) room in
    let front : take at before ≡ w = rw (b, l) (take-append_seam w rest) in
    let back : drop at before ≡ rest = rw (b, l) (drop-append_seam w rest) in
    rw (none_behind before at part, p, part_follows before at, front, back)
    (simp (drop-drop, length-append, append_assoc))
