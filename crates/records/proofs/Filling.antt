-- A buffer that is filled from its start, a part at a time.
use Rattle.std.proofs.Common.{◌≡◌, ℕ, ◌+◌, ◌≤◌, List, ◌++◌, length, take, drop, sym, ap, ◌∙◌, le_refl, drop_at, length-take-le}
use Rattle.std.proofs.lemmas.Slice.{take-put_mid_below}
use borrow.Rule.Slice.PartMut.{put_mid, post_of}
use lib.Seq.{take-add, take-append-le}

-- what was there, and what one part more puts behind it
pub filled_more : (a k n : ℕ) (xs ys : List ℕ) → a ≤ length xs → n ≤ length ys
    → take a xs ++ take n ys ≡ take (a + n) (put_mid a k xs ys)
filled_more a k n xs ys within fits =
    let whole = put_mid a k xs ys in
    let after = post_of a k xs in
    let front : take a whole ≡ take a xs = take-put_mid_below _ _ _ _ _ (le_refl _) within in
    let behind : take n (drop a whole) ≡ take n ys =
    ap (take n) (drop_at (take a xs) (ys ++ after) a (length-take-le a xs within)) ∙ take-append-le n ys after fits in
    sym (take-add a n whole ∙ ap (λ l. take a whole ++ l) behind ∙ ap (λ l. l ++ take n ys) front)
