-- The ARP frames of an address list: how long they are, and what one turn of the loop that writes them adds.
-- Assumes nothing.
use mathlib.Core.Path.{◌≡◌, refl, sym, ap, subst, ◌∙◌}
use mathlib.Core.List.{List, [], ◌∷◌, ◌++◌, append_assoc, append-nil}
use Prim.Native.Nat.{ℕ, ◌+◌, ◌-◌, ◌*◌, ◌/◌, ◌%◌, ◌≤◌}
use native.Mathlib.Omega.{arith}
use lib.ListN.{length, get_or, take, drop, length-append, length-drop}
use lib.Seq.{drop-drop, take-add, length-take-le, take-append_seam, drop-append_seam}
use borrow.Rule.Slice.PartMut.{mid_of, put_mid}
use Rattle.sums.specs.Number.{number_of}
use Rattle.writing.specs.Arp.{arp_of}
use Rattle.writing.specs.Writing.{over}
use Rattle.output.specs.Output.{arps_of}
use Rattle.output.proofs.Parts.{part_behind}

-- "42 bytes, no padding"
arp_length : (vrid address : ℕ) → length (arp_of vrid address) ≡ 42
unfolding arp_of
arp_length vrid address = refl

pub arps_length : (vrid : ℕ) (list : List ℕ) → length (arps_of vrid list) ≡ 42 * (length list / 4)
unfolding arps_of
arps_length vrid [] = omega arith
arps_length vrid (a ∷ []) = omega arith
arps_length vrid (a ∷ (b ∷ [])) = omega arith
arps_length vrid (a ∷ (b ∷ (c ∷ []))) = omega arith
arps_length vrid (a ∷ (b ∷ (c ∷ (d ∷ rest)))) =
    let n = number_of a b c d in
    omega (arith, length-append (arp_of vrid n) (arps_of vrid rest), arp_length vrid n, arps_length vrid rest)

-- the frames of two lists, of which the first ends with an address
arps_append : (vrid : ℕ) (s t : List ℕ) → length s % 4 ≡ 0 → arps_of vrid (s ++ t) ≡ arps_of vrid s ++ arps_of vrid t
unfolding arps_of
arps_append vrid [] t h = refl
arps_append vrid (a ∷ []) t h = absurd (omega arith)
arps_append vrid (a ∷ (b ∷ [])) t h = absurd (omega arith)
arps_append vrid (a ∷ (b ∷ (c ∷ []))) t h = absurd (omega arith)
arps_append vrid (a ∷ (b ∷ (c ∷ (d ∷ s)))) t h =
    let first = arp_of vrid (number_of a b c d) in
    ap (λ (x : List ℕ). first ++ x) (arps_append vrid s t (omega arith))
    ∙ sym (append_assoc first (arps_of vrid s) (arps_of vrid t))

-- the frame of one address
arps_one : (vrid : ℕ) (chunk : List ℕ) → length chunk ≡ 4
    → arps_of vrid chunk ≡ arp_of vrid (number_of (get_or chunk 0 0) (get_or chunk 1 0) (get_or chunk 2 0) (get_or chunk 3 0))
unfolding arps_of
arps_one vrid [] h = absurd (omega arith)
arps_one vrid (a ∷ []) h = absurd (omega arith)
arps_one vrid (a ∷ (b ∷ [])) h = absurd (omega arith)
arps_one vrid (a ∷ (b ∷ (c ∷ []))) h = absurd (omega arith)
arps_one vrid (a ∷ (b ∷ (c ∷ (d ∷ [])))) h = append-nil (arp_of vrid (number_of a b c d))
arps_one vrid (a ∷ (b ∷ (c ∷ (d ∷ (e ∷ s))))) h = absurd (omega arith)

-- an address is read off what is left of a list after k others
module _ (list chunk tail : List ℕ) (k : ℕ) (whole : length chunk ≡ 4) (left : drop (4 * k) list ≡ chunk ++ tail) where
  pub within : 4 * k ≤ length list → 4 * (k + 1) ≤ length list
  within h = omega (arith, length-drop (4 * k) list, ap length left, length-append chunk tail)

  pub left_after : tail ≡ drop (4 * (k + 1)) list
  left_after =
      let e : 4 * (k + 1) ≡ 4 * k + 4 = omega arith in
      let seam = subst (λ (n : ℕ). drop n (chunk ++ tail) ≡ tail) whole (drop-append_seam chunk tail) in
      sym (rw (e, ← drop-drop, left) seam)

  taken : take (4 * (k + 1)) list ≡ take (4 * k) list ++ chunk
  taken =
      let e : 4 * (k + 1) ≡ 4 * k + 4 = omega arith in
      let seam = subst (λ (n : ℕ). take n (chunk ++ tail) ≡ chunk) whole (take-append_seam chunk tail) in
      rw (e, take-add (4 * k) 4 list, left, seam) refl

  -- where the frames of k addresses stand, and the next one is written over the part right behind them, it stands too
  pub arps_turn : (vrid address : ℕ) (room before part : List ℕ) → 4 * k ≤ length list
      → before ≡ over (arps_of vrid (take (4 * k) list)) room
      → address ≡ number_of (get_or chunk 0 0) (get_or chunk 1 0) (get_or chunk 2 0) (get_or chunk 3 0)
      → part ≡ over (arp_of vrid address) (mid_of (42 * k) (length before - 42 * k) before)
      → put_mid (42 * k) (length before - 42 * k) before part ≡ over (arps_of vrid (take (4 * (k + 1)) list)) room
  arps_turn vrid address room before part h b n p =
      let written = take (4 * k) list in
      let many : length written ≡ 4 * k = length-take-le (4 * k) list h in
      let long : 42 * k ≡ length (arps_of vrid written) = omega (arith, arps_length vrid written, many) in
      part_behind (arps_of vrid written) (arp_of vrid address) room before part (42 * k) b long p
      ∙ rw (taken, arps_append vrid written chunk (omega arith), arps_one vrid chunk whole, n)
