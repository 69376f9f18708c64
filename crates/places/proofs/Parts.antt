-- A part of a list, after something was pasted into it: there, before it, and behind it.
-- Assumes nothing.
use Rattle.std.proofs.Common.{◌≡◌, ℕ, ◌+◌, ◌-◌, ◌<◌, ◌≤◌, ◌⊎◌, List, ◌++◌, length, take, drop, sym, ap, ◌∙◌, inl, inr, ⊎_elim, append_assoc, arith, length-drop, take-append-drop, length-take-le, take_all, drop-drop, take_at, drop_at}
use Rattle.std.proofs.lemmas.Bool.{cases_order}
use lib.Seq.{paste, drop-paste, take-append-le, drop-append-le}

-- what is pasted is read back
pub part_same : (d s : List ℕ) (b n : ℕ) → b + n ≤ length d → length s ≡ n → take n (drop b (paste d b s n)) ≡ s
part_same d s b n h l =
    ap (λ (x : List ℕ). take n (drop b x)) (append_assoc (take b d) (take n s) (drop (b + n) d))
    ∙ ap (take n) (drop_at (take b d) (take n s ++ drop (b + n) d) b (length-take-le b d (omega arith)))
    ∙ take_at (take n s) (drop (b + n) d) n (length-take-le n s (omega arith))
    ∙ take_all n s (omega arith)

part_front : (x y : List ℕ) (a n : ℕ) → a + n ≤ length x → take n (drop a (x ++ y)) ≡ take n (drop a x)
part_front x y a n h =
    ap (take n) (drop-append-le a x y (omega arith)) ∙ take-append-le n (drop a x) y (omega (arith, length-drop a x))

-- a part that ends before it
pub part_before : (d s : List ℕ) (b n a m : ℕ) → b + n ≤ length d → length s ≡ n → a + m ≤ b
    → take m (drop a (paste d b s n)) ≡ take m (drop a d)
part_before d s b n a m h l o =
    let k : length (take b d) ≡ b = length-take-le b d (omega arith) in
    ap (λ (x : List ℕ). take m (drop a x)) (append_assoc (take b d) (take n s) (drop (b + n) d))
    ∙ part_front (take b d) (take n s ++ drop (b + n) d) a m (omega arith)
    ∙ sym (part_front (take b d) (drop b d) a m (omega arith))
    ∙ ap (λ (x : List ℕ). take m (drop a x)) (take-append-drop b d)

-- a part that begins behind it
part_behind : (d s : List ℕ) (b n a m : ℕ) → b + n ≤ length d → length s ≡ n → b + n ≤ a
    → take m (drop a (paste d b s n)) ≡ take m (drop a d)
part_behind d s b n a m h l o =
    let e : b + n + (a - (b + n)) ≡ a = omega arith in
    ap (λ (k : ℕ). take m (drop k (paste d b s n))) (sym e)
    ∙ ap (take m) (sym (drop-drop (a - (b + n)) (b + n) (paste d b s n)))
    ∙ ap (λ (x : List ℕ). take m (drop (a - (b + n)) x)) (drop-paste d b s n (omega arith) (omega arith))
    ∙ ap (take m) (drop-drop (a - (b + n)) (b + n) d)
    ∙ ap (λ (k : ℕ). take m (drop k d)) e

-- a part beside it
pub part_other : (d s : List ℕ) (b n a m : ℕ) → b + n ≤ length d → length s ≡ n → (a + m ≤ b) ⊎ (b + n ≤ a)
    → take m (drop a (paste d b s n)) ≡ take m (drop a d)
part_other d s b n a m h l (inl before) = part_before d s b n a m h l before
part_other d s b n a m h l (inr behind) = part_behind d s b n a m h l behind

-- of two different places, one stands before the other
pub apart : (q p : ℕ) → (q ≡ p → ⊥) → (q < p) ⊎ (p < q)
apart q p n = ⊎_elim (λ e. absurd (n e)) (λ r. r) (cases_order q p)
