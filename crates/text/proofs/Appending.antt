-- Laws of `puts` and `Appended` over any bytes, which each proof of `text` cites. Nothing of digits is here.
-- Assumes nothing.
use Prim.Native.Nat.{ℕ, suc, ◌+◌, ◌≤◌, min}
use mathlib.Core.Path.{◌≡◌, refl, sym, ap, ◌∙◌}
use mathlib.Core.List.{List, [], ◌∷◌, ◌++◌}
use mathlib.Core.Logic.{dite}
use native.Mathlib.Nat.{add-zero, le_refl, min-eq_left, min-eq_right}
use native.Mathlib.Decide.{dec_le}
use native.Mathlib.Omega.{arith}
use lib.ListN.{length, set, length-append, length-set}
use lib.Seq.{set_out}
use Rattle.text.specs.Appended.{puts, Appended}

-- past the end nothing is put
puts_out : (out : List ℕ) (at : ℕ) (bytes : List ℕ) → length out ≤ at → puts out at bytes ≡ out
unfolding puts
puts_out out at [] h = refl
puts_out out at (b ∷ bytes) h = rw (set_out out at b h) (puts_out out (at + 1) bytes (omega arith))

-- putting keeps the buffer's length
pub length_puts : (out : List ℕ) (at : ℕ) (bytes : List ℕ) → length (puts out at bytes) ≡ length out
unfolding puts
length_puts out at [] = refl
length_puts out at (b ∷ bytes) = length_puts (set out at b) (at + 1) bytes ∙ length-set out at b

puts_append : (out : List ℕ) (at : ℕ) (x y : List ℕ) → puts out at (x ++ y) ≡ puts (puts out at x) (at + length x) y
unfolding puts
puts_append out at [] y = rw add-zero
puts_append out at (b ∷ x) y =
    let further : at + suc (length x) ≡ at + 1 + length x = omega arith in
    rw further (puts_append (set out at b) (at + 1) x y)

-- a place past the end is as good as the end
puts_min : (out : List ℕ) (at : ℕ) (bytes : List ℕ) → puts out (min at (length out)) bytes ≡ puts out at bytes
puts_min out at bytes =
    dite
    (dec_le at (length out))
    (λ h. ap (λ (k : ℕ). puts out k bytes) (min-eq_left h))
    (λ h.
    let past : length out ≤ at = omega arith in
    rw (min-eq_right past, puts_out out (length out) bytes (le_refl (length out)), puts_out out at bytes past))

-- an appending from its bytes and its place alone
pub appended : {before bytes after : List ℕ} {at next : ℕ}
    → after ≡ puts before at bytes → next ≡ min (at + length bytes) (length before)
    → Appended before at bytes after next
appended {before} {bytes} {after} {at} {next} holds place =
    let long : length after ≡ length before = ap length holds ∙ length_puts before at bytes in
    record { holds = holds; place = place; within = omega arith }

pub appended_none : (out : List ℕ) (at : ℕ) → Appended out at [] out (min at (length out))
unfolding puts
appended_none out at = appended refl (rw add-zero)

pub appended_past : (out : List ℕ) (at : ℕ) (bytes : List ℕ) → length out ≤ at → Appended out at bytes out (length out)
appended_past out at bytes h = appended (sym (puts_out out at bytes h)) (omega arith)

-- one after the other
pub then : {before x middle y after : List ℕ} {at next last : ℕ}
    → Appended before at x middle next → Appended middle next y after last → Appended before at (x ++ y) after last
then {before} {x} {middle} {y} {after} {at} {next} {last} first second =
    let long : length middle ≡ length before = ap length first.holds ∙ length_puts before at x in
    let place : next ≡ min (at + length x) (length middle) = omega arith in
    appended
    (second.holds
    ∙ ap (λ (k : ℕ). puts middle k y) place
    ∙ puts_min middle (at + length x) y
    ∙ ap (λ (m : List ℕ). puts m (at + length x) y) first.holds
    ∙ sym (puts_append before at x y))
    (rw length-append (omega arith))

-- the same, of bytes that are known to be the two
pub then_as : {before x middle y after whole : List ℕ} {at next last : ℕ} → whole ≡ x ++ y
    → Appended before at x middle next → Appended middle next y after last → Appended before at whole after last
then_as e first second = rw e (then first second)
