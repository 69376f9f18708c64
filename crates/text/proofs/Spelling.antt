-- Laws of the digits that `text` puts: a number in decimal by its last digit, bytes in hexadecimal by the last byte.
-- Assumes nothing.
use Prim.Native.Nat.{ℕ, zero, suc, ◌+◌, ◌≤◌, ◌<◌, ◌/◌, ◌%◌}
use mathlib.Core.Path.{◌≡◌, sym, ap, ◌∙◌}
use mathlib.Core.List.{List, [], ◌∷◌, ◌++◌}
use mathlib.Core.Logic.{dite}
use native.Mathlib.Decide.{dec_lt}
use native.Mathlib.Omega.{arith}
use lib.ListN.{length, take, get_or}
use borrow.Author.Tests.{lt-ltb, le-ltb}
use Rattle.std.specs.Int.{to_be_bytes}
use Rattle.std.proofs.Common.{w32}
use Rattle.std.proofs.lemmas.List.{flat_map_more, take_more}
use Rattle.text.specs.Digits.{digits, decimal_of, dotted_of, address_of, hex_byte, hex_of}

-- any bound that is large enough gives the same digits
digits_enough : (most more n : ℕ) → n < most → n < more → digits most n ≡ digits more n
unfolding digits
digits_enough zero more n h k = elim h [ ]
digits_enough (suc most) zero n h k = elim k [ ]
digits_enough (suc most) (suc more) n h k =
    dite
    (dec_lt n 10)
    (λ small. rw (lt-ltb n 10 small))
    (λ large.
    let tens : 10 ≤ n = omega arith in
    let rest = digits_enough most more (n / 10) (omega arith) (omega arith) in
    rw (le-ltb n 10 tens) (ap (λ (l : List ℕ). l ++ ((48 + n % 10) ∷ [])) rest))

pub decimal_one : (n : ℕ) → n < 10 → decimal_of n ≡ (48 + n) ∷ []
unfolding decimal_of digits
decimal_one n h = rw (lt-ltb n 10 h)

pub decimal_more : (n : ℕ) → 10 ≤ n → decimal_of n ≡ decimal_of (n / 10) ++ ((48 + n % 10) ∷ [])
unfolding decimal_of digits
decimal_more n h =
    let rest = digits_enough n (suc (n / 10)) (n / 10) (omega arith) (omega arith) in
    rw (le-ltb n 10 h) (ap (λ (l : List ℕ). l ++ ((48 + n % 10) ∷ [])) rest)

-- one byte more
pub hex_more : (bytes : List ℕ) (k : ℕ) → k < length bytes
    → hex_of (take (k + 1) bytes) ≡ hex_of (take k bytes) ++ hex_byte (get_or bytes k 0)
hex_more bytes k h = ap hex_of (take_more bytes k 0 h) ∙ sym (flat_map_more hex_byte [] (take k bytes) (get_or bytes k 0))

-- the four bytes of an address
pub address_bytes : (n a b c d : ℕ) (bytes : List ℕ) → n < 4294967296 → bytes ≡ to_be_bytes w32 n
    → a ≡ get_or bytes 0 0 → b ≡ get_or bytes 1 0 → c ≡ get_or bytes 2 0 → d ≡ get_or bytes 3 0
    → address_of n ≡ dotted_of a b c d
address_bytes n a b c d bytes small e p q r s =
    let first : a ≡ n / 16777216 = omega (arith, rw e at p) in
    let second : b ≡ n / 65536 % 256 = rw e at q in
    let third : c ≡ n / 256 % 256 = rw e at r in
    let fourth : d ≡ n % 256 = rw e at s in
    rw (first, second, third, fourth)
